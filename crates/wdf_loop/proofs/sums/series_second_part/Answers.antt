use Rattle.std.proofs.Common.{◌≡◌, ℕ, refl, [], ◌∷◌, ◌+◌, ◌*◌, ◌≤◌, ◌^◌, ap, ◌∙◌, arith, w64}
use Rattle.std.specs.Prelude.{ℤ, pos, ◌+ℤ◌, ◌-ℤ◌, ◌*ℤ◌, unsigned_abs}
use Rattle.std.proofs.lemmas.Int.{to_z-of_z}
use Rattle.std.proofs.lemmas.Nat.{pow_pos}
use Rattle.std.proofs.Math.Nat.{mul-le-mul, mul-le-mul_left}
use mir.Val.{SFits}
use Rattle.wdf_algebra.proofs.Polynomials.{con, ring, var, ◌⊕◌, ◌⊖◌, ◌⊗◌}
use Rattle.wdf_algebra.proofs.RoundingLemmas.{series-same}
use Rattle.wdf_algebra.specs.Truncation.{trunc}
use Rattle.wdf_loop.proofs.Sizes.{whole-word}
use Rattle.wdf_loop.proofs.sums.series_second_part.Goals as goal

-- the size of the wave that all parts share, in whole units
at-most : (q a b : ℕ) → q * a ≤ b → 1 ≤ q → a ≤ b
at-most q a b h some = let least : 1 * a ≤ q * a = mul-le-mul {n₁ = 1} {m₁ = a} {n₂ = q} {m₂ = a} some (omega arith) in omega arith

-- and of its sum with the part's own wave
both-words : (q a b x : ℕ) → x ≤ a + b → q * a ≤ 3 * 2 ^ 60 → q * b ≤ 2 ^ 60 → q * x ≤ 2 ^ 62
both-words q a b x h ha hb = let least : q * x ≤ q * (a + b) = mul-le-mul_left q h in omega arith

less-share : (q m n : ℕ) (w u : ℤ) → m + n ≡ q → pos q *ℤ (w +ℤ u) -ℤ pos m *ℤ w ≡ pos q *ℤ u +ℤ pos n *ℤ w
less-share q m n w u e =
    ring (pos q ∷ pos m ∷ w ∷ u ∷ []) (var 0 ⊗ (var 2 ⊕ var 3) ⊖ var 1 ⊗ var 2) (var 0 ⊗ (var 3 ⊕ var 2) ⊕ (con (pos 0) ⊖ var 1 ⊗ var 2)) refl
    ∙ series-same q m n w u e

pub plus-requires : goal.plus-requires
plus-requires g c =
    let f1 : SFits w64 c.args.whole = c.ranges.whole in
    let f2 : SFits w64 c.args.u = c.ranges.u in
    let whole = at-most (2 ^ g.row.K) (unsigned_abs c.args.whole) (3 * 2 ^ 60) c.requires.whole (pow_pos g.row.K) in
    let own = whole-word (2 ^ g.row.K) c.args.u (pow_pos g.row.K) c.requires.own in
    simp to_z-of_z (omega arith)

pub in_parts-requires-clause-small : goal.in_parts-requires-clause-small
in_parts-requires-clause-small g c =
    let f1 : SFits w64 c.args.whole = c.ranges.whole in
    let f2 : SFits w64 c.args.u = c.ranges.u in
    let f3 : SFits w64 c.plus.result = record { sfits = c.plus.type_inv } in
    let size : unsigned_abs c.plus.result ≤ unsigned_abs c.args.whole + unsigned_abs c.args.u = simp to_z-of_z at c.plus.ensures.size in
    simp to_z-of_z (both-words (2 ^ g.row.K) (unsigned_abs c.args.whole) (unsigned_abs c.args.u) (unsigned_abs c.plus.result) size c.requires.whole c.requires.own)

pub minus-requires : goal.minus-requires
minus-requires g c =
    let f1 : SFits w64 c.args.whole = c.ranges.whole in
    let f2 : SFits w64 c.args.u = c.ranges.u in
    let f3 : SFits w64 c.plus.result = record { sfits = c.plus.type_inv } in
    let f4 : SFits w64 c.in_parts.result = record { sfits = c.in_parts.type_inv } in
    let f5 : SFits w64 c.args.share = c.ranges.share in
    let share : unsigned_abs c.args.share ≤ 3 * 2 ^ 60 = c.requires.share in
    let size : unsigned_abs c.plus.result ≤ unsigned_abs c.args.whole + unsigned_abs c.args.u = simp to_z-of_z at c.plus.ensures.size in
    let small = both-words (2 ^ g.row.K) (unsigned_abs c.args.whole) (unsigned_abs c.args.u) (unsigned_abs c.plus.result) size c.requires.whole c.requires.own in
    let parts : unsigned_abs c.in_parts.result ≤ 2 ^ g.row.K * unsigned_abs c.plus.result = simp to_z-of_z at c.in_parts.ensures.size in
    simp to_z-of_z (omega arith)

pub returns : goal.returns
returns g c m n e product =
    let f1 : SFits w64 c.args.whole = c.ranges.whole in
    let f2 : SFits w64 c.args.u = c.ranges.u in
    let f3 : SFits w64 c.plus.result = record { sfits = c.plus.type_inv } in
    let f4 : SFits w64 c.in_parts.result = record { sfits = c.in_parts.type_inv } in
    let f5 : SFits w64 c.args.share = c.ranges.share in
    let f6 : SFits w64 c.minus.result = record { sfits = c.minus.type_inv } in
    let f7 : SFits w64 c.brought_back.result = record { sfits = c.brought_back.type_inv } in
    let sum : c.plus.result ≡ c.args.whole +ℤ c.args.u = simp to_z-of_z at c.plus.ensures.value in
    let parts : c.in_parts.result ≡ pos (2 ^ g.row.K) *ℤ c.plus.result = simp to_z-of_z at c.in_parts.ensures.value in
    let rest : c.minus.result ≡ c.in_parts.result -ℤ c.args.share = simp to_z-of_z at c.minus.ensures.value in
    let back : c.brought_back.result ≡ trunc c.minus.result (2 ^ g.row.K) = simp to_z-of_z at c.brought_back.ensures in
    let value : c.minus.result ≡ pos (2 ^ g.row.K) *ℤ (c.args.whole +ℤ c.args.u) -ℤ pos m *ℤ c.args.whole =
    rest
    ∙ (ap (λ (a : ℤ). a -ℤ c.args.share) (parts ∙ ap (λ (a : ℤ). pos (2 ^ g.row.K) *ℤ a) sum)
    ∙ ap (λ (a : ℤ). pos (2 ^ g.row.K) *ℤ (c.args.whole +ℤ c.args.u) -ℤ a) product) in
    simp to_z-of_z (back ∙ ap (λ (a : ℤ). trunc a (2 ^ g.row.K)) (value ∙ less-share (2 ^ g.row.K) m n c.args.whole c.args.u e))
