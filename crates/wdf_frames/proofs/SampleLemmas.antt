-- One sample more is read, or written.
use Rattle.std.proofs.Common.{◌≡◌, ℕ, zero, suc, ◌+◌, ◌-◌, ◌*◌, ◌/◌, ◌<◌, ◌≤◌, List, [], ◌∷◌, ◌++◌, length, map, take, drop, get_or, set, refl, sym, ap, ◌∙◌, arith, append-nil, take-add, length-append, Bool}
use Rattle.std.specs.Prelude.{ℤ, filter}
use Rattle.std.proofs.lemmas.List.Elements.{filter-append}
use Rattle.std.proofs.lemmas.List.{take_more, take_more_set, take_all, map-append, drop-drop}
use Rattle.std.proofs.lemmas.Grind.{flat_map-append}
use Rattle.std.proofs.lemmas.Slice.{take-put_mid}
use Rattle.std.proofs.Math.Nat.{mul-le-mul_right}
use borrow.Rule.Slice.PartMut.{put_mid}
use Rattle.wdf_algebra.specs.Pieces.{pieces}
use Rattle.wdf_law.specs.OutputRule.{output_of}
use Rattle.wdf_wav.specs.SampleCoding.{sample_coding, sample_value}
use Rattle.wdf_wav.specs.PcmStream.{samples_of, data_of}

pieces_more : {X : Type 0} (k size : ℕ) (xs : List X) → pieces (k + 1) size xs ≡ pieces k size xs ++ take size (drop (k * size) xs) ∷ []
pieces_more {X = X} zero size xs = let none : 0 * size ≡ 0 = omega arith in rw none refl
pieces_more {X = X} (suc k) size xs =
    let sum : suc k + 1 ≡ suc (k + 1) = omega arith in
    let place : size + k * size ≡ suc k * size = omega arith in
    let moved : drop (k * size) (drop size xs) ≡ drop (suc k * size) xs = drop-drop (k * size) size xs ∙ ap (λ (n : ℕ). drop n xs) place in
    rw sum (ap (λ (l : List (List X)). take size xs ∷ l)
    (pieces_more k size (drop size xs) ∙ ap (λ (l : List X). pieces k size (drop size xs) ++ take size l ∷ []) moved))

-- ---- read

pub read_more : (bits size k : ℕ) (bytes : List ℕ) (samples : List ℤ) (z : ℤ) → k < length samples
    → take k samples ≡ map (sample_value bits) (pieces k size bytes) → z ≡ sample_value bits (take ((k + 1) * size - k * size) (drop (k * size) bytes))
    → take (k + 1) (set samples k z) ≡ map (sample_value bits) (pieces (k + 1) size bytes)
read_more bits size k bytes samples z inside so_far is =
    let f = sample_value bits in
    let one : (k + 1) * size - k * size ≡ size = omega arith in
    let here : z ≡ f (take size (drop (k * size) bytes)) = is ∙ ap (λ (n : ℕ). f (take n (drop (k * size) bytes))) one in
    take_more_set samples k z inside
    ∙ ((λ i. so_far i ++ here i ∷ [])
    ∙ sym (ap (map f) (pieces_more k size bytes) ∙ map-append f (pieces k size bytes) (take size (drop (k * size) bytes) ∷ [])))

pub read_all : (bits k : ℕ) (bytes : List ℕ) (samples : List ℤ) → length samples ≤ k → take k samples ≡ map (sample_value bits) (pieces k (bits / 8) bytes)
    → k ≡ length bytes / (bits / 8) → samples ≡ samples_of bits bytes
read_all bits k bytes samples all so_far count =
    sym (take_all k samples all) ∙ (so_far ∙ ap (λ (n : ℕ). map (sample_value bits) (pieces n (bits / 8) bytes)) count)

-- ---- written

mul-le-mul_at : (k count size : ℕ) (bytes : List ℕ) → k ≤ count → length bytes ≡ count * size → k * size ≤ length bytes
mul-le-mul_at k count size bytes below long = let most : k * size ≤ count * size = mul-le-mul_right size (omega arith) in omega arith

pub written_more : (bits size k : ℕ) (bytes new : List ℕ) (samples : List ℤ) (z d : ℤ) → k < length samples → length bytes ≡ length samples * size → length new ≡ size
    → take (k * size) bytes ≡ data_of bits (take k samples) → z ≡ get_or samples k d → new ≡ sample_coding bits z
    → take ((k + 1) * size) (put_mid (k * size) ((k + 1) * size - k * size) bytes new) ≡ data_of bits (take (k + 1) samples)
written_more bits size k bytes new samples z d inside room long so_far here is =
    let before : k * size ≤ length bytes = mul-le-mul_at k (length samples) size bytes (omega arith) room in
    let place : (k + 1) * size ≡ k * size + length new = omega arith in
    take-put_mid (k * size) ((k + 1) * size - k * size) bytes new ((k + 1) * size) place before
    ∙ ((λ i. so_far i ++ is i)
    ∙ sym (ap (data_of bits) (take_more samples k d inside ∙ ap (λ (x : ℤ). take k samples ++ x ∷ []) (sym here))
    ∙ (flat_map-append (sample_coding bits) (take k samples) (z ∷ [])
    ∙ ap (λ (l : List ℕ). data_of bits (take k samples) ++ l) (append-nil (sample_coding bits z)))))

-- the samples of a front, and those of the numbers behind it
front_more : {X : Type 0} (from to : ℕ) (xs : List X) → from ≤ to → take to xs ≡ take from xs ++ take (to - from) (drop from xs)
front_more {X = X} from to xs le = let sum : from + (to - from) ≡ to = omega arith in ap (λ (n : ℕ). take n xs) (sym sum) ∙ take-add from (to - from) xs

pub part_written : (bits down size from to : ℕ) (bytes new : List ℕ) (waves : List ℤ) → from ≤ to → to ≤ length waves → length bytes ≡ length waves * size → length new ≡ to * size - from * size
    → take (from * size) bytes ≡ data_of bits (map (output_of down bits) (take from waves)) → new ≡ data_of bits (map (output_of down bits) (take (to - from) (drop from waves)))
    → take (to * size) (put_mid (from * size) (to * size - from * size) bytes new) ≡ data_of bits (map (output_of down bits) (take to waves))
part_written bits down size from to bytes new waves part inside room long so_far is =
    let f = output_of down bits in
    let before : from * size ≤ length bytes = mul-le-mul_at from (length waves) size bytes (omega arith) room in
    let ends : from * size ≤ to * size = mul-le-mul_right size part in
    let place : to * size ≡ from * size + length new = omega arith in
    take-put_mid (from * size) (to * size - from * size) bytes new (to * size) place before
    ∙ ((λ i. so_far i ++ is i)
    ∙ sym (ap (λ (l : List ℤ). data_of bits (map f l)) (front_more from to waves part)
    ∙ (ap (data_of bits) (map-append f (take from waves) (take (to - from) (drop from waves)))
    ∙ flat_map-append (sample_coding bits) (map f (take from waves)) (map f (take (to - from) (drop from waves))))))

pub part_counted : (p : ℤ → Bool) (from to before more : ℕ) (waves : List ℤ) → from ≤ to → before ≡ length (filter p (take from waves)) → more ≡ length (filter p (take (to - from) (drop from waves)))
    → before + more ≡ length (filter p (take to waves))
part_counted p from to before more waves part so_far is =
    (λ i. so_far i + is i)
    ∙ sym (ap (λ (l : List ℤ). length (filter p l)) (front_more from to waves part)
    ∙ (ap (λ (l : List ℤ). length l) (filter-append p (take from waves) (take (to - from) (drop from waves)))
    ∙ length-append (filter p (take from waves)) (filter p (take (to - from) (drop from waves)))))
