-- The words and lines of a printed netlist are plain.
use Rattle.std.proofs.Common.{◌≡◌, ℕ, ◌≤◌, Bool, true, false, ◌&&◌, ◌||◌, eqb, List, [], ◌∷◌, length, get_or, refl, sym, ap, ◌∙◌, arith}
use Rattle.std.specs.Prelude.{All, codes, decimal, nat_le}
use Rattle.std.specs.List.{list_all}
use Rattle.std.specs.Char.{is_ascii_digit}
use Rattle.std.proofs.lemmas.Bool.{and_parts, eqb-true, false≢true, leb-true, or_from}
use Rattle.std.proofs.lemmas.List.Elements.{All-cons, All-tail}
use Rattle.wdf_text.specs.DecimalNumber.{DecimalNumber}
use Rattle.wdf_text.specs.Decimals.{is_decimal, is_decimal_byte}
use Rattle.wdf_text.specs.Names.{is_name, is_name_byte}
use Rattle.wdf_law.specs.Network.{is_source}
use Rattle.wdf_law.specs.declared.kind.Kind.{Kind}
use Rattle.wdf_law.specs.declared.kind.Kind.TheVariants.{Src, Res, Ind, Cap}
use Rattle.wdf_netlist.specs.declared.TheConstants.{MAX_RATE}
use Rattle.wdf_netlist.specs.declared.part.Part.{Part}
use Rattle.wdf_netlist.specs.Canonical.{element_word, value_text}
use Rattle.wdf_netlist.specs.Circuits.{IsElementValue}
use Rattle.wdf_netlist.proofs.LineBackLemmas.{IsPlainByte, IsPlainLine, IsPlainWord}
use Rattle.wdf_netlist.proofs.StatementBackLemmas.{part_lines, part_words, two_words}
use Rattle.wdf_netlist.proofs.ValueBackLemmas.{value_writes, rate_back}

-- ---- bytes

-- a byte that passes a test which no blank and no line end passes
plain_byte : (test : ℕ → Bool) (b : ℕ) → test 10 ≡ false → test 32 ≡ false → test 9 ≡ false → test 13 ≡ false → test b ≡ true → IsPlainByte b
plain_byte test b lf space tab cr is =
    let other : (n : ℕ) → test n ≡ false → eqb b n ≡ false = λ n fails. by n (eqb b n) refl fails in
    record { no_end = other 10 lf; no_blank = or_from _ _ (other 32 space) (other 9 tab); no_return = other 13 cr }
  where
    by : (n : ℕ) (t : Bool) → eqb b n ≡ t → test n ≡ false → eqb b n ≡ false
    by n true e fails = absurd (false≢true (sym fails ∙ ap test (sym (eqb-true b n e)) ∙ is))
    by n false e fails = e

plain_bytes : (test : ℕ → Bool) (bytes : List ℕ) → test 10 ≡ false → test 32 ≡ false → test 9 ≡ false → test 13 ≡ false → list_all test bytes ≡ true → All IsPlainByte bytes
plain_bytes test [] lf space tab cr all = λ k d within. absurd (omega arith)
plain_bytes test (b ∷ bytes) lf space tab cr all =
    let parts = and_parts (test b) (list_all test bytes) all in
    All-cons IsPlainByte b bytes (plain_byte test b lf space tab cr parts.0) (plain_bytes test bytes lf space tab cr parts.1)

-- ---- words

pub plain_name : (name : List ℕ) → is_name name ≡ true → IsPlainWord name
plain_name name is =
    let parts = and_parts (nat_le 1 (length name) && nat_le (length name) 16) (list_all is_name_byte name) is in
    let long = and_parts (nat_le 1 (length name)) (nat_le (length name) 16) parts.0 in
    record { some = leb-true 1 (length name) long.0; few = omega (arith, leb-true (length name) 16 long.1); bytes = plain_bytes is_name_byte name refl refl refl refl parts.1 }

not_empty : (text : List ℕ) → is_decimal text ≡ true → 1 ≤ length text
not_empty [] is = absurd (false≢true is)
not_empty (b ∷ text) is = omega arith

pub plain_value : (v : DecimalNumber) → IsElementValue v → IsPlainWord (value_text v)
plain_value v k =
    let w = value_writes v k in
    let short = (and_parts _ _ w.decimal).0 in
    record { some = not_empty (value_text v) w.decimal; few = leb-true (length (value_text v)) 40 short; bytes = plain_bytes is_decimal_byte (value_text v) refl refl refl refl w.bytes }

pub plain_rate : (n : ℕ) → 1 ≤ n → n ≤ MAX_RATE → IsPlainWord (decimal n)
plain_rate n some few =
    let word = decimal n in
    let a = and_parts _ _ (rate_back n some few).good in
    let b = and_parts _ _ a.0 in
    let c = and_parts _ _ b.0 in
    let d = and_parts _ _ c.0 in
    record { some = leb-true 1 (length word) d.0; few = omega (arith, leb-true (length word) 20 d.1); bytes = plain_bytes is_ascii_digit word refl refl refl refl c.1 }

-- ---- lines

pub plain_none : All IsPlainWord []
plain_none k d within = absurd (omega arith)

pub plain_words : (words : List (List ℕ)) (w : List ℕ) → IsPlainWord w → All IsPlainWord words → All IsPlainWord (w ∷ words)
plain_words words w here rest = All-cons IsPlainWord w words here rest

-- a keyword and one more word
pub plain_two : (first second : List ℕ) → is_name first ≡ true → eqb (get_or first 0 0) 42 ≡ false → IsPlainWord second → IsPlainLine (two_words first second)
plain_two first second is statement plain = record { few = omega arith; first = plain_name first is; rest = plain_words [] second plain plain_none; statement = statement }

pub plain_one : (first : List ℕ) → is_name first ≡ true → eqb (get_or first 0 0) 42 ≡ false → IsPlainLine (record { first = first; rest = [] })
plain_one first is statement = record { few = omega arith; first = plain_name first is; rest = plain_none; statement = statement }

pub plain_branch : (letter from to : List ℕ) → is_name letter ≡ true → is_name from ≡ true → is_name to ≡ true → IsPlainLine (record { first = codes "branch"; rest = letter ∷ from ∷ to ∷ [] })
plain_branch letter from to a b c =
    record {
      few = omega arith;
      first = plain_name (codes "branch") refl;
      rest = plain_words (from ∷ to ∷ []) letter (plain_name letter a) (plain_words (to ∷ []) from (plain_name from b) (plain_words [] to (plain_name to c) plain_none));
      statement = refl;
    }

-- the first word of an element's line
element_first : (sourced : Bool) (k : Kind) → (is_name (element_word sourced k) ≡ true) × (eqb (get_or (element_word sourced k) 0 0) 42 ≡ false)
element_first true Src = (refl, refl)
element_first false Src = (refl, refl)
element_first t Res = (refl, refl)
element_first t Ind = (refl, refl)
element_first t Cap = (refl, refl)

pub record IsPrintable (p : Part) : Type 0 where
  pub named : is_name p.name ≡ true
  pub from_named : is_name p.from ≡ true
  pub to_named : is_name p.to ≡ true
  pub value : IsElementValue p.value

plain_part : (sourced : Bool) (p : Part) → IsPrintable p → IsPlainLine (part_words (element_word sourced p.kind) p)
plain_part sourced p k =
    let f = element_first sourced p.kind in
    record {
      few = omega arith;
      first = plain_name (element_word sourced p.kind) f.0;
      rest = plain_words (p.from ∷ p.to ∷ value_text p.value ∷ []) p.name (plain_name p.name k.named) (plain_words (p.to ∷ value_text p.value ∷ []) p.from (plain_name p.from k.from_named)
          (plain_words (value_text p.value ∷ []) p.to (plain_name p.to k.to_named) (plain_words [] (value_text p.value) (plain_value p.value k.value) plain_none)));
      statement = f.1;
    }

pub plain_parts : (sourced : Bool) (ps : List Part) → All IsPrintable ps → All IsPlainLine (part_lines sourced ps)
plain_parts sourced [] all = λ k d within. absurd (omega arith)
plain_parts sourced (p ∷ ps) all =
    All-cons IsPlainLine (part_words (element_word sourced p.kind) p) (part_lines (sourced || is_source p.kind) ps) (plain_part sourced p (all 0 p (omega arith)))
    (plain_parts (sourced || is_source p.kind) ps (All-tail IsPrintable p ps all))
