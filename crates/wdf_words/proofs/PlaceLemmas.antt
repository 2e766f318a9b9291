-- The first place where a test passes, and the first of some places where something is.
use Rattle.std.proofs.Common.{◌≡◌, ◌<◌, ◌≤◌, ◌+◌, ◌-◌, ℕ, zero, suc, Bool, true, false, List, [], ◌∷◌, Option, Some, None, length, get_or, take, ⊎_elim, refl, sym, ap, ◌∙◌, subst, arith}
use Rattle.std.specs.Prelude.{option_map, String, string_bytes}
use Rattle.std.specs.List.{position, position_or_len}
use Rattle.std.specs.Option.{option_or}
use Rattle.std.specs.declared.alloc.Global.{Global}
use Rattle.std.proofs.lemmas.Bool.{cases_lt, lt-ltb, le-ltb}
use Rattle.std.proofs.lemmas.List.Sums.{position_or_len_is}
use Rattle.wdf_words.specs.declared.command.Command.{Command}
use Rattle.wdf_words.specs.Orders.{fault_at, first_from, texts, word_at, word_fault}

pub first_place : (p : List ℕ → Bool) (ws : List (List ℕ)) (at : ℕ) → at < length ws → ((j : ℕ) → j < at → p (word_at ws j) ≡ false) → p (word_at ws at) ≡ true
    → position p ws ≡ Some at
first_place p ws at within before here =
    let e : position_or_len p ws ≡ at = position_or_len_is p ws at [] (omega arith) before (λ _. here) in
    rw (e, lt-ltb at (length ws) within) refl

pub no_place : (p : List ℕ → Bool) (ws : List (List ℕ)) → ((j : ℕ) → j < length ws → p (word_at ws j) ≡ false) → position p ws ≡ None
no_place p ws none =
    let e : position_or_len p ws ≡ length ws = position_or_len_is p ws (length ws) [] (omega arith) none (λ l. absurd (omega arith)) in
    rw (e, le-ltb (length ws) (length ws) (omega arith)) refl

pub length_texts : (words : List (String Global)) → length (texts words) ≡ length words
length_texts [] = refl
length_texts (w ∷ ws) = ap suc (length_texts ws)

pub text_at : (words : List (String Global)) (at : ℕ) (w : String Global) → at < length words → w ≡ get_or words at w → word_at (texts words) at ≡ string_bytes w
text_at [] at w l e = absurd (omega arith)
text_at (x ∷ xs) zero w l e = ap string_bytes (sym e)
text_at (x ∷ xs) (suc at) w l e = text_at xs at w (omega arith) e

-- one place further
pub first_further : {A : Type 0} (f : ℕ → Option A) (a b : ℕ) → a < b → first_from f a (b - a) ≡ option_or (option_map (λ x. (a, x)) (f a)) (first_from f (a + 1) (b - (a + 1)))
first_further f a b l = let e : b - a ≡ suc (b - (a + 1)) = omega arith in ap (first_from f a) e

pub first_found : {A : Type 0} (f : ℕ → Option A) (a b count : ℕ) (x : A) → a < b → first_from f a (b - a) ≡ first_from f 1 count → f a ≡ Some x → first_from f 1 count ≡ Some (a, x)
first_found f a b count x l same here = sym same ∙ first_further f a b l ∙ rw here refl

pub none_here : {A : Type 0} (f : ℕ → Option A) (a b count : ℕ) → a < b → first_from f a (b - a) ≡ first_from f 1 count → f a ≡ None → first_from f (a + 1) (b - (a + 1)) ≡ first_from f 1 count
none_here f a b count l same here = let g : first_from f a (b - a) ≡ first_from f (a + 1) (b - (a + 1)) = first_further f a b l ∙ rw here refl in sym g ∙ same

-- nothing is at any of the places among which no first one is
pub none_at : {A : Type 0} (f : ℕ → Option A) (a n : ℕ) → first_from f a n ≡ None → (j : ℕ) → a ≤ j → j < a + n → f j ≡ None
none_at f a zero e j l h = absurd (omega arith)
none_at {A} f a (suc n) e j l h = by (f a) refl (none_at f (a + 1) n)
  where
    by : (o : Option A) → f a ≡ o → (first_from f (a + 1) n ≡ None → (i : ℕ) → a + 1 ≤ i → i < a + 1 + n → f i ≡ None) → f j ≡ None
    by None here rest =
        let g : first_from f a (suc n) ≡ first_from f (a + 1) n = rw here refl in
        ⊎_elim (λ more. rest (sym g ∙ e) j (omega arith) (omega arith)) (λ less. let same : a ≡ j = omega arith in subst (λ (i : ℕ). f i ≡ None) same here) (cases_lt a j)
    by (Some x) here rest = let g : first_from f a (suc n) ≡ Some (a, x) = rw here refl in absurd (let z : None ≡ Some (a, x) = sym e ∙ g in cc)

take_texts : (words : List (String Global)) (n : ℕ) → texts (take n words) ≡ take n (texts words)
take_texts [] zero = refl
take_texts [] (suc n) = refl
take_texts (w ∷ ws) zero = refl
take_texts (w ∷ ws) (suc n) = ap (λ (l : List (List ℕ)). string_bytes w ∷ l) (take_texts ws n)

-- the word at a place behind those before it
pub fault_of : (c : Command) (words : List (String Global)) (at : ℕ) (w : String Global) → at < length words → w ≡ get_or words at w
    → fault_at c (texts words) at ≡ word_fault c (texts (take at words)) (string_bytes w)
fault_of c words at w l e = rw (text_at words at w l e, take_texts words at) refl
