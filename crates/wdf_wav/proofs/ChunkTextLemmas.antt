-- What is read at the front of a text that begins with the parts of a chunk.
use Rattle.std.proofs.Common.{◌≡◌, ℕ, ◌+◌, List, ◌++◌, length, take, drop, sym, ap, ◌∙◌, arith, append_assoc, length-append, drop_at}
use Rattle.std.proofs.lemmas.List.{take_at}
use Rattle.std.specs.Str.{bytes_eq}
use Rattle.byteorder.specs.Endian.{little_number}
use Rattle.byteorder.specs.Numbers.{little_from-append}
use Rattle.wdf_wav.specs.FormatChunk.{u32_at}
use Rattle.wdf_wav.specs.HeadFaults.{body_of, has_id, size_of}

-- the id
pub id_test : (name id more : List ℕ) → length id ≡ 4 → has_id name (id ++ more) ≡ bytes_eq id name
id_test name id more long = ap (λ (l : List ℕ). bytes_eq l name) (take_at id more 4 long)

-- a number of four bytes, whatever follows
pub number_front : (size more : List ℕ) → length size ≡ 4 → u32_at 0 (size ++ more) ≡ u32_at 0 size
number_front size more long = little_from-append 4 size more (omega arith)

-- the size
pub size_front : (id size more : List ℕ) → length id ≡ 4 → length size ≡ 4 → size_of (id ++ (size ++ more)) ≡ u32_at 0 size
size_front id size more named sized = ap (little_number 4) (drop_at id (size ++ more) 4 named) ∙ number_front size more sized

pub behind_eight : (id size more : List ℕ) → length id ≡ 4 → length size ≡ 4 → drop 8 (id ++ (size ++ more)) ≡ more
behind_eight id size more named sized =
    ap (drop 8) (sym (append_assoc id size more)) ∙ drop_at (id ++ size) more 8 (omega (arith, length-append id size))

-- the body, where it is there whole
pub body_front : (id size body more : List ℕ) → length id ≡ 4 → length size ≡ 4 → length body ≡ u32_at 0 size
    → body_of (id ++ (size ++ (body ++ more))) ≡ body
body_front id size body more named sized whole =
    let n = size_of (id ++ (size ++ (body ++ more))) in
    let count : n ≡ length body = size_front id size (body ++ more) named sized ∙ sym whole in
    ap (take n) (behind_eight id size (body ++ more) named sized) ∙ take_at body more n (sym count)

-- the first bytes of what follows the size
pub body_taken : (id size more : List ℕ) → length id ≡ 4 → length size ≡ 4 → body_of (id ++ (size ++ more)) ≡ take (u32_at 0 size) more
body_taken id size more named sized =
    ap (λ (n : ℕ). take n (drop 8 (id ++ (size ++ more)))) (size_front id size more named sized) ∙ ap (take (u32_at 0 size)) (behind_eight id size more named sized)

-- how long such a text is
pub length_front : (id size more : List ℕ) → length id ≡ 4 → length size ≡ 4 → length (id ++ (size ++ more)) ≡ 8 + length more
length_front id size more named sized = omega (arith, length-append id (size ++ more), length-append size more)
