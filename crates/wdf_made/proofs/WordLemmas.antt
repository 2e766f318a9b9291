-- One word more, and what is made of it.
use Rattle.std.proofs.Common.{◌≡◌, ℕ, suc, ◌+◌, List, [], ◌∷◌, ◌++◌, map, ap, ◌∙◌, arith}
use Rattle.std.specs.Prelude.{ℤ, codes}
use Rattle.std.specs.List.{range_with_len}
use Rattle.std.proofs.lemmas.List.FromFn.{map-range_with_len_more}
use Rattle.wdf_wav.specs.Laws.{CodesOneSample, DataAppends}
use Rattle.wdf_wav.specs.PcmStream.{data_of}
use Rattle.wdf_wav.specs.SampleCoding.{sample_coding}
use Rattle.wdf_made.specs.Generator.{behind_word, behind_words, word_at}
use Rattle.wdf_made.specs.Ladder.{made_value, numbered_name, rung}
use Rattle.wdf_made.specs.Wave.{made_data, made_samples, sample_from}

pub behind_more : (seed n : ℕ) → behind_words seed (n + 1) ≡ behind_word (behind_words seed n)
behind_more seed n = let e : n + 1 ≡ suc n = omega arith in ap (behind_words seed) e

pub rungs_more : (seed n : ℕ) → map (λ (place : ℕ). rung place (made_value seed place)) (range_with_len 0 (n + 1))
    ≡ map (λ (place : ℕ). rung place (made_value seed place)) (range_with_len 0 n) ++ rung n (made_value seed n) ∷ []
rungs_more seed n = map-range_with_len_more (λ (place : ℕ). rung place (made_value seed place)) 0 n n (omega arith)

pub nodes_more : (n : ℕ) → map (λ (j : ℕ). numbered_name (codes "n") (j + 1)) (range_with_len 0 (n + 1))
    ≡ map (λ (j : ℕ). numbered_name (codes "n") (j + 1)) (range_with_len 0 n) ++ numbered_name (codes "n") (n + 1) ∷ []
nodes_more n = map-range_with_len_more (λ (j : ℕ). numbered_name (codes "n") (j + 1)) 0 n n (omega arith)

pub data_more : DataAppends 16 → CodesOneSample 16 → (seed order n : ℕ) → made_data seed order (n + 1) ≡ made_data seed order n ++ sample_coding 16 (sample_from (word_at seed (order + n)))
data_more appends one seed order n =
    let z = sample_from (word_at seed (order + n)) in
    let f : ℕ → ℤ = λ (frame : ℕ). sample_from (word_at seed (order + frame)) in
    ap (data_of 16) (map-range_with_len_more f 0 n n (omega arith))
    ∙ appends (made_samples seed order n) (z ∷ [])
    ∙ ap (λ (l : List ℕ). made_data seed order n ++ l) (one z)
