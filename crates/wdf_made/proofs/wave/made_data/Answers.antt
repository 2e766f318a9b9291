use Rattle.std.proofs.Common.{◌≡◌, ◌+◌, ◌++◌, sym, ap, ◌∙◌, arith, w64}
use Rattle.std.specs.Prelude.{ℤ, FitsSigned}
use Rattle.std.proofs.lemmas.Int.{to_z-of_z}
use Rattle.wdf_wav.specs.SampleCoding.{sample_coding}
use Rattle.wdf_made.specs.Generator.{behind_word, behind_words, next_word}
use Rattle.wdf_made.specs.Wave.{made_data, sample_from}
use Rattle.wdf_made.proofs.WordLemmas.{behind_more, data_more}
use Rattle.wdf_made.proofs.wave.made_data.Goals as goal

pub loop-preserved : goal.loop-preserved
loop-preserved c =
    let n = c.loop.counter in
    let z = c.sample_from.result in
    let fits : FitsSigned w64 z = grind arith in
    let pushed : c.push_sample.new.bytes.items ≡ c.loop.made.items ++ sample_coding 16 z =
    c.in_ok-push_sample.ensures ∙ ap (λ (y : ℤ). c.loop.made.items ++ sample_coding 16 y) (to_z-of_z w64 z fits) in
    let word : c.next_word.result ≡ next_word (behind_words c.args.seed (c.args.order + n)) = c.next_word.ensures.word ∙ ap next_word c.loop.invariant.1 in
    let place : c.args.order + n + 1 ≡ c.args.order + (n + 1) = omega arith in (
      pushed
          ∙ (λ i. c.loop.invariant.0 i ++ sample_coding 16 (c.sample_from.ensures.value i))
          ∙ (λ i. made_data c.args.seed c.args.order n ++ sample_coding 16 (sample_from (word i)))
          ∙ sym (data_more c.data_append.ensures.coded c.data_append.ensures.one_coded c.args.seed c.args.order n),
      c.next_word.ensures.behind ∙ ap behind_word c.loop.invariant.1 ∙ sym (behind_more c.args.seed (c.args.order + n)) ∙ ap (behind_words c.args.seed) place,
    )
