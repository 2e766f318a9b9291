-- The text of worked seeds, computed by the definition.
use Rattle.std.proofs.Common.{◌≡◌, refl}
use Rattle.std.specs.Prelude.{codes}
use Rattle.std.specs.Fmt.{digits}
use Rattle.wdf_made.specs.Generator.{behind_word, generator_of, next_word}
use Rattle.wdf_made.specs.LadderText.{made_text}

five : made_text 1 5 ≡ codes "rate 48000\nsource S n0 0 600\nc E1 n0 0 11n\nl E2 n0 n1 3m\nc E3 n1 0 608n\nl E4 n1 n2 51m\nc E5 n2 0 58n\nr L n2 0 600\nload L\n"
unfolding digits generator_of next_word behind_word
five = refl

last_seed : made_text 18446744073709551615 3 ≡ codes "rate 48000\nsource S n0 0 600\nc E1 n0 0 935n\nl E2 n0 n1 69m\nc E3 n1 0 815n\nr L n1 0 600\nload L\n"
unfolding digits generator_of next_word behind_word
last_seed = refl
