use Rattle.std.proofs.Common.{◌≡◌, ℕ, ◌<◌, false, take}
use Rattle.std.specs.List.{list_any}
use Rattle.wdf_text.specs.Decimals.{is_dot, is_stray}
use Rattle.wdf_text.proofs.decimals.stray.Given as goal

abbrev pub invariant-loop-at : goal.invariant-loop-at
invariant-loop-at l = record {
  none : (k : ℕ) → k < l.at → is_stray l.text k ≡ false;
  dot : l.dotted ≡ list_any is_dot (take l.at l.text);
}
