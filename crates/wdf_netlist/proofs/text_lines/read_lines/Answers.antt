use Rattle.std.proofs.Common.{◌∙◌}
use Rattle.wdf_netlist.proofs.CuttingLemmas.{behind_fault, behind_more, fails_from}
use Rattle.wdf_netlist.proofs.text_lines.read_lines.Goals as goal

pub loop-ahead-preserved : goal.loop-ahead-preserved
loop-ahead-preserved c =
    let text = c.args.text.now in
    let behind = rw c.in-Some.is at c.loop-ahead.invariant.behind in
    let within = rw c.loop-ahead.invariant.text at c.in_ok-ahead.ensures.ahead in
    let said = rw c.deref.ensures.value at c.in_ok-read_line.ensures in
    record {
      text = c.in_ok-ahead.ensures.text ∙ c.loop-ahead.invariant.text;
      behind = behind_more c.loop-ahead.draft c.read_line.new.draft text c.in-Some.first c.loop-ahead.cursor.words c.take_line.new.rest.items c.in_ok-ahead.ahead c.take_line.new.cursor.words c.in_ok-read_line.field-0 behind c.in_ok-ahead.ensures.line within said;
    }

pub returns-in_err-read_line : goal.returns-in_err-read_line
returns-in_err-read_line c =
    let text = c.args.text.now in
    let behind = rw c.in-Some.is at c.loop-ahead.invariant.behind in
    let said = rw c.deref.ensures.value at c.in_err-read_line.ensures in
    let h = behind_fault c.loop-ahead.draft text c.in-Some.first c.loop-ahead.cursor.words c.take_line.new.rest.items c.in_ok-ahead.ahead c.take_line.new.cursor.words c.in_err-read_line.field-0.0 behind c.in_ok-ahead.ensures.line said in
    fails_from _ _ _ c.from_residual-in_err-read_line.ensures h
