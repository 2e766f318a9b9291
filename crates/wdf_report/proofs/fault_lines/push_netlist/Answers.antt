use Rattle.std.proofs.Common.{List, ℕ, ap, ◌∙◌, append-nil, append_assoc, sym, Option}
use Rattle.std.specs.Prelude.{◌++◌, codes, decimal}
use Rattle.wdf_report.specs.FaultLine.{name_text}
use Rattle.wdf_report.specs.KindNames.{netlist_name}
use Rattle.wdf_report.proofs.Appends.{begins, goes_on, piece}
use Rattle.wdf_report.proofs.fault_lines.push_netlist.Goals as goal

pub returns-in-Some-clause-text : goal.returns-in-Some-clause-text
returns-in-Some-clause-text c =
    let old : List ℕ = c.args.line.now in
    let line : List ℕ = codes "netlist line " ++ decimal c.args.fault.line in
    let column : List ℕ = line ++ codes " column " ++ decimal c.args.fault.column in
    let kind : List ℕ = column ++ codes " " ++ netlist_name c.args.fault.kind in
    let first = begins old (codes "netlist line ") c.push_number.ensures.text c.from.ensures in
    let second = goes_on old line (codes " column ") first c.push_number-2.ensures.text c.from-2.ensures in
    let blank = piece old column (codes " ") second c.push.ensures in
    let third = piece old (column ++ codes " ") (netlist_name c.args.fault.kind) blank (c.push-2.ensures ∙ ap (λ (name : List ℕ). c.push.new.self ++ name) c.netlist_name.ensures.name) in
    piece old kind (name_text c.args.fault.name) third
    (c.push_name.ensures.text ∙ (append_assoc c.push-2.new.self (codes " ") c.in-Some.name ∙ ap (λ (name : Option (List ℕ)). c.push-2.new.self ++ name_text name) (sym c.in-Some.is)))

pub returns-in-None-clause-text : goal.returns-in-None-clause-text
returns-in-None-clause-text c =
    let old : List ℕ = c.args.line.now in
    let line : List ℕ = codes "netlist line " ++ decimal c.args.fault.line in
    let column : List ℕ = line ++ codes " column " ++ decimal c.args.fault.column in
    let kind : List ℕ = column ++ codes " " ++ netlist_name c.args.fault.kind in
    let first = begins old (codes "netlist line ") c.push_number.ensures.text c.from.ensures in
    let second = goes_on old line (codes " column ") first c.push_number-2.ensures.text c.from-2.ensures in
    let blank = piece old column (codes " ") second c.push.ensures in
    let third = piece old (column ++ codes " ") (netlist_name c.args.fault.kind) blank (c.push-2.ensures ∙ ap (λ (name : List ℕ). c.push.new.self ++ name) c.netlist_name.ensures.name) in
    piece old kind (name_text c.args.fault.name) third
    (sym (append-nil c.push-2.new.self) ∙ ap (λ (name : Option (List ℕ)). c.push-2.new.self ++ name_text name) (sym c.in-None.is))
