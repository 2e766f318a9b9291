use Rattle.std.proofs.Common.{◌≡◌, [], ◌∷◌, ◌++◌, sym, ap, subst, ◌∙◌}
use Rattle.wdf_text.specs.DecimalNumber.{DecimalNumber}
use Rattle.wdf_law.specs.declared.kind.Kind.TheVariants.{Src}
use Rattle.wdf_netlist.specs.declared.part.Part.{Part}
use Rattle.wdf_netlist.specs.Drafts.{IsSourceAlone, Reflects}
use Rattle.wdf_netlist.specs.LineRules.{termination}
use Rattle.wdf_netlist.specs.Statements.{branch, branch_part}
use Rattle.wdf_netlist.proofs.DraftLemmas.{source_alone, source_next, termination_is, valued}
use Rattle.wdf_netlist.proofs.draft.Draft.say_branch.Goals as goal

pub returns-then-self-eq1 : goal.returns-then-self-eq1
returns-then-self-eq1 c = λ before r.
    let d = c.args.self.now in
    let value = c.unwrap-value.result in
    let p : Part = record { kind = Src; name = c.at_sign.result; from = c.args.from; to = c.args.to; value = value } in
    let is : p ≡ branch_part c.args.from c.args.to value = λ i. record { kind = Src; name = c.at_sign.ensures i; from = c.args.from; to = c.args.to; value = value } in
    let said : termination before ≡ value = termination_is before value (r.termination ∙ c.unwrap-value.ensures) in
    let next = source_next p is c.requires.differ c.requires.from c.requires.to (valued d value r.keeps c.unwrap-value.ensures) in
    let alone : IsSourceAlone c.push.new.self p = source_alone c.new-own.result c.push.new.self p c.new-own.ensures c.in_ok-push.ensures is next in
    subst (λ (q : Part). Reflects c.begin_second.new.self (before ++ branch q ∷ [])) (is ∙ ap (λ (v : DecimalNumber). branch_part c.args.from c.args.to v) (sym said)) (c.begin_second.ensures before p r c.unwrap-value.ensures alone)

pub returns : goal.returns
returns c = λ before r.
    let d = c.args.self.now in
    let value = c.unwrap-value.result in
    let p : Part = record { kind = Src; name = c.at_sign.result; from = c.args.from; to = c.args.to; value = value } in
    let is : p ≡ branch_part c.args.from c.args.to value = λ i. record { kind = Src; name = c.at_sign.ensures i; from = c.args.from; to = c.args.to; value = value } in
    let said : termination before ≡ value = termination_is before value (r.termination ∙ c.unwrap-value.ensures) in
    let next = source_next p is c.requires.differ c.requires.from c.requires.to (valued d value r.keeps c.unwrap-value.ensures) in
    let alone : IsSourceAlone c.push.new.self p = source_alone c.new-own.result c.push.new.self p c.new-own.ensures c.in_ok-push.ensures is next in
    subst (λ (q : Part). Reflects c.begin_first.new.self (before ++ branch q ∷ [])) (is ∙ ap (λ (v : DecimalNumber). branch_part c.args.from c.args.to v) (sym said)) (c.begin_first.ensures before p r c.unwrap-value.ensures alone)
