-- Where no rule is broken, the network is one as its type keeps it; else the first that is broken is the refusal.
use Rattle.std.proofs.Common.{◌≡◌, Result, Ok, Err, None, Some, refl, sym, ap, ◌∙◌}
use Rattle.std.specs.Prelude.{◌↔◌}
use Rattle.wdf_law.specs.declared.net_error.NetError.{NetError}
use Rattle.wdf_law.specs.declared.net_error.NetError.TheVariants.{BadWidth, TooDeep, BadMultiplier, BadElement, DoubleElement, MissingElement, NoSource, TooManySources, NoOutlet}
use Rattle.wdf_law.specs.Network.{Network, network_of}
use Rattle.wdf_law.specs.RefusalOrder.{refusal}
use Rattle.wdf_law.proofs.Allowed.{allowed}
use Rattle.wdf_law.proofs.Refusing.{Refuses, exactly}
use Rattle.wdf_law.proofs.Unrefused.{unrefused}
use Rattle.wdf_law.proofs.net.Net.new.Goals as goal

pub invariant_of-result : goal.invariant_of-result
invariant_of-result c =
    allowed (network_of c.args.k c.args.m c.args.left c.args.right c.args.outlet) (sym c.refused.ensures ∙ c.in-None.is)

at_err : {T : Type 0} (n : Network) (error : NetError) → refusal n ≡ Some error → (e : NetError) → (◌≡◌ {A = Result T NetError} (Err error) (Err e)) ↔ Refuses n e
at_err n error is e =
    exactly n (Err error) (λ d h. let same : error ≡ d = cc in is ∙ ap (λ (x : NetError). Some x) same)
    (λ d h. let same : error ≡ d = cc in ap (λ (x : NetError). Err x) same) e

at_ok : {T : Type 0} (n : Network) (net : T) → refusal n ≡ None → (e : NetError) → (◌≡◌ {A = Result T NetError} (Ok net) (Err e)) ↔ Refuses n e
at_ok n net is e = exactly n (Ok net) (λ d h. absurd (cc)) (λ d h. absurd (cc)) e

pub returns-in-Some : goal.returns-in-Some
returns-in-Some c =
    let n = network_of c.args.k c.args.m c.args.left c.args.right c.args.outlet in
    let error = c.in-Some.error in
    let is : refusal n ≡ Some error = sym c.refused.ensures ∙ c.in-Some.is in
    record {
      accepted = ((λ h. absurd (cc)), (λ rules. let none = unrefused n rules in absurd (cc)));
      network = tt;
      bad_width = at_err n error is (BadWidth c.args.k);
      too_deep = at_err n error is TooDeep;
      bad_multiplier = λ e. at_err n error is (BadMultiplier e);
      bad_element = λ e. at_err n error is (BadElement e);
      double_element = λ e. at_err n error is (DoubleElement e);
      missing_element = λ e. at_err n error is (MissingElement e);
      no_source = at_err n error is NoSource;
      too_many_sources = λ e. at_err n error is (TooManySources e);
      no_outlet = at_err n error is NoOutlet;
    }

pub returns-in-None : goal.returns-in-None
returns-in-None c =
    let n = network_of c.args.k c.args.m c.args.left c.args.right c.args.outlet in
    let none : refusal n ≡ None = sym c.refused.ensures ∙ c.in-None.is in
    record {
      accepted = ((λ h. allowed n none), (λ rules. refl));
      network = refl;
      bad_width = at_ok n n none (BadWidth c.args.k);
      too_deep = at_ok n n none TooDeep;
      bad_multiplier = λ e. at_ok n n none (BadMultiplier e);
      bad_element = λ e. at_ok n n none (BadElement e);
      double_element = λ e. at_ok n n none (DoubleElement e);
      missing_element = λ e. at_ok n n none (MissingElement e);
      no_source = at_ok n n none NoSource;
      too_many_sources = λ e. at_ok n n none (TooManySources e);
      no_outlet = at_ok n n none NoOutlet;
    }
