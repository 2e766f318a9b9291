use Rattle.std.proofs.Common.{sym, subst}
use Rattle.std.proofs.KnownBytes.{Keeps-refl}
use Rattle.std.specs.Prelude.{IfErr}
use Rattle.wdf_certificates.specs.CertLoading.{LoadsCerts, LoadRefuses}
use Rattle.wdf_words.specs.Orders.{texts}
use Rattle.wdf.specs.declared.checking_stop.CheckingStop.TheVariants.{Load, Check, Write}
use Rattle.wdf.specs.NetworksAnswer.{name_of, word_of}
use Rattle.wdf.specs.CheckAnswer.{CheckStops}
use Rattle.wdf.specs.World.{world}
use Rattle.wdf.proofs.Handed.{handed_on}
use Rattle.wdf.proofs.checking.check_words.Goals as goal

-- there are no certificates
pub returns-in_err-certs-clause-refused : goal.returns-in_err-certs-clause-refused
returns-in_err-certs-clause-refused g c left noted =
    let w = world (texts c.args.words.now) (g.H.Shelf.files c.args.shelf.now) left left (g.O.Sink.written c.args.out.now) (g.O.Sink.written c.args.out.now) noted noted in
    let o = c.args.order.now in
    let stop = c.in_err-certs.field-0.0 in
    let same = handed_on c.from_residual-in_err-certs.result (Load stop) c.from_residual-in_err-certs.ensures.0 c.from_residual-in_err-certs.ensures.1 in
    subst (λ r. IfErr r (CheckStops w o)) (sym same)
    (record {
      design = c.in_ok-design.design;
      networks = c.in_ok-design.ensures.designed;
      refuses = subst (λ f. LoadRefuses f (word_of o.cert) (name_of (texts c.args.words.now) o.cert) stop) c.in_ok-design.ensures.same c.in_err-certs.ensures.refused;
      quiet = record { input = Keeps-refl left; output = Keeps-refl (g.O.Sink.written c.args.out.now); note = Keeps-refl noted };
    })

-- they do not certify the networks
pub returns-in_err-check_certs-clause-refused : goal.returns-in_err-check_certs-clause-refused
returns-in_err-check_certs-clause-refused g c left noted =
    let w = world (texts c.args.words.now) (g.H.Shelf.files c.args.shelf.now) left left (g.O.Sink.written c.args.out.now) (g.O.Sink.written c.args.out.now) noted noted in
    let o = c.args.order.now in
    let stop = c.in_err-check_certs.field-0.0 in
    let same = handed_on c.from_residual-in_err-check_certs.result (Check stop) c.from_residual-in_err-check_certs.ensures.0 c.from_residual-in_err-check_certs.ensures.1 in
    subst (λ r. IfErr r (CheckStops w o)) (sym same)
    (record {
      has = record {
        design = c.in_ok-design.design;
        networks = c.in_ok-design.ensures.designed;
        certs = c.in_ok-certs.certs;
        loads = subst (λ f. LoadsCerts f (name_of (texts c.args.words.now) o.cert) c.in_ok-certs.certs) c.in_ok-design.ensures.same c.in_ok-certs.ensures.loads;
      };
      refuses = c.in_err-check_certs.ensures.refused;
      quiet = record { input = Keeps-refl left; output = Keeps-refl (g.O.Sink.written c.args.out.now); note = Keeps-refl noted };
    })

-- the write failed
pub returns-in_err-put_all-clause-refused : goal.returns-in_err-put_all-clause-refused
returns-in_err-put_all-clause-refused g c left noted =
    let w = world (texts c.args.words.now) (g.H.Shelf.files c.args.shelf.now) left left (g.O.Sink.written c.args.out.now) (g.O.Sink.written c.put_all.new.sink) noted noted in
    let o = c.args.order.now in
    let same = handed_on c.from_residual-in_err-put_all.result Write c.from_residual-in_err-put_all.ensures.0 c.from_residual-in_err-put_all.ensures.1 in
    subst (λ r. IfErr r (CheckStops w o)) (sym same)
    (record {
      accepted = record {
        has = record {
          design = c.in_ok-design.design;
          networks = c.in_ok-design.ensures.designed;
          certs = c.in_ok-certs.certs;
          loads = subst (λ f. LoadsCerts f (name_of (texts c.args.words.now) o.cert) c.in_ok-certs.certs) c.in_ok-design.ensures.same c.in_ok-certs.ensures.loads;
        };
        certified = c.in_ok-check_certs.ensures.certified;
      };
      input = Keeps-refl left;
      output = c.in_err-put_all.ensures.part;
      note = Keeps-refl noted;
    })

-- all was done
pub returns-clause-done : goal.returns-clause-done
returns-clause-done g c left noted =
    let o = c.args.order.now in
    record {
      accepted = record {
        has = record {
          design = c.in_ok-design.design;
          networks = c.in_ok-design.ensures.designed;
          certs = c.in_ok-certs.certs;
          loads = subst (λ f. LoadsCerts f (name_of (texts c.args.words.now) o.cert) c.in_ok-certs.certs) c.in_ok-design.ensures.same c.in_ok-certs.ensures.loads;
        };
        certified = c.in_ok-check_certs.ensures.certified;
      };
      input = Keeps-refl left;
      output = c.in_ok-put_all.ensures.whole;
      note = Keeps-refl noted;
    }
