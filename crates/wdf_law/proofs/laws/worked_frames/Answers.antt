use Rattle.std.proofs.Common.{◌≡◌, ℕ, refl, arith, ap, sym, [], ◌∷◌}
use borrow.Author.Differences.{ints}
use Rattle.std.specs.Prelude.{ℤ, pos, neg_ℤ, ◌*ℤ◌, false}
use Rattle.wdf_law.specs.declared.outlet.Outlet.{Outlet}
use Rattle.wdf_law.specs.declared.outlet.Outlet.TheVariants.{Load, Source}
use Rattle.wdf_law.specs.declared.kind.Kind.{Kind}
use Rattle.wdf_law.specs.declared.kind.Kind.TheVariants.{Cap, Ind}
use Rattle.wdf_law.specs.Elements.{IsCapacitor, IsInductor, ObeysElementLaw}
use Rattle.wdf_law.specs.Step.{IsStep}
use Rattle.wdf_law.specs.Run.{states, source_values}
use Rattle.wdf_law.specs.WorkedFrames.{reactance_circuit, capacitor_circuit, inductor_circuit, capacitor_frame, two_reactances, two_reactances_frame, two_sources, two_sources_frame}
use Rattle.wdf_law.proofs.laws.worked_frames.Goals as goal

capacitor : IsCapacitor (neg_ℤ (pos 3641)) (neg_ℤ (pos 3641)) (pos 1214)
capacitor = record { trapezoid = λ v j e. omega (arith, ints) }

inductor : IsInductor (pos 3641) (neg_ℤ (pos 3641)) (pos 1214)
inductor = record { trapezoid = λ v j e. omega (arith, ints) }

-- a silent source, whatever the reactance is
reactance_step : (reactance : Kind) (x e : ℕ → ℤ) → e 0 ≡ pos 0 → ObeysElementLaw reactance false (x 1) (e 1) (neg_ℤ (pos 3641)) (pos 1214) → IsStep (reactance_circuit reactance) x e capacitor_frame
reactance_step reactance x e silent law = record {
  root = record { voltages = refl; currents = refl };
  to_left = refl;
  to_right = refl;
  left = record { drives = ap (λ (z : ℤ). pos 2 *ℤ z) (sym silent) };
  right = (record { first = refl; second = refl; currents = refl }, record { first = refl; second = refl; up = refl }, law, record { ohm = refl });
}

second_inductor : IsInductor (neg_ℤ (pos 999)) (pos 999) (neg_ℤ (pos 230))
second_inductor = record { trapezoid = λ v j e. omega (arith, ints) }

third_inductor : IsInductor (pos 1000) (neg_ℤ (pos 1000)) (pos 647)
third_inductor = record { trapezoid = λ v j e. omega (arith, ints) }

second_capacitor : IsCapacitor (neg_ℤ (pos 3)) (neg_ℤ (pos 3)) (pos 379)
second_capacitor = record { trapezoid = λ v j e. omega (arith, ints) }

two_reactances_step : (outlet : Outlet)
    → IsStep (two_reactances outlet) (states (two_reactances outlet) (pos 1000 ∷ neg_ℤ (pos 3) ∷ [])) (source_values (two_reactances outlet) (pos 777 ∷ [])) two_reactances_frame
two_reactances_step outlet = record {
  root = record { voltages = refl; currents = refl };
  to_left = refl;
  to_right = refl;
  left = record { drives = refl };
  right = (
    record { first = refl; second = refl; voltages = refl },
    record { first = refl; second = refl; up = refl },
    second_capacitor,
    (record { first = refl; second = refl; currents = refl }, record { first = refl; second = refl; up = refl }, third_inductor, record { ohm = refl }),
  );
}

two_sources_step : (outlet : Outlet)
    → IsStep (two_sources outlet) (states (two_sources outlet) (neg_ℤ (pos 999) ∷ [])) (source_values (two_sources outlet) (pos 777 ∷ neg_ℤ (pos 1001) ∷ [])) two_sources_frame
two_sources_step outlet = record {
  root = record { voltages = refl; currents = refl };
  to_left = refl;
  to_right = refl;
  left = record { drives = refl };
  right = (
    record { first = refl; second = refl; voltages = refl },
    record { first = refl; second = refl; up = refl },
    record { drives = refl },
    (record { first = refl; second = refl; currents = refl }, record { first = refl; second = refl; up = refl }, second_inductor, record { ohm = refl }),
  );
}

pub returns : goal.returns
returns c = record {
  capacitor = record { step = reactance_step Cap (states capacitor_circuit (neg_ℤ (pos 3641) ∷ [])) (source_values capacitor_circuit (pos 0 ∷ [])) refl capacitor; after = refl; wave = refl };
  inductor = record { step = reactance_step Ind (states inductor_circuit (pos 3641 ∷ [])) (source_values inductor_circuit (pos 0 ∷ [])) refl inductor; after = refl; wave = refl };
  series = record {
    step = record {
      root = record { voltages = refl; currents = refl };
      to_left = refl;
      to_right = refl;
      left = record { drives = refl };
      right = (record { first = refl; second = refl; voltages = refl }, record { first = refl; second = refl; up = refl }, record { ohm = refl }, record { ohm = refl });
    };
    after = refl;
    wave = refl;
  };
  flipped = record {
    step = record {
      root = record { voltages = refl; currents = refl };
      to_left = refl;
      to_right = refl;
      left = record { drives = refl };
      right = record { ohm = refl };
    };
    after = refl;
    wave = refl;
  };
  reactances_load = record { step = two_reactances_step (Load 3); after = refl; wave = refl };
  reactances_source = record { step = two_reactances_step Source; after = refl; wave = refl };
  source_outlet = record { step = two_sources_step Source; after = refl; wave = refl };
  load_outlet = record { step = two_sources_step (Load 3); after = refl; wave = refl };
  port_list = refl;
  energies = record {
    stored_before = refl;
    stored_after = refl;
    taken_by_load = refl;
    taken_by_capacitor = refl;
    all_absorbed = refl;
    two_conductances = refl;
    two_incident = refl;
  };
}
