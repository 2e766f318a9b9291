-- Frames worked by hand, k = 14 and so q = 16384, against which the definitions of a step are checked.
use Rattle.std.specs.Prelude.{◌≡◌, ℤ, pos, neg_ℤ, true, false, List, [], ◌∷◌}
use Rattle.wdf_law.specs.declared.kind.Kind.{Kind}
use Rattle.wdf_law.specs.declared.kind.Kind.TheVariants.{Res, Cap, Ind, Src}
use Rattle.wdf_law.specs.declared.outlet.Outlet.{Outlet}
use Rattle.wdf_law.specs.declared.outlet.Outlet.TheVariants.{Load, Source}
use Rattle.wdf_law.specs.Trees.{leaf, series, parallel}
use Rattle.wdf_law.specs.Network.{Network}
use Rattle.wdf_law.specs.Step.{ends, forks, Frame, IsStep, after}
use Rattle.wdf_law.specs.Run.{states, source_values}
use Rattle.wdf_law.specs.OutputRule.{load_wave}
use Rattle.wdf_law.specs.Ports.{ports, source_conductance}
use Rattle.wdf_law.specs.Energy.{stored, incident, absorbed, taken}

-- these numbers are the step from the state with these values of the sources, and leave this state and wave
pub record IsWorked (n : Network) (before es : List ℤ) (s : Frame) (behind : List ℤ) (w : ℤ) : Type 0 where
  pub step : IsStep n (states n before) (source_values n es) s
  pub after : after n s ≡ behind
  pub wave : load_wave n s ≡ w

-- a source and, in parallel, a reactance and the load
abbrev pub reactance_circuit : Kind → Network
reactance_circuit kind = record {
  k = 14;
  m = 5461;
  left = leaf 0 Src false;
  right = parallel 8192 (leaf 1 kind false) (leaf 2 Res false);
  outlet = Load 2;
}

abbrev pub capacitor_circuit : Network
capacitor_circuit = reactance_circuit Cap

abbrev pub inductor_circuit : Network
inductor_circuit = reactance_circuit Ind

abbrev pub capacitor_frame : Frame
capacitor_frame = record {
  b1 = neg_ℤ (pos 39759720);
  b2 = neg_ℤ (pos 9940840);
  left = ends (pos 0) (neg_ℤ (pos 2426));
  right = forks (neg_ℤ (pos 1820)) (neg_ℤ (pos 606)) (pos 19898368) (neg_ℤ (pos 39755776)) (neg_ℤ (pos 29827072)) (ends (neg_ℤ (pos 3641)) (pos 1214)) (ends (pos 0) (neg_ℤ (pos 2426)));
}

-- a source and, in series, a resistor and the load
abbrev pub series_circuit : Network
series_circuit = record {
  k = 14;
  m = 10923;
  left = leaf 0 Src false;
  right = series 8192 (leaf 1 Res false) (leaf 2 Res false);
  outlet = Load 2;
}

abbrev pub series_frame : Frame
series_frame = record {
  b1 = pos 16386000;
  b2 = pos 65538000;
  left = ends (pos 3000) (pos 1000);
  right = forks (pos 0) (pos 4000) (pos 32768000) (pos 32768000) (pos 0) (ends (pos 0) (pos 2000)) (ends (pos 0) (pos 2000));
}

-- a source written against its place, and the load
abbrev pub flipped_source : Network
flipped_source = record { k = 14; m = 8192; left = leaf 0 Src true; right = leaf 1 Res false; outlet = Load 1 }

abbrev pub flipped_frame : Frame
flipped_frame = record {
  b1 = pos 0;
  b2 = neg_ℤ (pos 262144);
  left = ends (neg_ℤ (pos 16)) (pos 0);
  right = ends (pos 0) (neg_ℤ (pos 16));
}

-- Two sources whose numbers are against their places, source 0 flipped: it stands in the right tree, and its down
-- wave is the output.
abbrev pub two_sources : Outlet → Network
two_sources outlet = record {
  k = 14;
  m = 8192;
  left = leaf 2 Src false;
  right = series 4096 (leaf 0 Src true) (parallel 12288 (leaf 1 Ind false) (leaf 3 Res true));
  outlet = outlet;
}

abbrev pub two_sources_frame : Frame
two_sources_frame = record {
  b1 = neg_ℤ (pos 458752);
  b2 = neg_ℤ (pos 16400384);
  left = ends (neg_ℤ (pos 1001)) (neg_ℤ (pos 28));
  right = forks (neg_ℤ (pos 28)) (neg_ℤ (pos 1001)) (neg_ℤ (pos 16715776)) (pos 315392) (neg_ℤ (pos 458752))
      (ends (neg_ℤ (pos 777)) (neg_ℤ (pos 1020)))
      (forks (pos 749) (pos 19) (neg_ℤ (pos 3780608)) (pos 12587008) (pos 12275712) (ends (pos 999) (neg_ℤ (pos 230))) (ends (pos 0) (pos 768)));
}

-- a source and, in series, a capacitor against its place and an inductor and a load in parallel; in the tree the
-- capacitor, element 2, stands before the inductor, element 1
abbrev pub two_reactances : Outlet → Network
two_reactances outlet = record {
  k = 14;
  m = 8192;
  left = leaf 0 Src false;
  right = series 4096 (leaf 2 Cap true) (parallel 12288 (leaf 1 Ind false) (leaf 3 Res true));
  outlet = outlet;
}

abbrev pub two_reactances_frame : Frame
two_reactances_frame = record {
  b1 = neg_ℤ (pos 12337152);
  b2 = pos 12730368;
  left = ends (pos 777) (neg_ℤ (pos 753));
  right = forks (neg_ℤ (pos 753)) (pos 777) (pos 6217728) (pos 6512640) (neg_ℤ (pos 12337152))
      (ends (neg_ℤ (pos 3)) (pos 379))
      (forks (neg_ℤ (pos 750)) (pos 397) (pos 10600448) (neg_ℤ (pos 5783552)) (neg_ℤ (pos 12288000)) (ends (neg_ℤ (pos 1000)) (pos 647)) (ends (pos 0) (neg_ℤ (pos 353))));
}

-- the energies of these frames, as products of a conductance and the square of a wave
pub record AreWeighed : Type 0 where
  -- 89481216·3641² before the capacitor's frame and 89481216·1214² after it
  pub stored_before : stored capacitor_circuit (neg_ℤ (pos 3641) ∷ []) ≡ 1186241832247296
  pub stored_after : stored capacitor_circuit (after capacitor_circuit capacitor_frame) ≡ 131877058215936
  -- 89481216·2426² at the load, and with 89473024·2426² at the source
  pub taken_by_load : taken capacitor_circuit 2 capacitor_frame ≡ 526639549218816
  pub taken_by_capacitor : taken capacitor_circuit 1 capacitor_frame ≡ 0
  pub all_absorbed : absorbed capacitor_circuit capacitor_frame ≡ 1053230884618240
  -- 27021597764222976·777² + 6755399441055744·1001² at two sources
  pub two_conductances : source_conductance (two_sources Source) ≡ 33776997205278720
  pub two_incident : incident (two_sources Source) (source_values (two_sources Source) (pos 777 ∷ neg_ℤ (pos 1001) ∷ [])) ≡ 23082639191933869621248

-- all of them
pub record AreWorked : Type 0 where
  -- the capacitor's state is the down wave of the frame before
  pub capacitor : IsWorked capacitor_circuit (neg_ℤ (pos 3641) ∷ []) (pos 0 ∷ []) capacitor_frame (pos 1214 ∷ []) (neg_ℤ (pos 2426))
  -- with this state an inductor reflects what the capacitor does, so every number is the same
  pub inductor : IsWorked inductor_circuit (pos 3641 ∷ []) (pos 0 ∷ []) capacitor_frame (pos 1214 ∷ []) (neg_ℤ (pos 2426))
  pub series : IsWorked series_circuit [] (pos 3000 ∷ []) series_frame [] (pos 2000)
  pub flipped : IsWorked flipped_source [] (pos 16 ∷ []) flipped_frame [] (neg_ℤ (pos 16))
  -- the states are listed by the elements' numbers, and not in the order of the tree
  pub reactances_load : IsWorked (two_reactances (Load 3)) (pos 1000 ∷ neg_ℤ (pos 3) ∷ []) (pos 777 ∷ []) two_reactances_frame (pos 647 ∷ pos 379 ∷ []) (pos 353)
  pub reactances_source : IsWorked (two_reactances Source) (pos 1000 ∷ neg_ℤ (pos 3) ∷ []) (pos 777 ∷ []) two_reactances_frame (pos 647 ∷ pos 379 ∷ []) (neg_ℤ (pos 753))
  -- the down wave at source 0 is -1020
  pub source_outlet : IsWorked (two_sources Source) (neg_ℤ (pos 999) ∷ []) (pos 777 ∷ neg_ℤ (pos 1001) ∷ []) two_sources_frame (neg_ℤ (pos 230) ∷ []) (pos 1020)
  pub load_outlet : IsWorked (two_sources (Load 3)) (neg_ℤ (pos 999) ∷ []) (pos 777 ∷ neg_ℤ (pos 1001) ∷ []) two_sources_frame (neg_ℤ (pos 230) ∷ []) (neg_ℤ (pos 768))
  -- the source's port, the capacitor's and the load's: 16384·89473024 = 5461·(89473024 + 178962432) at the root, and
  -- 178962432 = 89481216 + 89481216 at the junction
  pub port_list : ports capacitor_circuit capacitor_frame ≡
      record { element = record { number = 0; kind = Src; flip = false }; conductance = 89473024; up = pos 0; down = neg_ℤ (pos 2426) }
      ∷ record { element = record { number = 1; kind = Cap; flip = false }; conductance = 89481216; up = neg_ℤ (pos 3641); down = pos 1214 }
      ∷ record { element = record { number = 2; kind = Res; flip = false }; conductance = 89481216; up = pos 0; down = neg_ℤ (pos 2426) }
      ∷ []
  pub energies : AreWeighed
