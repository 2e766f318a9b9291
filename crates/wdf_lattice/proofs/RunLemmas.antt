-- Solved runs grow at their end.
use Rattle.std.proofs.Common.{◌≡◌, ℕ, suc, ℤ, pos, ◌+◌, ◌<◌, List, [], ◌∷◌, ◌++◌, length, get_or, refl, sym, ap, ◌∙◌}
use Rattle.std.proofs.lemmas.List.{map-append, length-map, get_or_append_left, get_or-append-add}
use Rattle.wdf_law.specs.Network.{Network}
use Rattle.wdf_law.specs.Step.{Frame, after}
use Rattle.wdf_law.specs.Run.{states, at_end}
use Rattle.wdf_law.specs.OutputRule.{load_wave}
use Rattle.wdf_law.specs.RunOutputs.{load_waves}
use Rattle.wdf_law.specs.Solved.{solved, solved_run}
use Rattle.wdf_lattice.specs.Waves.{wave_in}

pub run-append : (n : Network) (zs : List ℤ) (es fs : List (ℕ → ℤ))
    → solved_run n zs (es ++ fs) ≡ solved_run n zs es ++ solved_run n (at_end n zs (solved_run n zs es)) fs
run-append n zs [] fs = refl
run-append n zs (e ∷ es) fs = let s = solved n (states n zs) e in ap (λ (ss : List Frame). s ∷ ss) (run-append n (after n s) es fs)

pub end-append : (n : Network) (zs : List ℤ) (es fs : List (ℕ → ℤ))
    → at_end n zs (solved_run n zs (es ++ fs)) ≡ at_end n (at_end n zs (solved_run n zs es)) (solved_run n (at_end n zs (solved_run n zs es)) fs)
end-append n zs [] fs = refl
end-append n zs (e ∷ es) fs = end-append n (after n (solved n (states n zs) e)) es fs

pub length-run : (n : Network) (zs : List ℤ) (es : List (ℕ → ℤ)) → length (solved_run n zs es) ≡ length es
length-run n zs [] = refl
length-run n zs (e ∷ es) = ap suc (length-run n (after n (solved n (states n zs) e)) es)

-- the load waves of the front
pub wave_in-front : (n : Network) (xs ys : List Frame) (frame : ℕ) → frame < length xs → wave_in n (xs ++ ys) frame ≡ wave_in n xs frame
wave_in-front n xs ys frame inside =
    ap (λ (ws : List ℤ). get_or ws frame (pos 0)) (map-append (load_wave n) xs ys)
    ∙ get_or_append_left (load_waves n xs) (load_waves n ys) (pos 0) frame (rw length-map inside)

-- and of what follows
pub wave_in-behind : (n : Network) (xs ys : List Frame) (frame : ℕ) → wave_in n (xs ++ ys) (length xs + frame) ≡ wave_in n ys frame
wave_in-behind n xs ys frame =
    ap (λ (ws : List ℤ). get_or ws (length xs + frame) (pos 0)) (map-append (load_wave n) xs ys)
    ∙ ap (λ (k : ℕ). get_or (load_waves n xs ++ load_waves n ys) (k + frame) (pos 0)) (sym (length-map xs (load_wave n)))
    ∙ get_or-append-add (load_waves n xs) (load_waves n ys) frame (pos 0)
