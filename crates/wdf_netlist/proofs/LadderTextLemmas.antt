-- The canonical text of a ladder stands for it.
use Rattle.std.proofs.Common.{◌≡◌, ℕ, ◌+◌, ◌<◌, ◌≤◌, Bool, true, false, cond, List, [], ◌∷◌, ◌++◌, length, get_or, Option, Some, None, Result, Ok, refl, sym, ap, ◌∙◌, subst, arith, append_assoc, append-nil}
use Rattle.std.specs.Prelude.{All, codes, decimal, is_some, option_map, slice_get}
use Rattle.std.proofs.lemmas.Bool.{cond-false}
use Rattle.std.proofs.lemmas.List.{length-map}
use Rattle.std.proofs.lemmas.List.Elements.{All-append, All-cons, All-map}
use Rattle.std.proofs.lemmas.List.Sums.{sum_by-cons}
use Rattle.std.proofs.lemmas.Option.{slice_get_within}
use Rattle.wdf_text.specs.Names.{is_name}
use Rattle.wdf_law.specs.Network.{is_source}
use Rattle.wdf_law.specs.declared.kind.Kind.{Kind}
use Rattle.wdf_law.specs.declared.kind.Kind.TheVariants.{Res}
use Rattle.wdf_law.specs.declared.outlet.Outlet.TheVariants as outlets
use Rattle.wdf_netlist.specs.declared.TheConstants.{MAX_RATE}
use Rattle.wdf_netlist.specs.declared.element.Element.{Element}
use Rattle.wdf_netlist.specs.declared.form.Form.TheVariants.{Ladder}
use Rattle.wdf_netlist.specs.declared.net_fault.NetFault.{NetFault}
use Rattle.wdf_netlist.specs.declared.part.Part.{Part}
use Rattle.wdf_netlist.specs.declared.root_choice.RootChoice.{RootChoice}
use Rattle.wdf_netlist.specs.declared.root_choice.RootChoice.TheVariants as roots
use Rattle.wdf_netlist.specs.Canonical.{Words, canonical, lines_text, load_lines, netlist_lines, root_lines}
use Rattle.wdf_netlist.specs.Circuits.{CircuitValue, HasOutlet, HasRoot, IsCircuit, kind_at, names}
use Rattle.wdf_netlist.specs.Kept.{KeepsParts}
use Rattle.wdf_netlist.specs.Lines.{Line}
use Rattle.wdf_netlist.specs.LineRules.{◌>>=◌, count_parts, has_source, in_circuit, in_lattice}
use Rattle.wdf_netlist.specs.Netlists.{IsLadder}
use Rattle.wdf_netlist.specs.NetlistText.{all_said, meaning}
use Rattle.wdf_netlist.specs.Statements.{Statement, first_said, last_circuit, load, load_said, names_of, rate, root_said, termination_said}
use Rattle.wdf_netlist.specs.TextRules.{circuit_of, netlist_said}
use Rattle.wdf_netlist.proofs.FollowLemmas.{follow_each}
use Rattle.wdf_netlist.proofs.LadderBackLemmas.{IsNamedRoot, elements_first, elements_no_branch, first_said_line, ladder_means, last_all, lines_behind, lines_named, root_statements, roots_said}
use Rattle.wdf_netlist.proofs.LineBackLemmas.{IsPlainLine, line_at, lines_at, lines_back}
use Rattle.wdf_netlist.proofs.NameLemmas.{and_false}
use Rattle.wdf_netlist.proofs.NodeBackLemmas.{circuit_back, kinds_named, named, names_named, parts_kept, parts_named}
use Rattle.wdf_netlist.proofs.PlainLemmas.{IsPrintable, plain_name, plain_one, plain_parts, plain_rate, plain_two}
use Rattle.wdf_netlist.proofs.StatementBackLemmas.{MayFollowEach, MayStand, elements_of, load_said_at, mention_at, name_test, part_lines, parts_said, rate_said_at, two_words}

-- ---- names of elements

-- what holds of a root that is there
pub root_named : (elements : List Element) (choice : RootChoice) → HasRoot elements choice → All (λ (name : List ℕ). is_name name ≡ true) (names elements) → IsNamedRoot (names elements) choice
root_named elements roots.Source has all = tt
root_named elements (roots.Element i) has all = let within : i < length (names elements) = omega (arith, length-map elements (λ (e : Element). e.name)) in (within, all i [] within)
root_named elements roots.Shallow has all = tt

pub plain_roots : (elements : List Element) (choice : RootChoice) → IsNamedRoot (names elements) choice → All IsPlainLine (root_lines elements choice)
plain_roots elements roots.Source named = λ k d within. absurd (omega arith)
plain_roots elements (roots.Element i) (within, named) =
    All-cons IsPlainLine (two_words (codes "root") (get_or (names elements) i [])) [] (plain_two (codes "root") (get_or (names elements) i []) refl refl (plain_name (get_or (names elements) i []) named)) (λ k d less. absurd (omega arith))
plain_roots elements roots.Shallow named = All-cons IsPlainLine (record { first = codes "shallow"; rest = [] }) [] (plain_one (codes "shallow") refl refl) (λ k d less. absurd (omega arith))

pub printable : (ps : List Part) → KeepsParts ps → All (λ (p : Part). is_name p.name ≡ true) ps → All IsPrintable ps
printable ps k all i d within =
    record {
      named = all i d within;
      from_named = name_test (get_or ps i d).from (k.from_named i d within);
      to_named = name_test (get_or ps i d).to (k.to_named i d within);
      value = k.values i d within;
    }

-- a source that is counted is there
counted_source : (ps : List Part) → 1 ≤ count_parts is_source ps → has_source ps ≡ true
counted_source [] some = absurd (omega arith)
counted_source (p ∷ ps) some = by (is_source p.kind) refl (counted_source ps)
  where
    count : count_parts is_source (p ∷ ps) ≡ cond (is_source p.kind) 1 0 + count_parts is_source ps
    count = sum_by-cons (λ (q : Part). cond (is_source q.kind) 1 0) p ps

    by : (t : Bool) → is_source p.kind ≡ t → (1 ≤ count_parts is_source ps → has_source ps ≡ true) → has_source (p ∷ ps) ≡ true
    by true e more = rw e refl
    by false e more = rw e (more (omega (arith, count, cond-false {A = ℕ} (is_source p.kind) 1 0 e)))

kind_within : (elements : List Element) (i : ℕ) (k : Kind) → kind_at elements i ≡ Some k → i < length elements
kind_within elements i k is = by (slice_get elements i) refl is
  where
    by : (o : Option Element) → slice_get elements i ≡ o → option_map (λ (e : Element). e.kind) o ≡ Some k → i < length elements
    by None e there = absurd (cc)
    by (Some x) e there = slice_get_within elements i x e

-- ---- the lines of a ladder

abbrev ladder_text_lines : ℕ → List Part → List ℕ → List Words → List Words
ladder_text_lines n ps loaded roots = two_words (codes "rate") (decimal n) ∷ (part_lines false ps ++ (two_words (codes "load") loaded ∷ roots))

-- what they say
ladder_lines_said : (n : ℕ) (ps : List Part) (loaded : List ℕ) (elements : List Element) (choice : RootChoice) → 1 ≤ n → n ≤ MAX_RATE → MayFollowEach [] false ps → is_name loaded ≡ true
    → IsNamedRoot (names elements) choice →
    let k = 2 + length (part_lines false ps) in
    all_said [] (lines_at (ladder_text_lines n ps loaded (root_lines elements choice)) 1)
    ≡ Ok (rate n ∷ (elements_of ps ++ (load (mention_at (codes "load") loaded k) ∷ root_statements (names elements) choice (k + 1))))
ladder_lines_said n ps loaded elements choice some few each named chosen =
    let k = 2 + length (part_lines false ps) in
    let m = mention_at (codes "load") loaded k in
    let begun : List Statement = rate n ∷ [] in
    let before : List Statement = rate n ∷ elements_of ps in
    let behind : List Statement = rate n ∷ (elements_of ps ++ load m ∷ []) in
    let roots = root_lines elements choice in
    let last = lines_at (two_words (codes "load") loaded ∷ roots) k in
    let stands : MayStand begun false false = record { circuit = refl; form = refl; source = refl } in
    let ladder : in_lattice before ≡ false = ap (λ (ss : List Statement). is_some (first_said termination_said ss)) (sym (append-nil (elements_of ps))) ∙ ap is_some (elements_first termination_said ps [] (λ p. refl)) in
    let unloaded : first_said load_said before ≡ None = ap (first_said load_said) (sym (append-nil (elements_of ps))) ∙ elements_first load_said ps [] (λ p. refl) in
    let form : in_lattice behind ≡ false = ap is_some (elements_first termination_said ps (load m ∷ []) (λ p. refl)) in
    let circuit : in_circuit behind ≡ true = rw form refl in
    let rootless : first_said root_said (last_circuit behind) ≡ None = ap (first_said root_said) (last_all behind (elements_no_branch ps (load m ∷ []))) ∙ elements_first root_said ps (load m ∷ []) (λ p. refl) in
    first_said_line [] (line_at (two_words (codes "rate") (decimal n)) 1) (lines_at (part_lines false ps ++ (two_words (codes "load") loaded ∷ roots)) 2) (rate n) (rate_said_at n 1 some few)
    ∙ ap (all_said begun) (lines_behind (part_lines false ps) (two_words (codes "load") loaded ∷ roots) 2)
    ∙ parts_said begun false false ps 2 last stands each
    ∙ first_said_line before (line_at (two_words (codes "load") loaded) k) (lines_at roots (k + 1)) (load m) (load_said_at before loaded k ladder unloaded named)
    ∙ ap (all_said behind) (sym (append-nil (lines_at roots (k + 1))))
    ∙ roots_said behind elements choice (k + 1) [] circuit rootless chosen
    ∙ ap (λ (ss : List Statement). Ok (rate n ∷ ss)) (append_assoc (elements_of ps) (load m ∷ []) (root_statements (names elements) choice (k + 1)))

-- ---- the text

pub record IsLadderText (c : CircuitValue) (i : ℕ) : Type 0 where
  pub load : c.outlet ≡ outlets.Load i
  pub resistor : kind_at c.elements i ≡ Some Res
  pub within : i < length (names c.elements)
  pub named_load : is_name (get_or (names c.elements) i []) ≡ true
  pub named_parts : All (λ (p : Part). is_name p.name ≡ true) (parts_named c)
  pub chosen : IsNamedRoot (names c.elements) c.root

ladder_text : (c : CircuitValue) (l : IsLadder c) → IsCircuit c → IsLadderText c l.number
ladder_text c l k =
    let elements = c.elements in
    let resistor : kind_at elements l.number ≡ Some Res = subst (HasOutlet elements) l.load k.outlet in
    let all : All (λ (name : List ℕ). is_name name ≡ true) (names elements) =
    All-map (λ (name : List ℕ). is_name name ≡ true) (λ (e : Element). e.name) elements (λ j d within. name_test (get_or elements j d).name (l.named j d within)) in
    let within : l.number < length (names elements) = omega (arith, length-map elements (λ (e : Element). e.name), kind_within elements l.number Res resistor) in
    record {
      load = l.load;
      resistor = resistor;
      within = within;
      named_load = all l.number [] within;
      named_parts = All-map (λ (p : Part). is_name p.name ≡ true) (named c.nodes) elements (λ j d less. name_test (get_or elements j d).name (l.named j d less));
      chosen = root_named elements c.root k.root all;
    }

ladder_written : (n : ℕ) (c : CircuitValue) (i : ℕ) → IsLadderText c i → netlist_lines (record { rate = n; form = Ladder c }) ≡ ladder_text_lines n (parts_named c) (get_or (names c.elements) i []) (root_lines c.elements c.root)
ladder_written n c i t j = two_words (codes "rate") (decimal n) ∷ (lines_named c.nodes false c.elements j ++ (load_lines c.elements (t.load j) ++ root_lines c.elements c.root))

ladder_lines_plain : (n : ℕ) (c : CircuitValue) (i : ℕ) → 1 ≤ n → n ≤ MAX_RATE → IsLadderText c i → IsCircuit c
    → All IsPlainLine (ladder_text_lines n (parts_named c) (get_or (names c.elements) i []) (root_lines c.elements c.root))
ladder_lines_plain n c i some few t k =
    let ps = parts_named c in
    let loaded = get_or (names c.elements) i [] in
    let roots = root_lines c.elements c.root in
    let load_line = two_words (codes "load") loaded in
    All-cons IsPlainLine (two_words (codes "rate") (decimal n)) (part_lines false ps ++ (load_line ∷ roots)) (plain_two (codes "rate") (decimal n) refl refl (plain_rate n some few))
    (All-append IsPlainLine (part_lines false ps) (load_line ∷ roots) (plain_parts false ps (printable ps (parts_kept c k) t.named_parts))
    (All-cons IsPlainLine load_line roots (plain_two (codes "load") loaded refl refl (plain_name loaded t.named_load)) (plain_roots c.elements c.root t.chosen)))

pub ladder_plain : (n : ℕ) (c : CircuitValue) → 1 ≤ n → n ≤ MAX_RATE → IsLadder c → IsCircuit c → All IsPlainLine (netlist_lines (record { rate = n; form = Ladder c }))
ladder_plain n c some few l k = let t = ladder_text c l k in subst (All IsPlainLine) (sym (ladder_written n c l.number t)) (ladder_lines_plain n c l.number some few t k)

pub ladder_round : (n : ℕ) (c : CircuitValue) → 1 ≤ n → n ≤ MAX_RATE → IsLadder c → IsCircuit c → meaning (canonical (record { rate = n; form = Ladder c })) ≡ Ok (record { rate = n; form = Ladder c })
ladder_round n c some few l k =
    let i = l.number in
    let t = ladder_text c l k in
    let elements = c.elements in
    let ps = parts_named c in
    let kept = parts_kept c k in
    let same = names_named c.nodes elements in
    let loaded = get_or (names elements) i [] in
    let each = follow_each [] ps false kept (λ j d less. record { named = t.named_parts j d less; source = and_false (is_source (get_or ps j d).kind) }) in
    let lines = ladder_text_lines n ps loaded (root_lines elements c.root) in
    let line = 2 + length (part_lines false ps) in
    let source : has_source ps ≡ true = counted_source ps (omega (arith, kinds_named is_source c.nodes elements, k.fewest_sources)) in
    let within : i < length (names_of ps) = subst (λ (xs : List (List ℕ)). i < length xs) (sym same) t.within in
    let chosen : IsNamedRoot (names_of ps) c.root = subst (λ (xs : List (List ℕ)). IsNamedRoot xs c.root) (sym same) t.chosen in
    ap (λ (ls : List Words). meaning (lines_text ls)) (ladder_written n c i t)
    ∙ ap (λ (ls : List Line). all_said [] ls >>= λ (ss : List Statement). netlist_said ss) (lines_back lines (ladder_lines_plain n c i some few t k))
    ∙ ap (λ (r : Result (List Statement) NetFault). r >>= λ (ss : List Statement). netlist_said ss) (ladder_lines_said n ps loaded elements c.root some few each t.named_load t.chosen)
    ∙ (λ j. netlist_said (rate n ∷ (elements_of ps ++ (load (mention_at (codes "load") (get_or (sym same j) i []) line) ∷ root_statements (sym same j) c.root (line + 1)))))
    ∙ ladder_means n c.nodes elements i c.root line (line + 1) kept.distinct source t.resistor within chosen
    ∙ (λ j. Ok (record { rate = n; form = Ladder (circuit_of ps (sym l.load j) c.root) }))
    ∙ ap (λ (x : CircuitValue). Ok (record { rate = n; form = Ladder x })) (circuit_back c k)
