-- The canonical text of a lattice stands for it.
use Rattle.std.proofs.Common.{◌≡◌, ◌≢◌, ℕ, zero, suc, ◌+◌, ◌<◌, ◌≤◌, Bool, true, false, not, ◌&&◌, List, [], ◌∷◌, ◌++◌, length, get_or, map, Option, Some, None, Result, Ok, refl, sym, ap, ◌∙◌, subst, arith, append_assoc, append-nil}
use Rattle.std.specs.Prelude.{All, IsTrue, bytes_eq, codes, decimal, is_some, nat_le, ◌==◌, slice_get}
use Rattle.std.specs.List.{list_any}
use Rattle.std.proofs.lemmas.Bool.{cond-true, le-leb, or_parts, or_right}
use Rattle.std.proofs.lemmas.List.{length-map}
use Rattle.std.proofs.lemmas.List.Elements.{All-append, All-cons, All-map, All-tail}
use Rattle.std.proofs.lemmas.Option.{slice_get-get_or}
use Rattle.wdf_text.specs.DecimalNumber.{DecimalNumber}
use Rattle.wdf_text.specs.Names.{at_sign, is_name, is_name_or_at_sign}
use Rattle.wdf_law.specs.Network.{is_source}
use Rattle.wdf_law.specs.declared.outlet.Outlet.TheVariants as outlets
use Rattle.wdf_netlist.specs.declared.TheConstants.{MAX_RATE}
use Rattle.wdf_netlist.specs.declared.element.Element.{Element}
use Rattle.wdf_netlist.specs.declared.form.Form.TheVariants.{Lattice}
use Rattle.wdf_netlist.specs.declared.net_fault.NetFault.{NetFault}
use Rattle.wdf_netlist.specs.declared.net_kind.NetKind.TheVariants as kinds
use Rattle.wdf_netlist.specs.declared.part.Part.{Part}
use Rattle.wdf_netlist.specs.declared.root_choice.RootChoice.{RootChoice}
use Rattle.wdf_netlist.specs.declared.root_choice.RootChoice.TheVariants as roots
use Rattle.wdf_netlist.specs.Canonical.{Words, branch_lines, canonical, element_lines, netlist_lines, node_name, root_lines, value_text}
use Rattle.wdf_netlist.specs.Circuits.{AreDistinct, CircuitValue, HasRoot, IsCircuit, IsElementValue, names, sources}
use Rattle.wdf_netlist.specs.Kept.{KeepsParts}
use Rattle.wdf_netlist.specs.Lines.{Line}
use Rattle.wdf_netlist.specs.LineRules.{◌>>=◌, has_source, in_circuit, in_lattice, is_next_letter, own_parts, termination}
use Rattle.wdf_netlist.specs.Netlists.{IsBranch, NetlistValue, branch_source}
use Rattle.wdf_netlist.specs.NetlistText.{all_said, meaning}
use Rattle.wdf_netlist.specs.Statements.{Statement, branch, branch_part, branches, element, first_branch, first_said, is_branch, last_circuit, lattice, names_of, parts_of, rate, root_said, termination_said, up_to_branch}
use Rattle.wdf_netlist.specs.TextRules.{branch_of, branch_said, has_element, needed, netlist_said}
use Rattle.wdf_netlist.proofs.FollowLemmas.{IsSaid, follow_each}
use Rattle.wdf_netlist.proofs.LadderBackLemmas.{IsNamedRoot, elements_first, elements_no_branch, elements_parts, first_said_line, lines_behind, lines_named, root_back, root_statements, roots_said}
use Rattle.wdf_netlist.proofs.LadderTextLemmas.{plain_roots}
use Rattle.wdf_netlist.proofs.LineBackLemmas.{IsPlainLine, line_at, lines_at, lines_back}
use Rattle.wdf_netlist.proofs.NameLemmas.{differ_bytes, same_name}
use Rattle.wdf_netlist.proofs.NodeBackLemmas.{circuit_back, named, names_named, parts_kept, parts_named}
use Rattle.wdf_netlist.proofs.PlainLemmas.{IsPrintable, plain_branch, plain_parts, plain_rate, plain_two, plain_value}
use Rattle.wdf_netlist.proofs.SourceLemmas.{numbers_are, numbers_from}
use Rattle.wdf_netlist.proofs.StatementBackLemmas.{MayFollowEach, MayStand, branch_said_at, elements_of, lattice_said_at, name_test, part_lines, parts_said, rate_said_at, two_words}
use Rattle.wdf_netlist.proofs.StatementLemmas.{branches_more, branches_same, last_begun, last_same, said_same}

-- ---- a branch by its source and its other elements

abbrev pub branch_with : DecimalNumber → List (List ℕ) → List Element → RootChoice → CircuitValue
branch_with v nodes rest choice = record { elements = branch_source v ∷ rest; nodes = nodes; outlet = outlets.Source; root = choice }

pub record IsBranchWith (v : DecimalNumber) (c : CircuitValue) : Type 0 where
  rest : List Element
  is : c ≡ branch_with v c.nodes rest c.root

branch_is : (v : DecimalNumber) (c : CircuitValue) → IsBranch v c → IsBranchWith v c
branch_is v c b = by c.elements refl b.source
  where
    by : (elements : List Element) → c.elements ≡ elements → slice_get elements 0 ≡ Some (branch_source v) → IsBranchWith v c
    by [] e there = absurd (cc)
    by (x ∷ xs) e there =
        let first : x ≡ branch_source v = cc in
        record { rest = xs; is = (λ i. record { elements = e i; nodes = c.nodes; outlet = b.outlet i; root = c.root }) ∙ ap (λ (y : Element). record { elements = y ∷ xs; nodes = c.nodes; outlet = outlets.Source; root = c.root }) first }

-- the others are no sources
not_counted : (n : ℕ) (elements : List Element) → numbers_from is_source n elements ≡ [] → All (λ (e : Element). is_source e.kind ≡ false) elements
not_counted n [] none = λ k d within. absurd (omega arith)
not_counted n (e ∷ es) none = by (is_source e.kind) refl (not_counted (n + 1) es)
  where
    by : (t : Bool) → is_source e.kind ≡ t → (numbers_from is_source (n + 1) es ≡ [] → All (λ (x : Element). is_source x.kind ≡ false) es) → All (λ (x : Element). is_source x.kind ≡ false) (e ∷ es)
    by true is more = let some : numbers_from is_source n (e ∷ es) ≡ n ∷ numbers_from is_source (n + 1) es = rw is refl in let bad : n ∷ numbers_from is_source (n + 1) es ≡ [] = sym some ∙ none in absurd (cc)
    by false is more =
        let later : numbers_from is_source n (e ∷ es) ≡ numbers_from is_source (n + 1) es = rw is refl in
        All-cons (λ (x : Element). is_source x.kind ≡ false) e es is (more (sym later ∙ none))

others_no_source : (v : DecimalNumber) (rest : List Element) → sources (branch_source v ∷ rest) ≡ 0 ∷ [] → All (λ (e : Element). is_source e.kind ≡ false) rest
others_no_source v rest one =
    let counted : 0 ∷ numbers_from is_source (0 + 1) rest ≡ 0 ∷ [] = sym (numbers_are is_source (branch_source v ∷ rest)) ∙ one in
    let none : numbers_from is_source (0 + 1) rest ≡ [] = cc in
    not_counted (0 + 1) rest none

-- they have names of a text, since `@` is taken
others_named : (v : DecimalNumber) (rest : List Element) → AreDistinct (names (branch_source v ∷ rest)) → All (λ (e : Element). IsTrue (is_name_or_at_sign e.name)) rest → All (λ (name : List ℕ). is_name name ≡ true) (names rest)
others_named v rest distinct all = All-by
  where
    listed : All (λ (name : List ℕ). is_name_or_at_sign name ≡ true) (names rest)
    listed = All-map (λ (name : List ℕ). is_name_or_at_sign name ≡ true) (λ (e : Element). e.name) rest all

    by : (k : ℕ) (name : List ℕ) (t : Bool) → slice_get (names rest) k ≡ Some name → is_name_or_at_sign name ≡ true → is_name name ≡ t → is_name name ≡ true
    by k name true there good is = is
    by k name false there good is =
        let at : bytes_eq name at_sign ≡ true = sym (let h : is_name_or_at_sign name ≡ bytes_eq name at_sign = rw is refl in h) ∙ good in
        let same : name ≡ at_sign = same_name name at_sign at in
        let bad : 0 ≡ suc k = distinct 0 (suc k) at_sign refl (there ∙ ap (λ (n : List ℕ). Some n) same) in
        absurd (omega arith)

    All-by : All (λ (name : List ℕ). is_name name ≡ true) (names rest)
    All-by k d within = by k (get_or (names rest) k d) (is_name (get_or (names rest) k d)) (slice_get-get_or (names rest) k d within) (listed k d within) refl

-- ---- the statements of a branch

-- no branch line among these
said_elements : {A : Type 0} (said : Statement → Option A) (before : List Statement) (ps : List Part) → ((p : Part) → said (element p) ≡ None) → first_said said (before ++ elements_of ps) ≡ first_said said before
said_elements said before [] none = ap (first_said said) (append-nil before)
said_elements said before (p ∷ ps) none =
    ap (first_said said) (sym (append_assoc before (element p ∷ []) (elements_of ps))) ∙ said_elements said (before ++ element p ∷ []) ps none ∙ said_same said before (element p) (none p)

last_elements : (before : List Statement) (ps : List Part) → last_circuit (before ++ elements_of ps) ≡ last_circuit before ++ elements_of ps
last_elements before [] = ap last_circuit (append-nil before) ∙ sym (append-nil (last_circuit before))
last_elements before (p ∷ ps) =
    ap last_circuit (sym (append_assoc before (element p ∷ []) (elements_of ps)))
    ∙ last_elements (before ++ element p ∷ []) ps
    ∙ ap (λ (ss : List Statement). ss ++ elements_of ps) (last_same before (element p) refl)
    ∙ append_assoc (last_circuit before) (element p ∷ []) (elements_of ps)

count_elements : (before : List Statement) (ps : List Part) → 1 ≤ branches before → 1 ≤ branches (before ++ elements_of ps)
count_elements before [] some = subst (λ (ss : List Statement). 1 ≤ branches ss) (sym (append-nil before)) some
count_elements before (p ∷ ps) some =
    subst (λ (ss : List Statement). 1 ≤ branches ss) (append_assoc before (element p ∷ []) (elements_of ps))
    (count_elements (before ++ element p ∷ []) ps (omega (arith, branches_same before (element p) refl)))

roots_no_branch : (listed : List (List ℕ)) (choice : RootChoice) (line : ℕ) → list_any is_branch (root_statements listed choice line) ≡ false
roots_no_branch listed roots.Source line = refl
roots_no_branch listed (roots.Element i) line = refl
roots_no_branch listed roots.Shallow line = refl

roots_no_part : (listed : List (List ℕ)) (choice : RootChoice) (line : ℕ) → parts_of (root_statements listed choice line) ≡ []
roots_no_part listed roots.Source line = refl
roots_no_part listed (roots.Element i) line = refl
roots_no_part listed roots.Shallow line = refl

-- the statements behind a branch line
abbrev pub inner : List Part → List (List ℕ) → RootChoice → ℕ → List Statement
inner ps listed choice line = elements_of ps ++ root_statements listed choice line

inner_no_branch : (ps : List Part) (listed : List (List ℕ)) (choice : RootChoice) (line : ℕ) → list_any is_branch (inner ps listed choice line) ≡ false
inner_no_branch ps listed choice line = elements_no_branch ps (root_statements listed choice line) ∙ roots_no_branch listed choice line

-- ---- what the lines of a branch say

pub record IsBranchText (v : DecimalNumber) (nodes : List (List ℕ)) (rest : List Element) (choice : RootChoice) : Type 0 where
  kept : KeepsParts (branch_part (node_name nodes 0) (node_name nodes 1) v ∷ map (named nodes) rest)
  named_parts : All (λ (p : Part). is_name p.name ≡ true) (map (named nodes) rest)
  alone : All (λ (p : Part). is_source p.kind ≡ false) (map (named nodes) rest)
  chosen : IsNamedRoot (names (branch_source v ∷ rest)) choice

branch_text : (v : DecimalNumber) (nodes : List (List ℕ)) (rest : List Element) (choice : RootChoice) → IsCircuit (branch_with v nodes rest choice) → IsBranch v (branch_with v nodes rest choice) → IsBranchText v nodes rest choice
branch_text v nodes rest choice k b =
    let listed = others_named v rest k.distinct (All-tail (λ (e : Element). IsTrue (is_name_or_at_sign e.name)) (branch_source v) rest k.named) in
    record {
      kept = parts_kept (branch_with v nodes rest choice) k;
      named_parts = subst (λ (xs : List (List ℕ)). All (λ (name : List ℕ). is_name name ≡ true) xs → All (λ (p : Part). is_name p.name ≡ true) (map (named nodes) rest)) (names_named nodes rest)
          (unmap (map (named nodes) rest)) listed;
      alone = All-map (λ (p : Part). is_source p.kind ≡ false) (named nodes) rest (others_no_source v rest b.one_source);
      chosen = by choice b.root k.root listed;
    }
  where
    unmap : (ps : List Part) → All (λ (name : List ℕ). is_name name ≡ true) (names_of ps) → All (λ (p : Part). is_name p.name ≡ true) ps
    unmap [] all = λ j d within. absurd (omega arith)
    unmap (p ∷ ps) all = All-cons (λ (q : Part). is_name q.name ≡ true) p ps (all 0 p.name (omega arith)) (unmap ps (All-tail (λ (name : List ℕ). is_name name ≡ true) p.name (names_of ps) all))

    by : (r : RootChoice) → r ≢ roots.Element 0 → HasRoot (branch_source v ∷ rest) r → All (λ (name : List ℕ). is_name name ≡ true) (names rest) → IsNamedRoot (names (branch_source v ∷ rest)) r
    by roots.Source other has all = tt
    by roots.Shallow other has all = tt
    by (roots.Element zero) other has all = absurd (other refl)
    by (roots.Element (suc j)) other has all = let within : j < length (names rest) = omega (arith, length-map rest (λ (e : Element). e.name)) in (omega arith, all j [] within)

pub branch_lines_said : (before : List Statement) (letter : List ℕ) (v : DecimalNumber) (nodes : List (List ℕ)) (rest : List Element) (choice : RootChoice) (line : ℕ) (more : List Line)
    → IsBranchText v nodes rest choice → in_lattice before ≡ true → is_next_letter (branches before) letter ≡ true → termination before ≡ v →
    let ps = map (named nodes) rest in
    all_said before (lines_at (branch_lines letter (branch_with v nodes rest choice)) line ++ more)
    ≡ all_said (before ++ (branch (branch_part (node_name nodes 0) (node_name nodes 1) v) ∷ inner ps (names (branch_source v ∷ rest)) choice (line + 1 + length (part_lines true ps)))) more
branch_lines_said before letter v nodes rest choice line more t form next is =
    let ps = map (named nodes) rest in
    let elements = branch_source v ∷ rest in
    let from = node_name nodes 0 in
    let to = node_name nodes 1 in
    let p : Part = branch_part from to v in
    let k = line + 1 + length (part_lines true ps) in
    let words : Words = record { first = codes "branch"; rest = letter ∷ from ∷ to ∷ [] } in
    let roots = root_lines elements choice in
    let begun = before ++ branch p ∷ [] in
    let behind = begun ++ elements_of ps in
    let last = lines_at roots k ++ more in
    let from_named : is_name from ≡ true = name_test from (t.kept.from_named 0 p (omega arith)) in
    let to_named : is_name to ≡ true = name_test to (t.kept.to_named 0 p (omega arith)) in
    let ends : from ≢ to = t.kept.ends_differ 0 p (omega arith) in
    let differ : bytes_eq to from ≡ false = differ_bytes to from (λ (e : to ≡ from). ends (sym e)) in
    let inside : in_lattice begun ≡ true = ap is_some (said_same termination_said before (branch p) refl) ∙ form in
    let counted = branches_more before (branch p) refl in
    let some : nat_le 1 (branches begun) ≡ true = le-leb 1 (branches begun) (omega (arith, counted)) in
    let own : own_parts begun ≡ p ∷ [] = ap parts_of (last_begun before (branch p) refl) in
    let stands : MayStand begun true true = record { circuit = or_right (not (in_lattice begun)) (nat_le 1 (branches begun)) some; form = inside; source = ap has_source own } in
    let said : All (IsSaid true) ps = λ j d less. record { named = t.named_parts j d less; source = rw (t.alone j d less) refl } in
    let each : MayFollowEach (own_parts begun) true ps = subst (λ (qs : List Part). MayFollowEach qs true ps) (sym own) (follow_each (p ∷ []) ps true t.kept said) in
    let circuit : in_circuit behind ≡ true = or_right (not (in_lattice behind)) (nat_le 1 (branches behind)) (le-leb 1 (branches behind) (count_elements begun ps (omega (arith, counted)))) in
    let written : last_circuit behind ≡ branch p ∷ elements_of ps = last_elements begun ps ∙ ap (λ (ss : List Statement). ss ++ elements_of ps) (last_begun before (branch p) refl) in
    let rootless : first_said root_said (last_circuit behind) ≡ None =
    ap (first_said root_said) written ∙ ap (first_said root_said) (sym (append-nil (elements_of ps))) ∙ elements_first root_said ps [] (λ q. refl) in
    ap (λ (ls : List Line). all_said before (line_at words line ∷ (ls ++ more)))
    ((λ j. lines_at (lines_named nodes true rest j ++ roots) (line + 1)) ∙ lines_behind (part_lines true ps) roots (line + 1))
    ∙ ap (λ (ls : List Line). all_said before (line_at words line ∷ ls)) (append_assoc (lines_at (part_lines true ps) (line + 1)) (lines_at roots k) more)
    ∙ first_said_line before (line_at words line) (lines_at (part_lines true ps) (line + 1) ++ last) (branch p) (branch_said_at before letter from to v line form next from_named to_named differ is)
    ∙ parts_said begun true true ps (line + 1) last stands each
    ∙ roots_said behind elements choice k more circuit rootless t.chosen
    ∙ ap (λ (ss : List Statement). all_said ss more)
    (append_assoc begun (elements_of ps) (root_statements (names elements) choice k) ∙ append_assoc before (branch p ∷ []) (inner ps (names elements) choice k))

-- ---- what the lines of a lattice say together

up_to : (ss : List Statement) (p : Part) (more : List Statement) → list_any is_branch ss ≡ false → up_to_branch (ss ++ (branch p ∷ more)) ≡ ss
up_to [] p more none = refl
up_to (s ∷ ss) p more none = let parts = or_parts (is_branch s) (list_any is_branch ss) none in rw parts.0 (ap (λ (l : List Statement). s ∷ l) (up_to ss p more parts.1))

some_behind : (ss : List Statement) (p : Part) (more : List Statement) → list_any is_branch (ss ++ (branch p ∷ more)) ≡ true
some_behind [] p more = refl
some_behind (s ∷ ss) p more = or_right (is_branch s) (list_any is_branch (ss ++ (branch p ∷ more))) (some_behind ss p more)

last_behind : (ss : List Statement) (p : Part) (more : List Statement) → list_any is_branch more ≡ false → last_circuit (ss ++ (branch p ∷ more)) ≡ branch p ∷ more
last_behind [] p more none = rw none refl
last_behind (s ∷ ss) p more none = cond-true _ _ _ (some_behind ss p more) ∙ last_behind ss p more none

not_counted_branch : (ss : List Statement) (more : List Statement) → list_any is_branch ss ≡ false → branches (ss ++ more) ≡ branches more
not_counted_branch [] more none = refl
not_counted_branch (s ∷ ss) more none = let parts = or_parts (is_branch s) (list_any is_branch ss) none in rw parts.0 (not_counted_branch ss more parts.1)

-- a branch by what its lines say
branch_back : (v : DecimalNumber) (nodes : List (List ℕ)) (rest : List Element) (choice : RootChoice) (line : ℕ) → IsCircuit (branch_with v nodes rest choice) → IsBranchText v nodes rest choice →
    let p = branch_part (node_name nodes 0) (node_name nodes 1) v in
    branch_said (branch p ∷ inner (map (named nodes) rest) (names (branch_source v ∷ rest)) choice line) ≡ Ok (branch_with v nodes rest choice)
branch_back v nodes rest choice line k t =
    let ps = map (named nodes) rest in
    let c = branch_with v nodes rest choice in
    let all = parts_named c in
    let listed = names (branch_source v ∷ rest) in
    let rs = root_statements listed choice line in
    let same : names_of all ≡ listed = names_named nodes (branch_source v ∷ rest) in
    let parts : parts_of (branch (branch_part (node_name nodes 0) (node_name nodes 1) v) ∷ inner ps listed choice line) ≡ all =
    ap (λ (qs : List Part). branch_part (node_name nodes 0) (node_name nodes 1) v ∷ qs) (elements_parts ps rs ∙ ap (λ (qs : List Part). ps ++ qs) (roots_no_part listed choice line) ∙ append-nil ps) in
    let root : first_said root_said (branch (branch_part (node_name nodes 0) (node_name nodes 1) v) ∷ inner ps listed choice line) ≡ first_said root_said (root_statements (names_of all) choice line) =
    elements_first root_said ps rs (λ q. refl) ∙ (λ i. first_said root_said (root_statements (sym same i) choice line)) in
    let chosen : IsNamedRoot (names_of all) choice = subst (λ (xs : List (List ℕ)). IsNamedRoot xs choice) (sym same) t.chosen in
    (λ i. branch_of (parts i) (root i))
    ∙ rw (root_back all choice line t.kept.distinct chosen) (ap (λ (x : CircuitValue). Ok x) (circuit_back c k))

-- it has an element besides its source
branch_has : (v : DecimalNumber) (nodes : List (List ℕ)) (rest : List Element) (choice : RootChoice) (line : ℕ) → IsCircuit (branch_with v nodes rest choice) →
    let p = branch_part (node_name nodes 0) (node_name nodes 1) v in
    has_element (parts_of (branch p ∷ inner (map (named nodes) rest) (names (branch_source v ∷ rest)) choice line)) ≡ true
branch_has v nodes rest choice line k =
    let ps = map (named nodes) rest in
    let listed = names (branch_source v ∷ rest) in
    let p : Part = branch_part (node_name nodes 0) (node_name nodes 1) v in
    let parts : parts_of (inner ps listed choice line) ≡ ps =
    elements_parts ps (root_statements listed choice line) ∙ ap (λ (qs : List Part). ps ++ qs) (roots_no_part listed choice line) ∙ append-nil ps in
    let long : length ps ≡ length rest = length-map rest (named nodes) in
    le-leb 2 (length (p ∷ parts_of (inner ps listed choice line))) (omega (arith, ap length parts, long, k.fewest))

-- what two branches give, of so many
abbrev pub lattice_by : ℕ → ℕ → List Statement → List Statement → Result NetlistValue NetFault
lattice_by n begun first last =
    needed kinds.NoBranch (begun == 2) >>= λ _. needed kinds.EmptyBranch (has_element (parts_of first) && has_element (parts_of last)) >>= λ _.
    branch_said first >>= λ a. branch_said last >>= λ b. Ok (record { rate = n; form = Lattice a b })

-- two branches by their statements
lattice_means : (n : ℕ) (v : DecimalNumber) (p q : Part) (xs ys : List Statement) (a b : CircuitValue) → list_any is_branch xs ≡ false → list_any is_branch ys ≡ false
    → has_element (parts_of (branch p ∷ xs)) ≡ true → has_element (parts_of (branch q ∷ ys)) ≡ true → branch_said (branch p ∷ xs) ≡ Ok a → branch_said (branch q ∷ ys) ≡ Ok b
    → netlist_said (rate n ∷ lattice v ∷ ((branch p ∷ xs) ++ (branch q ∷ ys))) ≡ Ok (record { rate = n; form = Lattice a b })
lattice_means n v p q xs ys a b no_x no_y some_x some_y said_x said_y =
    let all = rate n ∷ lattice v ∷ ((branch p ∷ xs) ++ (branch q ∷ ys)) in
    let ended : branches ys ≡ 0 = ap branches (sym (append-nil ys)) ∙ not_counted_branch ys [] no_y in
    let two : branches all ≡ 2 = omega (arith, not_counted_branch xs (branch q ∷ ys) no_x, ended) in
    let first : first_branch all ≡ branch p ∷ xs = ap (λ (ss : List Statement). branch p ∷ ss) (up_to xs q ys no_x) in
    let last : last_circuit all ≡ branch q ∷ ys = last_behind (rate n ∷ lattice v ∷ branch p ∷ xs) q ys no_y in
    (λ i. lattice_by n (two i) (first i) (last i)) ∙ rw (some_x, some_y, said_x, said_y) refl

-- ---- the text

abbrev pub lattice_text_lines : ℕ → DecimalNumber → List (List ℕ) → List Element → RootChoice → List (List ℕ) → List Element → RootChoice → List Words
lattice_text_lines n v nodes rest choice others more root =
    two_words (codes "rate") (decimal n) ∷ two_words (codes "lattice") (value_text v)
    ∷ (branch_lines (codes "A") (branch_with v nodes rest choice) ++ branch_lines (codes "B") (branch_with v others more root))

branch_plain : (letter : List ℕ) (v : DecimalNumber) (nodes : List (List ℕ)) (rest : List Element) (choice : RootChoice) → is_name letter ≡ true → IsBranchText v nodes rest choice
    → All IsPlainLine (branch_lines letter (branch_with v nodes rest choice))
branch_plain letter v nodes rest choice is t =
    let ps = map (named nodes) rest in
    let p : Part = branch_part (node_name nodes 0) (node_name nodes 1) v in
    let kept = t.kept in
    let parts : All IsPrintable ps = λ j d less. record {
      named = t.named_parts j d less;
      from_named = name_test (get_or ps j d).from (kept.from_named (suc j) d (omega arith));
      to_named = name_test (get_or ps j d).to (kept.to_named (suc j) d (omega arith));
      value = kept.values (suc j) d (omega arith);
    } in
    let elements : All IsPlainLine (element_lines nodes true rest) = rw (lines_named nodes true rest) (plain_parts true ps parts) in
    All-cons IsPlainLine (record { first = codes "branch"; rest = letter ∷ node_name nodes 0 ∷ node_name nodes 1 ∷ [] }) (element_lines nodes true rest ++ root_lines (branch_source v ∷ rest) choice)
    (plain_branch letter (node_name nodes 0) (node_name nodes 1) is (name_test (node_name nodes 0) (kept.from_named 0 p (omega arith))) (name_test (node_name nodes 1) (kept.to_named 0 p (omega arith))))
    (All-append IsPlainLine (element_lines nodes true rest) (root_lines (branch_source v ∷ rest) choice) elements (plain_roots (branch_source v ∷ rest) choice t.chosen))

both_plain : (n : ℕ) (v : DecimalNumber) (nodes : List (List ℕ)) (rest : List Element) (choice : RootChoice) (others : List (List ℕ)) (more : List Element) (root : RootChoice) → 1 ≤ n → n ≤ MAX_RATE
    → IsElementValue v → IsBranchText v nodes rest choice → IsBranchText v others more root → All IsPlainLine (lattice_text_lines n v nodes rest choice others more root)
both_plain n v nodes rest choice others more root some few value ta tb =
    let first = branch_lines (codes "A") (branch_with v nodes rest choice) in
    let second = branch_lines (codes "B") (branch_with v others more root) in
    All-cons IsPlainLine (two_words (codes "rate") (decimal n)) (two_words (codes "lattice") (value_text v) ∷ (first ++ second)) (plain_two (codes "rate") (decimal n) refl refl (plain_rate n some few))
    (All-cons IsPlainLine (two_words (codes "lattice") (value_text v)) (first ++ second) (plain_two (codes "lattice") (value_text v) refl refl (plain_value v value))
    (All-append IsPlainLine first second (branch_plain (codes "A") v nodes rest choice refl ta) (branch_plain (codes "B") v others more root refl tb)))

both_round : (n : ℕ) (v : DecimalNumber) (nodes : List (List ℕ)) (rest : List Element) (choice : RootChoice) (others : List (List ℕ)) (more : List Element) (root : RootChoice) → 1 ≤ n → n ≤ MAX_RATE
    → IsCircuit (branch_with v nodes rest choice) → IsCircuit (branch_with v others more root) → IsBranchText v nodes rest choice → IsBranchText v others more root →
    let m : NetlistValue = record { rate = n; form = Lattice (branch_with v nodes rest choice) (branch_with v others more root) } in
    meaning (canonical m) ≡ Ok m
both_round n v nodes rest choice others more root some few ka kb ta tb =
    let a = branch_with v nodes rest choice in
    let b = branch_with v others more root in
    let p : Part = branch_part (node_name nodes 0) (node_name nodes 1) v in
    let q : Part = branch_part (node_name others 0) (node_name others 1) v in
    let first = branch_lines (codes "A") a in
    let second = branch_lines (codes "B") b in
    let lines = lattice_text_lines n v nodes rest choice others more root in
    let value : IsElementValue v = ka.values 0 (branch_source v) (omega arith) in
    let line = 3 + length first in
    let ka_line = 3 + 1 + length (part_lines true (map (named nodes) rest)) in
    let kb_line = line + 1 + length (part_lines true (map (named others) more)) in
    let xs = inner (map (named nodes) rest) (names (branch_source v ∷ rest)) choice ka_line in
    let ys = inner (map (named others) more) (names (branch_source v ∷ more)) root kb_line in
    let begun : List Statement = rate n ∷ lattice v ∷ [] in
    let no_x = inner_no_branch (map (named nodes) rest) (names (branch_source v ∷ rest)) choice ka_line in
    let no_y = inner_no_branch (map (named others) more) (names (branch_source v ∷ more)) root kb_line in
    let one : branches (begun ++ (branch p ∷ xs)) ≡ 1 = omega (arith, ap branches (sym (append-nil xs)), not_counted_branch xs [] no_x) in
    let plain = both_plain n v nodes rest choice others more root some few value ta tb in
    let said : all_said [] (lines_at lines 1) ≡ Ok (rate n ∷ lattice v ∷ ((branch p ∷ xs) ++ (branch q ∷ ys))) =
    first_said_line [] (line_at (two_words (codes "rate") (decimal n)) 1) (lines_at (two_words (codes "lattice") (value_text v) ∷ (first ++ second)) 2) (rate n) (rate_said_at n 1 some few)
    ∙ first_said_line (rate n ∷ []) (line_at (two_words (codes "lattice") (value_text v)) 2) (lines_at (first ++ second) 3) (lattice v) (lattice_said_at n v 2 value)
    ∙ ap (all_said begun) (lines_behind first second 3)
    ∙ branch_lines_said begun (codes "A") v nodes rest choice 3 (lines_at second line) ta refl refl refl
    ∙ ap (all_said (begun ++ (branch p ∷ xs))) (sym (append-nil (lines_at second line)))
    ∙ branch_lines_said (begun ++ (branch p ∷ xs)) (codes "B") v others more root line [] tb refl (ap (λ (k : ℕ). is_next_letter k (codes "B")) one) refl in
    ap (λ (ls : List Line). all_said [] ls >>= λ (ss : List Statement). netlist_said ss) (lines_back lines plain)
    ∙ ap (λ (r : Result (List Statement) NetFault). r >>= λ (ss : List Statement). netlist_said ss) said
    ∙ lattice_means n v p q xs ys a b no_x no_y (branch_has v nodes rest choice ka_line ka) (branch_has v others more root kb_line kb)
    (branch_back v nodes rest choice ka_line ka ta) (branch_back v others more root kb_line kb tb)

pub lattice_round : (n : ℕ) (v : DecimalNumber) (a b : CircuitValue) → 1 ≤ n → n ≤ MAX_RATE → IsBranch v a → IsBranch v b → IsCircuit a → IsCircuit b
    → meaning (canonical (record { rate = n; form = Lattice a b })) ≡ Ok (record { rate = n; form = Lattice a b })
lattice_round n v a b some few ba bb ka kb =
    let wa = branch_is v a ba in
    let wb = branch_is v b bb in
    let ka2 = subst IsCircuit wa.is ka in
    let kb2 = subst IsCircuit wb.is kb in
    let ta = branch_text v a.nodes wa.rest a.root ka2 (subst (IsBranch v) wa.is ba) in
    let tb = branch_text v b.nodes wb.rest b.root kb2 (subst (IsBranch v) wb.is bb) in
    let m : CircuitValue → CircuitValue → NetlistValue = λ x y. record { rate = n; form = Lattice x y } in
    (λ i. meaning (canonical (m (wa.is i) (wb.is i))))
    ∙ both_round n v a.nodes wa.rest a.root b.nodes wb.rest b.root some few ka2 kb2 ta tb
    ∙ (λ i. Ok (m (sym wa.is i) (sym wb.is i)))

pub lattice_plain : (n : ℕ) (v : DecimalNumber) (a b : CircuitValue) → 1 ≤ n → n ≤ MAX_RATE → IsBranch v a → IsBranch v b → IsCircuit a → IsCircuit b
    → All IsPlainLine (netlist_lines (record { rate = n; form = Lattice a b }))
lattice_plain n v a b some few ba bb ka kb =
    let wa = branch_is v a ba in
    let wb = branch_is v b bb in
    let ka2 = subst IsCircuit wa.is ka in
    let ta = branch_text v a.nodes wa.rest a.root ka2 (subst (IsBranch v) wa.is ba) in
    let tb = branch_text v b.nodes wb.rest b.root (subst IsCircuit wb.is kb) (subst (IsBranch v) wb.is bb) in
    let lines : CircuitValue → CircuitValue → List Words = λ x y. netlist_lines (record { rate = n; form = Lattice x y }) in
    subst (All IsPlainLine) (λ i. lines (sym wa.is i) (sym wb.is i)) (both_plain n v a.nodes wa.rest a.root b.nodes wb.rest b.root some few (ka2.values 0 (branch_source v) (omega arith)) ta tb)
