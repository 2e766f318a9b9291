-- What holds of words without fault: each value is one that its operand may have, and what is needed is given.
use Rattle.std.proofs.Common.{◌≡◌, ◌<◌, ◌≤◌, ◌+◌, ◌-◌, ℕ, Bool, true, false, eqb, List, [], ◌∷◌, Option, Some, None, length, take, ⊎_elim, refl, sym, ap, ◌∙◌, subst, arith}
use Rattle.std.specs.Prelude.{IfSome, bytes_eq, codes, if◌then◌else◌, nat_eq, unwrap_or}
use Rattle.std.specs.List.{list_any}
use Rattle.std.proofs.lemmas.Bool.{and_parts, cases_lt, eqb-false, eqb-true, false≢true, leb-true, not-false, or_parts}
use Rattle.std.proofs.lemmas.Bool.Decides.{nat_tests}
use Rattle.std.proofs.lemmas.List.Quantifiers.{position-Some}
use Rattle.wdf_report.specs.declared.usage_kind.UsageKind.{UsageKind}
use Rattle.wdf_report.specs.declared.usage_kind.UsageKind.TheVariants as kinds
use Rattle.wdf_text.specs.Numbers.{number_of, is_whole}
use Rattle.wdf_bounds.specs.Plans.{is_sample_width}
use Rattle.wdf_words.specs.declared.command.Command.{Command}
use Rattle.wdf_words.specs.declared.command.Command.TheVariants as commands
use Rattle.wdf_words.specs.declared.values.Values.{Values}
use Rattle.wdf_words.specs.declared.values.Values.TheVariants.{Text, Between, SampleWidth}
use Rattle.wdf_words.specs.Operands.{Operand, amp, bits, cert, command_named, frames, guard, is_between, k, net, number_fault, operand_named, operands_of, order, shift, value_fault, values_of}
use Rattle.wdf_words.specs.Orders.{HasRanges, IsFileNamed, NamesFiles, fault_at, first_fault, first_from, gives, is_equals, is_given, is_missing, name_in, number_given, number_in, number_of_operand, operand_fault, order_given, place_given, reads_certificate, reads_netlist, usage, value_in, word_at, word_fault}
use Rattle.wdf_words.specs.WellFormed.{AreWellFormed, HaveRoom, NumberSuits, Suits}
use Rattle.wdf_words.proofs.PlaceLemmas.{none_at}

same_name : (xs ys : List ℕ) → bytes_eq xs ys ≡ true → xs ≡ ys
same_name [] [] e = refl
same_name [] (y ∷ ys) e = absurd (false≢true e)
same_name (x ∷ xs) [] e = absurd (false≢true e)
same_name (x ∷ xs) (y ∷ ys) e =
    let parts = and_parts (nat_eq x y) (bytes_eq xs ys) e in
    let head : x ≡ y = eqb-true x y parts.0 in
    let tail = same_name xs ys parts.1 in
    λ i. head i ∷ tail i

-- ---- a command has no `=`

one_of : (w name : List ℕ) (x c : Command) (other : Option Command) → list_any is_equals name ≡ false → (other ≡ Some c → list_any is_equals w ≡ false)
    → (if bytes_eq w name then Some x else other) ≡ Some c → list_any is_equals w ≡ false
one_of w name x c other plain rest e = by (bytes_eq w name) refl
  where
    by : (t : Bool) → bytes_eq w name ≡ t → list_any is_equals w ≡ false
    by true same = rw (same_name w name same) plain
    by false differs = let g : (if bytes_eq w name then Some x else other) ≡ other = rw differs refl in rest (sym g ∙ e)

plain_command : (w : List ℕ) (c : Command) → command_named w ≡ Some c → list_any is_equals w ≡ false
plain_command w c e =
    one_of w (codes "run") commands.Run c _ refl (one_of w (codes "report") commands.Report c _ refl (one_of w (codes "certify") commands.Certify c _ refl
    (one_of w (codes "check") commands.Check c _ refl (one_of w (codes "soak") commands.Soak c None refl (λ n. absurd (cc)))))) e

-- ---- one word

passes : (p : ℕ → Bool) (value : List ℕ) → number_fault p value ≡ None → (is_whole value ≡ true) × (p (number_of value) ≡ true)
passes p value e = by (is_whole value) (p (number_of value)) refl refl
  where
    by : (t u : Bool) → is_whole value ≡ t → p (number_of value) ≡ u → (is_whole value ≡ true) × (p (number_of value) ≡ true)
    by true true a b = (a, b)
    by true false a b = let g : number_fault p value ≡ Some kinds.OutOfRange = rw (a, b) refl in absurd (let z : None ≡ Some kinds.OutOfRange = sym e ∙ g in cc)
    by false u a b = let g : number_fault p value ≡ Some kinds.BadNumber = rw a refl in absurd (let z : None ≡ Some kinds.BadNumber = sym e ∙ g in cc)

suits : (v : Values) (value : List ℕ) → value_fault v value ≡ None → Suits (Some v) value
suits Text value e = tt
suits (Between least most) value e =
    let t = passes (is_between least most) value e in
    let parts = and_parts _ _ t.1 in
    (t.0, leb-true _ _ parts.0, leb-true _ _ parts.1)
suits SampleWidth value e = passes is_sample_width value e

well_operand : (o : Operand) (before : List (List ℕ)) (w : List ℕ) → operand_fault (Some o) before w ≡ None → (1 ≤ length (value_in w)) × Suits (Some o.values) (value_in w)
well_operand o before w e = by (is_given (name_in w) before) (eqb (length (value_in w)) 0) refl refl
  where
    by : (t u : Bool) → is_given (name_in w) before ≡ t → eqb (length (value_in w)) 0 ≡ u → (1 ≤ length (value_in w)) × Suits (Some o.values) (value_in w)
    by true u a b = let g : operand_fault (Some o) before w ≡ Some kinds.DoubleOperand = rw a refl in absurd (let z : None ≡ Some kinds.DoubleOperand = sym e ∙ g in cc)
    by false true a b = let g : operand_fault (Some o) before w ≡ Some kinds.EmptyValue = rw (a, b) refl in absurd (let z : None ≡ Some kinds.EmptyValue = sym e ∙ g in cc)
    by false false a b =
        let g : operand_fault (Some o) before w ≡ value_fault o.values (value_in w) = rw (a, b) refl in
        let some : length (value_in w) ≡ 0 → ⊥ = eqb-false _ _ b in
        (omega (arith, some), suits o.values (value_in w) (sym g ∙ e))

well_word : (c : Command) (before : List (List ℕ)) (w : List ℕ) → word_fault c before w ≡ None → (1 ≤ length (value_in w)) × Suits (values_of (operand_named c (name_in w))) (value_in w)
well_word c before w e = by (list_any is_equals w) (operand_named c (name_in w)) refl refl
  where
    by : (t : Bool) (o : Option Operand) → list_any is_equals w ≡ t → operand_named c (name_in w) ≡ o → (1 ≤ length (value_in w)) × Suits (values_of (operand_named c (name_in w))) (value_in w)
    by false o a b = let g : word_fault c before w ≡ Some kinds.NoEquals = rw a refl in absurd (let z : None ≡ Some kinds.NoEquals = sym e ∙ g in cc)
    by true None a b = let g : word_fault c before w ≡ Some kinds.UnknownOperand = rw (a, b) refl in absurd (let z : None ≡ Some kinds.UnknownOperand = sym e ∙ g in cc)
    by true (Some o) a b = let g : word_fault c before w ≡ operand_fault (Some o) before w = rw (a, b) refl in rw b (well_operand o before w (sym g ∙ e))

-- a word of an operand that no word before gives has the fault of its value
pub value_of_word : (c : Command) (before : List (List ℕ)) (w : List ℕ) (v : Values) → list_any is_equals w ≡ true → values_of (operand_named c (name_in w)) ≡ Some v
    → is_given (name_in w) before ≡ false → eqb (length (value_in w)) 0 ≡ false → word_fault c before w ≡ value_fault v (value_in w)
value_of_word c before w v a e d n = by (operand_named c (name_in w)) refl
  where
    by : (o : Option Operand) → operand_named c (name_in w) ≡ o → word_fault c before w ≡ value_fault v (value_in w)
    by None b = let t : values_of (operand_named c (name_in w)) ≡ None = rw b refl in absurd (let z : None ≡ Some v = sym t ∙ e in cc)
    by (Some o) b =
        let t : values_of (operand_named c (name_in w)) ≡ Some o.values = rw b refl in
        let z : Some o.values ≡ Some v = sym t ∙ e in
        let same : o.values ≡ v = cc in
        let g : word_fault c before w ≡ value_fault o.values (value_in w) = rw (a, b, d, n) refl in
        g ∙ ap (λ (x : Values). value_fault x (value_in w)) same

-- ---- all words

pub are_well_formed : (c : Command) (words : List (List ℕ)) → command_named (word_at words 0) ≡ Some c → first_fault c words ≡ None → list_any (is_missing words) (operands_of c) ≡ false → AreWellFormed c words
are_well_formed c words command first whole = record { command = command; first = first; whole = whole }

no_first : (c : Command) (words : List (List ℕ)) → first_fault c words ≡ None → first_from (fault_at c words) 1 (length words - 1) ≡ None
no_first c words e = by (first_from (fault_at c words) 1 (length words - 1)) refl
  where
    by : (o : Option (ℕ × UsageKind)) → first_from (fault_at c words) 1 (length words - 1) ≡ o → first_from (fault_at c words) 1 (length words - 1) ≡ None
    by None a = a
    by (Some f) a = let g : first_fault c words ≡ Some (usage f.0 f.1) = rw a refl in absurd (let z : None ≡ Some (usage f.0 f.1) = sym e ∙ g in cc)

well_given : (c : Command) (words : List (List ℕ)) (name : List ℕ) (at : ℕ) → AreWellFormed c words → place_given name words ≡ Some at
    → (at < length words) × (1 ≤ length (value_in (word_at words at))) × Suits (values_of (operand_named c name)) (value_in (word_at words at))
well_given c words name at well e =
    let p = position-Some (gives name) words at [] e in
    let g = and_parts _ _ p.1 in
    let named : name_in (word_at words at) ≡ name = same_name _ _ g.1 in
    let later : 1 ≤ at = ⊎_elim (λ (l : 0 < at). l) (λ (l : at ≤ 0). let first : at ≡ 0 = omega arith in absurd (false≢true (sym (plain_command (word_at words 0) c well.command) ∙ subst (λ (i : ℕ). list_any is_equals (word_at words i) ≡ true) first g.0))) (cases_lt 0 at) in
    let within : at < 1 + (length words - 1) = omega (arith, p.0) in
    let w = well_word c (take at words) (word_at words at) (none_at (fault_at c words) 1 (length words - 1) (no_first c words well.first) at later within) in
    (p.0, w.0, subst (λ (n : List ℕ). Suits (values_of (operand_named c n)) (value_in (word_at words at))) named w.1)

-- ---- the numbers that are given

number_suits : (v : Option Values) (value : List ℕ) (n : ℕ) → Suits v value → number_in value ≡ Some n → NumberSuits v n
number_suits v value n s e = by (is_whole value) refl v s
  where
    by : (t : Bool) → is_whole value ≡ t → (u : Option Values) → Suits u value → NumberSuits u n
    by false a u h = let g : number_in value ≡ None = rw a refl in absurd (let z : None ≡ Some n = sym g ∙ e in cc)
    by true a None h = h
    by true a (Some Text) h = tt
    by true a (Some (Between least most)) h =
        let g : number_in value ≡ Some (number_of value) = rw a refl in
        let z : Some (number_of value) ≡ Some n = sym g ∙ e in
        let same : number_of value ≡ n = cc in
        (omega (arith, same, h.1), omega (arith, same, h.2))
    by true a (Some SampleWidth) h =
        let g : number_in value ≡ Some (number_of value) = rw a refl in
        let z : Some (number_of value) ≡ Some n = sym g ∙ e in
        let same : number_of value ≡ n = cc in
        subst (λ (x : ℕ). is_sample_width x ≡ true) same h.1

well_number : (c : Command) (words : List (List ℕ)) (name : List ℕ) (n : ℕ) → AreWellFormed c words → number_given name words ≡ Some n → NumberSuits (values_of (operand_named c name)) n
well_number c words name n well e = by (place_given name words) refl
  where
    by : (o : Option ℕ) → place_given name words ≡ o → NumberSuits (values_of (operand_named c name)) n
    by None a = let g : number_given name words ≡ None = rw a refl in absurd (let z : None ≡ Some n = sym g ∙ e in cc)
    by (Some at) a =
        let g : number_given name words ≡ number_in (value_in (word_at words at)) = rw a refl in
        number_suits (values_of (operand_named c name)) (value_in (word_at words at)) n (well_given c words name at well a).2 (sym g ∙ e)

if_given : (c : Command) (words : List (List ℕ)) (name : List ℕ) (P : ℕ → Type 0) → AreWellFormed c words → ((n : ℕ) → NumberSuits (values_of (operand_named c name)) n → P n) → IfSome (number_given name words) P
if_given c words name P well have = by (number_given name words) refl
  where
    by : (o : Option ℕ) → number_given name words ≡ o → IfSome o P
    by None e = tt
    by (Some n) e = have n (well_number c words name n well e)

-- ---- the ranges of each operand, whatever the command

k_range : (c : Command) (n : ℕ) → NumberSuits (values_of (operand_named c k.name)) n → (1 ≤ n) × (n ≤ 20)
k_range commands.Run n s = s
k_range commands.Report n s = s
k_range commands.Certify n s = s
k_range commands.Check n s = s
k_range commands.Soak n s = absurd s

guard_range : (c : Command) (n : ℕ) → NumberSuits (values_of (operand_named c guard.name)) n → n ≤ 16
guard_range commands.Run n s = s.1
guard_range commands.Report n s = s.1
guard_range commands.Certify n s = absurd s
guard_range commands.Check n s = absurd s
guard_range commands.Soak n s = absurd s

shift_range : (c : Command) (n : ℕ) → NumberSuits (values_of (operand_named c shift.name)) n → n ≤ 16
shift_range commands.Run n s = s.1
shift_range commands.Report n s = s.1
shift_range commands.Certify n s = absurd s
shift_range commands.Check n s = absurd s
shift_range commands.Soak n s = absurd s

frames_range : (c : Command) (n : ℕ) → NumberSuits (values_of (operand_named c frames.name)) n → (1 ≤ n) × (n ≤ 4294967295)
frames_range commands.Run n s = s
frames_range commands.Report n s = s
frames_range commands.Certify n s = absurd s
frames_range commands.Check n s = absurd s
frames_range commands.Soak n s = (s.0, omega (arith, s.1))

amp_range : (c : Command) (n : ℕ) → NumberSuits (values_of (operand_named c amp.name)) n → (1 ≤ n) × (n ≤ 2147483648)
amp_range commands.Run n s = s
amp_range commands.Report n s = s
amp_range commands.Certify n s = absurd s
amp_range commands.Check n s = absurd s
amp_range commands.Soak n s = absurd s

bits_range : (c : Command) (n : ℕ) → NumberSuits (values_of (operand_named c bits.name)) n → is_sample_width n ≡ true
bits_range commands.Run n s = absurd s
bits_range commands.Report n s = s
bits_range commands.Certify n s = absurd s
bits_range commands.Check n s = absurd s
bits_range commands.Soak n s = absurd s

order_range : (c : Command) (n : ℕ) → NumberSuits (values_of (operand_named c order.name)) n → (1 ≤ n) × (n ≤ 32)
order_range commands.Run n s = absurd s
order_range commands.Report n s = absurd s
order_range commands.Certify n s = absurd s
order_range commands.Check n s = absurd s
order_range commands.Soak n s = s

-- a sample has at most 32 bits
few_bits : (n : ℕ) → is_sample_width n ≡ true → n ≤ 255
few_bits n e = grind (arith, nat_tests)

pub have_room : (c : Command) (words : List (List ℕ)) → AreWellFormed c words → HaveRoom words
have_room c words w = record {
  k = if_given c words k.name _ w (λ n s. omega (arith, (k_range c n s).1));
  guard = if_given c words guard.name _ w (λ n s. omega (arith, guard_range c n s));
  shift = if_given c words shift.name _ w (λ n s. omega (arith, shift_range c n s));
  frames = if_given c words frames.name _ w (λ n s. (frames_range c n s).1);
  amp = if_given c words amp.name _ w (λ n s. omega (arith, (amp_range c n s).1));
  bits = if_given c words bits.name _ w (λ n s. few_bits n (bits_range c n s));
  order = if_given c words order.name _ w (λ n s. omega (arith, (order_range c n s).1));
}

-- what holds of the number that counts where none is given holds of the number
counted_too : (o : Option ℕ) (d : ℕ) (P : ℕ → Type 0) → P d → IfSome o P → P (unwrap_or o d)
counted_too None d P p s = p
counted_too (Some n) d P p s = s

-- ---- what is needed is given

net_given : (c : Command) (words : List (List ℕ)) → list_any (is_missing words) (operands_of c) ≡ false → reads_netlist c ≡ true → is_given net.name words ≡ true
net_given commands.Run words e r = not-false _ (or_parts _ _ e).0
net_given commands.Report words e r = not-false _ (or_parts _ _ e).0
net_given commands.Certify words e r = not-false _ (or_parts _ _ e).0
net_given commands.Check words e r = not-false _ (or_parts _ _ e).0
net_given commands.Soak words e r = absurd (false≢true r)

cert_given : (c : Command) (words : List (List ℕ)) → list_any (is_missing words) (operands_of c) ≡ false → reads_certificate c ≡ true → is_given cert.name words ≡ true
cert_given commands.Run words e r = absurd (false≢true r)
cert_given commands.Report words e r = absurd (false≢true r)
cert_given commands.Certify words e r = absurd (false≢true r)
cert_given commands.Check words e r = not-false _ (or_parts _ _ (or_parts _ _ e).1).0
cert_given commands.Soak words e r = absurd (false≢true r)

-- a number of `soak` that is given is in its range, whatever counts where none is
soak_number : (words : List (List ℕ)) (name : List ℕ) (least most other : ℕ) → AreWellFormed commands.Soak words → is_given name words ≡ true
    → values_of (operand_named commands.Soak name) ≡ Some (Between least most) → (least ≤ unwrap_or (number_given name words) other) × (unwrap_or (number_given name words) other ≤ most)
soak_number words name least most other well given between = by (place_given name words) refl
  where
    by : (o : Option ℕ) → place_given name words ≡ o → (least ≤ unwrap_or (number_given name words) other) × (unwrap_or (number_given name words) other ≤ most)
    by None a = let g : is_given name words ≡ false = rw a refl in absurd (false≢true (sym g ∙ given))
    by (Some at) a =
        let s : Suits (Some (Between least most)) (value_in (word_at words at)) = subst (λ (v : Option Values). Suits v (value_in (word_at words at))) between (well_given commands.Soak words name at well a).2 in
        let g : number_given name words ≡ Some (number_of (value_in (word_at words at))) = rw (a, s.0) refl in
        rw g (s.1, s.2)

soak_order : (words : List (List ℕ)) → AreWellFormed commands.Soak words → is_given order.name words ≡ true
soak_order words w = not-false _ (or_parts _ _ (or_parts _ _ w.whole).1).0

soak_length : (words : List (List ℕ)) → AreWellFormed commands.Soak words → is_given frames.name words ≡ true
soak_length words w = not-false _ (or_parts _ _ (or_parts _ _ (or_parts _ _ w.whole).1).1).0

soak_ranges : (c : Command) (words : List (List ℕ)) → AreWellFormed c words → c ≡ commands.Soak → (1 ≤ number_of_operand order words) × (number_of_operand order words ≤ 32) × (number_of_operand frames words ≤ 4194304)
soak_ranges commands.Run words w e = absurd (cc)
soak_ranges commands.Report words w e = absurd (cc)
soak_ranges commands.Certify words w e = absurd (cc)
soak_ranges commands.Check words w e = absurd (cc)
soak_ranges commands.Soak words w e =
    let o = soak_number words order.name 1 32 0 w (soak_order words w) refl in
    (o.0, o.1, (soak_number words frames.name 1 4194304 67108864 w (soak_length words w) refl).1)

pub ranges : (c : Command) (words : List (List ℕ)) → AreWellFormed c words → HasRanges (order_given c words)
ranges c words w = record {
  k = counted_too (number_given k.name words) 14 (λ n. (1 ≤ n) × (n ≤ 20)) (omega arith, omega arith) (if_given c words k.name _ w (k_range c));
  guard = if_given c words guard.name _ w (guard_range c);
  shift = counted_too (number_given shift.name words) 0 (λ n. n ≤ 16) (omega arith) (if_given c words shift.name _ w (shift_range c));
  frames = counted_too (number_given frames.name words) 67108864 (λ n. (1 ≤ n) × (n ≤ 4294967295)) (omega arith, omega arith) (if_given c words frames.name _ w (frames_range c));
  amp = if_given c words amp.name _ w (amp_range c);
  bits = counted_too (number_given bits.name words) 16 (λ n. is_sample_width n ≡ true) refl (if_given c words bits.name _ w (bits_range c));
  soak = λ e. soak_ranges c words w e;
}

file_given : (c : Command) (words : List (List ℕ)) (name : List ℕ) → AreWellFormed c words → is_given name words ≡ true → IsFileNamed words (place_given name words)
file_given c words name well given = by (place_given name words) refl
  where
    by : (o : Option ℕ) → place_given name words ≡ o → IsFileNamed words o
    by None e = let g : is_given name words ≡ false = rw e refl in absurd (false≢true (sym g ∙ given))
    by (Some at) e = let w = well_given c words name at well e in (w.0, w.1)

pub files : (c : Command) (words : List (List ℕ)) → AreWellFormed c words → NamesFiles words (order_given c words)
files c words well = record {
  net = λ r. file_given c words net.name well (net_given c words well.whole r);
  cert = λ r. file_given c words cert.name well (cert_given c words well.whole r);
}
