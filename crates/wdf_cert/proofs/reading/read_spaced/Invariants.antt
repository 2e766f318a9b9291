use Rattle.std.proofs.Common.{◌≡◌, ℕ, ◌-◌, ◌≤◌, length, drop}
use Rattle.std.specs.Prelude.{All}
use Rattle.wdf_cert.specs.declared.cert_text_fault.CertTextFault.{CertTextFault}
use Rattle.wdf_cert.specs.Format.{Format, HasFault}
use Rattle.wdf_cert.specs.CertText.{spaced}
use Rattle.wdf_cert.specs.CertFormat.{spaced_numbers}
use Rattle.wdf_cert.proofs.reading.read_spaced.Given as goal

abbrev pub invariant-loop-i : goal.invariant-loop-i
invariant-loop-i l = record {
  within : l.place ≤ length l.text;
  count : length l.values.items ≡ l.i;
  range : All (λ (n : ℕ). (l.low ≤ n) × (n ≤ l.high)) l.values.items;
  spelled : drop l.at l.text ≡ spaced l.values.items (drop l.place l.text);
  carries : (rest : ℕ → Format) (fault : CertTextFault) → HasFault (spaced_numbers (l.count - l.i) l.low l.high (rest 0)) (drop l.place l.text) l.place fault
      → HasFault (spaced_numbers l.count l.low l.high (rest 0)) (drop l.at l.text) l.at fault;
}
