use Rattle.std.proofs.Common.{◌≡◌, ℕ, ◌-◌, ◌*◌, ◌≤◌, length, drop}
use Rattle.wdf_residue.specs.Residue.{AreResidues}
use Rattle.wdf_cert.specs.declared.cert_text_fault.CertTextFault.{CertTextFault}
use Rattle.wdf_cert.specs.Format.{Format, HasFault}
use Rattle.wdf_cert.specs.CertText.{number_lines}
use Rattle.wdf_cert.specs.CertFormat.{residue_lines}
use Rattle.wdf_cert.proofs.reading.read_lines.Given as goal

abbrev pub invariant-loop-i : goal.invariant-loop-i
invariant-loop-i l = record {
  within : l.place ≤ length l.text;
  count : length l.values.items ≡ l.i * l.n;
  residues : AreResidues l.values.items;
  spelled : drop l.at l.text ≡ number_lines l.i l.n l.values.items (drop l.place l.text);
  carries : (rest : ℕ → Format) (fault : CertTextFault) → HasFault (residue_lines (l.n - l.i) l.n (rest 0)) (drop l.place l.text) l.place fault
      → HasFault (residue_lines l.n l.n (rest 0)) (drop l.at l.text) l.at fault;
}
