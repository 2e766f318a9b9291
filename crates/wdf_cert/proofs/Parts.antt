-- Parts of a format, one after the other.
use Rattle.std.proofs.Common.{ℕ, List, drop, sym, subst}
use mathlib.Core.Logic.{inl, inr}
use Rattle.wdf_cert.specs.declared.cert_text_fault.CertTextFault.{CertTextFault}
use Rattle.wdf_cert.specs.declared.cert_text_fault.CertTextFault.TheVariants.{Syntax, Range, NoMemory}
use Rattle.wdf_cert.specs.Format.{Format, token, Slot, Misses, HasFault}
use Rattle.wdf_cert.specs.Scanning.{Takes, Leads, Fails}

-- a token that is there
pub token-leads : (slot : Slot) (v : ℕ) (text : List ℕ) (at next : ℕ) → Takes slot v text at next → Leads (token slot) v text at next
token-leads slot v text at next t rest fault h =
    inr (v, drop next text, t.meets, subst (λ (p : ℕ). HasFault (rest v) (drop next text) p fault) (sym t.next) h)

-- a token that is not
pub token-fails : (slot : Slot) (text : List ℕ) (at : ℕ) (e : CertTextFault) → Misses slot (drop at text) at e → Fails (token slot) text at e
token-fails slot text at NoMemory h = tt
token-fails slot text at (Syntax place) h = λ rest. inl h
token-fails slot text at (Range place) h = λ rest. inl h

-- What is wrong with a second part is what is wrong with all, where `front` is what stands behind the second: so a failure of
-- the second is one of all.
pub fails-behind : (second part : (ℕ → Format) → Format) (front : (ℕ → Format) → ℕ → Format) (text : List ℕ) (at next : ℕ) (e : CertTextFault)
    → ((rest : ℕ → Format) (fault : CertTextFault) → HasFault (second (front rest)) (drop next text) next fault → HasFault (part rest) (drop at text) at fault)
    → Fails second text next e → Fails part text at e
fails-behind second part front text at next NoMemory carries fails = tt
fails-behind second part front text at next (Syntax place) carries fails = λ rest. carries rest (Syntax place) (fails (front rest))
fails-behind second part front text at next (Range place) carries fails = λ rest. carries rest (Range place) (fails (front rest))

-- the same of a token
pub misses-behind : (slot : Slot) (part : (ℕ → Format) → Format) (front : (ℕ → Format) → ℕ → Format) (text : List ℕ) (at next : ℕ) (e : CertTextFault)
    → ((rest : ℕ → Format) (fault : CertTextFault) → HasFault (token slot (front rest)) (drop next text) next fault → HasFault (part rest) (drop at text) at fault)
    → Misses slot (drop next text) next e → Fails part text at e
misses-behind slot part front text at next e carries misses = fails-behind (token slot) part front text at next e carries (token-fails slot text next e misses)
