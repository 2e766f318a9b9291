-- A head that a text tells has the format of frames that are read.
use Rattle.std.proofs.Common.{ℕ, List, [], ◌∷◌, None, Some, inl, inr, sym, subst}
use Rattle.std.specs.Prelude.{IfSome, ◌⊎◌}
use Rattle.wdf_wav.specs.declared.head.Head.{Head}
use Rattle.wdf_wav.specs.Header.{IsFrameFormat}
use Rattle.wdf_wav.specs.Chunks.{Chunk, TellsFormat, IsPassedOver, MayPrecede}
use Rattle.wdf_wav.specs.WaveHead.{IsHeaded}

-- a format that was told is such a format
told_next : (before next : _) (c : Chunk) → TellsFormat before next c ⊎ IsPassedOver before next c → IfSome before (λ f. IsFrameFormat f.channels f.bits)
    → IfSome next (λ f. IsFrameFormat f.channels f.bits)
told_next before next c (inl t) h = subst (λ told. IfSome told (λ f. IsFrameFormat f.channels f.bits)) (sym t.told) t.body.frame
told_next before next c (inr p) h = subst (λ told. IfSome told (λ f. IsFrameFormat f.channels f.bits)) (sym p.same) h

told_behind : (chunks : List Chunk) (before after : _) → MayPrecede before chunks after → IfSome before (λ f. IsFrameFormat f.channels f.bits)
    → IfSome after (λ f. IsFrameFormat f.channels f.bits)
told_behind [] before after same h = subst (λ told. IfSome told (λ f. IsFrameFormat f.channels f.bits)) (sym same) h
told_behind (c ∷ cs) before after next h = told_behind cs next.0 after next.2 (told_next before next.0 c next.1.told h)

pub headed_format : (text : List ℕ) (head : Head) → IsHeaded text head → IsFrameFormat head.channels head.bits
headed_format text head h =
    subst (λ (x : Head). IsFrameFormat x.channels x.bits) (sym h.tells) (told_behind h.chunks None (Some h.format) h.cut.precede tt)
