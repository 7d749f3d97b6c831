use mathlib.Core.Path.{sym, ap, ◌∙◌}
use Rattle.crc.specs.Crc.{generator16, bits, bytes}
use Rattle.crc.proofs.Bytes.{eight}
use Rattle.crc.proofs.word.Goals as goal

pub returns : goal.returns
unfolding bits bytes
returns c = λ q.
    c.join-5.ensures.1 56 _
    ∙ c.join-4.ensures.1 48 _
    ∙ c.join-y.ensures.1 40 _
    ∙ c.join-3.ensures.1 32 _
    ∙ c.join-x.ensures.1 24 _
    ∙ c.join-2.ensures.1 16 _
    ∙ c.join-w.ensures.1 8 _
    ∙ c.join.ensures.1 0 _
    ∙ ap (bytes generator16 q) (sym (eight _ _ c.requires))
