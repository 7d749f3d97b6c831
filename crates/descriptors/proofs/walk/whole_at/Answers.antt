use Rattle.std.proofs.Common.{arith, ap, ◌∙◌, ◌≡◌, Some, get_or, sym, ltb-true}
use Rattle.std.proofs.lemmas.List.{get_or_read}
use Rattle.descriptors.proofs.EntriesLaws.{none_past, none_small, none_cut, one-there}
use Rattle.descriptors.proofs.walk.whole_at.Goals as goal
use Rattle.descriptors.proofs.walk.whole_at.Goals.{then-len-lt-SHORTEST-via-then-len-lt-SHORTEST, then-len-lt-SHORTEST-via-else-len-lt-SHORTEST+then-payload-at}

pub returns-in_err-get : goal.returns-in_err-get
returns-in_err-get c = rw c.from_residual.ensures (none_past c.args.payload.now c.args.at (omega (arith, c.in_err-get.ensures.lookup)))

pub returns-then-len-lt-SHORTEST : goal.returns-then-len-lt-SHORTEST
returns-then-len-lt-SHORTEST c =
    let a = c.args in
    let byte : c.from-len.result ≡ get_or a.payload.now a.at 0 = c.from-len.ensures ∙ get_or_read a.payload.now _ _ (ltb-true _ _ (sym c.in_ok-get.ensures.lookup.0)) c.in_ok-get.ensures.lookup.1 0 in
    elim c.then-len-lt-SHORTEST.branch [
      | then-len-lt-SHORTEST-via-then-len-lt-SHORTEST w ↦ none_small a.payload.now a.at (omega (arith, w.if-len-lt-SHORTEST.true))
      | then-len-lt-SHORTEST-via-else-len-lt-SHORTEST+then-payload-at w ↦ none_cut a.payload.now a.at (omega (arith, w.if-len-lt-SHORTEST.false)) (omega (arith, w.if-payload-at.true))
    ]

pub returns : goal.returns
returns c =
    let a = c.args in
    let byte : c.from-len.result ≡ get_or a.payload.now a.at 0 = c.from-len.ensures ∙ get_or_read a.payload.now _ _ (ltb-true _ _ (sym c.in_ok-get.ensures.lookup.0)) c.in_ok-get.ensures.lookup.1 0 in
    ap Some byte ∙ one-there a.payload.now a.at (omega arith) (omega arith)
