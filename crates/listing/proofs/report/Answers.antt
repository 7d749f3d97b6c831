use Rattle.std.specs.Prelude.{ℕ, List, []}
use Rattle.std.proofs.Common.{sym, subst}
use Rattle.text.specs.Append.{Appended}
use Rattle.text.specs.Lines.{details_line}
use Rattle.text.proofs.Appends.{then}
use Rattle.call.specs.State.{Logs, logs}
use Rattle.lines.specs.Listing.{listing}
use Rattle.listing.proofs.Shown.{finish}
use Rattle.listing.proofs.report.Goals as goal

pub list-next-requires-clause-counted : goal.list-next-requires-clause-counted
list-next-requires-clause-counted c = c.requires.listable c.if-answer-ne0.false

-- the listing, and the last line behind it
pub returns : goal.returns
returns c =
    let s = c.args in
    let lent : Logs = logs [] s.device_rows.now s.endpoint_rows.now s.packets.now s.events.now s.transactions.now s.groups.now s.statebytes.now s.states.now s.items.now s.links.now s.requests.now in
    subst (λ (x : List ℕ). Appended s.out.now 0 x c.details_line.new.out c.details_line.result) (sym (finish s.answer s.place s.details s.n lent c.if-answer-ne0.false))
    (then s.out.now 0 (listing s.n lent) (details_line s.details) c.list-next.ensures c.details_line.ensures)
