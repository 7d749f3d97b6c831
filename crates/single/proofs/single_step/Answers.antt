use mathlib.Core.Logic.{inl, inr}
use mathlib.Core.Path.{refl, sym, ap, ◌∙◌}
use Rattle.trace.specs.Trace.{answer_of}
use Rattle.step.proofs.Stepping.{packet_bounds, packet-step, event-step, detail-step, refused-step, unknown-step, cut_step, end_step}
use Rattle.single.proofs.single_step.Goals as goal
use Rattle.std.proofs.Common.{◌-◌}

pub slice_bounds-packet-count : goal.slice_bounds-packet-count
slice_bounds-packet-count c = (packet_bounds c.args.records.now c.args.at (sym c.requires ∙ c.in-Packet.is)).0

pub slice_bounds-packet-start : goal.slice_bounds-packet-start
slice_bounds-packet-start c = (packet_bounds c.args.records.now c.args.at (sym c.requires ∙ c.in-Packet.is)).0

pub slice_bounds-packet-end : goal.slice_bounds-packet-end
slice_bounds-packet-end c = (packet_bounds c.args.records.now c.args.at (sym c.requires ∙ c.in-Packet.is)).1

pub returns-then-not-typed : goal.returns-then-not-typed
returns-then-not-typed c = refused-step c.if-not-typed.true (sym c.requires ∙ c.in-Detail.is) c.over.ensures

pub returns-in-Packet : goal.returns-in-Packet
returns-in-Packet c = packet-step (sym c.requires ∙ c.in-Packet.is) c.tick-clock.ensures c.packet-r.ensures c.went.ensures

pub returns-in-Event : goal.returns-in-Event
returns-in-Event c = event-step (sym c.requires ∙ c.in-Event.is) c.tick-clock-in-Event.ensures c.event-r.ensures refl c.went-in-Event.ensures

pub returns-else-not-typed : goal.returns-else-not-typed
returns-else-not-typed c = detail-step c.if-not-typed.false (sym c.requires ∙ c.in-Detail.is) c.detail-r.ensures refl c.went-in-Detail.ensures

pub returns-in-Unknown : goal.returns-in-Unknown
returns-in-Unknown c =
    elim c.in-Unknown.is [
      | inl told ↦ unknown-step (sym c.requires ∙ told) (c.answer.ensures ∙ ap answer_of told) c.over-in-Unknown.ensures
      | inr rest ↦ elim rest [
        | inl told ↦ cut_step (sym c.requires ∙ told) (c.answer.ensures ∙ ap answer_of told) c.over-in-Unknown.ensures
        | inr told ↦ end_step (sym c.requires ∙ told) (c.answer.ensures ∙ ap answer_of told) c.over-in-Unknown.ensures
      ]
    ]
