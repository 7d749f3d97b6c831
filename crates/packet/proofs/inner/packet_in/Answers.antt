use mathlib.Core.Path.{◌≡◌, refl, sym, ap, ◌∙◌}
use mathlib.Core.Bool.{true, false}
use mathlib.Core.List.{List}
use Prim.Native.Nat.{ℕ, ◌<◌, ◌≤◌}
use Rattle.std.proofs.Common.{rules, Result}
use lib.ListN.{length, get_or}
use Rattle.transaction.specs.Payload.{start_pid}
use Rattle.details.specs.declared.Device.{Device}
use Rattle.rules.specs.Transactions.{is_dropped}
use Rattle.record.proofs.FormedLaws.{WellFormed}
use Rattle.record.specs.RoomLaws.{Short}
use Rattle.record.specs.declared.Counts.{Counts}
use Rattle.record.specs.declared.Decoder.{Decoder}
use Rattle.call.specs.Outcome.{world_at}
use Rattle.call.proofs.OutcomeLaws.{sound}
use Rattle.call.specs.Share.{Known}
use Rattle.call.specs.State.{Logs, state, logs, room_of, held_at}
use Rattle.decide.specs.Ready.{ready}
use Rattle.decide.specs.declared.near.Near.{Near}
use Rattle.plan.specs.Packet.{plan_of}
use Rattle.plan.specs.Words.{plan_words}
use Rattle.plan.specs.declared.Plan.{Plan}
use Rattle.tally.proofs.Bounds.{countable_by}
use Rattle.tally.proofs.Formed.{waiting_few}
use Rattle.tally.proofs.PlanLaws.{resume_still}
use Rattle.packet.specs.After.{sum_plan}
use Rattle.packet.specs.Lent.{Lent}
use Rattle.packet.specs.declared.inner.Inner.{Inner}
use Rattle.packet.specs.declared.sum.Refusal.{Refusal}
use Rattle.packet.specs.declared.sum.Sum.{Sum}
use Rattle.packet.proofs.Answers.{Passes, Decided, none-placed, refused_by, rows_fit, asks_by, placed_by, accepted-by, dropped_by, room-rows}
use Rattle.packet.proofs.inner.packet_in.Goals as goal

-- what is known of devices that packet_in could be lent
module _ {near : Near} {packet : List ℕ} {d : Decoder} {v : List Device} {table : List ℕ} {l : Logs} (h : Lent near packet d v table l) where
  well : WellFormed d v table (room_of l)
  well = (sound (state d v table l) h.ill).0

  brief : Short (room_of l)
  brief = (sound (state d v table l) h.ill).1

  passes : d.finished ≡ false → length packet ≤ 4096 → Passes packet (state d v table l)
  passes f s = record { ill = h.ill; finished = f; short = s }

  -- what is decided, once the plan and the sum are there
  decided : {p : Plan} {rows room : Counts} {sum : Result Sum Refusal} → d.finished ≡ false → length packet ≤ 4096 → Known table → is_dropped d.slot d.transaction ≡ false → start_pid d.transaction.style < 256 → get_or packet 0 0 < 256
      → p ≡ plan_words (plan_of d.high packet (world_at (state d v table l))) → rows ≡ held_at (state d v table l) → room ≡ room_of l → sum ≡ sum_plan d rows p (length packet) room
      → Decided packet (state d v table l) p rows room sum
  decided f s k live token first p r n z =
      record { passes = passes f s; known = k; live = live; many = h.many; token = token; first = first; words = true; plan = p; rows = r; room = n; sum = z }

pub held_of-rows-requires : goal.held_of-rows-requires
held_of-rows-requires c = (well c.requires.some_lent.lent).begun

pub drop_packet-requires : goal.drop_packet-requires
drop_packet-requires c =
    let q = c.requires.some_lent in
    let w = well q.lent in
    let l = logs c.args.bytes.now c.args.device_rows.now c.args.endpoint_rows.now c.args.packets.now c.args.events.now c.args.transactions.now c.args.groups.now c.args.statebytes.now c.args.states.now c.args.items.now c.args.links.now c.args.requests.now in
    let r = room-rows (state c.args.d q.devices c.args.table.now l) c.room_of-room.ensures in
    record { packet_len_bound = c.requires.packet_len_bound; waiting_bound = waiting_few w; countable = countable_by w (brief q.lent) c.held_of-rows.ensures; bytes_in_bounds = r.0; packet_width_in_bounds = r.1 }

pub returns-then-is_dropped : goal.returns-then-is_dropped
returns-then-is_dropped c =
    let known : Known c.args.table.now = record { size = c.told-table; words = c.fits-table } in
    let e = c.no_change-none.ensures in
    let q = c.drop_packet.ensures in
    let live = sym c.is_dropped.ensures ∙ c.if-is_dropped.true in
    let l = logs c.args.bytes.now c.args.device_rows.now c.args.endpoint_rows.now c.args.packets.now c.args.events.now c.args.transactions.now c.args.groups.now c.args.statebytes.now c.args.states.now c.args.items.now c.args.links.now c.args.requests.now in
    record {
      placed = none-placed c.args.packet.now c.args.requests.now (q.change ∙ e);
      for_lent = λ v h shelf. dropped_by c.args.packet.now c.args.time (state c.args.d v c.args.table.now l) shelf (passes h c.requires.finished_value c.requires.packet_len_bound) known live _ _ _ e c.held_of-rows.ensures c.room_of-room.ensures q;
    }

pub plan_near-plan-requires : goal.plan_near-plan-requires
plan_near-plan-requires c = ready _ _ _ _ (well c.requires.some_lent.lent)

pub sum_plan-requires : goal.sum_plan-requires
sum_plan-requires c =
    let q = c.requires.some_lent in
    let w = well q.lent in
    let e = c.plan_near-plan.ensures q.devices q.lent.seen in
    record {
      len_bound = c.requires.packet_len_bound;
      waiting_bound = waiting_few w;
      countable = countable_by w (brief q.lent) c.held_of-rows.ensures;
      endpoints_bound = w.counts.few_endpoints;
      endpoint_value = ap (λ (x : Plan). x.resume.endpoint) e ∙ resume_still _ _ _;
    }

pub returns-in-Err : goal.returns-in-Err
returns-in-Err c =
    let known : Known c.args.table.now = record { size = c.told-table; words = c.fits-table } in
    let byte : get_or c.args.packet.now 0 0 < 256 = search rules in
    let e = c.no_change-none.ensures in
    let token : start_pid c.args.d.transaction.style < 256 = search rules in
    let live = sym c.is_dropped.ensures ∙ c.if-is_dropped.false in
    let l = logs c.args.bytes.now c.args.device_rows.now c.args.endpoint_rows.now c.args.packets.now c.args.events.now c.args.transactions.now c.args.groups.now c.args.statebytes.now c.args.states.now c.args.items.now c.args.links.now c.args.requests.now in
    record {
      placed = none-placed c.args.packet.now c.args.requests.now (ap (λ (x : Inner). x.change) c.refused.ensures ∙ e);
      for_lent = λ v h shelf. refused_by c.args.packet.now c.args.time (state c.args.d v c.args.table.now l) (decided h c.requires.finished_value c.requires.packet_len_bound known live token byte (c.plan_near-plan.ensures v h.seen) c.held_of-rows.ensures c.room_of-room.ensures c.in-Err.ensures) refl e c.refused.ensures shelf;
    }

pub change_of-change-requires : goal.change_of-change-requires
change_of-change-requires c = (well c.requires.some_lent.lent).counts.few_devices

pub put_packet-requires : goal.put_packet-requires
put_packet-requires c =
    let known : Known c.args.table.now = record { size = c.told-table; words = c.fits-table } in
    let byte : get_or c.args.packet.now 0 0 < 256 = search rules in
    let q = c.requires.some_lent in
    let token : start_pid c.args.d.transaction.style < 256 = search rules in
    let live = sym c.is_dropped.ensures ∙ c.if-is_dropped.false in
    let the_rest = rows_fit c.args.packet.now c.args.time _ (decided q.lent c.requires.finished_value c.requires.packet_len_bound known live token byte (c.plan_near-plan.ensures q.devices q.lent.seen) c.held_of-rows.ensures c.room_of-room.ensures c.in-Ok.ensures) refl in
    record { packet_in_bounds = the_rest.0; packet_width_in_bounds = the_rest.1 }

pub perform-hand-requires : goal.perform-hand-requires
perform-hand-requires c =
    let known : Known c.args.table.now = record { size = c.told-table; words = c.fits-table } in
    let byte : get_or c.args.packet.now 0 0 < 256 = search rules in
    let q = c.requires.some_lent in
    let token : start_pid c.args.d.transaction.style < 256 = search rules in
    let live = sym c.is_dropped.ensures ∙ c.if-is_dropped.false in
    asks_by c.args.packet.now c.args.time _ (decided q.lent c.requires.finished_value c.requires.packet_len_bound known live token byte (c.plan_near-plan.ensures q.devices q.lent.seen) c.held_of-rows.ensures c.room_of-room.ensures c.in-Ok.ensures) refl c.hand_of.ensures

pub returns : goal.returns
returns c =
    let known : Known c.args.table.now = record { size = c.told-table; words = c.fits-table } in
    let byte : get_or c.args.packet.now 0 0 < 256 = search rules in
    let q = c.requires.some_lent in
    let token : start_pid c.args.d.transaction.style < 256 = search rules in
    let live = sym c.is_dropped.ensures ∙ c.if-is_dropped.false in
    let l = logs c.args.bytes.now c.args.device_rows.now c.args.endpoint_rows.now c.args.packets.now c.args.events.now c.args.transactions.now c.args.groups.now c.args.statebytes.now c.args.states.now c.args.items.now c.args.links.now c.args.requests.now in
    record {
      placed = placed_by c.args.packet.now c.args.time (state c.args.d q.devices c.args.table.now l) (decided q.lent c.requires.finished_value c.requires.packet_len_bound known live token byte (c.plan_near-plan.ensures q.devices q.lent.seen) c.held_of-rows.ensures c.room_of-room.ensures c.in-Ok.ensures) refl c.change_of-change.ensures;
      for_lent = λ v h shelf. accepted-by c.args.packet.now c.args.time (state c.args.d v c.args.table.now l) (decided h c.requires.finished_value c.requires.packet_len_bound known live token byte (c.plan_near-plan.ensures v h.seen) c.held_of-rows.ensures c.room_of-room.ensures c.in-Ok.ensures) refl c.hand_of.ensures c.perform-hand.ensures c.put_packet.ensures.bytes_after c.put_packet.ensures.packets_after c.decoder_by.ensures c.change_of-change.ensures shelf;
    }
