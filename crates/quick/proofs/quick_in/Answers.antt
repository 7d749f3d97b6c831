use mathlib.Core.Path.{◌≡◌, refl, ◌∙◌}
use mathlib.Core.Bool.{false}
use mathlib.Core.List.{List}
use Prim.Native.Nat.{ℕ, ◌<◌, ◌≤◌}
use native.Mathlib.Omega.{arith}
use Rattle.std.proofs.Common.{rules}
use lib.ListN.{length, get_or}
use Rattle.transaction.specs.Payload.{start_pid}
use Rattle.details.specs.declared.Device.{Device}
use Rattle.record.proofs.FormedLaws.{WellFormed}
use Rattle.record.specs.RoomLaws.{Short}
use Rattle.record.specs.declared.Decoder.{Decoder}
use Rattle.call.proofs.OutcomeLaws.{sound}
use Rattle.call.specs.Share.{Known}
use Rattle.call.specs.State.{Logs, state, logs, room_of}
use Rattle.decide.specs.Ready.{ready}
use Rattle.decide.specs.declared.near.Near.{Near}
use Rattle.tally.proofs.Bounds.{looser, sums-room, countable_by}
use Rattle.tally.proofs.Formed.{waiting_few}
use Rattle.packet.specs.Lent.{Lent}
use Rattle.packet.proofs.Answers.{none-placed}
use Rattle.quick.specs.Close.{close_tally}
use Rattle.quick.specs.Light.{link_rows}
use Rattle.quick.proofs.BeginOnly.{begin-asks, begin-rows, begin-more, begin_by}
use Rattle.quick.proofs.Rest.{begins-plan}
use Rattle.quick.proofs.CloseOnly.{close_small, close-only-call, close-only-asks, close-only-rows, close-counted}
use Rattle.quick.proofs.LightCall.{there, light-count, light-room, light_by}
use Rattle.quick.proofs.Quick.{Meets, begin-lent, close-lent, light-lent, begin-taken, close-taken, light-taken, kept_parts}
use Rattle.quick.proofs.quick_in.Goals as goal

-- what is known of devices that quick_in could be lent
module _ {near : Near} {packet : List ℕ} {d : Decoder} {v : List Device} {table : List ℕ} {l : Logs} (h : Lent near packet d v table l) where
  well : WellFormed d v table (room_of l)
  well = (sound (state d v table l) h.ill).0

  brief : Short (room_of l)
  brief = (sound (state d v table l) h.ill).1

  meets : d.finished ≡ false → length packet ≤ 4096 → Known table → start_pid d.transaction.style < 256 → get_or packet 0 0 < 256 → Meets packet (state d v table l)
  meets f s k token first = record { passes = record { ill = h.ill; finished = f; short = s }; known = k; many = h.many; token = token; first = first }

pub held_of-rows-requires : goal.held_of-rows-requires
held_of-rows-requires c = (well c.requires.some_lent.lent).begun

pub shape_of-q-requires : goal.shape_of-q-requires
shape_of-q-requires c = ready _ _ _ _ (well c.requires.some_lent.lent)

pub begin_fits-requires : goal.begin_fits-requires
begin_fits-requires c =
    let h = c.requires.some_lent.lent in
    record { len_bound = c.requires.packet_len_bound; countable = countable_by (well h) (brief h) c.held_of-rows.ensures }

pub begin_only-decoder-requires : goal.begin_only-decoder-requires
begin_only-decoder-requires c =
    let known : Known c.args.table.now = record { size = c.told-table; words = c.fits-table } in
    let byte : get_or c.args.packet.now 0 0 < 256 = search rules in
    let l = logs c.args.bytes.now c.args.device_rows.now c.args.endpoint_rows.now c.args.packets.now c.args.events.now c.args.transactions.now c.args.groups.now c.args.statebytes.now c.args.states.now c.args.items.now c.args.links.now c.args.requests.now in
    let token : start_pid c.args.d.transaction.style < 256 = search rules in
    let v = c.requires.some_lent.devices in
    let h = c.requires.some_lent.lent in
    let b = begin-taken c.args.packet.now (state c.args.d v c.args.table.now l) c.shape_of-q.result (meets h c.requires.finished_value c.requires.packet_len_bound known token byte) (c.shape_of-q.ensures v h.seen) c.held_of-rows.ensures c.room_of-room.ensures c.begin_fits.ensures c.if-q-begin_fits.true in
    let p = begins-plan c.args.packet.now c.args.time (state c.args.d v c.args.table.now l) b.enters b.plan b.kept b.fits in
    let q = c.shape_of-q.result in
    let x = begin-asks c.args.packet.now c.args.time (state c.args.d v c.args.table.now l) b.enters p in
    let r = begin-rows c.args.packet.now c.args.time (state c.args.d v c.args.table.now l) b.enters p in
    let m = begin-more (state c.args.d v c.args.table.now l) q.row q.link _ b.fits.rows in
    let the_rest = begin-lent c.args.packet.now (state c.args.d v c.args.table.now l) q.row q.link c.held_of-rows.ensures r.0 r.1 m.0 m.1 in
    record {
      endpoint_bound = omega (arith, x.0, x.1.0);
      l_bound = x.1.1;
      rows_fit = b.fits.numbers;
      packet_in_bounds = the_rest.0;
      packet_width_in_bounds = the_rest.1.0;
      transaction_width_in_bounds = the_rest.1.1.0;
      link_width_in_bounds = the_rest.1.1.1;
    }

pub returns-then-q-begin_fits : goal.returns-then-q-begin_fits
returns-then-q-begin_fits c =
    let known : Known c.args.table.now = record { size = c.told-table; words = c.fits-table } in
    let byte : get_or c.args.packet.now 0 0 < 256 = search rules in
    let l = logs c.args.bytes.now c.args.device_rows.now c.args.endpoint_rows.now c.args.packets.now c.args.events.now c.args.transactions.now c.args.groups.now c.args.statebytes.now c.args.states.now c.args.items.now c.args.links.now c.args.requests.now in
    let token : start_pid c.args.d.transaction.style < 256 = search rules in
    let e = c.no_change-none.ensures in
    let w = c.begin_only-decoder.ensures in
    record {
      placed = none-placed c.args.packet.now c.args.requests.now e;
      for_lent = λ v h shelf.
          let b = begin-taken c.args.packet.now (state c.args.d v c.args.table.now l) c.shape_of-q.result (meets h c.requires.finished_value c.requires.packet_len_bound known token byte) (c.shape_of-q.ensures v h.seen) c.held_of-rows.ensures c.room_of-room.ensures c.begin_fits.ensures c.if-q-begin_fits.true in
          kept_parts c.args.packet.now c.args.time (state c.args.d v c.args.table.now l) shelf e
          (begin_by c.args.packet.now c.args.time (state c.args.d v c.args.table.now l) b.enters (begins-plan c.args.packet.now c.args.time (state c.args.d v c.args.table.now l) b.enters b.plan b.kept b.fits) c.held_of-rows.ensures w.value w.table_after w.bytes_after w.packets_after w.transactions_after w.links_after shelf) refl refl;
    }

pub end_by-end-requires : goal.end_by-end-requires
end_by-end-requires c = ready _ _ _ _ (well c.requires.some_lent.lent)

pub light_fits-requires : goal.light_fits-requires
light_fits-requires c =
    let h = c.requires.some_lent.lent in
    record { len_bound = c.requires.packet_len_bound; countable = countable_by (well h) (brief h) c.held_of-rows.ensures }

pub light_only-decoder-requires : goal.light_only-decoder-requires
light_only-decoder-requires c =
    let known : Known c.args.table.now = record { size = c.told-table; words = c.fits-table } in
    let byte : get_or c.args.packet.now 0 0 < 256 = search rules in
    let l = logs c.args.bytes.now c.args.device_rows.now c.args.endpoint_rows.now c.args.packets.now c.args.events.now c.args.transactions.now c.args.groups.now c.args.statebytes.now c.args.states.now c.args.items.now c.args.links.now c.args.requests.now in
    let token : start_pid c.args.d.transaction.style < 256 = search rules in
    let v = c.requires.some_lent.devices in
    let h = c.requires.some_lent.lent in
    let b = light-taken c.args.packet.now (state c.args.d v c.args.table.now l) c.shape_of-q.result c.args.near.old (meets h c.requires.finished_value c.requires.packet_len_bound known token byte) (c.shape_of-q.ensures v h.seen) c.held_of-rows.ensures c.room_of-room.ensures h.seen.old c.end_by-end.ensures c.light_fits.ensures c.if-q-light_fits.true in
    let end = c.end_by-end.result in
    let r = close-only-rows c.args.packet.now c.args.time (state c.args.d v c.args.table.now l) b.enters b.plan b.fits in
    let the_rest = light-lent c.args.packet.now (state c.args.d v c.args.table.now l) (link_rows end.update end.effect) c.held_of-rows.ensures r.0 r.1 (light-room c.args.packet.now c.args.time (state c.args.d v c.args.table.now l) b.enters b.plan b.fits b.light b.entry) in
    record {
      update_value = b.light.quiet;
      endpoint_bound = there c.args.packet.now c.args.time (state c.args.d v c.args.table.now l) b.enters b.plan b.fits b.light b.entry;
      link_bound = light-count c.args.packet.now c.args.time (state c.args.d v c.args.table.now l) b.enters b.plan b.fits b.light b.entry;
      total_value = b.light.total;
      rows_fit = b.light.fits.numbers;
      packet_in_bounds = the_rest.0;
      packet_width_in_bounds = the_rest.1.0;
      link_width_in_bounds = the_rest.1.1;
    }

pub returns-then-q-light_fits : goal.returns-then-q-light_fits
returns-then-q-light_fits c =
    let known : Known c.args.table.now = record { size = c.told-table; words = c.fits-table } in
    let byte : get_or c.args.packet.now 0 0 < 256 = search rules in
    let l = logs c.args.bytes.now c.args.device_rows.now c.args.endpoint_rows.now c.args.packets.now c.args.events.now c.args.transactions.now c.args.groups.now c.args.statebytes.now c.args.states.now c.args.items.now c.args.links.now c.args.requests.now in
    let token : start_pid c.args.d.transaction.style < 256 = search rules in
    let e = c.no_change-none.ensures in
    let w = c.light_only-decoder.ensures in
    record {
      placed = none-placed c.args.packet.now c.args.requests.now e;
      for_lent = λ v h shelf.
          let b = light-taken c.args.packet.now (state c.args.d v c.args.table.now l) c.shape_of-q.result c.args.near.old (meets h c.requires.finished_value c.requires.packet_len_bound known token byte) (c.shape_of-q.ensures v h.seen) c.held_of-rows.ensures c.room_of-room.ensures h.seen.old c.end_by-end.ensures c.light_fits.ensures c.if-q-light_fits.true in
          kept_parts c.args.packet.now c.args.time (state c.args.d v c.args.table.now l) shelf e
          (light_by c.args.packet.now c.args.time (state c.args.d v c.args.table.now l) b.enters b.plan b.fits b.light b.entry b.kept w.style_bound c.held_of-rows.ensures w.value w.table_after w.bytes_after w.packets_after w.links_after shelf) refl refl;
    }

pub close_of-requires : goal.close_of-requires
close_of-requires c =
    let h = c.requires.some_lent.lent in
    let w = well h in
    record { len_bound = c.requires.packet_len_bound; waiting_bound = waiting_few w; endpoints_bound = w.counts.few_endpoints; countable = countable_by w (brief h) c.held_of-rows.ensures }

pub close_only-decoder-requires : goal.close_only-decoder-requires
close_only-decoder-requires c =
    let known : Known c.args.table.now = record { size = c.told-table; words = c.fits-table } in
    let byte : get_or c.args.packet.now 0 0 < 256 = search rules in
    let l = logs c.args.bytes.now c.args.device_rows.now c.args.endpoint_rows.now c.args.packets.now c.args.events.now c.args.transactions.now c.args.groups.now c.args.statebytes.now c.args.states.now c.args.items.now c.args.links.now c.args.requests.now in
    let token : start_pid c.args.d.transaction.style < 256 = search rules in
    let v = c.requires.some_lent.devices in
    let h = c.requires.some_lent.lent in
    let b = close-taken c.args.packet.now (state c.args.d v c.args.table.now l) c.shape_of-q.result c.args.near.old (meets h c.requires.finished_value c.requires.packet_len_bound known token byte) (c.shape_of-q.ensures v h.seen) c.held_of-rows.ensures c.room_of-room.ensures h.seen.old c.end_by-end.ensures c.in-Some.ensures in
    let r = close-only-rows c.args.packet.now c.args.time (state c.args.d v c.args.table.now l) b.enters b.plan b.fits in
    let w = well h in
    let end = c.end_by-end.result in
    let the_rest = close-lent c.args.packet.now c.args.time (state c.args.d v c.args.table.now l) c.shape_of-q.result.closes c.room_of-room.result c.shape_of-q.result.transaction c.held_of-rows.ensures c.in-Some.ensures
    (sums-room (close_tally end _ c.args.d) (room_of l) (countable_by w (brief h) refl) (looser (close_small end _ c.args.d c.requires.packet_len_bound (waiting_few w) w.counts.few_endpoints) _ (omega arith)) b.fits.fits)
    r.0 r.1 (λ on. close-only-asks c.args.packet.now c.args.time (state c.args.d v c.args.table.now l) b.enters b.plan b.fits) in
    record { sums = the_rest.0; packet_in_bounds = the_rest.1.0; packet_width_in_bounds = the_rest.1.1.0; ends_if = the_rest.1.1.1 }

pub returns-in-Some : goal.returns-in-Some
returns-in-Some c =
    let known : Known c.args.table.now = record { size = c.told-table; words = c.fits-table } in
    let byte : get_or c.args.packet.now 0 0 < 256 = search rules in
    let l = logs c.args.bytes.now c.args.device_rows.now c.args.endpoint_rows.now c.args.packets.now c.args.events.now c.args.transactions.now c.args.groups.now c.args.statebytes.now c.args.states.now c.args.items.now c.args.links.now c.args.requests.now in
    let token : start_pid c.args.d.transaction.style < 256 = search rules in
    let e = c.no_change-none.ensures in
    let q = c.shape_of-q.result in
    let end = c.end_by-end.result in
    record {
      placed = none-placed c.args.packet.now c.args.requests.now e;
      for_lent = λ v h shelf.
          let b = close-taken c.args.packet.now (state c.args.d v c.args.table.now l) c.shape_of-q.result c.args.near.old (meets h c.requires.finished_value c.requires.packet_len_bound known token byte) (c.shape_of-q.ensures v h.seen) c.held_of-rows.ensures c.room_of-room.ensures h.seen.old c.end_by-end.ensures c.in-Some.ensures in
          kept_parts c.args.packet.now c.args.time (state c.args.d v c.args.table.now l) shelf e
          (close-only-call c.args.packet.now c.args.time (state c.args.d v c.args.table.now l) b.enters b.plan b.fits b.kept
          (c.close_only-decoder.ensures v c.args.endpoint_rows.now c.args.events.now c.args.transactions.now c.args.requests.now c.held_of-rows.ensures
          ∙ close-counted q.transaction end c.args.packet.now c.args.time (state c.args.d v c.args.table.now l) q.closes c.held_of-rows.result c.room_of-room.result c.in-Some.ensures)
          shelf) refl refl;
    }

pub packet_in-r-requires : goal.packet_in-r-requires
packet_in-r-requires c = record { some_lent = c.requires.some_lent; finished_value = c.requires.finished_value; packet_len_bound = c.requires.packet_len_bound }
