-- A close-only packet whose end is light: what writing it asks, and that what it leaves is the call's.
use mathlib.Core.Path.{◌≡◌, refl, sym, ap, subst, ◌∙◌}
use mathlib.Core.Bool.{Bool, true, false, not, true≢false}
use mathlib.Core.List.{List, [], ◌∷◌}
use Prim.Native.Nat.{ℕ, ◌+◌, ◌*◌, ◌^◌, ◌<◌, ◌≤◌}
use native.Mathlib.Omega.{arith}
use lib.ListN.{length}
use lib.Seq.{sets}
use Rattle.rows.specs.One.{one}
use Rattle.rows.specs.Widths.{packet_width, link_width}
use Rattle.details.specs.declared.Detail.{Detail}
use Rattle.endpoints.specs.Table.{entry_at}
use Rattle.endpoints.proofs.TableLaws.{Fits, fits-entry}
use Rattle.endpoints.specs.declared.Endpoint.{Endpoint}
use Rattle.transaction.specs.Payload.{start_pid}
use Rattle.transaction.specs.declared.Transaction.{Transaction}
use Rattle.group.specs.declared.Effect.{Effect}
use Rattle.group.specs.declared.Effect.TheVariants.{NoEffect, NewDevice, Request, PendingData, IndexData}
use Rattle.group.proofs.Laws.{group-keeps}
use Rattle.rules.specs.declared.Slot.TheVariants.{Empty}
use Rattle.update.specs.Effect.{passes}
use Rattle.tally.specs.Tally.{tally_update}
use Rattle.tally.specs.Tallies.{tally_end, add_counts}
use Rattle.record.specs.Bools.{both}
use Rattle.record.specs.RoomLaws.{Within, Numbered}
use Rattle.record.specs.declared.Counts.{Counts}
use Rattle.record.specs.declared.Decoder.{Decoder}
use Rattle.plan.specs.Devices.{adds_device, asks}
use Rattle.plan.specs.Packet.{keeps, old_endpoint, end_if, plan_of}
use Rattle.plan.specs.Step.{end_of}
use Rattle.plan.specs.declared.End.{End}
use Rattle.call.specs.Outcome.{world_at}
use Rattle.call.specs.State.{State, state, logs, held_at, room_by, room_of}
use Rattle.packet.specs.Call.{PacketCall}
use Rattle.quick.specs.Close.{CloseOnly, end_by, close_tally, CloseFits}
use Rattle.quick.specs.Light.{is_quiet, is_counting, is_total, link_rows, light_fits, light_decoder, light_table, light_links}
use Rattle.quick.specs.Room.{more_rows, RowsRoom}
use Rattle.quick.specs.declared.shape.Shape.{Shape}
use Rattle.quick.proofs.Calls.{Enters}
use Rattle.quick.proofs.CloseOnly.{close-only-call, close-only-asks}
use Rattle.quick.proofs.Fit.{off, plain, room-by, room_fits}
use Rattle.quick.proofs.LightEnd.{quieted, stored, light-is}

-- ---- the entry of the end

-- what group_status leaves of an entry whose bytes are bytes
fits-end : (x : ℕ) (e : Endpoint) (t : Transaction) (d : Detail) (last : ℕ) (success complete : Bool) → Fits e → Fits (end_of x e t d last success complete).entry
unfolding end_of
fits-end x e t d last success complete f =
    let g = group-keeps e t d success complete in
    record { address = omega (arith, g.address, f.address); state = omega (arith, g.state, f.state); first = omega (arith, g.first, f.first); last = omega (arith, g.last, f.last) }

pub end_fits : (q : Shape) (d : Decoder) (old : Detail) (table : List ℕ) → Fits (end_by q d old table).entry
end_fits q d old table = by q.closes
  where
    x : ℕ
    x = old_endpoint d.slot d.transaction

    by : (b : Bool) → Fits (end_if b (end_of x (entry_at table x) q.transaction old d.last q.success true) (entry_at table x)).entry
    by true = fits-end x (entry_at table x) q.transaction old d.last q.success true (fits-entry table x)
    by false = fits-entry table x

-- ---- the tests that light_fits has put together

pub record LightRoom (e : End) (len : ℕ) (held n room : Counts) : Type 0 where
  pub quiet : is_quiet e.update ≡ true
  pub counts : is_counting e.effect ≡ true
  pub total : passes e.effect e.entry.total ≡ false
  pub fits : RowsRoom 0 (link_rows e.update e.effect) len held n room

pub light_tests : (e : End) (len : ℕ) (held n room : Counts) → light_fits e len held n room ≡ true → LightRoom e len held n room
light_tests e len held n room h =
    let a = both (is_quiet e.update) _ h in
    let b = both (is_counting e.effect) _ a.1 in
    let c = both (not (passes e.effect e.entry.total)) _ b.1 in
    record { quiet = a.0; counts = b.0; total = off _ c.0; fits = room_fits 0 (link_rows e.update e.effect) len held n room c.1 }

-- ---- what it adds

module _ (e : End) (len : ℕ) (d : Decoder) (h : is_quiet e.update ≡ true) (c : is_counting e.effect ≡ true) where
  -- with the flags of its update as they are
  abbrev lightly : Bool → Effect → End
  lightly b f = record { entry = e.entry; update = record { over = false; cut = false; link = b; start = false; group = e.update.group; end = false; item = false }; effect = f }

  same : e ≡ lightly e.update.link e.effect
  same = λ i. record { entry = e.entry; update = quieted e.update h i; effect = e.effect }

  pub light-counts : (n : Counts) → add_counts n (close_tally e len d) ≡ more_rows 0 (link_rows e.update e.effect) len n
  unfolding add_counts close_tally tally_end tally_update
  light-counts n = ap (λ (x : End). add_counts n (close_tally x len d)) same ∙ by e.update.link e.effect c
    where
      by : (b : Bool) (f : Effect) → is_counting f ≡ true → add_counts n (close_tally (lightly b f) len d) ≡ more_rows 0 (one b + one (is_total f)) len n
      by true NoEffect g = plain n len 0 1
      by false NoEffect g = plain n len 0 0
      by true (IndexData m waited i) g = plain n len 0 2
      by false (IndexData m waited i) g = plain n len 0 1
      by b (NewDevice address) g = absurd (true≢false (sym g))
      by b (Request m) g = absurd (true≢false (sym g))
      by b (PendingData m) g = absurd (true≢false (sym g))

  pub light-waiting : (close_tally e len d).waiting ≡ d.waiting
  unfolding close_tally tally_end tally_update
  light-waiting = ap (λ (x : End). (close_tally x len d).waiting) same ∙ by e.update.link e.effect c
    where
      by : (b : Bool) (f : Effect) → is_counting f ≡ true → (close_tally (lightly b f) len d).waiting ≡ d.waiting
      by true NoEffect g = refl
      by false NoEffect g = refl
      by true (IndexData m waited i) g = refl
      by false (IndexData m waited i) g = refl
      by b (NewDevice address) g = absurd (true≢false (sym g))
      by b (Request m) g = absurd (true≢false (sym g))
      by b (PendingData m) g = absurd (true≢false (sym g))

-- it adds no device
no-device : (f : Effect) → is_counting f ≡ true → adds_device f ≡ false
no-device NoEffect h = refl
no-device (NewDevice address) h = absurd (true≢false (sym h))
no-device (Request n) h = refl
no-device (PendingData n) h = refl
no-device (IndexData n waited i) h = refl

-- it completes no request
no-request : (f : Effect) → is_counting f ≡ true → asks f ≡ false
no-request NoEffect h = refl
no-request (NewDevice address) h = refl
no-request (Request n) h = absurd (true≢false (sym h))
no-request (PendingData n) h = refl
no-request (IndexData n waited i) h = refl

-- so the tests of any end are passed, where rows and numbers fitted before
pub light-closes : (e : End) (len : ℕ) (d : Decoder) (held room : Counts) → Within held room → Numbered d.counts → LightRoom e len held d.counts room → CloseFits e len d held room
light-closes e len d held room w m l =
    record {
      fits = room-by 0 (link_rows e.update e.effect) len (close_tally e len d) held d.counts room (light-counts e len d l.quiet l.counts) w m l.fits;
      total = l.total;
      device = no-device e.effect l.counts;
      request = no-request e.effect l.counts;
    }

-- ---- the call

module _ (packet : List ℕ) (time : ℕ) (s : State) (h : Enters packet s) {t : Transaction} {e : End} (q : CloseOnly (plan_of s.decoder.high packet (world_at s)) t e Empty) (f : CloseFits e (length packet) s.decoder (held_at s) (room_of s.logs))
    (l : LightRoom e (length packet) (held_at s) s.decoder.counts (room_of s.logs)) (fits : Fits e.entry) where
  pub there : t.endpoint < 128
  there = let a = (close-only-asks packet time s h q f).asks in omega (arith, a.there, a.few)

  pub light-count : e.entry.transactions + one e.update.link < 2 ^ 64
  light-count =
      subst (λ (a : Endpoint). a.transactions + one e.update.link < 2 ^ 64) (stored s.table t.endpoint h.known.size there e.entry fits)
      (close-only-asks packet time s h q f).asks.transactions

  pub light-room : ((held_at s).links + link_rows e.update e.effect) * link_width ≤ length s.logs.links
  unfolding room_by
  light-room = let a = l.fits.rows.links in omega (arith, a)

  -- of what the code has: each part with its equation (light_only)
  pub light_by : {held : Counts} {r : Decoder} {table bytes packets rows : List ℕ}
      → keeps s.decoder.high (plan_of s.decoder.high packet (world_at s)) ≡ false
      → start_pid t.style < 256
      → held ≡ held_at s
      → r ≡ light_decoder t e (more_rows 0 (link_rows e.update e.effect) (length packet) s.decoder.counts) s.decoder.waiting time s.decoder
      → table ≡ light_table t e s.table
      → bytes ≡ sets s.logs.bytes held.bytes packet
      → packets ≡ sets s.logs.packets (held.packets * packet_width) (s.decoder.counts.bytes ∷ time ∷ [])
      → rows ≡ light_links t e held.links s.logs.links
      → (shelf : List ℕ)
      → PacketCall packet time s shelf 0 (state r s.devices table (logs bytes s.logs.devices s.logs.endpoints packets s.logs.events s.logs.transactions s.logs.groups s.logs.statebytes s.logs.states s.logs.items rows s.logs.requests)) shelf
  light_by {held} kept byte e1 e3 e4 e5 e6 e7 shelf =
      let g = s.logs in
      let z = close_tally e (length packet) s.decoder in
      let n = light-counts e (length packet) s.decoder l.quiet l.counts s.decoder.counts in
      let m = light-waiting e (length packet) s.decoder l.quiet l.counts in
      let d : _ ≡ light_decoder t e (add_counts s.decoder.counts z) z.waiting time s.decoder = e3 ∙ λ i. light_decoder t e (sym n i) (sym m i) time s.decoder in
      let b = e5 ∙ ap (λ (y : Counts). sets g.bytes y.bytes packet) e1 in
      let p = e6 ∙ ap (λ (y : Counts). sets g.packets (y.packets * packet_width) (s.decoder.counts.bytes ∷ time ∷ [])) e1 in
      let k = e7 ∙ ap (λ (y : Counts). light_links t e y.links g.links) e1 in
      close-only-call packet time s h q f kept
      ((λ i. state (d i) s.devices (e4 i) (logs (b i) g.devices g.endpoints (p i) g.events g.transactions g.groups g.statebytes g.states g.items (k i) g.requests))
      ∙ light-is t e z packet time s h.known.size there byte fits l.quiet l.counts) shelf
