-- A close-only packet leaves what specs/Close.antt says: `close-only-call`.
use mathlib.Core.Path.{◌≡◌, refl, sym, ap, subst, ◌∙◌}
use mathlib.Core.Bool.{Bool, true, false, true≢false, ◌&&◌, ◌||◌, not}
use mathlib.Core.List.{List, [], ◌∷◌}
use Prim.Native.Nat.{ℕ, ◌+◌, ◌*◌, ◌≤◌}
use native.Mathlib.Omega.{arith}
use lib.ListN.{length}
use lib.Seq.{sets}
use Rattle.std.specs.Prelude.{Ok, Option, Some, None}
use Rattle.usb.specs.Packet.{no_reason}
use Rattle.rows.specs.Widths.{packet_width}
use Rattle.details.specs.declared.Detail.{Detail}
use Rattle.endpoints.specs.Table.{entry_at}
use Rattle.endpoints.specs.declared.Endpoint.{Endpoint}
use Rattle.transaction.specs.Payload.{start_pid}
use Rattle.transaction.specs.declared.Transaction.{Transaction}
use Rattle.rules.specs.declared.Slot.{Slot}
use Rattle.rules.specs.declared.Slot.TheVariants.{Empty}
use Rattle.rules.specs.World.{◌▷◌}
use Rattle.update.specs.Effect.{passes}
use Rattle.tally.specs.Tally.{tally_update, none as nothing, add_packet}
use Rattle.tally.specs.declared.add.Tally.{Tally}
use Rattle.write_update.specs.Carried.{opened, closed}
use Rattle.record.specs.Bools.{both}
use Rattle.record.specs.declared.Counts.{Counts}
use Rattle.record.specs.declared.Decoder.{Decoder}
use Rattle.plan.specs.Devices.{adds_device, asks}
use Rattle.plan.specs.Packet.{old_endpoint, resting, end_if, keeps, plan_of}
use Rattle.plan.specs.Step.{end_of}
use Rattle.plan.specs.declared.End.{End}
use Rattle.plan.specs.declared.Plan.{Plan}
use Rattle.call.specs.Outcome.{world_at}
use Rattle.call.specs.State.{State, state, logs, held_at, room_of}
use Rattle.tally.specs.Passes.{plan_passes}
use Rattle.tally.specs.Tallies.{tally_plan, tally_begin, tally_end, room_for}
use Rattle.tally.proofs.Bounds.{Small, small-none, more, packet_small, end_small}
use Rattle.write_packet.specs.Asked.{EndReady, EndsIf}
use Rattle.write_packet.specs.Desk.{desk, begun_desk, ended_desk}
use Rattle.write_packet.specs.declared.Hand.{Hand}
use Rattle.packet.specs.After.{sum_by, sum_plan, tally_of, accepted, hand_of}
use Rattle.packet.specs.Call.{PacketCall}
use Rattle.quick.specs.Close.{only_close, CloseOnly, end_by, close_tally, taken, rows_if, close_of, CloseFits, holding, close_hand, closed_decoder, close_state}
use Rattle.quick.specs.declared.shape.Shape.{Shape}
use Rattle.quick.proofs.Calls.{Enters, left_with, shape-asks, shape-rows, shape-call}
use Rattle.quick.proofs.Fit.{off}

-- ---- the shape

pub shape : {p : Plan} {t : Transaction} {e : End} {slot : Slot} → CloseOnly p t e slot → p ≡ only_close p t e slot
shape {p} h =
    λ i. record {
      resumes = h.resumes i;
      resume = p.resume;
      ends = h.ends i;
      old = p.old;
      brought = p.brought;
      end = p.end;
      begin = h.begin i;
      closes = h.closes i;
      close = h.close i;
      slot = h.slot i;
      reason = h.reason i;
    }

-- ---- the sum

-- it is small, as all that one packet adds
pub close_small : (e : End) (len : ℕ) (d : Decoder) → len ≤ 4096 → d.waiting ≤ 128 → d.counts.endpoints ≤ 128 → Small 65536 (close_tally e len d)
unfolding close_tally
close_small e len d a b c = more (end_small (packet_small (small-none d.waiting) len a) e d.counts.endpoints c) 65536 (omega arith)

module _ (p : Plan) (t : Transaction) (e : End) (slot : Slot) (d : Decoder) (len : ℕ) where
  pub tally-by : tally_of d (only_close p t e slot) len ≡ close_tally e len d
  unfolding tally_plan tally_begin tally_update close_tally
  tally-by = let same : d.counts.endpoints + 0 ≡ d.counts.endpoints = omega arith in ap (λ (n : ℕ). tally_end e n (nothing d.waiting ▷ add_packet len)) same

  pub sum-by : (held room : Counts) → CloseFits e len d held room → sum_plan d held (only_close p t e slot) len room ≡ Ok (accepted d (close_tally e len d))
  unfolding sum_plan plan_passes
  sum-by held room f =
      ap (λ (x : Tally). sum_by (room_for held d.counts x room) (passes e.effect e.entry.total) d x) tally-by
      ∙ λ i. sum_by (f.fits i) (f.total i) d (close_tally e len d)

-- ---- the steps

left_by : (p : Plan) (t : Transaction) (e : End) (packet : List ℕ) (time : ℕ) (s : State)
    → left_with (only_close p t e Empty) (accepted s.decoder (close_tally e (length packet) s.decoder)) packet time s ≡ close_state t e (close_tally e (length packet) s.decoder) packet time s
unfolding begun_desk ended_desk opened closed
left_by p t e packet time s = refl

-- ---- the call

module _ (packet : List ℕ) (time : ℕ) (s : State) (h : Enters packet s) where
  module _ {t : Transaction} {e : End} (q : CloseOnly (plan_of s.decoder.high packet (world_at s)) t e Empty) (f : CloseFits e (length packet) s.decoder (held_at s) (room_of s.logs)) where
    summed : sum_plan s.decoder (held_at s) (only_close (plan_of s.decoder.high packet (world_at s)) t e Empty) (length packet) (room_of s.logs) ≡ Ok (accepted s.decoder (close_tally e (length packet) s.decoder))
    summed = sum-by (plan_of s.decoder.high packet (world_at s)) t e Empty s.decoder (length packet) (held_at s) (room_of s.logs) f

    pub close-only-call : keeps s.decoder.high (plan_of s.decoder.high packet (world_at s)) ≡ false → {s' : State} → s' ≡ close_state t e (close_tally e (length packet) s.decoder) packet time s → (shelf : List ℕ) → PacketCall packet time s shelf 0 s' shelf
    close-only-call u c shelf =
        let k : keeps s.decoder.high (only_close (plan_of s.decoder.high packet (world_at s)) t e Empty) ≡ false = ap (keeps s.decoder.high) (sym (shape q)) ∙ u in
        subst (λ (x : State). PacketCall packet time s shelf 0 x shelf) (left_by (plan_of s.decoder.high packet (world_at s)) t e packet time s ∙ sym c)
        (shape-call packet time s h (shape q) summed (λ i. f.device i || (k i || f.request i)) shelf)

    -- what carrying the end out asks, of the logs that are lent for it
    pub close-only-asks : EndReady t.endpoint t.id (start_pid t.style) e (desk (close_hand t time s.decoder (held_at s) s.table) s.table s.logs.devices [] [] s.logs.groups s.logs.statebytes s.logs.states s.logs.items s.logs.links)
    unfolding begun_desk ended_desk opened closed
    close-only-asks =
        let a = shape-asks packet time s h (shape q) summed in
        let b = a.close refl in
        record {
          asks = record { few = b.few; there = b.there; transactions = b.transactions; groups = b.groups; total = b.total };
          memory = a.room.memory;
          effect = record { devices = a.room.devices; links = a.room.memory.links };
        }

    pub close-only-rows : ((held_at s).bytes + length packet ≤ length s.logs.bytes) × (((held_at s).packets + 1) * packet_width ≤ length s.logs.packets)
    close-only-rows = shape-rows packet time s h (shape q) summed

-- ---- the same, of what the code has decided (end_by, close_of)

-- there are rows where the packet is taken
abbrev rows_or : Tally → Option Tally → Tally
rows_or t (Some z) = z
rows_or t None = t

abbrev is_there : Option Tally → Bool
is_there (Some z) = true
is_there None = false

pub some-rows : (b : Bool) (t : Tally) {z : Tally} → Some z ≡ rows_if b t → (b ≡ true) × (z ≡ t)
some-rows true t {z} e = (refl, ap (rows_or z) e)
some-rows false t e = absurd (true≢false (ap is_there e))

-- the tests that close_of has put together
pub taken-fits : (closes : Bool) (e : End) (d : Decoder) (held : Counts) (len : ℕ) (room : Counts) → taken closes e d held len room ≡ true → (closes ≡ true) × CloseFits e len d held room
taken-fits closes e d held len room h =
    let a = both closes _ h in
    let b = both (room_for held d.counts (close_tally e len d) room) _ a.1 in
    let c = both (not (passes e.effect e.entry.total)) (not (adds_device e.effect) && not (asks e.effect)) b.1 in
    let d = both (not (adds_device e.effect)) (not (asks e.effect)) c.1 in
    (a.0, record { fits = b.0; total = off _ c.0; device = off _ d.0; request = off _ d.1 })

-- the end that end_by gives
module _ (q : Shape) (d : Decoder) (old : Detail) (table : List ℕ) {x : ℕ} {e : Endpoint} (p : x ≡ old_endpoint d.slot d.transaction) (f : e ≡ entry_at table x) where
  entry-is : e ≡ entry_at table (old_endpoint d.slot d.transaction)
  entry-is = f ∙ ap (entry_at table) p

  pub ends_by : {r : End} → q.closes ≡ true → r ≡ end_of x e q.transaction old d.last q.success true → r ≡ end_by q d old table
  ends_by c g =
      let o = old_endpoint d.slot d.transaction in
      let end = end_of o (entry_at table o) q.transaction old d.last q.success true in
      (g ∙ λ i. end_of (p i) (entry-is i) q.transaction old d.last q.success true) ∙ ap (λ (b : Bool). end_if b end (entry_at table o)) (sym c)

  pub rests_by : {r : End} → q.closes ≡ false → r ≡ resting e → r ≡ end_by q d old table
  rests_by c g =
      let o = old_endpoint d.slot d.transaction in
      let end = end_of o (entry_at table o) q.transaction old d.last q.success true in
      (g ∙ ap resting entry-is) ∙ ap (λ (b : Bool). end_if b end (entry_at table o)) (sym c)

-- ---- what close_only asks of end_if, and what it leaves

pub close-ready : (t : Transaction) (e : End) (time : ℕ) (d : Decoder) (held : Counts) (table v g m s i l : List ℕ) {x : Decoder} {h : Hand} {pid : ℕ} → x ≡ holding t d → h ≡ hand_of time no_reason x held table → pid ≡ start_pid t.style
    → EndsIf true t.endpoint t.id (start_pid t.style) e (desk (close_hand t time d held table) table v [] [] g m s i l)
    → EndsIf true t.endpoint t.id pid e (desk h table v [] [] g m s i l)
close-ready t e time d held table v g m s i l {h = h} e1 e2 e3 r =
    subst (λ (p : ℕ). EndsIf true t.endpoint t.id p e (desk h table v [] [] g m s i l)) (sym e3)
    (subst (λ (y : Hand). EndsIf true t.endpoint t.id (start_pid t.style) e (desk y table v [] [] g m s i l)) (sym (e2 ∙ ap (λ (y : Decoder). hand_of time no_reason y held table) e1)) r)

pub close_on : (t : Transaction) (e : End) (z : Tally) {held : Counts} (packet : List ℕ) (time : ℕ) (s : State) {x r : Decoder} {h h' : Hand} {pid : ℕ} {table b v p g m st i l : List ℕ}
    → held ≡ held_at s → x ≡ holding t s.decoder → h ≡ hand_of time no_reason x held s.table → pid ≡ start_pid t.style
    → desk h' table v s.logs.endpoints s.logs.transactions g m st i l
    ≡ ended_desk t.endpoint t.id pid e (desk h s.table s.logs.devices s.logs.endpoints s.logs.transactions s.logs.groups s.logs.statebytes s.logs.states s.logs.items s.logs.links)
    → b ≡ sets s.logs.bytes held.bytes packet → p ≡ sets s.logs.packets (held.packets * packet_width) (s.decoder.counts.bytes ∷ time ∷ [])
    → r ≡ closed_decoder t z h'.written s.decoder
    → state r s.devices table (logs b v s.logs.endpoints p s.logs.events s.logs.transactions g m st i l s.logs.requests) ≡ close_state t e z packet time s
close_on t e z {held} packet time s {table = table} {v = v} {g = g} {m = m} {st = st} {i = i} {l = l} e0 e1 e2 e3 e4 f5 f6 e7 =
    let g₀ = s.logs in
    let e5 = f5 ∙ ap (λ (y : Counts). sets g₀.bytes y.bytes packet) e0 in
    let e6 = f6 ∙ ap (λ (y : Counts). sets g₀.packets (y.packets * packet_width) (s.decoder.counts.bytes ∷ time ∷ [])) e0 in
    let k = e4 ∙ λ j. ended_desk t.endpoint t.id (e3 j) e (desk ((e2 ∙ λ m. hand_of time no_reason (e1 m) (e0 m) s.table) j) s.table g₀.devices g₀.endpoints g₀.transactions g₀.groups g₀.statebytes g₀.states g₀.items g₀.links) in
    (λ j. state (e7 j) s.devices table (logs (e5 j) v g₀.endpoints (e6 j) g₀.events g₀.transactions g m st i l g₀.requests))
    ∙ λ j. state (closed_decoder t z (k j).hand.written s.decoder) s.devices (k j).table (logs (sets g₀.bytes (held_at s).bytes packet) (k j).devices g₀.endpoints (sets g₀.packets ((held_at s).packets * packet_width) (s.decoder.counts.bytes ∷ time ∷ [])) g₀.events g₀.transactions (k j).groups (k j).statebytes (k j).states (k j).items (k j).links g₀.requests)

-- and with the rows of close_of
pub close-counted : (t : Transaction) (e : End) (packet : List ℕ) (time : ℕ) (s : State) (closes : Bool) (held room : Counts) {z : Tally} → Some z ≡ close_of closes e s.decoder held (length packet) room
    → close_state t e z packet time s ≡ close_state t e (close_tally e (length packet) s.decoder) packet time s
close-counted t e packet time s closes held room p = ap (λ (x : Tally). close_state t e x packet time s) (some-rows _ _ p).1
