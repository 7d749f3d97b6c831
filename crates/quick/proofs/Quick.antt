-- What quick_in has decided, of each of the two shapes: the tests that were passed, and the plan.
use mathlib.Core.Path.{◌≡◌, sym, ap, subst, ◌∙◌}
use mathlib.Core.Bool.{Bool, true, false, ◌&&◌}
use mathlib.Core.List.{List, []}
use Prim.Native.Nat.{ℕ, ◌+◌, ◌*◌, ◌<◌, ◌≤◌}
use lib.ListN.{length, get_or}
use Rattle.rows.specs.One.{one}
use Rattle.rows.specs.Widths.{packet_width, transaction_width, link_width}
use Rattle.details.specs.declared.Detail.{Detail}
use Rattle.endpoints.specs.Table.{entry_at}
use Rattle.endpoints.proofs.TableLaws.{Fits}
use Rattle.transaction.specs.Payload.{start_pid}
use Rattle.transaction.specs.declared.Transaction.{Transaction}
use Rattle.rules.specs.Endpoints.{detail_of}
use Rattle.rules.specs.Transactions.{is_dropped}
use Rattle.rules.specs.declared.Slot.TheVariants.{Empty}
use Rattle.tally.specs.Tallies.{Sums}
use Rattle.write_packet.specs.Asked.{EndsIf}
use Rattle.write_packet.specs.Desk.{desk}
use Rattle.record.specs.Bools.{both}
use Rattle.record.specs.declared.Counts.{Counts}
use Rattle.plan.specs.Packet.{old_endpoint, end_if, keeps, plan_of}
use Rattle.plan.specs.Step.{end_of}
use Rattle.plan.specs.declared.End.{End}
use Rattle.call.specs.Outcome.{world_at}
use Rattle.call.specs.Share.{Known}
use Rattle.call.specs.State.{State, state, held_at, room_of}
use Rattle.packet.specs.After.{keeping, is_change, changed, requested, shelved}
use Rattle.packet.specs.Call.{PacketCall}
use Rattle.packet.specs.declared.change.Change.{Change}
use Rattle.packet.proofs.Answers.{Passes, with_requests, with_parts}
use Rattle.packet.proofs.Changes.{changed-none, requested-none, shelved-none}
use Rattle.quick.specs.Begin.{Begins}
use Rattle.quick.specs.Close.{CloseOnly, end_by, close_tally, close_of, CloseFits, close_hand}
use Rattle.quick.specs.Light.{light_fits}
use Rattle.quick.specs.Room.{rows_room, RowsRoom}
use Rattle.quick.specs.Shaped.{Shaped, held_end}
use Rattle.tally.specs.declared.add.Tally.{Tally}
use Rattle.quick.specs.declared.shape.Shape.{Shape}
use Rattle.quick.proofs.Calls.{Enters, well}
use Rattle.quick.proofs.CloseOnly.{taken-fits, some-rows}
use Rattle.std.specs.Prelude.{Some}
use Rattle.quick.proofs.Fit.{room_fits}
use Rattle.quick.proofs.LightCall.{LightRoom, light_tests, light-closes, end_fits}

-- what is known before the shape is
pub record Meets (packet : List ℕ) (s : State) : Type 0 where
  pub passes : Passes packet s
  pub known : Known s.table
  pub many : length s.devices ≡ 64
  pub token : start_pid s.decoder.transaction.style < 256
  pub first : get_or packet 0 0 < 256

enters : {packet : List ℕ} {s : State} → Meets packet s → is_dropped s.decoder.slot s.decoder.transaction ≡ false → Enters packet s
enters m live =
    record { ill = m.passes.ill; finished = m.passes.finished; short = m.passes.short; live = live; known = m.known; many = m.many; token = m.token; first = m.first }

-- ---- begin-only

pub record BeginTaken (packet : List ℕ) (s : State) (q : Shape) : Type 0 where
  pub enters : Enters packet s
  pub plan : Begins (plan_of s.decoder.high packet (world_at s)) (world_at s) q.row q.transaction q.link
  pub kept : keeps s.decoder.high (plan_of s.decoder.high packet (world_at s)) ≡ false
  pub fits : RowsRoom (one q.row) (one q.link) (length packet) (held_at s) s.decoder.counts (room_of s.logs)

pub begin-taken : (packet : List ℕ) (s : State) (q : Shape) {held room : Counts} {f : Bool} → Meets packet s → Shaped s.decoder.high q (plan_of s.decoder.high packet (world_at s)) (world_at s)
    → held ≡ held_at s → room ≡ room_of s.logs → f ≡ rows_room (one q.row) (one q.link) (length packet) held s.decoder.counts room → (q.begins && f) ≡ true → BeginTaken packet s q
begin-taken packet s q {held} {room} {f} m h e1 e2 e3 t =
    let g = both q.begins f t in
    let b = h.begins g.0 in
    record {
      enters = enters m b.live;
      plan = b.plan;
      kept = b.kept;
      fits = room_fits (one q.row) (one q.link) (length packet) (held_at s) s.decoder.counts (room_of s.logs) (sym (e3 ∙ λ i. rows_room (one q.row) (one q.link) (length packet) (e1 i) s.decoder.counts (e2 i)) ∙ g.1);
    }

-- ---- close-only

pub record CloseTaken (packet : List ℕ) (s : State) (q : Shape) (e : End) : Type 0 where
  pub enters : Enters packet s
  pub plan : CloseOnly (plan_of s.decoder.high packet (world_at s)) q.transaction e Empty
  pub kept : keeps s.decoder.high (plan_of s.decoder.high packet (world_at s)) ≡ false
  pub fits : CloseFits e (length packet) s.decoder (held_at s) (room_of s.logs)

-- the plan, where the packet has that shape, with the end that end_by gives
close-plan : (packet : List ℕ) (s : State) (q : Shape) (old : Detail) {e : End} → Shaped s.decoder.high q (plan_of s.decoder.high packet (world_at s)) (world_at s)
    → old ≡ detail_of (old_endpoint s.decoder.slot s.decoder.transaction) (world_at s) → e ≡ end_by q s.decoder old s.table → q.closes ≡ true
    → (is_dropped s.decoder.slot s.decoder.transaction ≡ false) × (CloseOnly (plan_of s.decoder.high packet (world_at s)) q.transaction e Empty × (keeps s.decoder.high (plan_of s.decoder.high packet (world_at s)) ≡ false))
close-plan packet s q old {e} h e1 e2 c =
    let b = h.closes c in
    let x = old_endpoint s.decoder.slot s.decoder.transaction in
    let end : e ≡ held_end q.success q.transaction (world_at s) =
    e2 ∙ ((λ i. end_if (c i) (end_of x (entry_at s.table x) q.transaction (e1 i) s.decoder.last q.success true) (entry_at s.table x))) in
    (b.live, (subst (λ (y : End). CloseOnly (plan_of s.decoder.high packet (world_at s)) q.transaction y Empty) (sym end) b.plan, b.kept))

pub close-taken : (packet : List ℕ) (s : State) (q : Shape) (old : Detail) {held room : Counts} {e : End} {z : Tally} → Meets packet s → Shaped s.decoder.high q (plan_of s.decoder.high packet (world_at s)) (world_at s)
    → held ≡ held_at s → room ≡ room_of s.logs → old ≡ detail_of (old_endpoint s.decoder.slot s.decoder.transaction) (world_at s)
    → e ≡ end_by q s.decoder old s.table → Some z ≡ close_of q.closes e s.decoder held (length packet) room → CloseTaken packet s q e
close-taken packet s q old {held} {room} {e} m h e0 e1 e2 e3 e4 =
    let g = taken-fits q.closes e s.decoder held (length packet) room (some-rows _ _ e4).0 in
    let b = close-plan packet s q old h e2 e3 g.0 in
    record {
      enters = enters m b.0;
      plan = b.1.0;
      kept = b.1.1;
      fits = subst (λ (y : Counts). CloseFits e (length packet) s.decoder (held_at s) y) e1 (subst (λ (y : Counts). CloseFits e (length packet) s.decoder y room) e0 g.1);
    }

-- ---- close-only with a light end

pub record LightTaken (packet : List ℕ) (s : State) (q : Shape) (e : End) : Type 0 where
  pub enters : Enters packet s
  pub plan : CloseOnly (plan_of s.decoder.high packet (world_at s)) q.transaction e Empty
  pub kept : keeps s.decoder.high (plan_of s.decoder.high packet (world_at s)) ≡ false
  pub light : LightRoom e (length packet) (held_at s) s.decoder.counts (room_of s.logs)
  pub fits : CloseFits e (length packet) s.decoder (held_at s) (room_of s.logs)
  pub entry : Fits e.entry

pub light-taken : (packet : List ℕ) (s : State) (q : Shape) (old : Detail) {held room : Counts} {e : End} {f : Bool} → Meets packet s → Shaped s.decoder.high q (plan_of s.decoder.high packet (world_at s)) (world_at s)
    → held ≡ held_at s → room ≡ room_of s.logs → old ≡ detail_of (old_endpoint s.decoder.slot s.decoder.transaction) (world_at s)
    → e ≡ end_by q s.decoder old s.table → f ≡ light_fits e (length packet) held s.decoder.counts room → (q.closes && f) ≡ true → LightTaken packet s q e
light-taken packet s q old {held} {room} {e} {f} m h e0 e1 e2 e3 e4 t =
    let g = both q.closes f t in
    let b = close-plan packet s q old h e2 e3 g.0 in
    let l = light_tests e (length packet) (held_at s) s.decoder.counts (room_of s.logs) (sym (e4 ∙ λ i. light_fits e (length packet) (e0 i) s.decoder.counts (e1 i)) ∙ g.1) in
    let w = well packet 0 s (enters m b.0) in
    record {
      enters = enters m b.0;
      plan = b.1.0;
      kept = b.1.1;
      light = l;
      fits = light-closes e (length packet) s.decoder (held_at s) (room_of s.logs) w.counts w.numbered l;
      entry = subst (λ (x : End). Fits x.entry) (sym e3) (end_fits q s.decoder old s.table);
    }

-- ---- what is the caller's stays

pub kept_parts : (packet : List ℕ) (time : ℕ) (s : State) (shelf : List ℕ) {a : ℕ} {s' : State} {c : Change} → c ≡ keeping → PacketCall packet time s shelf a s' shelf → s.devices ≡ s'.devices → s.logs.requests ≡ s'.logs.requests
    → PacketCall packet time s shelf a (state s'.decoder (changed c packet shelf s.devices) s'.table (with_requests (requested c packet shelf s.devices s.logs.requests) s'.logs)) (shelved c packet shelf s.devices)
kept_parts packet time s shelf {c = c} e r p q =
    let h = ap is_change e in
    with_parts packet time s shelf (changed-none c packet shelf s.devices h ∙ p) (requested-none c packet shelf s.devices h s.logs.requests ∙ q) (shelved-none c packet shelf s.devices h) r

-- ---- what is asked of the rows held, of those that held_of gives

pub begin-lent : (packet : List ℕ) (s : State) (row l : Bool) {held : Counts} → held ≡ held_at s
    → (held_at s).bytes + length packet ≤ length s.logs.bytes → ((held_at s).packets + 1) * packet_width ≤ length s.logs.packets
    → ((held_at s).transactions + one row) * transaction_width ≤ length s.logs.transactions → ((held_at s).links + one l) * link_width ≤ length s.logs.links
    → (held.bytes + length packet ≤ length s.logs.bytes) × (((held.packets + 1) * packet_width ≤ length s.logs.packets) × (((held.transactions + one row) * transaction_width ≤ length s.logs.transactions) × ((held.links + one l) * link_width ≤ length s.logs.links)))
begin-lent packet s row l e a b c d =
    subst (λ (h : Counts). (h.bytes + length packet ≤ length s.logs.bytes) × (((h.packets + 1) * packet_width ≤ length s.logs.packets) × (((h.transactions + one row) * transaction_width ≤ length s.logs.transactions) × ((h.links + one l) * link_width ≤ length s.logs.links)))) (sym e)
    (a, (b, (c, d)))

pub close-lent : (packet : List ℕ) (time : ℕ) (s : State) (closes : Bool) (room : Counts) (t : Transaction) {held : Counts} {end : End} {z : Tally} → held ≡ held_at s → Some z ≡ close_of closes end s.decoder held (length packet) room
    → Sums s.decoder.counts (close_tally end (length packet) s.decoder)
    → (held_at s).bytes + length packet ≤ length s.logs.bytes → ((held_at s).packets + 1) * packet_width ≤ length s.logs.packets
    → EndsIf true t.endpoint t.id (start_pid t.style) end (desk (close_hand t time s.decoder (held_at s) s.table) s.table s.logs.devices [] [] s.logs.groups s.logs.statebytes s.logs.states s.logs.items s.logs.links)
    → Sums s.decoder.counts z × ((held.bytes + length packet ≤ length s.logs.bytes) × (((held.packets + 1) * packet_width ≤ length s.logs.packets)
    × EndsIf true t.endpoint t.id (start_pid t.style) end (desk (close_hand t time s.decoder held s.table) s.table s.logs.devices [] [] s.logs.groups s.logs.statebytes s.logs.states s.logs.items s.logs.links)))
close-lent packet time s closes room t {held} {end} e f w a b k = (
  subst (λ (x : Tally). Sums s.decoder.counts x) (sym (some-rows _ _ f).1) w,
  subst (λ (h : Counts). (h.bytes + length packet ≤ length s.logs.bytes) × (((h.packets + 1) * packet_width ≤ length s.logs.packets) × EndsIf true t.endpoint t.id (start_pid t.style) end (desk (close_hand t time s.decoder h s.table) s.table s.logs.devices [] [] s.logs.groups s.logs.statebytes s.logs.states s.logs.items s.logs.links))) (sym e)
      (a, (b, k)),
)

pub light-lent : (packet : List ℕ) (s : State) (k : ℕ) {held : Counts} → held ≡ held_at s
    → (held_at s).bytes + length packet ≤ length s.logs.bytes → ((held_at s).packets + 1) * packet_width ≤ length s.logs.packets → ((held_at s).links + k) * link_width ≤ length s.logs.links
    → (held.bytes + length packet ≤ length s.logs.bytes) × (((held.packets + 1) * packet_width ≤ length s.logs.packets) × ((held.links + k) * link_width ≤ length s.logs.links))
light-lent packet s k e a b c =
    subst (λ (h : Counts). (h.bytes + length packet ≤ length s.logs.bytes) × (((h.packets + 1) * packet_width ≤ length s.logs.packets) × ((h.links + k) * link_width ≤ length s.logs.links))) (sym e) (a, (b, c))
