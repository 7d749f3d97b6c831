-- A begin-only packet leaves what specs/Begin.antt says: `begin-only-call`.
use mathlib.Core.Path.{◌≡◌, refl, sym, ap, subst, ◌∙◌}
use mathlib.Core.Bool.{Bool, true, false, ◌||◌}
use mathlib.Core.List.{List, [], ◌∷◌}
use Prim.Native.Nat.{ℕ, ◌+◌, ◌*◌, ◌^◌, ◌<◌, ◌≤◌}
use native.Mathlib.Omega.{arith}
use lib.ListN.{length}
use lib.Seq.{sets}
use Rattle.std.specs.Prelude.{Ok}
use Rattle.usb.specs.Packet.{no_reason}
use Rattle.rows.specs.One.{one}
use Rattle.rows.specs.Sets.{opt}
use Rattle.rows.specs.Widths.{packet_width, transaction_width, link_width}
use Rattle.rules.specs.Rows.{naming, transaction_words}
use Rattle.transaction.specs.declared.Transaction.{Transaction}
use Rattle.endpoints.specs.Table.{entry_at}
use Rattle.rules.specs.declared.Slot.{Slot}
use Rattle.rules.specs.declared.Slot.TheVariants.{Current}
use Rattle.tally.specs.Tally.{tally_update}
use Rattle.write_update.specs.Carried.{opened, closed}
use Rattle.record.specs.RoomLaws.{Within, Numbered}
use Rattle.record.specs.declared.Counts.{Counts}
use Rattle.record.specs.declared.Decoder.{Decoder}
use Rattle.plan.specs.Packet.{keeps, plan_of}
use Rattle.plan.specs.declared.Plan.{Plan}
use Rattle.call.specs.Outcome.{world_at}
use Rattle.call.specs.State.{State, state, logs, held_at, room_by, room_of}
use Rattle.endpoints.specs.Link.{T}
use Rattle.tally.specs.Passes.{plan_passes}
use Rattle.tally.specs.Tallies.{tally_plan, tally_begin, add_counts}
use Rattle.write_packet.specs.Desk.{begun_desk}
use Rattle.write_packet.specs.Asked.{PlanAsks}
use Rattle.packet.specs.After.{sum_by, sum_plan, tally_of, hand_of, change_by, is_change}
use Rattle.packet.proofs.Answers.{desk_by}
use Rattle.packet.specs.Call.{PacketCall}
use Rattle.packet.specs.declared.sum.Sum.{Sum}
use Rattle.quick.specs.Begin.{only_begin, BeginOnly, begin_decoder, begin_table, begin_state}
use Rattle.quick.specs.Room.{more_rows, RowsFit, RowsRoom}
use Rattle.quick.proofs.Calls.{Enters, well, left_with, shape-asks, shape-rows, shape-call}
use Rattle.quick.proofs.Fit.{plain, room-by}

-- ---- the shape

pub shape : {p : Plan} {row : Bool} {t : Transaction} {l : Bool} {slot : Slot} → BeginOnly p row t l slot → p ≡ only_begin p row t l slot
shape {p} h =
    λ i. record {
      resumes = h.resumes i;
      resume = p.resume;
      ends = h.ends i;
      old = p.old;
      brought = p.brought;
      end = p.end;
      begin = record {
        row = h.begins i;
        device = h.device i;
        endpoint = h.endpoint i;
        types = h.types i;
        owner = p.begin.owner;
        place = p.begin.place;
        number = p.begin.number;
        kind = p.begin.kind;
        transaction = h.transaction i;
        update = h.update i;
      };
      closes = h.closes i;
      close = p.close;
      slot = h.slot i;
      reason = h.reason i;
    }

-- ---- the sum

abbrev pub begin_sum : Bool → Bool → ℕ → Decoder → Sum
begin_sum row l len d = record { counts = more_rows (one row) (one l) len d.counts; waiting = d.waiting }

module _ (p : Plan) (t : Transaction) (slot : Slot) (d : Decoder) (len : ℕ) where
  counts_by : (row l : Bool) (n : Counts) → add_counts n (tally_of d (only_begin p row t l slot) len) ≡ more_rows (one row) (one l) len n
  unfolding add_counts tally_plan tally_begin tally_update
  counts_by true true n = plain n len 1 1
  counts_by true false n = plain n len 1 0
  counts_by false true n = plain n len 0 1
  counts_by false false n = plain n len 0 0

  waiting_by : (row l : Bool) → (tally_of d (only_begin p row t l slot) len).waiting ≡ d.waiting
  unfolding tally_plan tally_begin tally_update
  waiting_by true true = refl
  waiting_by true false = refl
  waiting_by false true = refl
  waiting_by false false = refl

  pub sum-by : (row l : Bool) (held room : Counts) → Within held room → Numbered d.counts → RowsRoom (one row) (one l) len held d.counts room
      → sum_plan d held (only_begin p row t l slot) len room ≡ Ok (begin_sum row l len d)
  unfolding sum_plan plan_passes
  sum-by row l held room w m f =
      ap (λ (b : Bool). sum_by b false d (tally_of d (only_begin p row t l slot) len)) (room-by (one row) (one l) len (tally_of d (only_begin p row t l slot) len) held d.counts room (counts_by row l) w m f)
      ∙ λ i. Ok (record { counts = counts_by row l d.counts i; waiting = waiting_by row l i })

-- ---- the steps

pub left_by : (p : Plan) (t : Transaction) (packet : List ℕ) (time : ℕ) (s : State) (row l : Bool)
    → left_with (only_begin p row t l Current) (begin_sum row l (length packet) s.decoder) packet time s ≡ begin_state row t l packet time s
unfolding begun_desk opened closed
left_by p t packet time s true true = refl
left_by p t packet time s true false = refl
left_by p t packet time s false true = refl
left_by p t packet time s false false = refl

-- ---- a plan that comes to it

abbrev pub BeginWants : State → Transaction → Bool → Type 0
BeginWants s t l = (t.endpoint < s.decoder.counts.endpoints) × ((s.decoder.counts.endpoints ≤ 128) × ((entry_at s.table t.endpoint).transactions + one l < 2 ^ 64))

pub record BeginPlan (packet : List ℕ) (time : ℕ) (s : State) (row : Bool) (t : Transaction) (l : Bool) : Type 0 where
  pub plan : Plan
  pub is : plan_of s.decoder.high packet (world_at s) ≡ plan
  pub summed : sum_plan s.decoder (held_at s) plan (length packet) (room_of s.logs) ≡ Ok (begin_sum row l (length packet) s.decoder)
  pub left : left_with plan (begin_sum row l (length packet) s.decoder) packet time s ≡ begin_state row t l packet time s
  pub kept : is_change (change_by s.decoder.high plan s.decoder.counts.devices (held_at s).requests) ≡ false
  -- what the code asks before it writes: the endpoint is there, and its count has room for one more
  pub wants : PlanAsks plan (desk_by (hand_of time plan.reason s.decoder (held_at s) s.table) s) → BeginWants s t l

module _ (packet : List ℕ) (time : ℕ) (s : State) (h : Enters packet s) where
  pub only-plan : {row : Bool} {t : Transaction} {l : Bool} → BeginOnly (plan_of s.decoder.high packet (world_at s)) row t l Current → keeps s.decoder.high (plan_of s.decoder.high packet (world_at s)) ≡ false → RowsRoom (one row) (one l) (length packet) (held_at s) s.decoder.counts (room_of s.logs) → BeginPlan packet time s row t l
  only-plan {row} {t} {l} q u f =
      record {
        plan = only_begin (plan_of s.decoder.high packet (world_at s)) row t l Current;
        is = shape q;
        summed = sum-by (plan_of s.decoder.high packet (world_at s)) t Current s.decoder (length packet) row l (held_at s) (room_of s.logs) (well packet time s h).counts (well packet time s h).numbered f;
        left = left_by (plan_of s.decoder.high packet (world_at s)) t packet time s row l;
        kept = ap (λ (b : Bool). b || false) (ap (keeps s.decoder.high) (sym (shape q)) ∙ u);
        wants = λ a. (a.begin.there, (a.begin.few, a.begin.transactions));
      }

  -- ---- the call

  module _ {row : Bool} {t : Transaction} {l : Bool} (q : BeginPlan packet time s row t l) where
    pub begin-call : {s' : State} → s' ≡ begin_state row t l packet time s → (shelf : List ℕ) → PacketCall packet time s shelf 0 s' shelf
    begin-call e shelf = subst (λ (x : State). PacketCall packet time s shelf 0 x shelf) (q.left ∙ sym e) (shape-call packet time s h q.is q.summed q.kept shelf)

    pub begin-asks : BeginWants s t l
    begin-asks = q.wants (shape-asks packet time s h q.is q.summed)

    pub begin-rows : ((held_at s).bytes + length packet ≤ length s.logs.bytes) × (((held_at s).packets + 1) * packet_width ≤ length s.logs.packets)
    begin-rows = shape-rows packet time s h q.is q.summed

    -- of what the code has: each part with its equation (begin_only)
    pub begin_by : {held : Counts} {r : Decoder} {table bytes packets transactions rows : List ℕ}
        → held ≡ held_at s
        → r ≡ begin_decoder row t l (length packet) time s.table s.decoder
        → table ≡ begin_table l t.endpoint s.table
        → bytes ≡ sets s.logs.bytes held.bytes packet
        → packets ≡ sets s.logs.packets (held.packets * packet_width) (s.decoder.counts.bytes ∷ time ∷ [])
        → transactions ≡ sets s.logs.transactions (held.transactions * transaction_width) (opt row (transaction_words (naming s.decoder.counts.packets no_reason)))
        → rows ≡ sets s.logs.links (held.links * link_width) (opt l (T ∷ t.endpoint ∷ t.id ∷ 0 ∷ []))
        → (shelf : List ℕ) → PacketCall packet time s shelf 0 (state r s.devices table (logs bytes s.logs.devices s.logs.endpoints packets s.logs.events transactions s.logs.groups s.logs.statebytes s.logs.states s.logs.items rows s.logs.requests)) shelf
    begin_by {held} e p1 p2 q3 q4 q5 q6 shelf =
        let p3 = q3 ∙ ap (λ (h : Counts). sets s.logs.bytes h.bytes packet) e in
        let p4 = q4 ∙ ap (λ (h : Counts). sets s.logs.packets (h.packets * packet_width) (s.decoder.counts.bytes ∷ time ∷ [])) e in
        let p5 = q5 ∙ ap (λ (h : Counts). sets s.logs.transactions (h.transactions * transaction_width) (opt row (transaction_words (naming s.decoder.counts.packets no_reason)))) e in
        let p6 = q6 ∙ ap (λ (h : Counts). sets s.logs.links (h.links * link_width) (opt l (T ∷ t.endpoint ∷ t.id ∷ 0 ∷ []))) e in
        begin-call (λ i. state (p1 i) s.devices (p2 i) (logs (p3 i) s.logs.devices s.logs.endpoints (p4 i) s.logs.events (p5 i) s.logs.groups s.logs.statebytes s.logs.states s.logs.items (p6 i) s.logs.requests)) shelf

pub begin-more : (s : State) (row l : Bool) (len : ℕ) → RowsFit (one row) (one l) len (held_at s) (room_of s.logs)
    → (((held_at s).transactions + one row) * transaction_width ≤ length s.logs.transactions) × (((held_at s).links + one l) * link_width ≤ length s.logs.links)
unfolding room_by
begin-more s row l len f = let a = f.transactions in let b = f.links in (omega (arith, a), omega (arith, b))
