-- An old SOF at rest: its end changes no word, so the packet is begin-only though its plan ends it.
use mathlib.Core.Path.{◌≡◌, refl, sym, ap, subst, ◌∙◌}
use mathlib.Core.Bool.{Bool, true, false, not, ◌||◌}
use mathlib.Core.List.{List, [], ◌∷◌}
use mathlib.Core.Logic.{inl, inr}
use Prim.Native.Nat.{ℕ, suc, ◌+◌, ◌*◌, ◌<◌}
use native.Mathlib.Omega.{arith}
use lib.Dec.{eqb}
use lib.ListN.{length, get_or, set}
use lib.Seq.{sets, set-get_or}
use Rattle.usb.specs.Packet.{no_reason}
use Rattle.rows.specs.One.{one}
use Rattle.rows.specs.Widths.{packet_width}
use Rattle.usb.specs.Pid.{SOF}
use Rattle.details.specs.Kind.{Framing}
use Rattle.details.specs.declared.Detail.{Detail}
use Rattle.endpoints.specs.Table.{entry_at, store_at, words}
use Rattle.endpoints.specs.Word as word
use Rattle.endpoints.specs.declared.Endpoint.{Endpoint}
use Rattle.endpoints.specs.declared.Phase.TheVariants.{Active}
use Rattle.transaction.specs.Payload.{start_pid}
use Rattle.transaction.specs.declared.Transaction.{Transaction}
use Rattle.group.specs.Data.{other_group}
use Rattle.group.specs.Group.{group_at, group_status}
use Rattle.group.specs.Step.{is_active, step_of, taken, grouped}
use Rattle.group.specs.declared.Effect.TheVariants.{NoEffect}
use Rattle.group.specs.declared.GroupStatus.TheVariants.{Continue}
use Rattle.group.specs.declared.step.Step.{Step}
use Rattle.rules.specs.World.{with_last}
use Rattle.rules.specs.declared.Slot.TheVariants.{Current}
use Rattle.update.specs.Entry.{entry_after}
use Rattle.update.specs.Update.{links, decide_update}
use Rattle.update.specs.declared.Then.TheVariants.{Last}
use Rattle.write_update.specs.Carried.{opened, closed}
use Rattle.record.specs.Formed.{Stored}
use Rattle.record.proofs.StoredLaws.{word-entry}
use Rattle.record.specs.declared.Counts.{Counts}
use Rattle.record.specs.declared.Decoder.{Decoder}
use Rattle.plan.specs.Packet.{keeps, plan_of}
use Rattle.plan.specs.Step.{end_by, end_of}
use Rattle.plan.specs.declared.End.{End}
use Rattle.plan.specs.declared.Plan.{Plan}
use Rattle.call.specs.Outcome.{world_at}
use Rattle.call.specs.State.{State, state, logs, held_at, room_of}
use Rattle.tally.specs.Passes.{plan_passes}
use Rattle.tally.specs.Tally.{tally_update}
use Rattle.tally.specs.Tallies.{tally_plan, tally_end}
use Rattle.write_packet.specs.Asked.{BeginAsks}
use Rattle.write_packet.specs.Desk.{Desk, desk, begun_desk, ended_desk}
use Rattle.packet.specs.After.{sum_plan, hand_of, decoder_by}
use Rattle.packet.specs.declared.sum.Sum.{Sum}
use Rattle.packet.proofs.Answers.{desk_by}
use Rattle.quick.specs.Begin.{only_begin, rest_end, unended, BeginRest, Begins}
use Rattle.quick.specs.Room.{RowsRoom}
use Rattle.quick.proofs.BeginOnly.{shape, begin_sum, sum-by, left_by, BeginPlan, only-plan}
use Rattle.quick.proofs.Calls.{Enters, well}

-- ---- an entry stored as it was loaded

-- words stored over themselves
sets_same : (vs l : List ℕ) (a : ℕ) → ((k : ℕ) → k < length vs → get_or l (a + k) 0 ≡ get_or vs k 0) → sets l a vs ≡ l
sets_same [] l a h = refl
sets_same (v ∷ vs) l a h =
    let e : a + 0 ≡ a = omega arith in
    let p : set l a v ≡ l = ap (set l a) (sym (h 0 (omega arith)) ∙ ap (λ (n : ℕ). get_or l n 0) e) ∙ set-get_or l a 0 in
    ap (λ (u : List ℕ). sets u (suc a) vs) p
    ∙ sets_same vs l (suc a) (λ k g. let f : suc a + k ≡ a + suc k = omega arith in ap (λ (n : ℕ). get_or l n 0) f ∙ h (suc k) (omega arith))

pub store_as_was : (t : List ℕ) (x : ℕ) → Stored t x → store_at t x (entry_at t x) ≡ t
unfolding store_at
store_as_was t x s = sets_same (words (entry_at t x)) t (x * word.width) (λ k h. word-entry t x s k h)

-- ---- an end that changes nothing

pub last_same : (pid : ℕ) (e : Endpoint) → e.done ≡ true → e.last ≡ pid → with_last pid e ≡ e
last_same pid e h g =
    λ i. record { device = e.device; address = e.address; phase = e.phase; state = e.state; transactions = e.transactions; groups = e.groups; total = e.total; first = e.first; done = sym h i; last = sym g i; success = e.success; ready = e.ready; setup = e.setup; payload = e.payload; pending = e.pending; pendinglength = e.pendinglength; pendinglink = e.pendinglink }

module _ (x id pid : ℕ) (k : Desk) (s : Stored k.table x) (h : (entry_at k.table x).done ≡ true) (g : (entry_at k.table x).last ≡ pid) where
  table_same : (let u = store_at k.table x (entry_at k.table x) in store_at u x (with_last pid (entry_at u x))) ≡ k.table
  table_same =
      ap (λ (u : List ℕ). store_at u x (with_last pid (entry_at u x))) (store_as_was k.table x s)
      ∙ (ap (store_at k.table x) (last_same pid (entry_at k.table x) h g) ∙ store_as_was k.table x s)

  pub rests : ended_desk x id pid (rest_end (entry_at k.table x)) k ≡ k
  unfolding ended_desk opened closed
  rests = λ i. desk k.hand (table_same i) k.devices k.endpoints k.transactions k.groups k.statebytes k.states k.items k.links

-- ---- the plan

abbrev with_rest : Plan → Endpoint → Plan
with_rest q e = record { resumes = q.resumes; resume = q.resume; ends = true; old = q.old; brought = q.brought; end = rest_end e; begin = q.begin; closes = q.closes; close = q.close; slot = q.slot; reason = q.reason }

-- the sum is that of the plan without the end
rest_sum : (p : Plan) (e : Endpoint) (row : Bool) (t : Transaction) (l : Bool) (d : Decoder) (held : Counts) (len : ℕ) (room : Counts)
    → sum_plan d held (with_rest (only_begin p row t l Current) e) len room ≡ sum_plan d held (only_begin p row t l Current) len room
unfolding sum_plan plan_passes tally_plan tally_end tally_update
rest_sum p e row t l d held len room = refl

module _ (packet : List ℕ) (time : ℕ) (s : State) (h : Enters packet s) where
  module _ {row : Bool} {t : Transaction} {l : Bool} (q : BeginRest (plan_of s.decoder.high packet (world_at s)) (world_at s) row t l) where
    abbrev p : Plan
    p = unended (plan_of s.decoder.high packet (world_at s))

    abbrev e : Endpoint
    e = entry_at s.table p.old

    abbrev k : Desk
    k = desk_by (hand_of time no_reason s.decoder (held_at s) s.table) s

    rest_shape : plan_of s.decoder.high packet (world_at s) ≡ with_rest (only_begin p row t l Current) e
    rest_shape =
        (λ i. let v = plan_of s.decoder.high packet (world_at s) in record { resumes = v.resumes; resume = v.resume; ends = q.ends i; old = v.old; brought = v.brought; end = q.end i; begin = v.begin; closes = v.closes; close = v.close; slot = v.slot; reason = v.reason })
        ∙ ap (λ (y : Plan). with_rest y e) (shape q.begins)

    stored : Stored s.table p.old
    stored = ((well packet time s h).endpoints p.old q.there).words

    rested : ended_desk p.old p.brought.id (start_pid p.brought.style) (rest_end e) k ≡ k
    rested = rests p.old p.brought.id (start_pid p.brought.style) k stored q.done q.last

    -- what the steps after it leave
    abbrev after : Sum → Desk → State
    after z y =
        state (decoder_by s.decoder (only_begin p row t l Current) z y.hand) s.devices y.table
        (logs (sets s.logs.bytes (held_at s).bytes packet) y.devices y.endpoints (sets s.logs.packets ((held_at s).packets * packet_width) (s.decoder.counts.bytes ∷ time ∷ [])) s.logs.events y.transactions y.groups y.statebytes y.states y.items y.links s.logs.requests)

    pub rest-plan : keeps s.decoder.high (plan_of s.decoder.high packet (world_at s)) ≡ false → RowsRoom (one row) (one l) (length packet) (held_at s) s.decoder.counts (room_of s.logs) → BeginPlan packet time s row t l
    rest-plan u f =
        let z = begin_sum row l (length packet) s.decoder in
        record {
          plan = with_rest (only_begin p row t l Current) e;
          is = rest_shape;
          summed = rest_sum p e row t l s.decoder (held_at s) (length packet) (room_of s.logs)
              ∙ sum-by p t Current s.decoder (length packet) row l (held_at s) (room_of s.logs) (well packet time s h).counts (well packet time s h).numbered f;
          left = ap (λ (y : Desk). after z (begun_desk (only_begin p row t l Current).begin y)) rested ∙ left_by p t packet time s row l;
          kept = ap (λ (b : Bool). b || false) (ap (keeps s.decoder.high) (sym rest_shape) ∙ u);
          wants = λ a. let b = subst (λ (y : Desk). BeginAsks (only_begin p row t l Current).begin y) rested a.begin in (b.there, (b.few, b.transactions));
        }

  pub begins-plan : {row : Bool} {t : Transaction} {l : Bool} → Begins (plan_of s.decoder.high packet (world_at s)) (world_at s) row t l → keeps s.decoder.high (plan_of s.decoder.high packet (world_at s)) ≡ false → RowsRoom (one row) (one l) (length packet) (held_at s) s.decoder.counts (room_of s.logs) → BeginPlan packet time s row t l
  begins-plan (inl q) u f = only-plan packet time s h q u f
  begins-plan (inr q) u f = rest-plan q u f

-- ---- the end of such a SOF

-- a SOF behind others on the framing endpoint
sof-group : (a : Endpoint) (t : Transaction) (s : Step) → s.kind ≡ Framing → s.next ≡ SOF → group_at true a t s ≡ grouped Continue NoEffect a
unfolding other_group
sof-group a t s p q = rw (p, q) refl

taken_same : (e : Endpoint) → e.pending ≡ false → taken e ≡ e
taken_same e h =
    λ i. record { device = e.device; address = e.address; phase = e.phase; state = e.state; transactions = e.transactions; groups = e.groups; total = e.total; first = e.first; done = e.done; last = e.last; success = e.success; ready = e.ready; setup = e.setup; payload = e.payload; pending = sym h i; pendinglength = e.pendinglength; pendinglink = e.pendinglink }

pub sof-end : (x : ℕ) (e : Endpoint) (t : Transaction) (d : Detail) (last : ℕ) → e.phase ≡ Active → e.pending ≡ false → d.kind ≡ Framing → start_pid t.style ≡ SOF → t.linked ≡ true
    → end_of x e t d last false false ≡ rest_end e
unfolding end_of group_status
sof-end x e t d last phase idle kind token linked =
    ap (end_by x t last) ((λ i. group_at (is_active (phase i)) (taken e) t (step_of e t d false false)) ∙ (sof-group (taken e) t (step_of e t d false false) kind token ∙ ap (grouped Continue NoEffect) (taken_same e idle)))
    ∙ λ i. record { entry = e; update = decide_update Continue (phase i) (linked i) (eqb last x); effect = NoEffect }

-- and the entry after it
pub sof-entry : (pid : ℕ) (e : Endpoint) → e.done ≡ true → e.last ≡ pid → entry_after (links false Last) pid e ≡ e
unfolding entry_after
sof-entry pid e h g = last_same pid e h g
