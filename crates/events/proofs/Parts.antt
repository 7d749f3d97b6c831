-- An event as the code has its parts, each equal to that of the state that the call begins with.
use Prim.Native.Nat.{ℕ, ◌+◌, ◌*◌, ◌≤◌}
use mathlib.Core.Bool.{Bool}
use mathlib.Core.List.{List, [], ◌∷◌}
use mathlib.Core.Path.{◌≡◌, sym, ap, ◌∙◌, subst}
use lib.ListN.{length}
use lib.Seq.{sets}
use Rattle.std.specs.Prelude.{Some}
use Rattle.usb.specs.Packet.{no_reason}
use Rattle.rows.specs.Widths.{event_width, packet_width, transaction_width}
use Rattle.rows.specs.Sets.{opt}
use Rattle.transaction.specs.Payload.{start_pid}
use Rattle.rules.specs.Events as rules
use Rattle.write.specs.Memory.{Memory}
use Rattle.write.specs.declared.Written.{Written}
use Rattle.event.specs.Event.{act_of, told, adds_row, adds_group}
use Rattle.write_event.specs.Rows.{Able, event_rows, starts_group}
use Rattle.record.specs.declared.Counts.{Counts}
use Rattle.record.specs.declared.Decoder.{Decoder}
use Rattle.call.specs.Outcome.{world_at}
use Rattle.call.specs.State.{State, state, logs, room_of, held_at, Logs}
use Rattle.plan.specs.Ending.{ending_of}
use Rattle.plan.specs.declared.Ending.{Ending}
use Rattle.events.specs.After.{resets_by, keepalive_then, sum_of, Decides, event_decoder}
use Rattle.events.specs.Call.{EventCall}
use Rattle.events.specs.Ended.{settled_memory, SettlesIf}
use Rattle.rules.specs.declared.Stamp.{Stamp}
use Rattle.call.specs.Share.{written_of}
use Rattle.events.specs.declared.decided.Decided.{Decided}
use Rattle.events.specs.declared.sum.Sum.{Sum}
use Rattle.events.proofs.Before.{memory_then}
use Rattle.events.proofs.Happens.{brings, tally_at, event_sum, event_left, event-some}
use Rattle.events.proofs.Reached.{first_memory, memory_at}
use Rattle.events.proofs.Tail.{rows_memory, AbleAt}

module _ (s : State) (kind : ℕ) where
  abbrev pub turn_at : rules.Turn
  turn_at = rules.turn_of s.decoder.event kind

  abbrev pub alive_at : Bool
  alive_at = keepalive_then (resets_by kind) s.decoder.keepalive

  -- whether there is a transaction row, a group, and whether that starts
  pub record Flags (a b c : Bool) : Type 0 where
    pub row : a ≡ adds_row turn_at.act
    pub group : b ≡ adds_group turn_at.act alive_at
    pub start : c ≡ starts_group turn_at.act

module _ (s : State) (kind : ℕ) (room : Counts) (r : Decided) (q : Decides s.decoder s.devices s.table kind room r) where
  pub sum_at : room ≡ room_of s.logs → r.sum ≡ event_sum kind s
  sum_at e = q.sum ∙ ap (sum_of (held_at s) s.decoder.counts (tally_at (resets_by kind) kind s)) e

  act_at : act_of r.turn.act ≡ (turn_at s kind).act
  act_at = ap (λ (t : rules.Turn). t.act) q.turn

  pub flags_at : (row group start : Bool) → row ≡ adds_row (act_of r.turn.act) → group ≡ adds_group (act_of r.turn.act) (keepalive_then r.resets s.decoder.keepalive) → start ≡ starts_group (act_of r.turn.act)
      → Flags s kind row group start
  flags_at row group start e f g =
      record {
        row = e ∙ ap adds_row act_at;
        group = f ∙ ap (λ (a : rules.Act). adds_group a (keepalive_then r.resets s.decoder.keepalive)) act_at ∙ ap (λ (b : Bool). adds_group (turn_at s kind).act (keepalive_then b s.decoder.keepalive)) q.resets;
        start = g ∙ ap starts_group act_at;
      }

  module _ (c : Stamp) (pid : ℕ) (h : Written) (e : pid ≡ start_pid s.decoder.transaction.style) (f : h ≡ written_of c (held_at s) s.decoder s.table) where
    pub settles_at : SettlesIf (resets_by kind) (ending_of (world_at s)) s.decoder.counts.endpoints s.decoder.transaction.id (start_pid s.decoder.transaction.style) (memory_at c s)
        → SettlesIf r.resets r.end s.decoder.counts.endpoints s.decoder.transaction.id pid (first_memory s h)
    settles_at a =
        subst (λ (b : Bool). SettlesIf b r.end s.decoder.counts.endpoints s.decoder.transaction.id pid (first_memory s h)) (sym q.resets)
        (subst (λ (x : Ending). SettlesIf (resets_by kind) x s.decoder.counts.endpoints s.decoder.transaction.id pid (first_memory s h)) (sym q.end)
        (subst (λ (p : ℕ). SettlesIf (resets_by kind) (ending_of (world_at s)) s.decoder.counts.endpoints s.decoder.transaction.id p (first_memory s h)) (sym e)
        (subst (λ (t : Written). SettlesIf (resets_by kind) (ending_of (world_at s)) s.decoder.counts.endpoints s.decoder.transaction.id (start_pid s.decoder.transaction.style) (first_memory s t)) (sym f) a)))

    pub settled_at : (m : Memory) → m ≡ settled_memory r.resets r.end s.decoder.counts.endpoints s.decoder.transaction.id pid (first_memory s h) → m ≡ memory_then (resets_by kind) c s
    settled_at m a =
        a ∙ ap (λ (b : Bool). settled_memory b r.end s.decoder.counts.endpoints s.decoder.transaction.id pid (first_memory s h)) q.resets
        ∙ ap (λ (x : Ending). settled_memory (resets_by kind) x s.decoder.counts.endpoints s.decoder.transaction.id pid (first_memory s h)) q.end
        ∙ ap (λ (p : ℕ). settled_memory (resets_by kind) (ending_of (world_at s)) s.decoder.counts.endpoints s.decoder.transaction.id p (first_memory s h)) e
        ∙ ap (λ (t : Written). settled_memory (resets_by kind) (ending_of (world_at s)) s.decoder.counts.endpoints s.decoder.transaction.id (start_pid s.decoder.transaction.style) (first_memory s t)) f

  -- the record
  pub decoder-at : room ≡ room_of s.logs → {z : Sum} → Some z ≡ r.sum → (d : Decoder) (h : Written) → d ≡ event_decoder s.decoder r.resets (told r.turn) z h → d ≡ event_decoder s.decoder (resets_by kind) (turn_at s kind) (event_left kind s) h
  decoder-at e {z} f d h a =
      a ∙ ap (λ (b : Bool). event_decoder s.decoder b (told r.turn) z h) q.resets
      ∙ ap (λ (t : rules.Turn). event_decoder s.decoder (resets_by kind) t z h) q.turn
      ∙ ap (λ (x : Sum). event_decoder s.decoder (resets_by kind) (turn_at s kind) x h) (event-some kind s (f ∙ sum_at e)).1

-- the rows of a packet, an event and these words of a transaction fit behind the rows held
abbrev pub Puts : Counts → Logs → List ℕ → Type 0
Puts n l t = ((n.packets + 1) * packet_width ≤ length l.packets) × (((n.events + 1) * event_width ≤ length l.events) × (n.transactions * transaction_width + length t ≤ length l.transactions))

module _ (s : State) (kind : ℕ) {row group start : Bool} (f : Flags s kind row group start) where
  pub puts_at : (c : Stamp) → c.packet ≡ s.decoder.counts.packets → c.reason ≡ no_reason → {held : Counts} → held ≡ held_at s
      → Puts (held_at s) s.logs (opt (adds_row (turn_at s kind).act) (s.decoder.counts.packets ∷ no_reason ∷ [])) → Puts held s.logs (opt row (c.packet ∷ c.reason ∷ []))
  puts_at c e r g a =
      subst (λ (h : Counts). Puts h s.logs (opt row (c.packet ∷ c.reason ∷ []))) (sym g)
      (subst (Puts (held_at s) s.logs) (λ i. opt row (sym e i ∷ sym r i ∷ []))
      (subst (λ (b : Bool). Puts (held_at s) s.logs (opt b (s.decoder.counts.packets ∷ no_reason ∷ []))) (sym f.row) a))

  module _ (c : Stamp) (m : Memory) (e : m ≡ memory_then (resets_by kind) c s) where
    pub able_at : AbleAt s (turn_at s kind) (alive_at s kind) (memory_then (resets_by kind) c s) → Able row group start s.decoder.counts.endpoints s.decoder.counts.transactions m
    able_at a =
        subst (λ (b : Bool). Able b group start s.decoder.counts.endpoints s.decoder.counts.transactions m) (sym f.row)
        (subst (λ (b : Bool). Able (adds_row (turn_at s kind).act) b start s.decoder.counts.endpoints s.decoder.counts.transactions m) (sym f.group)
        (subst (λ (b : Bool). Able (adds_row (turn_at s kind).act) (adds_group (turn_at s kind).act (alive_at s kind)) b s.decoder.counts.endpoints s.decoder.counts.transactions m) (sym f.start)
        (subst (AbleAt s (turn_at s kind) (alive_at s kind)) (sym e) a)))

    pub rows_at : (v : Memory) → v ≡ event_rows row group start s.decoder.counts.endpoints s.decoder.counts.transactions m → v ≡ rows_memory s (turn_at s kind) (alive_at s kind) (memory_then (resets_by kind) c s)
    rows_at v a =
        a ∙ ap (λ (b : Bool). event_rows b group start s.decoder.counts.endpoints s.decoder.counts.transactions m) f.row
        ∙ ap (λ (b : Bool). event_rows (adds_row (turn_at s kind).act) b start s.decoder.counts.endpoints s.decoder.counts.transactions m) f.group
        ∙ ap (λ (b : Bool). event_rows (adds_row (turn_at s kind).act) (adds_group (turn_at s kind).act (alive_at s kind)) b s.decoder.counts.endpoints s.decoder.counts.transactions m) f.start
        ∙ ap (rows_memory s (turn_at s kind) (alive_at s kind)) e

-- ---- the state that the code leaves

abbrev pub leaves : State → Decoder → List ℕ → List ℕ → List ℕ → Memory → State
leaves s d p e t m = state d s.devices m.table (logs s.logs.bytes s.logs.devices s.logs.endpoints p e t m.groups m.statebytes m.states m.items m.links s.logs.requests)

-- its packet, event and transaction rows
abbrev pub packets_at : State → Stamp → List ℕ
packets_at s c = sets s.logs.packets ((held_at s).packets * packet_width) (s.decoder.counts.bytes ∷ c.time ∷ [])

abbrev pub events_at : State → Stamp → ℕ → List ℕ
events_at s c code = sets s.logs.events ((held_at s).events * event_width) (c.packet ∷ code ∷ [])

abbrev pub transactions_at : State → Stamp → Bool → List ℕ
transactions_at s c row = sets s.logs.transactions ((held_at s).transactions * transaction_width) (opt row (c.packet ∷ c.reason ∷ []))

module _ (s : State) (kind code time : ℕ) where
  abbrev rows_after : Memory
  rows_after = rows_memory s (turn_at s kind) (alive_at s kind) (memory_then (resets_by kind) (brings time s) s)

  abbrev decoder_at : Memory → Decoder
  decoder_at m = event_decoder s.decoder (resets_by kind) (turn_at s kind) (event_left kind s) m.written

  abbrev Happens : State → Type 0
  Happens s' = EventCall kind code time s 0 s'

  pub event_returns : (c : Stamp) → c ≡ brings time s → (m : Memory) (d : Decoder) (row : Bool) (p e t : List ℕ)
      → Happens (leaves s (decoder_at rows_after) (packets_at s (brings time s)) (events_at s (brings time s) code) (transactions_at s (brings time s) (adds_row (turn_at s kind).act)) rows_after)
      → m ≡ rows_after → d ≡ decoder_at m → row ≡ adds_row (turn_at s kind).act → p ≡ packets_at s c → e ≡ events_at s c code → t ≡ transactions_at s c row → Happens (leaves s d p e t m)
  event_returns c hc m d row p e t a hm hd hr hp he ht =
      let q = packets_at s (brings time s) in
      let f = events_at s (brings time s) code in
      let u = transactions_at s (brings time s) (adds_row (turn_at s kind).act) in
      subst (λ (x : List ℕ). Happens (leaves s d x e t m)) (sym (hp ∙ ap (packets_at s) hc))
      (subst (λ (x : List ℕ). Happens (leaves s d q x t m)) (sym (he ∙ ap (λ (x : Stamp). events_at s x code) hc))
      (subst (λ (x : List ℕ). Happens (leaves s d q f x m)) (sym (ht ∙ λ i. transactions_at s (hc i) (hr i)))
      (subst (λ (x : Decoder). Happens (leaves s x q f u m)) (sym hd)
      (subst (λ (v : Memory). Happens (leaves s (decoder_at v) q f u v)) (sym hm) a))))
