-- Inner (cited by private contracts alone): close-only: a packet whose plan (plan, Packet) goes on with the transaction that is held, with no row of its own, and ends it.
use Rattle.std.specs.Prelude.{ℕ, ◌*◌, ◌≡◌, Bool, true, false, ◌&&◌, not, List, [], ◌∷◌, Option, Some, None}
use Rattle.std.proofs.lemmas.List.Edits.{sets}
use Rattle.usb.specs.Packet.{no_reason}
use Rattle.rows.specs.Widths.{packet_width}
use Rattle.details.specs.declared.Detail.{Detail}
use Rattle.details.specs.declared.Device.{Device}
use Rattle.endpoints.specs.Table.{entry_at}
use Rattle.transaction.specs.Payload.{start_pid}
use Rattle.transaction.specs.declared.Transaction.{Transaction}
use Rattle.rules.specs.World.{◌▷◌}
use Rattle.rules.specs.declared.EventState.TheVariants.{Idle}
use Rattle.rules.specs.declared.Slot.{Slot}
use Rattle.rules.specs.declared.Slot.TheVariants.{Empty}
use Rattle.update.specs.Effect.{passes}
use Rattle.tally.specs.Tallies.{tally_end, add_counts, room_for}
use Rattle.tally.specs.Tally.{none as nothing, add_packet}
use Rattle.tally.specs.declared.add.Tally.{Tally}
use Rattle.record.specs.Room.{held_of}
use Rattle.record.specs.declared.Counts.{Counts}
use Rattle.record.specs.declared.Decoder.{Decoder}
use Rattle.plan.specs.Devices.{adds_device, asks}
use Rattle.plan.specs.Packet.{going, none, old_endpoint, end_if}
use Rattle.plan.specs.Step.{end_of}
use Rattle.plan.specs.declared.End.{End}
use Rattle.plan.specs.declared.Plan.{Plan}
use Rattle.call.specs.Share.{tied}
use Rattle.call.specs.State.{State, state, logs, held_at}
use Rattle.write.specs.declared.Written.{Written}
use Rattle.write_packet.specs.Desk.{Desk, desk, ended_desk}
use Rattle.write_packet.specs.declared.Hand.{Hand}
use Rattle.packet.specs.After.{hand_of}
use Rattle.quick.specs.declared.shape.Shape.{Shape}

-- ---- the shape: t is the transaction that ends, e its end. What is under a flag that is off is p's

abbrev pub only_close : Plan → Transaction → End → Slot → Plan
only_close p t e slot =
    record {
      resumes = false;
      resume = p.resume;
      ends = false;
      old = p.old;
      brought = p.brought;
      end = p.end;
      begin = going false t none;
      closes = true;
      close = e;
      slot = slot;
      reason = no_reason;
    }

pub record CloseOnly (p : Plan) (t : Transaction) (e : End) (next : Slot) : Type 0 where
  pub resumes : p.resumes ≡ false
  pub ends : p.ends ≡ false
  pub begin : p.begin ≡ going false t none
  pub closes : p.closes ≡ true
  pub close : p.close ≡ e
  pub slot : p.slot ≡ next
  pub reason : p.reason ≡ no_reason

-- ---- its end, decided

-- of the transaction that is held; where the packet is not of this shape, nothing is done
abbrev pub end_by : Shape → Decoder → Detail → List ℕ → End
end_by q d old table =
    let x = old_endpoint d.slot d.transaction in
    end_if q.closes (end_of x (entry_at table x) q.transaction old d.last q.success true) (entry_at table x)

-- ---- what it adds

unfoldable pub close_tally : End → ℕ → Decoder → Tally
close_tally e len d = nothing d.waiting ▷ add_packet len ▷ tally_end e d.counts.endpoints

-- what is tested: there is room, no byte total passes, no device is added, and no request completes
abbrev pub taken : Bool → End → Decoder → Counts → ℕ → Counts → Bool
taken closes e d held len room =
    closes && (room_for held d.counts (close_tally e len d) room && (not (passes e.effect e.entry.total) && (not (adds_device e.effect) && not (asks e.effect))))

abbrev pub rows_if : Bool → Tally → Option Tally
rows_if true t = Some t
rows_if false t = None

-- the rows, where it is taken
abbrev pub close_of : Bool → End → Decoder → Counts → ℕ → Counts → Option Tally
close_of closes e d held len room = rows_if (taken closes e d held len room) (close_tally e len d)

pub record CloseFits (e : End) (len : ℕ) (d : Decoder) (held room : Counts) : Type 0 where
  pub fits : room_for held d.counts (close_tally e len d) room ≡ true
  pub total : passes e.effect e.entry.total ≡ false
  pub device : adds_device e.effect ≡ false
  pub request : asks e.effect ≡ false

-- ---- what it leaves

-- the record with another transaction
abbrev pub holding : Transaction → Decoder → Decoder
holding t d =
    record { counts = d.counts; slot = d.slot; transaction = t; last = d.last; event = d.event; keepalive = d.keepalive; waiting = d.waiting; finished = d.finished; high = d.high; time = d.time }

-- where the call begins to write, with the T row of t
abbrev pub close_hand : Transaction → ℕ → Decoder → Counts → List ℕ → Hand
close_hand t time d held table = hand_of time no_reason (holding t d) held table

abbrev pub entered : Transaction → ℕ → State → Desk
entered t time s =
    desk (close_hand t time s.decoder (held_at s) s.table) s.table s.logs.devices s.logs.endpoints s.logs.transactions s.logs.groups s.logs.statebytes s.logs.states s.logs.items s.logs.links

abbrev pub closed_decoder : Transaction → Tally → Written → Decoder → Decoder
closed_decoder t z h d =
    record { counts = add_counts d.counts z; slot = Empty; transaction = tied t h; last = h.last; event = Idle; keepalive = d.keepalive; waiting = z.waiting; finished = d.finished; high = d.high; time = h.stamp.time }

-- with these rows added
abbrev pub close_state : Transaction → End → Tally → List ℕ → ℕ → State → State
close_state t e z packet time s =
    let h = held_at s in
    let g = s.logs in
    let k = ended_desk t.endpoint t.id (start_pid t.style) e (entered t time s) in
    state
    (closed_decoder t z k.hand.written s.decoder)
    s.devices
    k.table
    (logs
    (sets g.bytes h.bytes packet)
    k.devices
    g.endpoints
    (sets g.packets (h.packets * packet_width) (s.decoder.counts.bytes ∷ time ∷ []))
    g.events
    g.transactions
    k.groups
    k.statebytes
    k.states
    k.items
    k.links
    g.requests)

-- the same over what close_only is lent, whatever the devices and the other logs hold
abbrev pub OnClose : Transaction → End → Tally → Counts → List ℕ → ℕ → Decoder
    → List ℕ → List ℕ → List ℕ → List ℕ → List ℕ → List ℕ → List ℕ → List ℕ → List ℕ
    → Decoder → List ℕ → List ℕ → List ℕ → List ℕ → List ℕ → List ℕ → List ℕ → List ℕ → List ℕ → Type 0
OnClose t e z held packet time d table b v p g m s i l d' table' b' v' p' g' m' s' i' l' =
    (devices : List Device) (endpoints events transactions q : List ℕ)
    → held ≡ held_of table d.counts
    → state d' devices table' (logs b' v' endpoints p' events transactions g' m' s' i' l' q)
    ≡ close_state t e z packet time (state d devices table (logs b v endpoints p events transactions g m s i l q))
