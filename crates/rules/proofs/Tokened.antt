-- Every call keeps it that a transaction lacks an endpoint exactly if it is a split without its token; so it is after every sequence of calls.
use mathlib.Core.Path.{◌≡◌, refl, sym, ap, subst}
use mathlib.Core.Bool.{Bool, true, false}
use mathlib.Core.List.{List, []}
use Prim.Native.Nat.{ℕ, ◌≤◌}
use native.Mathlib.Omega.{arith}
use lib.Dec.{eqb}
use Rattle.usb.specs.Packet.{reason_of}
use Rattle.usb.specs.Pid.{SPLIT, MALFORMED}
use Rattle.transaction.specs.Table.{pick}
use Rattle.transaction.specs.Status.{transaction_status}
use Rattle.transaction.specs.declared.Judged.{Judged}
use Rattle.transaction.specs.declared.Style.{Style}
use Rattle.transaction.specs.declared.Style.TheVariants.{Nothing as NoStyle, Simple, Split, Token}
use Rattle.transaction.specs.declared.Status.{Status}
use Rattle.transaction.specs.declared.Status.TheVariants.{New, Continue, Retry, Done, Fail, Ambiguous, Invalid}
use Rattle.details.specs.Details.{fresh}
use Rattle.details.specs.Kind.{Unknown}
use Rattle.std.specs.Prelude.{Option, Some, None}
use Rattle.rules.specs.Rows.{Row, EventRow}
use Rattle.rules.specs.World.{with_shelf, stamped, World, push, with_slot, with_journal, with_keepalive, with_event_state, last_stamped}
use Rattle.rules.specs.Endpoints.{device_for, found, packet_endpoint, number_at, endpoint_of, set_detail_on}
use Rattle.rules.specs.Transactions.{transaction_end_at, transaction_end, append_token, transaction_append, push_transaction, type_of, begin_on, begin_split, begin_plain, transaction_start, resume_at, state_at, completes, brought, extracted, update_at, update_from, is_dropped, transaction_update}
use Rattle.rules.specs.Events.{event_subgroup_start, event_add_group, Act, nothing, single, group, subgroup, keepalive, turn_of, event_act, event_update}
use Rattle.rules.specs.Decoder.{append_bytes, push_packet, handle_raw_packet, suspend_at, suspend, end_all, handle_event, finish, handle_detail}
use Rattle.rules.specs.Decoder as Decoder
use Rattle.rules.specs.Demand.{Call, packet, event, detail, finishing, call}
use Rattle.rules.proofs.Reach.{Reach, next, begin as reached}
use Rattle.rules.specs.Tokened.{TokenedIn, Tokened, Stands}
use Rattle.rules.specs.declared.Slot.{Slot}
use Rattle.rules.specs.declared.Slot.TheVariants.{Empty, Current, Suspended}
use Rattle.rules.specs.declared.EventState.TheVariants.{Idle}
use Rattle.rules.proofs.Seen.{Seen, packet-seen, start_seen, append-seen, extract-seen}
use Rattle.rules.proofs.Stands.{end_stands, resume_stands}
use Rattle.rules.proofs.Moves.{Spot, found-spot}
use Rattle.rules.proofs.Demand.{Sound, always}

-- it goes by what is seen of the transaction
abbrev pub In : Seen → Type 0
In s = TokenedIn s.slot s.style s.endpoint

pub carried : {a b : Seen} → b ≡ a → In a → In b
carried q h = subst In (sym q) h

real_in : (s : Slot) (sc kind pid x : ℕ) → ¬ (x ≡ 0) → TokenedIn s (Token sc kind pid) x
real_in Empty sc kind pid x d = tt
real_in Current sc kind pid x d = d
real_in Suspended sc kind pid x d = d

-- ---- transaction_end, transaction_append, transaction_start

end_at : (s : Slot) (b c : Bool) (w : World) → w.slot ≡ s → Tokened w → Tokened (transaction_end_at s b c w)
end_at Empty b c w q h = h
end_at Current b c w q h = tt
end_at Suspended b c w q h = h

ends : (b c : Bool) (w : World) → Tokened w → Tokened (transaction_end b c w)
ends b c w h = end_at w.slot b c w refl h

number_real : (g : Option ℕ) (w : World) → 3 ≤ w.count → Spot g w.count → ¬ (number_at g w ≡ 0)
number_real (Some i) w t s = s.1
number_real None w t s = λ z. omega arith

module _ (pid : ℕ) (p : List ℕ) where
  endpoint_real : (w : World) → Stands w → ¬ (endpoint_of pid p w ≡ 0)
  endpoint_real w s = number_real (found pid p w) w s.0 (found-spot pid p w s.0 s.1)

  token : (t : Style) (w : World) → Stands w → Tokened w → Tokened (append_token t pid p w)
  token NoStyle w s h = h
  token (Simple first) w s h = h
  token (Split sc kind) w s h =
      rw (ap (λ (s : Seen). s.slot) (packet-seen pid p w)) (real_in w.slot sc kind pid (endpoint_of pid p w) (endpoint_real w s))
  token (Token sc kind first) w s h = h

  on : (x kind n : ℕ) (w : World) → ¬ (x ≡ 0) → Tokened (begin_on x kind pid n w)
  on x kind n w d = carried (start_seen pid x _) d

  starts : (n : ℕ) (w : World) → Stands w → Tokened (transaction_start n pid p w)
  starts n w s = by (eqb pid MALFORMED) (eqb pid SPLIT)
    where
      v : World
      v = push_transaction n w

      x : ℕ
      x = endpoint_of pid p v

      by : (a b : Bool) → Tokened (pick a (begin_on 1 Unknown pid w.transactions v) (pick b (begin_split p pid w.transactions v) (begin_plain pid p w.transactions v)))
      by true b = on 1 Unknown w.transactions v (λ h. omega arith)
      by false true = refl
      by false false = on x (type_of x (packet_endpoint pid p v)) w.transactions (packet_endpoint pid p v) (endpoint_real v s)

  -- ---- transaction_update

  appended : (high : Bool) (w : World) → Stands w → Tokened w → Tokened (transaction_append pid p (extracted high pid p w))
  appended high w s h = token (extracted high pid p w).transaction.style (extracted high pid p w) s (carried (extract-seen high pid p w) h)

  updates : (high : Bool) (s : Status) (n : ℕ) (k : Bool) (w : World) → Stands w → Tokened w → Tokened (update_at high s n pid p k w)
  updates high New n k w s h = carried (append-seen (transaction_start n pid p v)) (starts n v (end_stands false false (brought high pid p w) s))
    where
      v : World
      v = transaction_end false false (brought high pid p w)
  updates high Continue n k w s h = carried (append-seen (transaction_append pid p (extracted high pid p w))) (appended high w s h)
  updates high Retry n k w s h = ends true k (transaction_append pid p (extracted high pid p w)) (appended high w s h)
  updates high Done n k w s h = ends true k (transaction_append pid p (extracted high pid p w)) (appended high w s h)
  updates high Fail n k w s h = ends false k (transaction_append pid p (extracted high pid p w)) (appended high w s h)
  updates high Ambiguous n k w s h = appended high w s h
  updates high Invalid n k w s h = ends false false (transaction_start n pid p w) (starts n w s)

pub resumes : (s : Slot) (n : ℕ) (w : World) → w.slot ≡ s → Tokened w → Tokened (resume_at s n w)
resumes Empty n w q h = h
resumes Current n w q h = h
resumes Suspended n w q h = rw q at h

packets : (high : Bool) (p : List ℕ) (time : ℕ) (w : World) → Stands w → Tokened w → Tokened (handle_raw_packet high p time w)
unfolding handle_raw_packet transaction_update
packets high p time w s h = by (is_dropped w.slot w.transaction)
  where
    v : World
    v = push_packet w.bytes time (append_bytes p (with_event_state Idle (stamped time (reason_of p) w)))

    u : World
    u = resume_at w.slot w.packets v

    j : Judged
    j = transaction_status high (state_at u.slot u.transaction) p

    by : (b : Bool) → Tokened (pick b (with_slot Empty v) (update_from high w.packets p u))
    by true = tt
    by false =
        updates j.pid p high j.status w.packets (completes (state_at u.slot u.transaction).style j.status) u (resume_stands w.slot w.packets v s) (resumes w.slot w.packets v refl h)

-- ---- events, details

acts : (a : Act) (n : ℕ) (w : World) → Tokened w → Tokened (event_act a n w)
acts nothing n w h = h
acts single n w h = ends false false w h
acts group n w h = ends false false w h
acts subgroup n w h = ends false false w h
acts keepalive n w h = by w.keepalive
  where
    by : (b : Bool) → Tokened (pick b (event_subgroup_start n w) (with_keepalive true (event_add_group n true w)))
    by true = ends false false w h
    by false = ends false false w h

suspends : (s : Slot) (t : Style) (x : ℕ) → TokenedIn s t x → TokenedIn (suspend_at s) t x
suspends Empty t x h = tt
suspends Current t x h = h
suspends Suspended t x h = tt

events : (kind code time : ℕ) (w : World) → Tokened w → Tokened (handle_event kind code time w)
unfolding handle_event event_update
events kind code time w h = by (eqb kind 0)
  where
    by : (b : Bool) → Tokened (event_update w.packets kind (push (EventRow w.packets code) (push_packet w.bytes time (pick b (suspend (stamped time 0 w)) (end_all (stamped time 0 w))))))
    by true = acts (turn_of w.event_state kind).act w.packets (push (EventRow w.packets code) (push_packet w.bytes time (suspend (stamped time 0 w)))) (suspends w.slot w.transaction.style w.transaction.endpoint h)
    by false = acts (turn_of (end_all (stamped time 0 w)).event_state kind).act w.packets (push (EventRow w.packets code) (push_packet w.bytes time (end_all (stamped time 0 w)))) (ends false false (stamped time 0 w) h)

details : (g : Option ℕ) (number direction kind max : ℕ) (w : World) → Tokened w → Tokened (set_detail_on g number direction kind max w)
details (Some i) number direction kind max w h = h
details None number direction kind max w h = h

-- ---- every call, on every world where the special endpoints stand

pub tokened-after : (high : Bool) (k : Call) (w : World) → Stands w → Tokened w → Tokened (call high k w)
unfolding handle_detail finish
tokened-after high (packet p time shelf) w s h = packets high p time (with_shelf shelf w) s h
tokened-after high (event kind code time) w s h = events kind code time w h
tokened-after high (detail a number r kind m) w s h = details (device_for a w) number r kind m w h
tokened-after high finishing w s h = ends false false (last_stamped w) h

-- and so of every world that calls leave
fresh_tokened : Tokened Decoder.fresh
unfolding fresh
fresh_tokened = tt

pub tokened_always : {high : Bool} {js : List Row} {w : World} → Reach high js w → Tokened w
tokened_always reached = fresh_tokened
tokened_always {high} (next {js} {w} k r) =
    let s : Sound js w = always r in
    let q = (s.keeps 0).size in
    tokened-after high k (with_journal [] w) (omega (arith, s.three), (s.keeps 0).special refl) (tokened_always r)
