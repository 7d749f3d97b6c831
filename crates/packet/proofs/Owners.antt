-- The devices of what a packet has read: that of a payload that is laid by is there, that of a request that completes is there or comes with it; and a payload is that of a data packet.
use mathlib.Core.Path.{◌≡◌, refl, sym, ap, ◌∙◌}
use mathlib.Core.Bool.{Bool, true, false, ◌&&◌, ◌||◌, not, false≢true, true≢false}
use mathlib.Core.List.{List}
use Prim.Native.Nat.{ℕ, ◌+◌, ◌<◌, ◌≤◌}
use native.Mathlib.Omega.{arith}
use borrow.Author.Tests.{eqb-true}
use lib.Dec.{eqb}
use lib.ListN.{length}
use Rattle.rows.specs.One.{one}
use Rattle.usb.specs.Packet.{checked_of, format_of, data_format}
use Rattle.usb.proofs.Laws.{data-length}
use Rattle.usb.specs.Pid.{DATA0, DATA1, DATA2, MDATA, SPLIT, MALFORMED}
use Rattle.usb.specs.Fields.{token_of, setup_data_of}
use Rattle.std.specs.Prelude.{Result, Ok, Err}
use Rattle.usb.specs.declared.reason.Reason.{Reason}
use Rattle.transaction.specs.Payload.{start_pid, yields, extract_payload}
use Rattle.transaction.proofs.HighLaws.{yields-any}
use Rattle.transaction.specs.Status.{judged, judged_of, status_of, transaction_status}
use Rattle.transaction.specs.Table.{pick}
use Rattle.transaction.specs.declared.Judged.{Judged}
use Rattle.transaction.specs.declared.Status.{Status}
use Rattle.transaction.specs.declared.Status.TheVariants.{New, Continue, Retry, Done, Fail, Ambiguous, Invalid}
use Rattle.transaction.specs.declared.Style.{Style}
use Rattle.transaction.specs.declared.Style.TheVariants.{Nothing, Simple, Split, Token}
use Rattle.transaction.specs.declared.Transaction.{Transaction}
use Rattle.details.specs.Kind.{Unknown}
use Rattle.details.specs.declared.Detail.{Detail}
use Rattle.std.specs.Prelude.{Option, Some, None}
use Rattle.endpoints.specs.declared.Endpoint.{Endpoint}
use Rattle.group.proofs.Laws.{group-keeps}
use Rattle.rules.specs.World.{World, invalid_ep}
use Rattle.rules.specs.Endpoints.{device_for, address_for, found, detail_of}
use Rattle.rules.specs.Transactions.{state_at, is_payload, is_kept}
use Rattle.rules.specs.declared.Slot.{Slot}
use Rattle.rules.specs.declared.Slot.TheVariants.{Empty, Current, Suspended}
use Rattle.update.specs.Entry.{entry_after, transaction_after}
use Rattle.plan.specs.Step.{end_of}
use Rattle.plan.specs.Packet.{resumes, slot_then, old_endpoint, transaction_then, entry_then, standing, new_on, place_at, place_of, start_on, start_split, start_plain, starting, appending_at, appending, middle_of, is_new, is_last, succeeds, completes_by, entry_ended, last_ended, end_if, close_of, keeps, plan_by, plan_of}
use Rattle.plan.specs.declared.End.{End}
use Rattle.plan.specs.declared.Middle.{Middle}
use Rattle.plan.specs.declared.Place.{Place}
use Rattle.plan.specs.declared.Plan.{Plan}
use Rattle.plan.proofs.Bounded.{Within, device_within, found_within}
use Rattle.plan.proofs.Frame.{device_fixed, own_fixed}
use Rattle.plan.proofs.Kept.{starting-row, appending-last}

-- ---- the devices

-- an end leaves its endpoint on its device
end-device : (x : ℕ) (e : Endpoint) (t : Transaction) (d : Detail) (last : ℕ) (success complete : Bool) → (end_of x e t d last success complete).entry.device ≡ e.device
unfolding end_of
end-device x e t d last success complete = (group-keeps e t d success complete).device

close-device : (m : Middle) (last : ℕ) (success complete : Bool) → (close_of m last success complete).entry.device ≡ m.entry.device
unfolding close_of
close-device m last success complete =
    let s = m.begin in
    let t = s.transaction in
    end-device t.endpoint (entry_after s.update (start_pid t.style) m.entry) (transaction_after s.update m.entry.transactions t) m.detail _ success complete
    ∙ own_fixed (λ e. e.device) device_fixed s.update (start_pid t.style) m.entry

if-device : (b : Bool) (s : End) (e : Endpoint) → s.entry.device ≡ e.device → (end_if b s e).entry.device ≡ e.device
if-device true s e h = h
if-device false s e h = refl

ended-device : (b : Bool) (s : End) (pid : ℕ) (e : Endpoint) → s.entry.device ≡ e.device → (entry_ended b s pid e).device ≡ e.device
ended-device true s pid e h = own_fixed (λ a. a.device) device_fixed s.update pid s.entry ∙ h
ended-device false s pid e h = refl

module _ (w : World) (three : 3 ≤ w.count) (owned : (i : ℕ) → i < w.count → (w.endpoints i).device < w.device_count) where
  -- the device of a place is there, or is the one that comes with it
  abbrev OwnedAt : Place → Type 0
  OwnedAt p = p.entry.device < w.device_count + one p.device

  abbrev Owned : Middle → Type 0
  Owned m = m.entry.device < w.device_count + one m.begin.device

  new_owned : (f : Option ℕ) (owner address : ℕ) → Within w.device_count f → OwnedAt (new_on f owner address w)
  new_owned (Some d) owner address h = omega (arith, h)
  new_owned None owner address h = omega arith

  module _ (x0 : ℕ) (there : x0 < w.count) (e0 : Endpoint) (own : e0.device < w.device_count) where
    standing_owned : (i : ℕ) → i < w.count → OwnedAt (standing x0 e0 i w)
    standing_owned i h = by (eqb i x0)
      where
        by : (b : Bool) → (pick b e0 (w.endpoints i)).device < w.device_count + 0
        by true = omega (arith, own)
        by false = let o = owned i h in omega (arith, o)

    place_owned : (pid : ℕ) (packet : List ℕ) → OwnedAt (place_of x0 e0 pid packet w)
    unfolding place_of
    place_owned pid packet = by (found pid packet w) (found_within pid packet w three)
      where
        by : (f : Option ℕ) → Within w.count f → OwnedAt (place_at f x0 e0 pid packet w)
        by (Some i) h = standing_owned i h
        by None h = new_owned (device_for (token_of packet).address w) (token_of packet).address (address_for pid (token_of packet).number) (device_within (token_of packet).address w)

    invalid_owned : OwnedAt (standing x0 e0 invalid_ep w)
    invalid_owned = standing_owned invalid_ep (omega (arith, three))

    starting_owned : (s : Status) (pid : ℕ) (packet : List ℕ) (n : ℕ) → Owned (starting s x0 e0 pid packet n w)
    unfolding starting
    starting_owned s pid packet n = by (eqb pid MALFORMED) (eqb pid SPLIT)
      where
        by : (a b : Bool) → Owned (pick a (start_on s (standing x0 e0 invalid_ep w) Unknown 0 pid n) (pick b (start_split packet pid n (standing x0 e0 invalid_ep w)) (start_plain s (place_of x0 e0 pid packet w) pid packet n)))
        by true b = invalid_owned
        by false true = invalid_owned
        by false false = place_owned pid packet

    appending_owned : (s : Status) (pid : ℕ) (packet : List ℕ) (b : Transaction) → Owned (appending s x0 e0 pid packet b w)
    unfolding appending
    appending_owned s pid packet b = by b.style
      where
        by : (y : Style) → Owned (appending_at y s x0 e0 pid packet b w)
        by Nothing = standing_owned x0 there
        by (Simple first) = standing_owned x0 there
        by (Split sc kind) = place_owned pid packet
        by (Token sc kind token) = standing_owned x0 there

    middle_owned : (s : Status) (pid : ℕ) (packet : List ℕ) (n : ℕ) (b : Transaction) → Owned (middle_of s x0 e0 pid packet n b w)
    middle_owned New pid packet n b = starting_owned New pid packet n
    middle_owned Continue pid packet n b = appending_owned Continue pid packet b
    middle_owned Retry pid packet n b = appending_owned Retry pid packet b
    middle_owned Done pid packet n b = appending_owned Done pid packet b
    middle_owned Fail pid packet n b = appending_owned Fail pid packet b
    middle_owned Ambiguous pid packet n b = appending_owned Ambiguous pid packet b
    middle_owned Invalid pid packet n b = starting_owned Invalid pid packet n

  module _ (high : Bool) (j : Judged) (x0 : ℕ) (there : x0 < w.count) (e : Endpoint) (own : e.device < w.device_count) (t : Transaction) (packet : List ℕ) where
    by-kept : (plan_by high j x0 e t packet w).end.entry.device < w.device_count
    unfolding plan_by
    by-kept =
        let b = extract_payload high t j.pid (length packet) (setup_data_of packet) in
        let end = end_of x0 e b (detail_of x0 w) w.last_item false false in
        let q = if-device (is_new j.status && not (eqb x0 0)) end e (end-device x0 e b (detail_of x0 w) w.last_item false false) in
        omega (arith, own, q)

    by-asked : (plan_by high j x0 e t packet w).close.entry.device < w.device_count + one (plan_by high j x0 e t packet w).begin.device
    unfolding plan_by
    by-asked =
        let b = extract_payload high t j.pid (length packet) (setup_data_of packet) in
        let end = end_of x0 e b (detail_of x0 w) w.last_item false false in
        let ends = is_new j.status && not (eqb x0 0) in
        let e0 = entry_ended ends end (start_pid b.style) e in
        let q = ended-device ends end (start_pid b.style) e (end-device x0 e b (detail_of x0 w) w.last_item false false) in
        let m = middle_of j.status x0 e0 j.pid packet (w.transactions + one (resumes w.slot)) b w in
        let o = middle_owned x0 there e0 (omega (arith, own, q)) j.status j.pid packet (w.transactions + one (resumes w.slot)) b in
        let last = last_ended ends end x0 w.last_item in
        let success = succeeds j.status in
        let complete = completes_by j.status t.style in
        let c = if-device (is_last j.status && not (eqb m.begin.transaction.endpoint 0)) (close_of m last success complete) m.entry (close-device m last success complete) in
        omega (arith, o, c)

  -- the old endpoint's entry, once it is resumed
  then-device : (s : Slot) (e : Endpoint) → (entry_then s e).device ≡ e.device
  then-device Empty e = refl
  then-device Current e = refl
  then-device Suspended e = refl

  module _ (packet : List ℕ) (old : old_endpoint w.slot w.transaction < w.count) where
    abbrev x0 : ℕ
    x0 = old_endpoint w.slot w.transaction

    abbrev e : Endpoint
    e = w.endpoints x0

    abbrev t : Transaction
    t = transaction_then w.slot w.transactions e w.transaction

    own : (entry_then w.slot e).device < w.device_count
    own = let q = then-device w.slot e in let o = owned x0 old in omega (arith, q, o)

    -- the device whose part of the shelf a payload is laid to
    pub plan-kept : (high : Bool) → (plan_of high packet w).end.entry.device < w.device_count
    unfolding plan_of
    plan-kept high = by-kept high (transaction_status high (state_at (slot_then w.slot) t) packet) x0 old (entry_then w.slot e) own t packet

    -- the device that a request completes on
    pub plan-asked : (high : Bool) → (plan_of high packet w).close.entry.device < w.device_count + one (plan_of high packet w).begin.device
    unfolding plan_of
    plan-asked high = by-asked high (transaction_status high (state_at (slot_then w.slot) t) packet) x0 old (entry_then w.slot e) own t packet

-- ---- three bytes

-- a step with a row of its own lays nothing by
rowed : (row kept : Bool) → row ≡ true → (not row && kept) ≡ true → ⊥
rowed true kept h q = false≢true q
rowed false kept h q = false≢true h

data-format : (pid : ℕ) (a b c d : Bool) → eqb pid DATA0 ≡ a → eqb pid DATA1 ≡ b → eqb pid DATA2 ≡ c → eqb pid MDATA ≡ d → (a || (b || (c || d))) ≡ true → format_of pid ≡ data_format
unfolding format_of
data-format pid true b c d ea eb ec ed h = let q = eqb-true pid DATA0 ea in rw q refl
data-format pid false true c d ea eb ec ed h = let q = eqb-true pid DATA1 eb in rw q refl
data-format pid false false true d ea eb ec ed h = let q = eqb-true pid DATA2 ec in rw q refl
data-format pid false false false true ea eb ec ed h = let q = eqb-true pid MDATA ed in rw q refl
data-format pid false false false false ea eb ec ed h = absurd (false≢true h)

first_of : (a b : Bool) → (a && b) ≡ true → a ≡ true
first_of true b h = refl
first_of false b h = h

second_of : (a b : Bool) → (a && b) ≡ true → b ≡ true
second_of true b h = h
second_of false b h = absurd (false≢true h)

module _ (high : Bool) (packet : List ℕ) (w : World) (x0 : ℕ) (e : Endpoint) (t : Transaction) where
  abbrev planned : ℕ → Status → Plan
  planned pid s = plan_by high (judged pid s) x0 e t packet w

  abbrev b : ℕ → Transaction
  b pid = extract_payload high t pid (length packet) (setup_data_of packet)

  -- it has the PID of a data packet
  payload_data : (pid : ℕ) (q : Plan) → q.begin.transaction.last ≡ pid → keeps high q ≡ true → format_of pid ≡ data_format
  payload_data pid q last h =
      let k = second_of (not q.begin.row) _ h in
      let p : is_payload high q.brought.style q.begin.transaction.last ≡ true = first_of (is_payload high q.brought.style q.begin.transaction.last) _ k in
      let d : yields high q.begin.transaction.last ≡ true = first_of (yields high q.begin.transaction.last) _ p in
      data-format pid (eqb pid DATA0) (eqb pid DATA1) (eqb pid DATA2) (eqb pid MDATA) refl refl refl refl (yields-any high pid (ap (yields high) (sym last) ∙ d))

  kept_data : (pid : ℕ) (s : Status) → keeps high (planned pid s) ≡ true → format_of pid ≡ data_format
  unfolding plan_by
  kept_data pid New h = absurd (rowed _ _ (starting-row New x0 _ pid packet _ w) h)
  kept_data pid Continue h = payload_data pid (planned pid Continue) (appending-last Continue x0 e pid packet (b pid) w) h
  kept_data pid Retry h = payload_data pid (planned pid Retry) (appending-last Retry x0 e pid packet (b pid) w) h
  kept_data pid Done h = payload_data pid (planned pid Done) (appending-last Done x0 e pid packet (b pid) w) h
  kept_data pid Fail h = payload_data pid (planned pid Fail) (appending-last Fail x0 e pid packet (b pid) w) h
  kept_data pid Ambiguous h = payload_data pid (planned pid Ambiguous) (appending-last Ambiguous x0 e pid packet (b pid) w) h
  kept_data pid Invalid h = absurd (rowed _ _ (starting-row Invalid x0 _ pid packet _ w) h)

  by-long : (u : Transaction) → keeps high (plan_by high (transaction_status high u packet) x0 e t packet w) ≡ true → 3 ≤ length packet
  unfolding transaction_status plan_by
  by-long u h = by (checked_of packet) refl h
    where
      by : (c : Result ℕ Reason) → checked_of packet ≡ c → keeps high (plan_by high (judged_of high u c (length packet)) x0 e t packet w) ≡ true → 3 ≤ length packet
      by (Err reason) q h = absurd (rowed _ _ (starting-row Invalid x0 _ MALFORMED packet _ w) h)
      by (Ok pid) q h = (data-length packet pid q (kept_data pid (status_of high u.style u pid (length packet)) h)).0

-- a payload that is laid by is that of a data packet
pub plan-long : (high : Bool) (packet : List ℕ) (w : World) → keeps high (plan_of high packet w) ≡ true → 3 ≤ length packet
unfolding plan_of
plan-long high packet w h =
    let x0 = old_endpoint w.slot w.transaction in
    let e = w.endpoints x0 in
    let t = transaction_then w.slot w.transactions e w.transaction in
    by-long high packet w x0 (entry_then w.slot e) t (state_at (slot_then w.slot) t) h
