-- The device whose row a packet's first step changes is there, or comes behind the others.
use mathlib.Core.Path.{◌≡◌}
use mathlib.Core.Bool.{Bool, true, false, ◌&&◌, ◌||◌, not, false≢true, true≢false}
use mathlib.Core.List.{List}
use Prim.Native.Nat.{ℕ, ◌+◌, ◌<◌, ◌≤◌}
use lib.Dec.{eqb}
use lib.ListN.{length}
use Rattle.rows.specs.One.{one}
use Rattle.usb.specs.Pid.{SPLIT, MALFORMED}
use Rattle.usb.specs.Fields.{token_of, setup_data_of}
use Rattle.transaction.specs.Payload.{start_pid, extract_payload}
use Rattle.transaction.specs.Status.{transaction_status}
use Rattle.transaction.specs.Table.{pick}
use Rattle.transaction.specs.declared.Judged.{Judged}
use Rattle.transaction.specs.declared.Status.{Status}
use Rattle.transaction.specs.declared.Status.TheVariants.{New, Continue, Retry, Done, Fail, Ambiguous, Invalid}
use Rattle.transaction.specs.declared.Style.{Style}
use Rattle.transaction.specs.declared.Style.TheVariants.{Nothing, Simple, Split, Token}
use Rattle.transaction.specs.declared.Transaction.{Transaction}
use Rattle.details.specs.Details.{details_of}
use Rattle.details.specs.Kind.{Unknown}
use Rattle.endpoints.specs.declared.Endpoint.{Endpoint}
use Rattle.std.specs.Prelude.{Option, Some, None}
use Rattle.rules.specs.World.{World, invalid_ep}
use Rattle.rules.specs.Endpoints.{device_for, address_for, found}
use Rattle.rules.specs.Transactions.{state_at}
use Rattle.plan.specs.Step.{end_of}
use Rattle.plan.specs.Packet.{resumes, slot_then, old_endpoint, transaction_then, entry_then, standing, new_on, place_at, place_of, start_on, start_split, start_plain, starting, appending_at, appending, middle_of, is_new, entry_ended, plan_by, plan_of}
use Rattle.plan.specs.declared.Middle.{Middle}
use Rattle.plan.specs.declared.Place.{Place}
use Rattle.plan.proofs.Bounded.{Within, device_within, found_within}
use Rattle.plan.specs.Devices.{changes}

module _ (w : World) (three : 3 ≤ w.count) (owned : (i : ℕ) → i < w.count → (w.endpoints i).device < w.device_count) where
  -- of a place whose device is not new
  abbrev Old : Place → Type 0
  Old p = p.device ≡ false → p.place < w.device_count

  new-old : (f : Option ℕ) (owner address : ℕ) → Within w.device_count f → Old (new_on f owner address w)
  new-old (Some d) owner address h q = h
  new-old None owner address h q = absurd (true≢false q)

  place-old : (x0 : ℕ) (e0 : Endpoint) (pid : ℕ) (packet : List ℕ) → Old (place_of x0 e0 pid packet w)
  unfolding place_of
  place-old x0 e0 pid packet = by (found pid packet w) (found_within pid packet w three)
    where
      by : (f : Option ℕ) → Within w.count f → Old (place_at f x0 e0 pid packet w)
      by (Some i) h q = owned i h
      by None h q =
          new-old (device_for (token_of packet).address w) (token_of packet).address (address_for pid (token_of packet).number)
          (device_within (token_of packet).address w) q

  -- of a step that changes a device's row
  abbrev MiddleOld : Middle → Type 0
  MiddleOld m = changes m.begin ≡ true → m.begin.device ≡ false → m.begin.place < w.device_count

  -- no type is stored: where no device is new, nothing changes
  untyped : (device : Bool) (n : ℕ) → (device || false) ≡ true → device ≡ false → n < w.device_count
  untyped true n h q = absurd (true≢false q)
  untyped false n h q = absurd (false≢true h)

  starting-old : (s : Status) (x0 : ℕ) (e0 : Endpoint) (pid : ℕ) (packet : List ℕ) (n : ℕ) → MiddleOld (starting s x0 e0 pid packet n w)
  unfolding starting
  starting-old s x0 e0 pid packet n = by (eqb pid MALFORMED) (eqb pid SPLIT)
    where
      by : (a b : Bool) → MiddleOld (pick a (start_on s (standing x0 e0 invalid_ep w) Unknown 0 pid n) (pick b (start_split packet pid n (standing x0 e0 invalid_ep w)) (start_plain s (place_of x0 e0 pid packet w) pid packet n)))
      by true b h q = absurd (false≢true h)
      by false true h q = absurd (false≢true h)
      by false false h q = untyped (place_of x0 e0 pid packet w).device (place_of x0 e0 pid packet w).place h q

  appending-old : (s : Status) (x0 : ℕ) (e0 : Endpoint) (pid : ℕ) (packet : List ℕ) (b : Transaction) → MiddleOld (appending s x0 e0 pid packet b w)
  unfolding appending
  appending-old s x0 e0 pid packet b = by b.style
    where
      by : (y : Style) → MiddleOld (appending_at y s x0 e0 pid packet b w)
      by Nothing h q = absurd (false≢true h)
      by (Simple first) h q = absurd (false≢true h)
      by (Split sc kind) h q = place-old x0 e0 pid packet q
      by (Token sc kind token) h q = absurd (false≢true h)

  middle-old : (s : Status) (x0 : ℕ) (e0 : Endpoint) (pid : ℕ) (packet : List ℕ) (n : ℕ) (b : Transaction) → MiddleOld (middle_of s x0 e0 pid packet n b w)
  middle-old New x0 e0 pid packet n b = starting-old New x0 e0 pid packet n
  middle-old Continue x0 e0 pid packet n b = appending-old Continue x0 e0 pid packet b
  middle-old Retry x0 e0 pid packet n b = appending-old Retry x0 e0 pid packet b
  middle-old Done x0 e0 pid packet n b = appending-old Done x0 e0 pid packet b
  middle-old Fail x0 e0 pid packet n b = appending-old Fail x0 e0 pid packet b
  middle-old Ambiguous x0 e0 pid packet n b = appending-old Ambiguous x0 e0 pid packet b
  middle-old Invalid x0 e0 pid packet n b = starting-old Invalid x0 e0 pid packet n

  by_old : (high : Bool) (j : Judged) (x0 : ℕ) (e : Endpoint) (t : Transaction) (packet : List ℕ) → changes (plan_by high j x0 e t packet w).begin ≡ true → (plan_by high j x0 e t packet w).begin.device ≡ false → (plan_by high j x0 e t packet w).begin.place < w.device_count
  unfolding plan_by
  by_old high j x0 e t packet h q =
      let b = extract_payload high t j.pid (length packet) (setup_data_of packet) in
      let end = end_of x0 e b (details_of (w.devices (w.endpoints x0).device) (w.endpoints x0).address) w.last_item false false in
      middle-old j.status x0 (entry_ended (is_new j.status && not (eqb x0 0)) end (start_pid b.style) e) j.pid packet (w.transactions + one (resumes w.slot)) b h q

  pub plan-place : (high : Bool) (packet : List ℕ) → changes (plan_of high packet w).begin ≡ true → (plan_of high packet w).begin.device ≡ false → (plan_of high packet w).begin.place < w.device_count
  unfolding plan_of
  plan-place high packet h q =
      let x0 = old_endpoint w.slot w.transaction in
      let e = w.endpoints x0 in
      let t = transaction_then w.slot w.transactions e w.transaction in
      by_old high (transaction_status high (state_at (slot_then w.slot) t) packet) x0 (entry_then w.slot e) t packet h q
