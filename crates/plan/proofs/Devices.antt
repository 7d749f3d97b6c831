-- The devices that the steps of a packet leave: one row perhaps changed by the step that begins, one perhaps added by the end, or changed by a request that completes
-- there; and the shelf.
use mathlib.Core.Path.{◌≡◌, refl, sym, ap, ◌∙◌}
use mathlib.Core.Bool.{Bool, true, false, ◌&&◌, ◌||◌, not, false≢true}
use mathlib.Core.List.{List}
use Prim.Native.Nat.{ℕ, ◌+◌}
use native.Mathlib.Omega.{arith}
use borrow.Author.Tests.{eqb-true, eq-eqb}
use lib.Dec.{eqb}
use lib.ListN.{length}
use Rattle.rows.specs.One.{one}
use Rattle.usb.specs.Pid.{SPLIT, MALFORMED}
use Rattle.usb.specs.Fields.{token_of, setup_data_of}
use Rattle.transaction.specs.Payload.{start_pid, extract_payload}
use Rattle.transaction.specs.Status.{transaction_status}
use Rattle.transaction.specs.Table.{pick}
use Rattle.transaction.specs.declared.Judged.{Judged}
use Rattle.transaction.specs.declared.Status.{Status}
use Rattle.transaction.specs.declared.Status.TheVariants.{New, Continue, Retry, Done, Fail, Ambiguous, Invalid}
use Rattle.transaction.specs.declared.Style.{Style}
use Rattle.transaction.specs.declared.Style.TheVariants.{Nothing, Simple, Split, Token}
use Rattle.transaction.specs.declared.Transaction.{Transaction}
use Rattle.details.specs.Details.{with_type, fresh}
use Rattle.details.specs.Kind.{Unknown}
use Rattle.details.specs.declared.Device.{Device}
use Rattle.endpoints.specs.declared.Endpoint.{Endpoint}
use Rattle.std.specs.Prelude.{Option, Some, None}
use Rattle.group.specs.declared.Effect.{Effect}
use Rattle.group.specs.declared.Effect.TheVariants.{NoEffect, NewDevice, Request, PendingData, IndexData}
use Rattle.rules.specs.World.{World, ◌▷◌, invalid_ep, with_transaction, change, change_device}
use Rattle.rules.specs.Endpoints.{add_device, push_endpoint, typed, device_for, address_for, found, detail_of}
use Rattle.descriptors.specs.Complete.{row_by, shelf_by}
use Rattle.descriptors.specs.declared.complete.Asked.{Asked}
use Rattle.rules.specs.Groups.{becomes, asked_at, asked_of, effect_step}
use Rattle.rules.specs.Transactions.{state_at, push_transaction}
use Rattle.update.specs.Update.{when, act}
use Rattle.update.specs.declared.Update.{Update}
use Rattle.plan.specs.Devices.{changes, row_after, adds_device, address_of, asks, length_of, asked_by, row_asked}
use Rattle.plan.specs.Step.{opened, begun, ended, end_of}
use Rattle.plan.specs.Packet.{resumes, slot_then, old_endpoint, transaction_then, entry_then, going, standing, new_on, place_at, place_of, update_for, start_on, start_split, start_plain, starting, with_token_on, going_on, appending_at, appending, middle_of, is_new, entry_ended, end_if, plan_by, plan_of, played}
use Rattle.plan.specs.Sound.{world1, world2, world3, world4}
use Rattle.plan.specs.declared.Begin.{Begin}
use Rattle.plan.specs.declared.End.{End}
use Rattle.plan.specs.declared.Middle.{Middle}
use Rattle.plan.specs.declared.Place.{Place}
use Rattle.plan.specs.declared.Plan.{Plan}
use Rattle.plan.proofs.Frame.{act-rest, Rest, rest_of, Still, opened_still, Adding, no, act_fixed, device_fixed, setup_fixed}
use Rattle.plan.proofs.Quiet.{no_effect}

-- ---- a step that begins

-- device j, where the row at `place` becomes `known`
abbrev pub placed : Bool → ℕ → Device → ℕ → Device → Device
placed b place known j d = pick (b && eqb j place) known d

-- a new device comes behind the others, of which there are n
abbrev pub Behind : Begin → ℕ → Type 0
Behind s n = s.device ≡ true → s.place ≡ n

-- the parts of `opened`, one after the other
module _ (j : ℕ) (v : World) where
  row_at : (b : Bool) (id : ℕ) → (when b (push_transaction id) v).devices j ≡ v.devices j
  row_at true id = refl
  row_at false id = refl

  row_count : (b : Bool) (id : ℕ) → (when b (push_transaction id) v).device_count ≡ v.device_count
  row_count true id = refl
  row_count false id = refl

  device-at : (b : Bool) (a : ℕ) → (when b (add_device a) v).devices j ≡ pick (b && eqb j v.device_count) (fresh a) (v.devices j)
  device-at true a = refl
  device-at false a = refl

  endpoint_at : (b : Bool) (d a : ℕ) → (when b (push_endpoint d a) v).devices j ≡ v.devices j
  endpoint_at true d a = refl
  endpoint_at false d a = refl

  types_at : (b : Bool) (d : ℕ) (f : Device → Device) → (when b (change_device d f) v).devices j ≡ pick (b && eqb j d) (f (v.devices j)) (v.devices j)
  types_at true d f = refl
  types_at false d f = refl

-- put together
together : (device types : Bool) (j place n : ℕ) (f : Device → Device) (new : Device) (g : ℕ → Device) → (device ≡ true → place ≡ n)
    → pick (types && eqb j place) (f (pick (device && eqb j n) new (g j))) (pick (device && eqb j n) new (g j)) ≡ placed (device || types) place (when types f (pick device new (g place))) j (g j)
together true true j place n f new g h = let e = h refl in rw e (by (eqb j n))
  where
    by : (b : Bool) → pick b (f (pick b new (g j))) (pick b new (g j)) ≡ pick b (f new) (g j)
    by true = refl
    by false = refl
together true false j place n f new g h = let e = h refl in rw e refl
together false true j place n f new g h = by (eqb j place) refl
  where
    by : (b : Bool) → eqb j place ≡ b → pick b (f (g j)) (g j) ≡ pick b (f (g place)) (g j)
    by true e = let q = eqb-true j place e in rw q refl
    by false e = refl
together false false j place n f new g h = refl

module _ (id : ℕ) (s : Begin) (w : World) where
  opened_at : (j : ℕ) → Behind s w.device_count → (opened id s w).devices j ≡ placed (changes s) s.place (row_after s w.devices) j (w.devices j)
  unfolding opened
  opened_at j h =
      let v1 = when s.row (push_transaction id) w in
      let v2 = when s.device (add_device s.owner) v1 in
      let v3 = when s.endpoint (push_endpoint s.place s.number) v2 in
      let d2 : v2.devices j ≡ pick (s.device && eqb j w.device_count) (fresh s.owner) (w.devices j) =
      device-at j v1 s.device s.owner
      ∙ (ap (λ (n : ℕ). pick (s.device && eqb j n) (fresh s.owner) (v1.devices j)) (row_count j w s.row id)
      ∙ ap (λ (d : Device). pick (s.device && eqb j w.device_count) (fresh s.owner) d) (row_at j w s.row id)) in
      let d3 = endpoint_at j v2 s.endpoint s.place s.number ∙ d2 in
      types_at j v3 s.types s.place (typed s.number s.kind)
      ∙ (ap (λ (d : Device). pick (s.types && eqb j s.place) (with_type d s.number s.kind) d) d3
      ∙ together s.device s.types j s.place w.device_count (λ d. with_type d s.number s.kind) (fresh s.owner) w.devices h)

  pub begun-devices : Behind s w.device_count → (j : ℕ) → (begun id s w).devices j ≡ placed (changes s) s.place (row_after s w.devices) j (w.devices j)
  unfolding begun
  begun-devices h j =
      ap (λ (r : Rest). r.devices j) (act-rest s.update s.transaction.endpoint (with_transaction s.transaction (opened id s w)))
      ∙ opened_at j h

  pub begun-shelf : (begun id s w).shelf ≡ w.shelf
  unfolding begun
  begun-shelf =
      ap (λ (r : Rest). r.shelf) (act-rest s.update s.transaction.endpoint (with_transaction s.transaction (opened id s w)))
      ∙ ap (λ (r : Still). r.shelf) (opened_still id s w)

-- ---- an effect

-- a request on the endpoint x changes the row of its device
turned : (n x : ℕ) (w : World) (j : ℕ) → (effect_step (Request n) x w).devices j
    ≡ placed true (w.endpoints x).device (row_by (asked_of n x w) w.shelf (w.devices (w.endpoints x).device)) j (w.devices j)
turned n x w j = by (eqb j (w.endpoints x).device) refl
  where
    row : Device → Device
    row = row_by (asked_of n x w) w.shelf

    by : (b : Bool) → eqb j (w.endpoints x).device ≡ b → pick b (row (w.devices j)) (w.devices j) ≡ pick b (row (w.devices (w.endpoints x).device)) (w.devices j)
    by true q = ap (λ (k : ℕ). row (w.devices k)) (eqb-true j (w.endpoints x).device q)
    by false q = refl

effect-devices : (f : Effect) (x : ℕ) (w : World) (j : ℕ) → (effect_step f x w).devices j
    ≡ placed (adds_device f) w.device_count (fresh (address_of f)) j (placed (asks f) (w.endpoints x).device (row_by (asked_of (length_of f) x w) w.shelf (w.devices (w.endpoints x).device)) j (w.devices j))
effect-devices NoEffect x w j = refl
effect-devices (NewDevice a) x w j = refl
effect-devices (Request n) x w j = turned n x w j
effect-devices (PendingData n) x w j = refl
effect-devices (IndexData n waited i) x w j = refl

effect-shelf : (f : Effect) (x : ℕ) (w : World) → (effect_step f x w).shelf ≡ pick (asks f) (shelf_by (asked_of (length_of f) x w) w.shelf) w.shelf
effect-shelf NoEffect x w = refl
effect-shelf (NewDevice a) x w = refl
effect-shelf (Request n) x w = refl
effect-shelf (PendingData n) x w = refl
effect-shelf (IndexData n waited i) x w = refl

-- what an end is asked is told by the entry that it has: its update changes neither setup data nor device
module _ (x : ℕ) (s : End) (w : World) where
  -- the world that its effect begins with
  abbrev pub updated : World
  updated = act s.update x (change x (becomes s.entry) w)

  rest : rest_of updated ≡ rest_of w
  rest = act-rest s.update x (change x (becomes s.entry) w)

  pub own-entry : (g : Endpoint → ℕ) → Adding g no no → g (updated.endpoints x) ≡ g s.entry
  own-entry g k = act_fixed g k s.update x x (change x (becomes s.entry) w) ∙ ap (λ (b : Bool). g (pick b s.entry (w.endpoints x))) (eq-eqb x x refl)

  pub asked-ended : (n : ℕ) → asked_of n x updated ≡ asked_at s.entry.setup n s.entry.device (w.devices s.entry.device)
  asked-ended n =
      let d = own-entry (λ e. e.device) device_fixed in
      let u = own-entry (λ e. e.setup) setup_fixed in
      let v = ap (λ (r : Rest). r.devices) rest in
      λ i. asked_at (u i) n (d i) (v i (d i))

  pub shelf-ended : updated.shelf ≡ w.shelf
  shelf-ended = ap (λ (r : Rest). r.shelf) rest

  pub ended-devices : (j : ℕ) → (ended x s w).devices j
      ≡ placed (adds_device s.effect) w.device_count (fresh (address_of s.effect)) j (placed (asks s.effect) s.entry.device (row_asked s w.devices w.shelf) j (w.devices j))
  unfolding ended
  ended-devices j =
      let d = own-entry (λ e. e.device) device_fixed in
      let q = asked-ended (length_of s.effect) in
      effect-devices s.effect x updated j
      ∙ λ i. placed (adds_device s.effect) (rest i).device_count (fresh (address_of s.effect)) j (placed (asks s.effect) (d i) (row_by (q i) (rest i).shelf ((rest i).devices (d i))) j ((rest i).devices j))

  pub ended-shelf : (ended x s w).shelf ≡ pick (asks s.effect) (shelf_by (asked_by s w.devices) w.shelf) w.shelf
  unfolding ended
  ended-shelf =
      let q = asked-ended (length_of s.effect) in
      effect-shelf s.effect x updated ∙ λ i. pick (asks s.effect) (shelf_by (q i) (rest i).shelf) (rest i).shelf

-- ---- how many devices there are

begun-count : (id : ℕ) (s : Begin) (w : World) → (begun id s w).device_count ≡ w.device_count + one s.device
unfolding begun opened
begun-count id s w =
    ap (λ (r : Rest). r.device_count) (act-rest s.update s.transaction.endpoint (with_transaction s.transaction (opened id s w))) ∙ by s.row s.device s.endpoint s.types
  where
    by : (a b c d : Bool)
        → (w ▷ when a (push_transaction id) ▷ when b (add_device s.owner) ▷ when c (push_endpoint s.place s.number) ▷ when d (change_device s.place (typed s.number s.kind))).device_count ≡ w.device_count + one b
    by true true true true = omega arith
    by true true true false = omega arith
    by true true false true = omega arith
    by true true false false = omega arith
    by true false true true = omega arith
    by true false true false = omega arith
    by true false false true = omega arith
    by true false false false = omega arith
    by false true true true = omega arith
    by false true true false = omega arith
    by false true false true = omega arith
    by false true false false = omega arith
    by false false true true = omega arith
    by false false true false = omega arith
    by false false false true = omega arith
    by false false false false = omega arith

effect-count : (f : Effect) (x : ℕ) (w : World) → (effect_step f x w).device_count ≡ w.device_count + one (adds_device f)
effect-count NoEffect x w = omega arith
effect-count (NewDevice a) x w = omega arith
effect-count (Request n) x w = omega arith
effect-count (PendingData n) x w = omega arith
effect-count (IndexData n waited i) x w = omega arith

ended-count : (x : ℕ) (s : End) (w : World) → (ended x s w).device_count ≡ w.device_count + one (adds_device s.effect)
unfolding ended
ended-count x s w =
    effect-count s.effect x (act s.update x (change x (becomes s.entry) w))
    ∙ ap (λ (r : Rest). r.device_count + one (adds_device s.effect)) (act-rest s.update x (change x (becomes s.entry) w))

-- ---- the step of a packet that begins

never : {P : Type 0} → false ≡ true → P
never h = absurd (false≢true h)

-- of a place: whether its device is new
abbrev NewBehind : Place → World → Type 0
NewBehind p w = p.device ≡ true → p.place ≡ w.device_count

module _ (w : World) where
  place-behind : (x0 : ℕ) (e0 : Endpoint) (pid : ℕ) (packet : List ℕ) → NewBehind (place_of x0 e0 pid packet w) w
  unfolding place_of
  place-behind x0 e0 pid packet = by (found pid packet w)
    where
      new : (d : Option ℕ) (owner address : ℕ) → NewBehind (new_on d owner address w) w
      new (Some d) owner address = never
      new None owner address = λ h. refl

      by : (f : Option ℕ) → NewBehind (place_at f x0 e0 pid packet w) w
      by (Some i) = never
      by None = new (device_for (token_of packet).address w) (token_of packet).address (address_for pid (token_of packet).number)

  abbrev MiddleBehind : Middle → Type 0
  MiddleBehind m = Behind m.begin w.device_count

  starting-behind : (s : Status) (x0 : ℕ) (e0 : Endpoint) (pid : ℕ) (packet : List ℕ) (n : ℕ) → MiddleBehind (starting s x0 e0 pid packet n w)
  unfolding starting
  starting-behind s x0 e0 pid packet n = by (eqb pid MALFORMED) (eqb pid SPLIT)
    where
      by : (a b : Bool) → MiddleBehind (pick a (start_on s (standing x0 e0 invalid_ep w) Unknown 0 pid n) (pick b (start_split packet pid n (standing x0 e0 invalid_ep w)) (start_plain s (place_of x0 e0 pid packet w) pid packet n)))
      by true b = never
      by false true = never
      by false false = place-behind x0 e0 pid packet

  appending-behind : (s : Status) (x0 : ℕ) (e0 : Endpoint) (pid : ℕ) (packet : List ℕ) (b : Transaction) → MiddleBehind (appending s x0 e0 pid packet b w)
  unfolding appending
  appending-behind s x0 e0 pid packet b = by b.style
    where
      by : (y : Style) → MiddleBehind (appending_at y s x0 e0 pid packet b w)
      by Nothing = never
      by (Simple first) = never
      by (Split sc kind) = place-behind x0 e0 pid packet
      by (Token sc kind token) = never

  middle-behind : (s : Status) (x0 : ℕ) (e0 : Endpoint) (pid : ℕ) (packet : List ℕ) (n : ℕ) (b : Transaction) → MiddleBehind (middle_of s x0 e0 pid packet n b w)
  middle-behind New x0 e0 pid packet n b = starting-behind New x0 e0 pid packet n
  middle-behind Continue x0 e0 pid packet n b = appending-behind Continue x0 e0 pid packet b
  middle-behind Retry x0 e0 pid packet n b = appending-behind Retry x0 e0 pid packet b
  middle-behind Done x0 e0 pid packet n b = appending-behind Done x0 e0 pid packet b
  middle-behind Fail x0 e0 pid packet n b = appending-behind Fail x0 e0 pid packet b
  middle-behind Ambiguous x0 e0 pid packet n b = appending-behind Ambiguous x0 e0 pid packet b
  middle-behind Invalid x0 e0 pid packet n b = starting-behind Invalid x0 e0 pid packet n

  by-behind : (high : Bool) (j : Judged) (x0 : ℕ) (e : Endpoint) (t : Transaction) (packet : List ℕ) → Behind (plan_by high j x0 e t packet w).begin w.device_count
  unfolding plan_by
  by-behind high j x0 e t packet =
      let b = extract_payload high t j.pid (length packet) (setup_data_of packet) in
      let end = end_of x0 e b (detail_of x0 w) w.last_item false false in
      middle-behind j.status x0 (entry_ended (is_new j.status && not (eqb x0 0)) end (start_pid b.style) e) j.pid packet (w.transactions + one (resumes w.slot)) b

  pub plan-behind : (high : Bool) (packet : List ℕ) → Behind (plan_of high packet w).begin w.device_count
  unfolding plan_of
  plan-behind high packet =
      let x0 = old_endpoint w.slot w.transaction in
      let e = w.endpoints x0 in
      let t = transaction_then w.slot w.transactions e w.transaction in
      by-behind high (transaction_status high (state_at (slot_then w.slot) t) packet) x0 (entry_then w.slot e) t packet

  -- a resume changes none
  resume-changes : (high : Bool) (packet : List ℕ) → changes (plan_of high packet w).resume ≡ false
  unfolding plan_of plan_by
  resume-changes high packet = refl

  pub resume-device : (high : Bool) (packet : List ℕ) → (plan_of high packet w).resume.device ≡ false
  unfolding plan_of plan_by
  resume-device high packet = refl

  -- the old transaction ends without success
  pub plan-quiet : (high : Bool) (packet : List ℕ) → (plan_of high packet w).end.effect ≡ NoEffect
  unfolding plan_of plan_by end_of
  plan-quiet high packet =
      let x0 = old_endpoint w.slot w.transaction in
      let t = transaction_then w.slot w.transactions (w.endpoints x0) w.transaction in
      let e = entry_then w.slot (w.endpoints x0) in
      let j = transaction_status high (state_at (slot_then w.slot) t) packet in
      let b = extract_payload high t j.pid (length packet) (setup_data_of packet) in
      quiet_if (is_new j.status && not (eqb x0 0)) (end_of x0 e b (detail_of x0 w) w.last_item false false) e (no_effect e b (detail_of x0 w) false)
    where
      quiet_if : (c : Bool) (s : End) (e : Endpoint) → s.effect ≡ NoEffect → (end_if c s e).effect ≡ NoEffect
      quiet_if true s e h = h
      quiet_if false s e h = refl

-- ---- all of it

module _ (high : Bool) (packet : List ℕ) (time : ℕ) (w : World) where
  abbrev plan : Plan
  plan = plan_of high packet w

  -- up to the step that begins
  before-devices : (j : ℕ) → (world3 plan packet time w).devices j ≡ w.devices j
  before-devices j = ends plan.ends ∙ resume plan.resumes
    where
      resume : (b : Bool) → (when b (begun w.packets plan.resume) (world1 packet time w)).devices j ≡ w.devices j
      resume true =
          begun-devices w.packets plan.resume (world1 packet time w) (λ h. never (sym (resume-device w high packet) ∙ h)) j
          ∙ ap (λ (b : Bool). placed b plan.resume.place (row_after plan.resume w.devices) j (w.devices j)) (resume-changes w high packet)
      resume false = refl

      ends : (b : Bool) → (when b (λ v. ended plan.old plan.end (with_transaction plan.brought v)) (world2 plan packet time w)).devices j ≡ (world2 plan packet time w).devices j
      ends true =
          let v = world2 plan packet time w in
          let d = plan.end.entry.device in
          ended-devices plan.old plan.end (with_transaction plan.brought v) j
          ∙ ap (λ (f : Effect). placed (adds_device f) v.device_count (fresh (address_of f)) j (placed (asks f) d (row_by (asked_at plan.end.entry.setup (length_of f) d (v.devices d)) v.shelf (v.devices d)) j (v.devices j))) (plan-quiet w high packet)
      ends false = refl

  -- and the shelf
  before-shelf : (world3 plan packet time w).shelf ≡ w.shelf
  before-shelf = ends plan.ends ∙ resume plan.resumes
    where
      resume : (b : Bool) → (when b (begun w.packets plan.resume) (world1 packet time w)).shelf ≡ w.shelf
      resume true = begun-shelf w.packets plan.resume (world1 packet time w)
      resume false = refl

      ends : (b : Bool) → (when b (λ v. ended plan.old plan.end (with_transaction plan.brought v)) (world2 plan packet time w)).shelf ≡ (world2 plan packet time w).shelf
      ends true =
          let v = world2 plan packet time w in
          let d = plan.end.entry.device in
          ended-shelf plan.old plan.end (with_transaction plan.brought v)
          ∙ ap (λ (f : Effect). pick (asks f) (shelf_by (asked_at plan.end.entry.setup (length_of f) d (v.devices d)) v.shelf) v.shelf) (plan-quiet w high packet)
      ends false = refl

  -- how many there are
  before-count : (world3 plan packet time w).device_count ≡ w.device_count
  before-count = ends plan.ends ∙ resume plan.resumes
    where
      resume : (b : Bool) → (when b (begun w.packets plan.resume) (world1 packet time w)).device_count ≡ w.device_count
      resume true = begun-count w.packets plan.resume (world1 packet time w) ∙ ap (λ (b : Bool). w.device_count + one b) (resume-device w high packet) ∙ omega arith
      resume false = refl

      ends : (b : Bool) → (when b (λ v. ended plan.old plan.end (with_transaction plan.brought v)) (world2 plan packet time w)).device_count ≡ (world2 plan packet time w).device_count
      ends true =
          ended-count plan.old plan.end (with_transaction plan.brought (world2 plan packet time w))
          ∙ (ap (λ (f : Effect). (world2 plan packet time w).device_count + one (adds_device f)) (plan-quiet w high packet) ∙ omega arith)
      ends false = refl

  -- device j after the packet
  abbrev pub device_begun : ℕ → Device
  device_begun j = placed (changes plan.begin) plan.begin.place (row_after plan.begin w.devices) j (w.devices j)

  pub begun_at : (j : ℕ) → (world4 plan packet time w).devices j ≡ device_begun j
  begun_at j =
      begun-devices w.packets plan.begin (world3 plan packet time w) (λ h. plan-behind w high packet h ∙ sym before-count) j
      ∙ (λ i. placed (changes plan.begin) plan.begin.place (row_after plan.begin (λ k. before-devices k i)) j (before-devices j i))

  begun_many : (world4 plan packet time w).device_count ≡ w.device_count + one plan.begin.device
  begun_many = begun-count w.packets plan.begin (world3 plan packet time w) ∙ ap (λ (n : ℕ). n + one plan.begin.device) before-count

  -- the shelf when the packet's own transaction ends
  pub shelf-begun : (world4 plan packet time w).shelf ≡ w.shelf
  shelf-begun = begun-shelf w.packets plan.begin (world3 plan packet time w) ∙ before-shelf

  -- what a request that completes is asked, and device j after it
  abbrev pub asked_close : Asked
  asked_close = asked_by plan.close device_begun

  abbrev pub device_asked : ℕ → Device
  device_asked j = placed (plan.closes && asks plan.close.effect) plan.close.entry.device (row_asked plan.close device_begun w.shelf) j (device_begun j)

  pub played-devices : (j : ℕ) → (played plan packet time w).devices j
      ≡ placed (plan.closes && adds_device plan.close.effect) (w.device_count + one plan.begin.device) (fresh (address_of plan.close.effect)) j (device_asked j)
  unfolding played
  played-devices j = by plan.closes
    where
      by : (b : Bool) → (when b (ended plan.begin.transaction.endpoint plan.close) (world4 plan packet time w)).devices j
          ≡ placed (b && adds_device plan.close.effect) (w.device_count + one plan.begin.device) (fresh (address_of plan.close.effect)) j (placed (b && asks plan.close.effect) plan.close.entry.device (row_asked plan.close device_begun w.shelf) j (device_begun j))
      by true =
          ended-devices plan.begin.transaction.endpoint plan.close (world4 plan packet time w) j
          ∙ λ i. placed (adds_device plan.close.effect) (begun_many i) (fresh (address_of plan.close.effect)) j (placed (asks plan.close.effect) plan.close.entry.device (row_asked plan.close (λ k. begun_at k i) (shelf-begun i)) j (begun_at j i))
      by false = begun_at j

  -- the shelf after the packet
  pub played-shelf : (played plan packet time w).shelf ≡ pick (plan.closes && asks plan.close.effect) (shelf_by asked_close w.shelf) w.shelf
  unfolding played
  played-shelf = by plan.closes
    where
      by : (b : Bool) → (when b (ended plan.begin.transaction.endpoint plan.close) (world4 plan packet time w)).shelf ≡ pick (b && asks plan.close.effect) (shelf_by asked_close w.shelf) w.shelf
      by true =
          ended-shelf plan.begin.transaction.endpoint plan.close (world4 plan packet time w)
          ∙ λ i. pick (asks plan.close.effect) (shelf_by (asked_by plan.close (λ k. begun_at k i)) (shelf-begun i)) (shelf-begun i)
      by false = shelf-begun

  -- and what the request row's note is told by
  pub closing-asked : (n : ℕ) → (let v = updated plan.begin.transaction.endpoint plan.close (world4 plan packet time w) in asked_of n plan.begin.transaction.endpoint v)
      ≡ asked_at plan.close.entry.setup n plan.close.entry.device (device_begun plan.close.entry.device)
  closing-asked n =
      asked-ended plan.begin.transaction.endpoint plan.close (world4 plan packet time w) n
      ∙ ap (λ (d : Device). asked_at plan.close.entry.setup n plan.close.entry.device d) (begun_at plan.close.entry.device)

  pub closing-shelf : (updated plan.begin.transaction.endpoint plan.close (world4 plan packet time w)).shelf ≡ w.shelf
  closing-shelf = shelf-ended plan.begin.transaction.endpoint plan.close (world4 plan packet time w) ∙ shelf-begun

  pub played-device-count : (played plan packet time w).device_count ≡ w.device_count + one plan.begin.device + one (plan.closes && adds_device plan.close.effect)
  unfolding played
  played-device-count = by plan.closes
    where
      by : (b : Bool) → (when b (ended plan.begin.transaction.endpoint plan.close) (world4 plan packet time w)).device_count ≡ w.device_count + one plan.begin.device + one (b && adds_device plan.close.effect)
      by true = ended-count plan.begin.transaction.endpoint plan.close (world4 plan packet time w) ∙ ap (λ (n : ℕ). n + one (adds_device plan.close.effect)) begun_many
      by false = begun_many ∙ omega arith
