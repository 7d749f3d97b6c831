-- The tallies of the steps are right: the rows that they count are those that the steps append.
use mathlib.Core.Path.{◌≡◌, refl, sym, ap, subst, ◌∙◌}
use mathlib.Core.Bool.{Bool, true, false}
use mathlib.Core.List.{List}
use Prim.Native.Nat.{ℕ, ◌+◌, ◌<◌}
use native.Mathlib.Omega.{arith}
use borrow.Author.Tests.{eq-eqb}
use lib.ListN.{length}
use Rattle.rows.specs.One.{one}
use Rattle.transaction.specs.Table.{pick}
use Rattle.transaction.specs.declared.Transaction.{Transaction}
use Rattle.details.specs.declared.Device.{Device}
use Rattle.endpoints.specs.declared.Endpoint.{Endpoint}
use Rattle.endpoints.specs.declared.Phase.{Phase}
use Rattle.rules.specs.World.{World, with_context, with_shelf, phase, change, change_device, with_transaction, is_ended, waiting_of}
use Rattle.rules.specs.Endpoints as rules
use Rattle.rules.specs.Groups.{becomes}
use Rattle.rules.specs.Transactions.{push_transaction}
use Rattle.rules.specs.declared.EventState.{EventState}
use Rattle.rules.specs.declared.Stamp.{Stamp}
use Rattle.rules.specs.declared.Slot.{Slot}
use Rattle.tally.specs.Tally.{add_transaction, add_device, add_endpoint, tally_update, Adds, Suits}
use Rattle.update.specs.Update.{when}
use Rattle.tally.specs.declared.add.Tally.{Tally}
use Rattle.tally.proofs.Added.{waiting-change, adds_none, act-adds}
use Rattle.tally.proofs.Steps.{device-adds, endpoint-adds, packet-adds, transaction-adds, effect-adds}
use Rattle.plan.specs.Ending.{slot_ended, end_played}
use Rattle.plan.specs.Packet.{played}
use Rattle.plan.specs.Sound.{world1, world2, world3, world4}
use Rattle.plan.specs.Step.{opened, begun, ended}
use Rattle.plan.specs.declared.Begin.{Begin}
use Rattle.plan.specs.declared.End.{End}
use Rattle.plan.specs.declared.Ending.{Ending}
use Rattle.plan.specs.declared.Plan.{Plan}
use Rattle.plan.proofs.Small.{act-count, opened-count, begun-count, ended-count}
use Rattle.tally.specs.Tallies.{endpoints_then, tally_begin, tally_end, tally_plan, tally_ending}
use Rattle.tally.specs.Suited.{BeginSuits, EndSuits, PlanSuits, EndingSuits}

-- what is no row changes no tally: slot, transaction, event state, keepalive group, context and details
pub same-adds : {t : Tally} {w₀ w : World} (s : Slot) (x : Transaction) (e : EventState) (k : Bool) (c : Stamp) (d : ℕ → Device) → Adds t w₀ w
    → Adds t w₀ (record { endpoints = w.endpoints; count = w.count; devices = d; device_count = w.device_count; slot = s; transaction = x; last_item = w.last_item; event_state = e; keepalive = k; context = c; shelf = w.shelf; bytes = w.bytes; packets = w.packets; transactions = w.transactions; groups = w.groups; state_bytes = w.state_bytes; items = w.items; journal = w.journal })
same-adds s x e k c d a = record { words = a.words; waiting = a.waiting; bytes = a.bytes; devices = a.devices; endpoints = a.endpoints; packets = a.packets; transactions = a.transactions; groups = a.groups; statebytes = a.statebytes; items = a.items }

-- nor where the call began with another context
pub adds-from : {t : Tally} {w v : World} (c : Stamp) → Adds t (with_context c w) v → Adds t w v
adds-from c a = record { words = a.words; waiting = a.waiting; bytes = a.bytes; devices = a.devices; endpoints = a.endpoints; packets = a.packets; transactions = a.transactions; groups = a.groups; statebytes = a.statebytes; items = a.items }

-- nor with another shelf
pub adds-shelf : {t : Tally} {w v : World} (h : List ℕ) → Adds t (with_shelf h w) v → Adds t w v
adds-shelf h a = record { words = a.words; waiting = a.waiting; bytes = a.bytes; devices = a.devices; endpoints = a.endpoints; packets = a.packets; transactions = a.transactions; groups = a.groups; statebytes = a.statebytes; items = a.items }

-- ---- a step that begins

module _ {w₀ : World} where
  row-when : (b : Bool) (id : ℕ) {t : Tally} {w : World} → Adds t w₀ w → Adds (when b add_transaction t) w₀ (when b (push_transaction id) w)
  row-when true id a = transaction-adds a id
  row-when false id a = a

  device-when : (b : Bool) (address : ℕ) {t : Tally} {w : World} → Adds t w₀ w → Adds (when b add_device t) w₀ (when b (rules.add_device address) w)
  device-when true address a = device-adds a address
  device-when false address a = a

  endpoint-when : (b : Bool) (d address : ℕ) {t : Tally} {w : World} → Adds t w₀ w → Adds (when b add_endpoint t) w₀ (when b (rules.push_endpoint d address) w)
  endpoint-when true d address a = endpoint-adds a d address
  endpoint-when false d address a = a

  types-when : (b : Bool) (d : ℕ) (f : Device → Device) {t : Tally} {w : World} → Adds t w₀ w → Adds t w₀ (when b (change_device d f) w)
  types-when true d f {t} {w} a = same-adds w.slot w.transaction w.event_state w.keepalive w.context _ a
  types-when false d f a = a

  pub begun-adds : (id : ℕ) (s : Begin) {t : Tally} {w : World} → BeginSuits id s w → Adds t w₀ w → Adds (tally_begin s w.count t) w₀ (begun id s w)
  unfolding begun opened tally_begin
  begun-adds id s {t} {w} h a =
      let b = endpoint-when s.endpoint s.place s.number (device-when s.device s.owner (row-when s.row id a)) in
      let v = opened id s w in
      let c : Adds (when s.endpoint add_endpoint (when s.device add_device (when s.row add_transaction t))) w₀ v = types-when s.types s.place (rules.typed s.number s.kind) b in
      subst (λ (n : ℕ). Adds (tally_update s.update n (when s.endpoint add_endpoint (when s.device add_device (when s.row add_transaction t)))) w₀ (begun id s w))
      (opened-count id s w)
      (act-adds s.update s.transaction.endpoint h.there h.suits (same-adds v.slot s.transaction v.event_state v.keepalive v.context v.devices c))

-- ---- a step that ends

here : {b : Bool} (a c : Endpoint) → b ≡ true → pick b a c ≡ a
here a c h = rw h

pub changed-phase : (x : ℕ) (e : Endpoint) (w : World) → phase x (change x (becomes e) w) ≡ e.phase
changed-phase x e w = ap (λ (a : Endpoint). a.phase) (here e (w.endpoints x) (eq-eqb x x refl))

module _ {w₀ : World} where
  -- an entry of the same phase
  become-adds : (x : ℕ) (e : Endpoint) {t : Tally} {w : World} → x < w.count → e.phase ≡ phase x w → Adds t w₀ w → Adds t w₀ (change x (becomes e) w)
  become-adds x e {t} {w} h p a =
      let c = waiting-change x (becomes e) w h in
      let g : one (is_ended e.phase) ≡ one (is_ended (phase x w)) = ap (λ (z : Phase). one (is_ended z)) p in
      record { words = a.words; waiting = omega (arith, c, g, a.waiting); bytes = a.bytes; devices = a.devices; endpoints = a.endpoints; packets = a.packets; transactions = a.transactions; groups = a.groups; statebytes = a.statebytes; items = a.items }

  pub ended-adds : (x : ℕ) (s : End) {t : Tally} {w : World} → EndSuits x s w → Adds t w₀ w → Adds (tally_end s w.count t) w₀ (ended x s w)
  unfolding ended tally_end
  ended-adds x s {t} {w} h a =
      let v = change x (becomes s.entry) w in
      let q = subst (λ (p : Phase). Suits s.update p) (sym (changed-phase x s.entry w)) h.suits in
      effect-adds (act-adds s.update x h.there q (become-adds x s.entry h.there h.phase a)) s.effect x (subst (λ (n : ℕ). x < n) (sym (act-count s.update x v)) h.there)

-- ---- steps under a flag

module _ {w₀ : World} where
  begun-when : (b : Bool) (id : ℕ) (s : Begin) (n : ℕ) {t : Tally} {w : World} → w.count ≡ n → (b ≡ true → BeginSuits id s w) → Adds t w₀ w → Adds (when b (tally_begin s n) t) w₀ (when b (begun id s) w)
  begun-when true id s n {t} {w} e h a = subst (λ (m : ℕ). Adds (tally_begin s m t) w₀ (begun id s w)) e (begun-adds id s (h refl) a)
  begun-when false id s n e h a = a

  ended-when : (b : Bool) (x : ℕ) (s : End) (n : ℕ) {t : Tally} {w : World} → w.count ≡ n → (b ≡ true → EndSuits x s w) → Adds t w₀ w → Adds (when b (tally_end s n) t) w₀ (when b (ended x s) w)
  ended-when true x s n {t} {w} e h a = subst (λ (m : ℕ). Adds (tally_end s m t) w₀ (ended x s w)) e (ended-adds x s (h refl) a)
  ended-when false x s n e h a = a

  brought-when : (b : Bool) (x : ℕ) (s : End) (brought : Transaction) (n : ℕ) {t : Tally} {w : World} → w.count ≡ n → (b ≡ true → EndSuits x s (with_transaction brought w)) → Adds t w₀ w
      → Adds (when b (tally_end s n) t) w₀ (when b (λ v. ended x s (with_transaction brought v)) w)
  brought-when true x s brought n {t} {w} e h a =
      subst (λ (m : ℕ). Adds (tally_end s m t) w₀ (ended x s (with_transaction brought w))) e (ended-adds x s (h refl) (same-adds w.slot brought w.event_state w.keepalive w.context w.devices a))
  brought-when false x s brought n e h a = a

pub begun_still : (b : Bool) (id : ℕ) (s : Begin) (w : World) → s.endpoint ≡ false → (when b (begun id s) w).count ≡ w.count
begun_still true id s w h = begun-count id s w ∙ ap (λ (b : Bool). w.count + one b) h ∙ omega arith
begun_still false id s w h = refl

pub brought-count : (b : Bool) (x : ℕ) (s : End) (brought : Transaction) (w : World) → (when b (λ v. ended x s (with_transaction brought v)) w).count ≡ w.count
brought-count true x s brought w = ended-count x s (with_transaction brought w)
brought-count false x s brought w = refl

-- ---- the calls

module _ (p : Plan) (packet : List ℕ) (time : ℕ) (w : World) (still : p.resume.endpoint ≡ false) where
  pub count2 : (world2 p packet time w).count ≡ w.count
  count2 = begun_still p.resumes w.packets p.resume (world1 packet time w) still

  pub count3 : (world3 p packet time w).count ≡ w.count
  count3 = brought-count p.ends p.old p.end p.brought (world2 p packet time w) ∙ count2

  pub count4 : (world4 p packet time w).count ≡ endpoints_then p.begin w.count
  count4 = begun-count w.packets p.begin (world3 p packet time w) ∙ ap (endpoints_then p.begin) count3

-- a packet
module _ (p : Plan) (packet : List ℕ) (time : ℕ) (w : World) (h : PlanSuits p packet time w) where
  pub played-adds : Adds (tally_plan p (length packet) w.count (waiting_of w)) w (played p packet time w)
  unfolding tally_plan played
  played-adds =
      let a = packet-adds (same-adds w.slot w.transaction _ w.keepalive _ w.devices (adds_none w)) packet time in
      let b = begun-when p.resumes w.packets p.resume w.count refl h.resume a in
      let c = brought-when p.ends p.old p.end p.brought w.count (count2 p packet time w h.still) h.end b in
      let d = begun-when true w.packets p.begin w.count (count3 p packet time w h.still) (λ e. h.begin) c in
      let e = ended-when p.closes p.begin.transaction.endpoint p.close (endpoints_then p.begin w.count) (count4 p packet time w h.still) h.close d in
      let v = when p.closes (ended p.begin.transaction.endpoint p.close) (world4 p packet time w) in
      same-adds p.slot v.transaction v.event_state v.keepalive v.context v.devices e

-- finish
pub ending-adds : (e : Ending) (w : World) → EndingSuits e w → Adds (tally_ending e w.count (waiting_of w)) w (end_played e w)
unfolding tally_ending end_played
ending-adds e w h =
    let v = when e.ends (ended e.old e.end) w in
    same-adds (slot_ended w.slot) v.transaction v.event_state v.keepalive v.context v.devices (ended-when e.ends e.old e.end w.count refl h (adds_none w))
