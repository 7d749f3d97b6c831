-- What a tally counts at least: each T row and each G row is a link, and each transaction row is one. So where the tally has numbers, each of these rows has
-- one. A plan in words (plan, Words) has the tally of the plan.
use Prim.Native.Nat.{ℕ, ◌+◌, ◌≤◌}
use native.Mathlib.Omega.{arith}
use mathlib.Core.Bool.{Bool, true, false}
use mathlib.Core.List.{List}
use mathlib.Core.Path.{◌≡◌, refl}
use Rattle.rows.specs.One.{one}
use Rattle.transaction.specs.Table.{pick}
use Rattle.group.specs.declared.Effect.{Effect}
use Rattle.group.specs.declared.Effect.TheVariants.{NoEffect, NewDevice, Request, PendingData, IndexData}
use Rattle.rules.specs.Events as rules
use Rattle.rules.specs.World.{World}
use Rattle.event.specs.Event.{adds_row, adds_group}
use Rattle.update.specs.Update.{when}
use Rattle.update.specs.declared.Update.{Update}
use Rattle.plan.specs.Packet.{resumes, plan_by, plan_of}
use Rattle.plan.specs.Sound.{linked, started, plan_links, plan_starts}
use Rattle.plan.specs.Words.{plan_words}
use Rattle.plan.proofs.Frame.{no}
use Rattle.plan.specs.declared.Begin.{Begin}
use Rattle.plan.specs.declared.End.{End}
use Rattle.plan.specs.declared.Ending.{Ending}
use Rattle.plan.specs.declared.Plan.{Plan}
use Rattle.tally.specs.Passes.{plan_passes}
use Rattle.tally.specs.Tally.{none, add_waiting, add_device, add_transaction, add_link, add_request, add_entry, add_item, add_packet, add_event, add_endpoint, tally_update, tally_effect, tally_act}
use Rattle.tally.specs.Tallies.{endpoints_then, tally_begin, tally_end, tally_plan, tally_ending, wait_anew, waiting_then, tally_rows, tally_keepalive, tally_event}
use Rattle.tally.specs.declared.add.Tally.{Tally}

-- a number of a tally to which a link adds k, and a transaction row r; nothing takes from it
record Counting (g : Tally → ℕ) (k r : Bool → ℕ) : Type 0 where
  waiting : (t : Tally) → g t ≤ g (add_waiting t)
  device : (t : Tally) → g t ≤ g (add_device t)
  endpoint : (t : Tally) → g t ≤ g (add_endpoint t)
  request : (t : Tally) → g t ≤ g (add_request t)
  entry : (n : ℕ) (t : Tally) → g t ≤ g (add_entry n t)
  item : (t : Tally) → g t ≤ g (add_item t)
  packet : (len : ℕ) (t : Tally) → g t ≤ g (add_packet len t)
  event : (t : Tally) → g t ≤ g (add_event t)
  anew : (m : ℕ) (t : Tally) → g t ≤ g (wait_anew m t)
  link : (b : Bool) (t : Tally) → g t + k b ≤ g (when b add_link t)
  row : (b : Bool) (t : Tally) → g t + r b ≤ g (when b add_transaction t)

module _ {g : Tally → ℕ} {k r : Bool → ℕ} (c : Counting g k r) where
  up : (b : Bool) (f : Tally → Tally) → ((t : Tally) → g t ≤ g (f t)) → (t : Tally) → g t ≤ g (when b f t)
  up true f h t = h t
  up false f h t = omega arith

  least_update : (u : Update) (n : ℕ) (t : Tally) → g t + k u.link + k u.start ≤ g (tally_update u n t)
  unfolding tally_update
  least_update u n t =
      let t1 = when u.over add_waiting t in
      let t2 = when u.cut add_waiting t1 in
      let t3 = when u.cut (add_entry n) t2 in
      let t4 = when u.link add_link t3 in
      let t5 = when u.start add_link t4 in
      let t6 = when u.start (add_entry n) t5 in
      let t7 = when u.start add_item t6 in
      let t8 = when u.end add_waiting t7 in
      let t9 = when u.end (add_entry n) t8 in
      let h1 = up u.over add_waiting c.waiting t in
      let h2 = up u.cut add_waiting c.waiting t1 in
      let h3 = up u.cut (add_entry n) (c.entry n) t2 in
      let h4 = c.link u.link t3 in
      let h5 = c.link u.start t4 in
      let h6 = up u.start (add_entry n) (c.entry n) t5 in
      let h7 = up u.start add_item c.item t6 in
      let h8 = up u.end add_waiting c.waiting t7 in
      let h9 = up u.end (add_entry n) (c.entry n) t8 in
      let h10 = up u.item add_item c.item t9 in
      omega (arith, h1, h2, h3, h4, h5, h6, h7, h8, h9, h10)

  least_effect : (f : Effect) (t : Tally) → (g t ≤ g (add_link t)) → g t ≤ g (tally_effect f t)
  least_effect NoEffect t h = omega arith
  least_effect (NewDevice address) t h = c.device t
  least_effect (Request n) t h = c.request t
  least_effect (PendingData n) t h = omega arith
  least_effect (IndexData n waited i) t h = h

  least-begin : (s : Begin) (n : ℕ) (t : Tally) → g t + r s.row + k s.update.link + k s.update.start ≤ g (tally_begin s n t)
  unfolding tally_begin
  least-begin s n t =
      let t1 = when s.row add_transaction t in
      let t2 = when s.device add_device t1 in
      let t3 = when s.endpoint add_endpoint t2 in
      let h1 = c.row s.row t in
      let h2 = up s.device add_device c.device t1 in
      let h3 = up s.endpoint add_endpoint c.endpoint t2 in
      let h4 = least_update s.update (endpoints_then s n) t3 in
      omega (arith, h1, h2, h3, h4)

  least-end : (s : End) (n : ℕ) (t : Tally) → g t + k s.update.link + k s.update.start ≤ g (tally_end s n t)
  unfolding tally_end
  least-end s n t =
      let v = tally_update s.update n t in
      let h1 = least_update s.update n t in
      let l = c.link true v in
      let h2 = least_effect s.effect v (omega (arith, l)) in
      omega (arith, h1, h2)

  begin-when : (b : Bool) (s : Begin) (n : ℕ) (t : Tally) → g t + pick b (r s.row) 0 + pick b (k s.update.link) 0 + pick b (k s.update.start) 0 ≤ g (when b (tally_begin s n) t)
  begin-when true s n t = least-begin s n t
  begin-when false s n t = omega arith

  end-when : (b : Bool) (s : End) (n : ℕ) (t : Tally) → g t + pick b (k s.update.link) 0 + pick b (k s.update.start) 0 ≤ g (when b (tally_end s n) t)
  end-when true s n t = least-end s n t
  end-when false s n t = omega arith

  least-plan : (p : Plan) (len n m : ℕ)
      → pick p.resumes (r p.resume.row) 0 + pick p.resumes (k p.resume.update.link) 0 + pick p.resumes (k p.resume.update.start) 0
      + (pick p.ends (k p.end.update.link) 0 + pick p.ends (k p.end.update.start) 0)
      + (r p.begin.row + k p.begin.update.link + k p.begin.update.start)
      + (pick p.closes (k p.close.update.link) 0 + pick p.closes (k p.close.update.start) 0)
      ≤ g (tally_plan p len n m)
  unfolding tally_plan
  least-plan p len n m =
      let t1 = add_packet len (none m) in
      let t2 = when p.resumes (tally_begin p.resume n) t1 in
      let t3 = when p.ends (tally_end p.end n) t2 in
      let t4 = tally_begin p.begin n t3 in
      let h2 = begin-when p.resumes p.resume n t1 in
      let h3 = end-when p.ends p.end n t2 in
      let h4 = least-begin p.begin n t3 in
      let h5 = end-when p.closes p.close (endpoints_then p.begin n) t4 in
      omega (arith, h2, h3, h4, h5)

  least_ending : (e : Ending) (n m : ℕ) → pick e.ends (k e.end.update.link) 0 + pick e.ends (k e.end.update.start) 0 ≤ g (tally_ending e n m)
  unfolding tally_ending
  least_ending e n m = let h = end-when e.ends e.end n (none m) in omega (arith, h)

  least-rows : (a : rules.Act) (keepalive : Bool) (n : ℕ) (t : Tally) → g t + k (adds_row a) + k (adds_group a keepalive) ≤ g (tally_rows a keepalive n t)
  unfolding tally_rows tally_act
  least-rows a keepalive n t =
      let t1 = add_packet 0 t in
      let t2 = add_event t1 in
      let t3 = when (adds_row a) add_transaction t2 in
      let t4 = when (adds_row a) add_link t3 in
      let t5 = when (adds_group a keepalive) add_link t4 in
      let t6 = when (adds_group a keepalive) (add_entry n) t5 in
      let h1 = c.packet 0 t in
      let h2 = c.event t1 in
      let h3 = c.row (adds_row a) t2 in
      let h4 = c.link (adds_row a) t3 in
      let h5 = c.link (adds_group a keepalive) t4 in
      let h6 = up (adds_group a keepalive) (add_entry n) (c.entry n) t5 in
      let h7 = up (adds_group a keepalive) add_item c.item t6 in
      omega (arith, h1, h2, h3, h4, h5, h6, h7)

-- ---- links

links-counted : Counting (λ t. t.links) one no
links-counted =
    record {
      waiting = λ t. omega arith;
      device = λ t. omega arith;
      endpoint = λ t. omega arith;
      request = λ t. omega arith;
      entry = λ n t. omega arith;
      item = λ t. omega arith;
      packet = λ len t. omega arith;
      event = λ t. omega arith;
      anew = λ m t. omega arith;
      link = more;
      row = same;
    }
  where
    more : (b : Bool) (t : Tally) → t.links + one b ≤ (when b add_link t).links
    more true t = omega arith
    more false t = omega arith

    same : (b : Bool) (t : Tally) → t.links + 0 ≤ (when b add_transaction t).links
    same true t = omega arith
    same false t = omega arith

nothing : (b : Bool) → ◌≡◌ {A = ℕ} (pick b 0 0) 0
nothing true = refl
nothing false = refl

-- a packet's T rows and G rows
pub plan-links : (p : Plan) (len n m : ℕ) → plan_links p + plan_starts p ≤ (tally_plan p len n m).links
unfolding plan_links plan_starts
plan-links p len n m = let h = least-plan links-counted p len n m in let z = nothing p.resumes in omega (arith, h, z)

-- those of the transaction's end by an event or by finish, and of an event's own rows
pub ending-links : (e : Ending) (n m : ℕ) → linked e.ends e.end.update + started e.ends e.end.update ≤ (tally_ending e n m).links
ending-links e n m = least_ending links-counted e n m

pub keepalive-links : (a : rules.Act) (keepalive : Bool) (n m : ℕ) → one (adds_row a) + one (adds_group a keepalive) ≤ (tally_keepalive a keepalive n m).links
unfolding tally_keepalive
keepalive-links a keepalive n m = let h = least-rows links-counted a keepalive n (none m) in omega (arith, h)

pub event-links : (e : Ending) (act : rules.Act) (n m a : ℕ) → linked e.ends e.end.update + started e.ends e.end.update + one (adds_row act) + one (adds_group act false) ≤ (tally_event e act n m a).links
unfolding tally_event
event-links e act n m a =
    let t = tally_ending e n m in
    let h = ending-links e n m in
    let l = least-rows links-counted act false n (wait_anew (waiting_then e t.waiting a) t) in
    omega (arith, h, l)

-- ---- transaction rows

rows-counted : Counting (λ t. t.transactions) no one
rows-counted =
    record {
      waiting = λ t. omega arith;
      device = λ t. omega arith;
      endpoint = λ t. omega arith;
      request = λ t. omega arith;
      entry = λ n t. omega arith;
      item = λ t. omega arith;
      packet = λ len t. omega arith;
      event = λ t. omega arith;
      anew = λ m t. omega arith;
      link = same;
      row = more;
    }
  where
    same : (b : Bool) (t : Tally) → t.transactions + 0 ≤ (when b add_link t).transactions
    same true t = omega arith
    same false t = omega arith

    more : (b : Bool) (t : Tally) → t.transactions + one b ≤ (when b add_transaction t).transactions
    more true t = omega arith
    more false t = omega arith

-- that of a transaction that is resumed, and that of one that begins
pub plan-rows : (high : Bool) (packet : List ℕ) (w : World) (len n m : ℕ) → one (resumes w.slot) + one (plan_of high packet w).begin.row ≤ (tally_plan (plan_of high packet w) len n m).transactions
unfolding plan_of plan_by
plan-rows high packet w len n m = let h = least-plan rows-counted (plan_of high packet w) len n m in let r = by (resumes w.slot) in omega (arith, h, r)
  where
    by : (b : Bool) → pick b (one true) 0 ≡ one b
    by true = refl
    by false = refl

-- ---- in words

pub tally-words : (p : Plan) (len n m : ℕ) → tally_plan (plan_words p) len n m ≡ tally_plan p len n m
unfolding tally_plan tally_begin tally_end plan_words
tally-words p len n m = refl

pub passes-words : (p : Plan) → plan_passes (plan_words p) ≡ plan_passes p
unfolding plan_passes plan_words
passes-words p = refl
