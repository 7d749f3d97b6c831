-- What is decided of a packet, and of the end of the current transaction, suits the phases that its steps find; so its tally is right.
use mathlib.Core.Path.{◌≡◌, refl, sym, ap, subst, ◌∙◌}
use mathlib.Core.Bool.{Bool, true, false, ◌&&◌, not, false≢true, true≢false}
use mathlib.Core.List.{List}
use mathlib.Core.Logic.{◌⊎◌, inl, inr}
use Prim.Native.Nat.{ℕ, ◌+◌, ◌<◌}
use native.Mathlib.Omega.{arith}
use borrow.Author.Tests.{eqb-true, eqb-false, eq-eqb}
use lib.Dec.{eqb}
use lib.ListN.{length}
use Rattle.rows.specs.One.{one}
use Rattle.usb.specs.Fields.{token_of, setup_data_of}
use Rattle.usb.specs.Pid.{SPLIT, MALFORMED}
use Rattle.transaction.proofs.Laws.{extract-keeps}
use Rattle.transaction.specs.Payload.{start_pid, extract_payload}
use Rattle.transaction.specs.Status.{transaction_status}
use Rattle.transaction.specs.Table.{pick}
use Rattle.transaction.specs.declared.Judged.{Judged}
use Rattle.transaction.specs.declared.Status.{Status}
use Rattle.transaction.specs.declared.Status.TheVariants.{New, Continue, Retry, Done, Fail, Ambiguous, Invalid}
use Rattle.transaction.specs.declared.Style.{Style}
use Rattle.transaction.specs.declared.Style.TheVariants.{Nothing as NoStyle, Simple, Split, Token}
use Rattle.transaction.specs.declared.Transaction.{Transaction}
use Rattle.details.specs.Details.{details_of}
use Rattle.details.specs.Kind.{Unknown}
use Rattle.details.specs.declared.Detail.{Detail}
use Rattle.endpoints.specs.declared.Endpoint.{Endpoint}
use Rattle.std.specs.Prelude.{Option, Some, None as Absent}
use Rattle.endpoints.specs.declared.Phase.{Phase}
use Rattle.endpoints.specs.declared.Phase.TheVariants.{None}
use Rattle.group.proofs.Laws.{group-keeps}
use Rattle.group.specs.Group.{group_status}
use Rattle.rules.specs.Endpoints.{device_for, address_for, found, detail_of}
use Rattle.rules.specs.Groups.{close_phase}
use Rattle.rules.specs.Transactions.{state_at}
use Rattle.rules.specs.World.{World, phase, with_transaction, with_id, invalid_ep}
use Rattle.endpoints.specs.Table.{new_endpoint}
use Rattle.rules.specs.declared.Slot.{Slot}
use Rattle.rules.specs.declared.Slot.TheVariants.{Empty, Current, Suspended}
use Rattle.tally.specs.Tally.{Suits, phase_after}
use Rattle.update.specs.Update.{when, decide_early_start, decide_early_append, decide_resume}
use Rattle.update.specs.declared.Update.{Update}
use Rattle.tally.proofs.Suited.{suits-links, suits_update, suits-early-start}
use Rattle.record.specs.Bools.{both}
use Rattle.plan.specs.Ending.{current_endpoint, ending_of}
use Rattle.plan.specs.Packet.{resumes, going, start_plain, old_endpoint, slot_then, transaction_then, entry_then, entry_by, standing, new_on, place_at, place_of, update_for, start_on, start_split, starting, with_token_on, going_on, appending_at, appending, middle_of, is_new, is_last, succeeds, completes_by, close_of, entry_ended, last_ended, end_if, plan_by, plan_of}
use Rattle.plan.specs.declared.Middle.{Middle}
use Rattle.plan.specs.Sound.{world1, world2, world4}
use Rattle.plan.specs.Step.{opened, begun, ended, end_of}
use Rattle.plan.specs.declared.Begin.{Begin}
use Rattle.plan.specs.declared.End.{End}
use Rattle.plan.specs.declared.Place.{Place}
use Rattle.plan.proofs.Bounded.{Within, found_within}
use Rattle.plan.proofs.Frame.{opened-entry}
use Rattle.plan.proofs.Quiet.{no-transaction}
use Rattle.plan.proofs.Small.{opened-count, begun-count}
use Rattle.plan.proofs.Sound.{then-resumed}
use Rattle.tally.specs.Suited.{BeginSuits, EndSuits, PlanSuits, EndingSuits}
use Rattle.tally.proofs.Counted.{begun_still, brought-count}
use Rattle.tally.proofs.Phases.{Since, since_path, when-since, entry-phase, resumed-phase, ended-phase, ended-other, opened-new, begun-phase}

-- ---- what begins or goes on suits its endpoint's phase, and that phase closed

suits_for : (s : Status) (pid : ℕ) (t : Transaction) (e : Endpoint) (q : Phase) → Since e.phase q → Suits (update_for s pid t e) q
suits_for New pid t e q h = by (decide_early_start pid e.phase false).start (decide_early_start pid e.phase false) (h _ (suits-early-start pid e.phase false))
  where
    by : (b : Bool) (u : Update) → Suits u q → Suits (pick b u (decide_early_append t e)) q
    by true u s = s
    by false u s = suits-links _ q
suits_for Continue pid t e q h = suits-links _ q
suits_for Retry pid t e q h = suits-links false q
suits_for Done pid t e q h = suits-links false q
suits_for Fail pid t e q h = suits-links false q
suits_for Ambiguous pid t e q h = suits-links false q
suits_for Invalid pid t e q h = h _ (suits-early-start pid e.phase false)

-- ---- the step of a packet, by the entry e0 of the old endpoint x0

module _ (x0 : ℕ) (e0 : Endpoint) (w : World) where
  -- on an endpoint that stands, or on a new one
  pub record Stands (m : Middle) : Type 0 where
    pub old : m.begin.endpoint ≡ false
    pub there : m.begin.transaction.endpoint < w.count
    pub suits : (q : Phase) → Since (entry_by x0 e0 m.begin.transaction.endpoint w).phase q → Suits m.begin.update q
    pub entry : (m.begin.transaction.endpoint ≡ 0 → ⊥) → m.entry ≡ entry_by x0 e0 m.begin.transaction.endpoint w

  pub record Comes (m : Middle) : Type 0 where
    pub new : m.begin.endpoint ≡ true
    pub there : m.begin.transaction.endpoint ≡ w.count
    pub suits : Suits m.begin.update None
    pub entry : m.entry ≡ new_endpoint m.begin.place m.begin.number

  abbrev pub Good : Middle → Type 0
  Good m = Stands m ⊎ Comes m

  pub record StandsAt (p : Place) : Type 0 where
    old : p.new ≡ false
    there : p.x < w.count
    entry : p.entry ≡ entry_by x0 e0 p.x w

  pub record ComesAt (p : Place) : Type 0 where
    new : p.new ≡ true
    there : p.x ≡ w.count
    entry : p.entry ≡ new_endpoint p.place p.number

  abbrev GoodAt : Place → Type 0
  GoodAt p = StandsAt p ⊎ ComesAt p

  standing_good : (i : ℕ) → i < w.count → GoodAt (standing x0 e0 i w)
  standing_good i h = inl (record { old = refl; there = h; entry = refl })

  new_good : (f : Option ℕ) (owner address : ℕ) → GoodAt (new_on f owner address w)
  new_good (Some d) owner address = inr (record { new = refl; there = refl; entry = refl })
  new_good Absent owner address = inr (record { new = refl; there = refl; entry = refl })

  place_good : (pid : ℕ) (packet : List ℕ) → 2 < w.count → GoodAt (place_of x0 e0 pid packet w)
  unfolding place_of
  place_good pid packet h = by (found pid packet w) (found_within pid packet w (omega arith))
    where
      by : (f : Option ℕ) → Within w.count f → GoodAt (place_at f x0 e0 pid packet w)
      by (Some i) l = standing_good i l
      by Absent l = new_good (device_for (token_of packet).address w) (token_of packet).address (address_for pid (token_of packet).number)

  phase_at : (p : Place) → StandsAt p → p.entry.phase ≡ (entry_by x0 e0 p.x w).phase
  phase_at p g = ap (λ (e : Endpoint). e.phase) g.entry

  start_good : (s : Status) (p : Place) (kind owner pid n : ℕ) → GoodAt p → Good (start_on s p kind owner pid n)
  start_good s p kind owner pid n (inl g) =
      inl (record { old = g.old; there = g.there; suits = λ q h. suits_for s pid _ p.entry q (λ u z. h u (since_path (phase_at p g) u z)); entry = λ z. g.entry })
  start_good s p kind owner pid n (inr g) = inr (record { new = g.new; there = g.there; suits = suits_for s pid _ p.entry None (since_path (ap (λ (e : Endpoint). e.phase) g.entry)); entry = g.entry })

  token_good : (s : Status) (p : Place) (sc kind owner pid : ℕ) (b : Transaction) → GoodAt p → Good (with_token_on s p sc kind owner pid b)
  token_good s p sc kind owner pid b (inl g) =
      inl (record { old = g.old; there = g.there; suits = λ q h. suits_for s pid _ p.entry q (λ u z. h u (since_path (phase_at p g) u z)); entry = λ z. g.entry })
  token_good s p sc kind owner pid b (inr g) = inr (record { new = g.new; there = g.there; suits = suits_for s pid _ p.entry None (since_path (ap (λ (e : Endpoint). e.phase) g.entry)); entry = g.entry })

  split_good : (packet : List ℕ) (pid n : ℕ) (p : Place) → 2 < w.count → Good (start_split packet pid n p)
  split_good packet pid n p h = inl (record { old = refl; there = omega arith; suits = λ q z. suits-links false q; entry = λ z. absurd (z refl) })

  starting_good : (s : Status) (pid : ℕ) (packet : List ℕ) (n : ℕ) → 2 < w.count → Good (starting s x0 e0 pid packet n w)
  unfolding starting
  starting_good s pid packet n h = by (eqb pid MALFORMED) (eqb pid SPLIT)
    where
      one-there : 1 < w.count
      one-there = omega arith

      by : (a b : Bool) → Good (pick a (start_on s (standing x0 e0 invalid_ep w) Unknown 0 pid n) (pick b (start_split packet pid n (standing x0 e0 invalid_ep w)) (start_plain s (place_of x0 e0 pid packet w) pid packet n)))
      by true b = start_good s (standing x0 e0 invalid_ep w) Unknown 0 pid n (standing_good 1 one-there)
      by false true = split_good packet pid n (standing x0 e0 invalid_ep w) h
      by false false = start_good s (place_of x0 e0 pid packet w) _ _ pid n (place_good pid packet h)

  going_good : (s : Status) (pid : ℕ) (b : Transaction) → x0 < w.count → b.endpoint ≡ x0 → Good (going_on s x0 e0 pid b w)
  going_good s pid b h e =
      let own : entry_by x0 e0 x0 w ≡ entry_by x0 e0 b.endpoint w = ap (λ (i : ℕ). entry_by x0 e0 i w) (sym e) in
      inl (record { old = refl; there = subst (λ (i : ℕ). i < w.count) (sym e) h; suits = λ q z. suits_for s pid _ (entry_by x0 e0 x0 w) q (λ u y. z u (since_path (ap (λ (e : Endpoint). e.phase) own) u y)); entry = λ z. own })

  appending_good : (s : Status) (pid : ℕ) (packet : List ℕ) (b : Transaction) → 2 < w.count → x0 < w.count → b.endpoint ≡ x0 → Good (appending s x0 e0 pid packet b w)
  unfolding appending
  appending_good s pid packet b h g e = by b.style
    where
      by : (y : Style) → Good (appending_at y s x0 e0 pid packet b w)
      by NoStyle = going_good s pid b g e
      by (Simple first) = going_good s pid b g e
      by (Split sc kind) = token_good s (place_of x0 e0 pid packet w) sc kind (token_of packet).address pid b (place_good pid packet h)
      by (Token sc kind token) = going_good s pid b g e

-- with a status that begins no transaction there is an old one
abbrev pub starts : Status → Bool
starts New = true
starts Continue = false
starts Retry = false
starts Done = false
starts Fail = false
starts Ambiguous = false
starts Invalid = true

pub middle_good : (s : Status) (x0 : ℕ) (e0 : Endpoint) (pid : ℕ) (packet : List ℕ) (n : ℕ) (b : Transaction) (w : World) → 2 < w.count → x0 < w.count → (starts s ≡ false → b.endpoint ≡ x0)
    → Good x0 e0 w (middle_of s x0 e0 pid packet n b w)
middle_good New x0 e0 pid packet n b w h g e = starting_good x0 e0 w New pid packet n h
middle_good Continue x0 e0 pid packet n b w h g e = appending_good x0 e0 w Continue pid packet b h g (e refl)
middle_good Retry x0 e0 pid packet n b w h g e = appending_good x0 e0 w Retry pid packet b h g (e refl)
middle_good Done x0 e0 pid packet n b w h g e = appending_good x0 e0 w Done pid packet b h g (e refl)
middle_good Fail x0 e0 pid packet n b w h g e = appending_good x0 e0 w Fail pid packet b h g (e refl)
middle_good Ambiguous x0 e0 pid packet n b w h g e = appending_good x0 e0 w Ambiguous pid packet b h g (e refl)
middle_good Invalid x0 e0 pid packet n b w h g e = starting_good x0 e0 w Invalid pid packet n h

-- ---- an end that group_status decides

end_suits : (x : ℕ) (e : Endpoint) (t : Transaction) (d : Detail) (last : ℕ) (success complete : Bool) (w : World) → x < w.count → e.phase ≡ phase x w → EndSuits x (end_of x e t d last success complete) w
unfolding end_of
end_suits x e t d last success complete w h p =
    let g = group_status e t d success complete in
    record { there = h; phase = (group-keeps e t d success complete).phase ∙ p; suits = suits_update g.status g.endpoint.phase t.linked (eqb last x) }

pub last_not-new : (s : Status) → is_last s ≡ true → is_new s ≡ false
last_not-new New h = sym h
last_not-new Continue h = refl
last_not-new Retry h = refl
last_not-new Done h = refl
last_not-new Fail h = refl
last_not-new Ambiguous h = refl
last_not-new Invalid h = refl

pub not_zero : (x : ℕ) → not (eqb x 0) ≡ true → x ≡ 0 → ⊥
not_zero x h e = by (eqb x 0) (eq-eqb x 0 e) h
  where
    by : (b : Bool) → b ≡ true → not b ≡ true → ⊥
    by true h g = false≢true g
    by false h g = false≢true h

-- ---- the steps of a packet

module _ (s : Status) (pid x0 : ℕ) (e : Endpoint) (b : Transaction) (packet : List ℕ) (time : ℕ) (w : World) (three : 2 < w.count) (there : x0 < w.count) (same : e.phase ≡ phase x0 w) where
  -- the worlds on the way, and the old endpoint's entry; the old transaction ends where z says so
  abbrev resume : Begin
  resume = going true (with_id w.transactions w.transaction) decide_resume

  abbrev v1 : World
  v1 = world1 packet time w

  abbrev v2 : World
  v2 = when (resumes w.slot) (begun w.packets resume) v1

  abbrev end : End
  end = end_of x0 e b (detail_of x0 w) w.last_item false false

  abbrev v3 : Bool → World
  v3 z = when z (λ v. ended x0 (end_if z end e) (with_transaction b v)) v2

  abbrev e0 : Bool → Endpoint
  e0 z = entry_ended z end (start_pid b.style) e

  phase2 : (i : ℕ) → phase i v2 ≡ phase i w
  phase2 i = resumed-phase (resumes w.slot) w.packets (with_id w.transactions w.transaction) i v1

  number2 : v2.count ≡ w.count
  number2 = begun_still (resumes w.slot) w.packets resume v1 refl

  number3 : (z : Bool) → (v3 z).count ≡ w.count
  number3 z = brought-count z x0 (end_if z end e) b v2 ∙ number2

  ended_suits : EndSuits x0 end (with_transaction b v2)
  ended_suits = end_suits x0 e b _ w.last_item false false (with_transaction b v2) (subst (λ (n : ℕ). x0 < n) (sym number2) there) (same ∙ sym (phase2 x0))

  -- the entry by which the step is decided has the endpoint's phase, or the one before an item closed its group
  kept3 : (i : ℕ) → (entry_by x0 (e0 false) i w).phase ≡ phase i (v3 false)
  kept3 i = by (eqb i x0) refl ∙ sym (phase2 i)
    where
      by : (z : Bool) → eqb i x0 ≡ z → (pick z e (w.endpoints i)).phase ≡ phase i w
      by true h = same ∙ ap (λ (j : ℕ). phase j w) (sym (eqb-true i x0 h))
      by false h = refl

  since3 : (z : Bool) (i : ℕ) → Since (entry_by x0 (e0 z) i w).phase (phase i (v3 z))
  since3 false i = since_path (kept3 i)
  since3 true i = by (eqb i x0) refl
    where
      u : Update
      u = end.update

      own : (e0 true).phase ≡ phase x0 (v3 true)
      own = entry-phase u (start_pid b.style) end.entry ∙ sym (ended-phase x0 end (with_transaction b v2) ended_suits)

      by : (z : Bool) → eqb i x0 ≡ z → Since (pick z (e0 true) (w.endpoints i)).phase (phase i (v3 true))
      by true h = since_path (own ∙ ap (λ (j : ℕ). phase j (v3 true)) (sym (eqb-true i x0 h)))
      by false h = λ k c.
          let later = when-since u.item _ k (when-since u.start (phase i w) k c) in
          let q : phase i (v3 true) ≡ when u.item close_phase (when u.start close_phase (phase i w)) = ended-other x0 end (with_transaction b v2) i (eqb-false i x0 h) ∙ ap (λ (p : Phase). when u.item close_phase (when u.start close_phase p)) (phase2 i) in
          since_path (sym q) k later

  module _ (z : Bool) (m : Middle) where
    abbrev x : ℕ
    x = m.begin.transaction.endpoint

    begin_suits : Good x0 (e0 z) w m → BeginSuits w.packets m.begin (v3 z)
    begin_suits (inl g) =
        let l : x < (v3 z).count = subst (λ (n : ℕ). x < n) (sym (number3 z)) g.there in
        let o : phase x (v3 z) ≡ phase x (opened w.packets m.begin (v3 z)) = ap (λ (a : Endpoint). a.phase) (sym (opened-entry w.packets m.begin (v3 z) x l)) in
        record {
          there = let c = opened-count w.packets m.begin (v3 z) in omega (arith, c, l);
          suits = g.suits _ (λ k c. since_path o k (since3 z x k c));
        }
    begin_suits (inr g) =
        let e : x ≡ (v3 z).count = g.there ∙ sym (number3 z) in
        let o : None ≡ phase x (opened w.packets m.begin (v3 z)) = ap (λ (a : Endpoint). a.phase) (sym (opened-new w.packets m.begin (v3 z) g.new)) ∙ ap (λ (i : ℕ). phase i (opened w.packets m.begin (v3 z))) (sym e) in
        record {
          there = let c = opened-count w.packets m.begin (v3 z) in let y : one m.begin.endpoint ≡ 1 = ap one g.new in omega (arith, c, e, y);
          suits = since_path o _ g.suits;
        }

  -- the packet's transaction ends only where the old one did not
  module _ (m : Middle) where
    entry-then : Good x0 (e0 false) w m → (x false m ≡ 0 → ⊥) → m.entry.phase ≡ phase (x false m) (opened w.packets m.begin (v3 false))
    entry-then (inl g) ne =
        let l : x false m < (v3 false).count = subst (λ (n : ℕ). x false m < n) (sym (number3 false)) g.there in
        ap (λ (a : Endpoint). a.phase) (g.entry ne) ∙ (kept3 (x false m) ∙ ap (λ (a : Endpoint). a.phase) (sym (opened-entry w.packets m.begin (v3 false) (x false m) l)))
    entry-then (inr g) ne =
        let e : x false m ≡ (v3 false).count = g.there ∙ sym (number3 false) in
        ap (λ (a : Endpoint). a.phase) (g.entry ∙ sym (opened-new w.packets m.begin (v3 false) g.new)) ∙ (ap (λ (i : ℕ). phase i (opened w.packets m.begin (v3 false))) (sym e))

    close_suits : (last : ℕ) (success complete : Bool) → Good x0 (e0 false) w m → (x false m ≡ 0 → ⊥) → EndSuits (x false m) (close_of m last success complete) (begun w.packets m.begin (v3 false))
    unfolding close_of
    close_suits last success complete g ne =
        let s = begin_suits false m g in
        end_suits (x false m) _ _ _ _ success complete (begun w.packets m.begin (v3 false))
        (subst (λ (n : ℕ). x false m < n) (opened-count w.packets m.begin (v3 false) ∙ sym (begun-count w.packets m.begin (v3 false))) s.there)
        (entry-phase m.begin.update _ m.entry ∙ (ap (phase_after m.begin.update) (entry-then g ne) ∙ sym (begun-phase w.packets m.begin (v3 false) s)))

  closing_suits : (z : Bool) → z ≡ false → (m : Middle) (last : ℕ) (success complete : Bool) → Good x0 (e0 z) w m → (m.begin.transaction.endpoint ≡ 0 → ⊥)
      → EndSuits m.begin.transaction.endpoint (close_of m last success complete) (begun w.packets m.begin (v3 z))
  closing_suits true h m last success complete g ne = absurd (true≢false h)
  closing_suits false h m last success complete g ne = close_suits m last success complete g ne

-- ---- what is decided of a packet

pub plan_by_suits : (high : Bool) (j : Judged) (x0 : ℕ) (e : Endpoint) (t : Transaction) (packet : List ℕ) (time : ℕ) (w : World) → 2 < w.count → x0 < w.count → (resumes w.slot ≡ true → w.transaction.endpoint < w.count) → e.phase ≡ phase x0 w → (starts j.status ≡ false → t.endpoint ≡ x0)
    → PlanSuits (plan_by high j x0 e t packet w) packet time w
unfolding plan_by
plan_by_suits high j x0 e t packet time w three there held same old =
    record {
      still = refl;
      resume = λ r. record { there = let c = opened-count w.packets (resume') (world1 packet time w) in let l = held r in omega (arith, c, l); suits = suits-links true _ };
      end = λ r. subst (λ (z : Bool). EndSuits x0 (end_if z end' e) (with_transaction b (world2 (plan_by high j x0 e t packet w) packet time w))) (sym r) (ended_suits s pid x0 e b packet time w three there same);
      begin = begin_suits s pid x0 e b packet time w three there same ends m good;
      close = closing;
    }
  where
    s : Status
    s = j.status

    pid : ℕ
    pid = j.pid

    b : Transaction
    b = extract_payload high t pid (length packet) (setup_data_of packet)

    end' : End
    end' = end s pid x0 e b packet time w three there same

    resume' : Begin
    resume' = resume s pid x0 e b packet time w three there same

    ends : Bool
    ends = is_new s && not (eqb x0 0)

    m : Middle
    m = middle_of s x0 (e0 s pid x0 e b packet time w three there same ends) pid packet (w.transactions + one (resumes w.slot)) b w

    good : Good x0 (e0 s pid x0 e b packet time w three there same ends) w m
    good = middle_good s x0 _ pid packet _ b w three there (λ h. (extract-keeps high t pid (length packet) (setup_data_of packet)).endpoint ∙ old h)

    close' : End
    close' = close_of m (last_ended ends end' x0 w.last_item) (succeeds s) (completes_by s t.style)

    closing : (plan_by high j x0 e t packet w).closes ≡ true → EndSuits m.begin.transaction.endpoint (plan_by high j x0 e t packet w).close (world4 (plan_by high j x0 e t packet w) packet time w)
    closing h =
        let q = both (is_last s) _ h in
        subst (λ (z : Bool). EndSuits m.begin.transaction.endpoint (end_if z close' m.entry) (world4 (plan_by high j x0 e t packet w) packet time w)) (sym h)
        (closing_suits s pid x0 e b packet time w three there same ends (ap (λ (y : Bool). y && not (eqb x0 0)) (last_not-new s q.0)) m _ (succeeds s) _ good (not_zero m.begin.transaction.endpoint q.1))

-- with no transaction a packet starts one, or is invalid
pub held-endpoint : (high : Bool) (s : Slot) (id : ℕ) (e : Endpoint) (t : Transaction) (packet : List ℕ) → starts (transaction_status high (state_at (slot_then s) (transaction_then s id e t)) packet).status ≡ false → (transaction_then s id e t).endpoint ≡ old_endpoint s t
held-endpoint high Empty id e t packet h = absurd (true≢false (sym (no-transaction high (λ s. starts s ≡ true) refl refl (state_at Empty t) refl packet) ∙ h))
held-endpoint high Current id e t packet h = refl
held-endpoint high Suspended id e t packet h = refl

then-phase : (s : Slot) (e : Endpoint) → (entry_then s e).phase ≡ e.phase
then-phase Empty e = refl
then-phase Current e = refl
then-phase Suspended e = refl

-- where the special endpoints and that of the old transaction are there
pub plan_suits : (high : Bool) (packet : List ℕ) (time : ℕ) (w : World) → 2 < w.count → old_endpoint w.slot w.transaction < w.count → PlanSuits (plan_of high packet w) packet time w
unfolding plan_of
plan_suits high packet time w three there =
    let x0 = old_endpoint w.slot w.transaction in
    let e = w.endpoints x0 in
    let t = transaction_then w.slot w.transactions e w.transaction in
    plan_by_suits high (transaction_status high (state_at (slot_then w.slot) t) packet) x0 (entry_then w.slot e) t packet time w three there (then-resumed w.slot w.count w.transaction there) (then-phase w.slot e) (held-endpoint high w.slot w.transactions e w.transaction packet)

-- ---- what is decided of the end of the current transaction

pub ending_suits : (w : World) → current_endpoint w.slot w.transaction < w.count → EndingSuits (ending_of w) w
unfolding ending_of
ending_suits w h =
    let x = current_endpoint w.slot w.transaction in
    λ r. end_suits x (w.endpoints x) w.transaction _ w.last_item false false w h refl
