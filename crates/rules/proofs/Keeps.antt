-- Each function of Groups and Events keeps what holds of an endpoint e.
use mathlib.Core.Path.{◌≡◌, refl, sym, ap, ◌∙◌}
use mathlib.Core.Bool.{Bool, true, false}
use mathlib.Core.List.{List, ◌∷◌, ◌++◌}
use Prim.Native.Nat.{ℕ, suc, ◌<◌, ◌≤◌}
use native.Mathlib.Omega.{arith}
use lib.Dec.{eqb}
use borrow.Author.Tests.{eqb-true, eq-eqb}
use Rattle.transaction.specs.Table.{pick}
use Rattle.transaction.specs.Payload.{start_pid}
use Rattle.endpoints.specs.Table.{with_phase}
use Rattle.endpoints.specs.declared.Endpoint.{Endpoint}
use Rattle.endpoints.specs.declared.Phase.{Phase}
use Rattle.endpoints.specs.declared.Phase.TheVariants.{None, Early, Active, Ended}
use Rattle.group.specs.declared.GroupStatus.{GroupStatus}
use Rattle.group.specs.declared.GroupStatus.TheVariants.{Single, New, Continue, Retry, Done, Invalid}
use Rattle.rules.specs.Rows.{Row, T}
use Rattle.rules.specs.World.{World, phase, push, change, with_transaction, with_link, cleared, with_last, more_transactions, more_groups}
use Rattle.rules.specs.Groups.{close_phase, add_item, add_group_entry, link, link_once, push_group, over, end_active, add_group, group_end_at, group_end, activated, activate, group_start_at, group_start, group_append_at, group_append, group_step, becomes, end_early, group_early_start, starts_early}
use Rattle.rules.specs.Decoder.{end_all_active, end_phase}
use Rattle.rules.specs.Marks.{Mark, other, started, marks}
use Rattle.rules.proofs.Facts.{Wait, calm, Facts, pass, skip, begin, end}
use Rattle.rules.proofs.Loops.{open_of, wait_of, Inside, miss, item_facts, over_facts}

-- early or active; neither
abbrev pub Open : Phase → Type 0
Open p = (open_of p ≡ true) × (wait_of p ≡ calm)

abbrev pub Shut : Phase → Type 0
Shut p = open_of p ≡ false

abbrev pub early : Phase → Bool
early None = false
early Early = true
early Active = false
early Ended = false

-- of endpoint e with its phase p, groups g and address d, where k endpoints are there, c of them, and the transaction is on t, which is y
pub record Holds (e c y : ℕ) (p : Phase) (g d k t n : ℕ) (ms : List Mark) : Type 0 where
  pub facts : Facts e (open_of p) (wait_of p) g n ms
  pub inside : Inside p e c
  pub unused : c ≤ e → g ≡ 0
  -- the event endpoint
  pub quiet : e ≡ 0 → p ≡ None
  pub special : e ≡ 0 → d ≡ 16
  pub size : k ≡ c
  pub target : t ≡ y

-- the same of other marks
abbrev pub marked : {e c y : ℕ} {p : Phase} {g d k t n n' : ℕ} {ms ms' : List Mark} → Holds e c y p g d k t n ms → Facts e (open_of p) (wait_of p) g n' ms' → Holds e c y p g d k t n' ms'
marked l f = record { facts = f; inside = l.inside; unused = l.unused; quiet = l.quiet; special = l.special; size = l.size; target = l.target }

pub passed : {e c y : ℕ} {p : Phase} {g d k t n : ℕ} {ms : List Mark} → Holds e c y p g d k t n ms → Holds e c y p g d k t n (other ∷ ms)
passed l = marked l (pass l.facts)

-- the same of another phase, number of groups and address; over variables, since a world's are large
moved : {e c y : ℕ} {p p' : Phase} {g g' d d' k t n : ℕ} {ms : List Mark} → p' ≡ p → g' ≡ g → d' ≡ d → Holds e c y p g d k t n ms → Holds e c y p' g' d' k t n ms
moved q r s l = rw (q, r, s) l

to_shut : {e : ℕ} {b : Bool} {v : Wait} {g n : ℕ} {ms : List Mark} → b ≡ false → Facts e b v g n ms → Facts e false v g n ms
to_shut q f = rw q at f

to_open : {e : ℕ} (p : Phase) {g n : ℕ} {ms : List Mark} → Open p → Facts e true calm g n ms → Facts e (open_of p) (wait_of p) g n ms
to_open p o f = rw (o.0, o.1) f

hit : {e : ℕ} {b o : Bool} {v : Wait} {g n : ℕ} {m : Mark} {ms : List Mark} → b ≡ true → Facts e o v g n (m ∷ ms) → Facts e o v g n (pick b m other ∷ ms)
hit h f = rw h f

-- base are the rows of the calls before
module _ (base : List Row) (e c y : ℕ) where
  abbrev pub HoldsAt : Endpoint → World → Type 0
  HoldsAt a w = Holds e c y a.phase a.groups a.address w.count w.transaction.endpoint w.items (marks e (w.journal ++ base))

  abbrev pub Keeps : World → Type 0
  Keeps w = HoldsAt (w.endpoints e) w

  -- ---- add_item, add_group_entry

  close_inside : (p : Phase) → Inside p e c → Inside (close_phase p) e c
  close_inside None l = tt
  close_inside Early l = l
  close_inside Active l = l
  close_inside Ended l = tt

  close_facts : (p : Phase) {g n : ℕ} {ms : List Mark} → Facts e (open_of p) calm g n ms → Facts e (open_of (close_phase p)) (wait_of (close_phase p)) g n ms
  close_facts None f = f
  close_facts Early f = f
  close_facts Active f = f
  close_facts Ended f = f

  close-quiet : (p : Phase) → p ≡ None → close_phase p ≡ None
  close-quiet p q = rw q

  pub item-keeps : (x : ℕ) (w : World) → Keeps w → Keeps (add_item x w)
  item-keeps x w l =
      record {
        facts = close_facts (phase e w) (item_facts e w.endpoints w.count w.items w.journal base (phase e w) l.quiet refl (rw l.size l.inside) _ l.facts);
        inside = close_inside (phase e w) l.inside;
        unused = l.unused;
        quiet = λ z. close-quiet (phase e w) (l.quiet z);
        special = l.special;
        size = l.size;
        target = l.target;
      }

  pub entry-keeps : (x : ℕ) (s : Bool) (w : World) → Keeps w → Keeps (add_group_entry x s w)
  entry-keeps x s w l = passed (passed (passed l))

  -- a change of what the facts don't speak of
  pub quiet_keeps : (f : Endpoint → Endpoint) → ((a : Endpoint) → (f a).phase ≡ a.phase) → ((a : Endpoint) → (f a).groups ≡ a.groups) → ((a : Endpoint) → (f a).address ≡ a.address) → (x : ℕ) (w : World) → Keeps w → Keeps (change x f w)
  quiet_keeps f fp fg fd x w l = by (eqb e x)
    where
      by : (b : Bool) → HoldsAt (pick b (f (w.endpoints e)) (w.endpoints e)) w
      by true = rw (fp, fg, fd) l
      by false = l

  -- the same, of the endpoint at x alone
  pub becomes-keeps : (b : Endpoint) (x : ℕ) (w : World) → b.phase ≡ (w.endpoints x).phase → b.groups ≡ (w.endpoints x).groups → b.address ≡ (w.endpoints x).address → Keeps w → Keeps (change x (becomes b) w)
  becomes-keeps b x w bp bg bd l = at (eqb e x) refl
    where
      at : (h : Bool) → eqb e x ≡ h → HoldsAt (pick h b (w.endpoints e)) w
      at true h =
          let s : e ≡ x = eqb-true e x h in
          let p : b.phase ≡ (w.endpoints e).phase = cc in
          let g : b.groups ≡ (w.endpoints e).groups = cc in
          let d : b.address ≡ (w.endpoints e).address = cc in
          rw (p, g, d) l
      at false h = l

  -- ---- the T row

  pub link-keeps : (x : ℕ) (w : World) → Keeps w → Keeps (link x w)
  link-keeps x w l = quiet_keeps more_transactions (λ a. refl) (λ a. refl) (λ a. refl) x (with_transaction (with_link (w.endpoints x).transactions w.transaction) (push (T x w.transaction.id) w)) (passed l)

  pub link_once-keeps : (x : ℕ) (w : World) → Keeps w → Keeps (link_once x w)
  link_once-keeps x w l = by w.transaction.linked
    where
      by : (b : Bool) → Keeps (pick b w (link x w))
      by true = l
      by false = link-keeps x w l

  -- ---- the end of an early or an active group

  over-phase : (b : Bool) (a : Endpoint) → b ≡ true → (pick b (with_phase Ended a) a).phase ≡ Ended
  over-phase true a h = refl
  over-phase false a h = let z : false ≡ true = h in cc

  kept-phase : (f : Endpoint → Endpoint) → ((a : Endpoint) → (f a).phase ≡ a.phase) → (b : Bool) (a : Endpoint) → (pick b (f a) a).phase ≡ a.phase
  kept-phase f h true a = h a
  kept-phase f h false a = refl

  linked-phase : (b : Bool) (x : ℕ) (w : World) → phase x (pick b w (link x w)) ≡ phase x w
  linked-phase true x w = refl
  linked-phase false x w = kept-phase more_transactions (λ a. refl) (eqb x x) (w.endpoints x)

  shut-after : (r : Phase) (x : ℕ) (w : World) → phase x w ≡ r → early r ≡ false → Shut (phase x (end_active r x w))
  shut-after None x w t d = ap open_of t
  shut-after Early x w t d = ap open_of t ∙ d
  shut-after Active x w t d = ap open_of (over-phase (eqb x x) (w.endpoints x) (eq-eqb x x refl))
  shut-after Ended x w t d = ap open_of t

  open_inside : (q : Phase) → e < c → Inside q e c
  open_inside None l = tt
  open_inside Early l = l
  open_inside Active l = l
  open_inside Ended l = l

  -- on an endpoint that is there, and is not the event endpoint
  module _ (x : ℕ) (there : x < c) (real : ¬ (x ≡ 0)) where
    own : e ≡ x → ¬ (e ≡ 0)
    own s z = real (sym s ∙ z)

    over-keeps : (w : World) → Open (phase x w) → Keeps w → Keeps (over x w)
    over-keeps w p l = at (eqb e x) refl
      where
        at : (b : Bool) → eqb e x ≡ b → Keeps (over x w)
        at true h =
            let s : e ≡ x = eqb-true e x h in
            let o : Open (phase e w) = rw (← s) at p in
            rw h (record { facts = rw (← s) (end (own s) (rw (o.0, o.1) at l.facts)); inside = omega arith; unused = l.unused; quiet = λ z. absurd (own s z); special = l.special; size = l.size; target = l.target })
        at false h = rw h (passed l)

    end_active-keeps : (p : Phase) (w : World) → phase x w ≡ p → Keeps w → Keeps (end_active p x w)
    end_active-keeps None w q l = l
    end_active-keeps Early w q l = l
    end_active-keeps Active w q l = entry-keeps x false (over x w) (over-keeps w (rw q (refl, refl)) l)
    end_active-keeps Ended w q l = l

    end_early-keeps : (p : Phase) (w : World) → phase x w ≡ p → Keeps w → Keeps (end_early p x w)
    end_early-keeps None w q l = l
    end_early-keeps Early w q l = over-keeps w (rw q (refl, refl)) l
    end_early-keeps Active w q l = l
    end_early-keeps Ended w q l = l

    -- ---- a start: a G row, a start row and an item, and then the endpoint's phase

    module _ (p : Phase) (f : Endpoint → Endpoint) (o : Open p) (fp : (a : Endpoint) → (f a).phase ≡ p) (fg : (a : Endpoint) → (f a).groups ≡ a.groups) (fd : (a : Endpoint) → (f a).address ≡ a.address) where
      -- an early group becomes active
      reopen-keeps : (w : World) → Open (phase x w) → Keeps w → Keeps (change x f w)
      reopen-keeps w q l = at (eqb e x) refl
        where
          at : (b : Bool) → eqb e x ≡ b → Keeps (change x f w)
          at true h =
              let s : e ≡ x = eqb-true e x h in
              let r : Open (phase e w) = rw (← s) at q in
              rw h (rw (fp, fg, fd) (record { facts = rw (o.0, o.1) (rw (r.0, r.1) at l.facts); inside = open_inside p (omega arith); unused = λ z. absurd (omega arith); quiet = λ z. absurd (own s z); special = l.special; size = l.size; target = l.target }))
          at false h = rw h l

      restart-keeps : (i : ℕ) (w : World) → Shut (phase x w) → Keeps w → Keeps (change x f (add_item x (add_group_entry x true (push_group x i w))))
      restart-keeps i w q l = at (eqb e x) refl
        where
          v : World
          v = add_group_entry x true (push_group x i w)

          same : (v.endpoints e).phase ≡ phase e w
          same = kept-phase more_groups (λ a. refl) (eqb e x) (w.endpoints e)

          here : Inside (phase e w) e w.count
          here = rw l.size l.inside

          -- the endpoint before its phase is set
          after : Endpoint
          after = (add_item x v).endpoints e

          at : (b : Bool) → eqb e x ≡ b → HoldsAt (pick b (f after) after) (add_item x v)
          at true h =
              let s : e ≡ x = eqb-true e x h in
              let shut : open_of (phase e w) ≡ false = rw (← s) at q in
              let begun : Facts e true (wait_of (phase e w)) (suc (w.endpoints e).groups) w.items (marks e (v.journal ++ base)) = pass (pass (pass (hit h (begin (to_shut shut l.facts))))) in
              moved (fp after) (fg after ∙ ap (λ (b : Bool). (pick b (more_groups (w.endpoints e)) (w.endpoints e)).groups) h) (fd after ∙ ap (λ (b : Bool). (pick b (more_groups (w.endpoints e)) (w.endpoints e)).address) h) (record { facts = to_open p o (item_facts e v.endpoints w.count w.items v.journal base (phase e w) l.quiet same here _ begun); inside = open_inside p (omega arith); unused = λ z. absurd (omega arith); quiet = λ z. absurd (own s z); special = l.special; size = l.size; target = l.target })
          at false h =
              moved (ap close_phase same) (ap (λ (b : Bool). (pick b (more_groups (w.endpoints e)) (w.endpoints e)).groups) h) (ap (λ (b : Bool). (pick b (more_groups (w.endpoints e)) (w.endpoints e)).address) h) (record { facts = close_facts (phase e w) (item_facts e v.endpoints w.count w.items v.journal base (phase e w) l.quiet same here _ (pass (pass (pass (miss e x started _ h l.facts))))); inside = close_inside (phase e w) l.inside; unused = l.unused; quiet = λ z. close-quiet (phase e w) (l.quiet z); special = l.special; size = l.size; target = l.target })

      add_group-keeps : (w : World) → early (phase x w) ≡ false → Keeps w → Keeps (change x f (add_group x w))
      add_group-keeps w d l =
          restart-keeps (link_once x u).transaction.link (link_once x u) (rw (linked-phase u.transaction.linked x u) (shut-after (phase x w) x w refl d)) (link_once-keeps x u (end_active-keeps (phase x w) w refl l))
        where
          u : World
          u = end_active (phase x w) x w

    -- ---- group_start, group_append, group_end, group_update

    active-keeps : (done : Bool) (w : World) → Open (phase x w) → Keeps w → Keeps (activate done x w)
    active-keeps done w q l = reopen-keeps Active (activated done (start_pid w.transaction.style)) (refl, refl) (λ a. refl) (λ a. refl) (λ a. refl) w q l

    new-keeps : (p : Phase) (done : Bool) (w : World) → phase x w ≡ p → early p ≡ false → Keeps w → Keeps (activate done x (add_group x w))
    new-keeps p done w q d l = add_group-keeps Active (activated done (start_pid (add_group x w).transaction.style)) (refl, refl) (λ a. refl) (λ a. refl) (λ a. refl) w (ap early q ∙ d) l

    group_start_at-keeps : (p : Phase) (done : Bool) (w : World) → phase x w ≡ p → Keeps w → Keeps (group_start_at p done x w)
    group_start_at-keeps None done w q l = new-keeps None done w q refl l
    group_start_at-keeps Early done w q l = active-keeps done w (rw q (refl, refl)) l
    group_start_at-keeps Active done w q l = new-keeps Active done w q refl l
    group_start_at-keeps Ended done w q l = new-keeps Ended done w q refl l

    group_start-keeps : (done : Bool) (w : World) → Keeps w → Keeps (group_start done x w)
    group_start-keeps done w l = group_start_at-keeps (phase x w) done w refl l

    group_append_at-keeps : (p : Phase) (done : Bool) (w : World) → phase x w ≡ p → Keeps w → Keeps (group_append_at p done x w)
    group_append_at-keeps None done w q l = group_start-keeps done w l
    group_append_at-keeps Early done w q l = group_start-keeps done w l
    group_append_at-keeps Active true w q l =
        quiet_keeps (with_last (start_pid (link_once x w).transaction.style)) (λ a. refl) (λ a. refl) (λ a. refl) x (link_once x w) (link_once-keeps x w l)
    group_append_at-keeps Active false w q l = link_once-keeps x w l
    group_append_at-keeps Ended done w q l = group_start-keeps done w l

    group_append-keeps : (done : Bool) (w : World) → Keeps w → Keeps (group_append done x w)
    group_append-keeps done w l = group_append_at-keeps (phase x w) done w refl l

    may_add : (b : Bool) (w : World) → Keeps w → Keeps (pick b w (add_item x w))
    may_add true w l = l
    may_add false w l = item-keeps x w l

    group_end_at-keeps : (p : Phase) (w : World) → phase x w ≡ p → Keeps w → Keeps (group_end_at p x w)
    group_end_at-keeps None w q l = l
    group_end_at-keeps Early w q l = l
    group_end_at-keeps Active w q l =
        may_add (eqb w.last_item x) (add_group_entry x false (over x w)) (entry-keeps x false (over x w) (over-keeps w (rw q (refl, refl)) l))
    group_end_at-keeps Ended w q l = l

    group_end-keeps : (w : World) → Keeps w → Keeps (group_end x w)
    group_end-keeps w l = group_end_at-keeps (phase x w) (change x cleared w) (kept-phase cleared (λ a. refl) (eqb x x) (w.endpoints x)) (quiet_keeps cleared (λ a. refl) (λ a. refl) (λ a. refl) x w l)

    pub group_step-keeps : (g : GroupStatus) (w : World) → Keeps w → Keeps (group_step g x w)
    group_step-keeps Single w l = group_end-keeps (group_start true x w) (group_start-keeps true w l)
    group_step-keeps New w l = group_start-keeps true w l
    group_step-keeps Continue w l = group_append-keeps true w l
    group_step-keeps Retry w l = group_append-keeps false w l
    group_step-keeps Done w l = group_end-keeps (group_append true x w) (group_append-keeps true w l)
    group_step-keeps Invalid w l = group_end-keeps (group_start false x w) (group_start-keeps false w l)

    -- ---- group_early_start

    not-early : (p : Phase) (w : World) → phase x w ≡ p → early (phase x (end_early p x w)) ≡ false
    not-early None w q = ap early q
    not-early Early w q = ap early (over-phase (eqb x x) (w.endpoints x) (eq-eqb x x refl))
    not-early Active w q = ap early q
    not-early Ended w q = ap early q

    pub group_early_start-keeps : (pid : ℕ) (w : World) → Keeps w → Keeps (group_early_start pid x w)
    unfolding group_early_start
    group_early_start-keeps pid w l = by (starts_early pid (phase x w))
      where
        u : World
        u = end_early (phase x w) x w

        by : (b : Bool) → Keeps (pick b (change x (with_phase Early) (add_group x u)) w)
        by true =
            add_group-keeps Early (with_phase Early) (refl, refl) (λ a. refl) (λ a. refl) (λ a. refl) u (not-early (phase x w) w refl) (end_early-keeps (phase x w) w refl l)
        by false = l

  -- ---- events

  end_inside : (p : Phase) → Inside p e c → Inside (end_phase p) e c
  end_inside None l = tt
  end_inside Early l = l
  end_inside Active l = l
  end_inside Ended l = l

  end_quiet : (p : Phase) → p ≡ None → end_phase p ≡ None
  end_quiet p q = rw q

  pub end_all_active-keeps : (w : World) → Keeps w → Keeps (end_all_active w)
  end_all_active-keeps w l =
      record {
        facts = over_facts e w.endpoints w.count w.items w.journal base (phase e w) l.quiet refl (rw l.size l.inside) l.facts;
        inside = end_inside (phase e w) l.inside;
        unused = l.unused;
        quiet = λ z. end_quiet (phase e w) (l.quiet z);
        special = l.special;
        size = l.size;
        target = l.target;
      }

  -- the event endpoint's G row: to it a group that does not count, to any other nothing
  pub push_group-keeps : (i : ℕ) (w : World) → 0 < c → Keeps w → Keeps (push_group 0 i w)
  push_group-keeps i w there l = at (eqb e 0) refl
    where
      at : (b : Bool) → eqb e 0 ≡ b → Keeps (push_group 0 i w)
      at true h =
          let s : e ≡ 0 = eqb-true e 0 h in
          rw h (record { facts = skip (suc (w.endpoints e).groups) s l.facts; inside = l.inside; unused = λ z. absurd (omega arith); quiet = l.quiet; special = l.special; size = l.size; target = l.target })
      at false h = rw h (passed l)
