-- Each call keeps what holds of every endpoint: the functions of Endpoints, Transactions, Events and Decoder.
use mathlib.Core.Path.{◌≡◌, refl, sym, ap, ◌∙◌}
use mathlib.Core.Bool.{Bool, true, false, ◌||◌, ◌&&◌, not}
use mathlib.Core.List.{List}
use Prim.Native.Nat.{ℕ, suc, pred, ◌+◌, ◌<◌, ◌≤◌}
use native.Mathlib.Nat.{mod-lt}
use native.Mathlib.Omega.{arith}
use borrow.Author.Tests.{eqb-false, eqb-true}
use lib.Dec.{eqb}
use lib.ListN.{length}
use Rattle.usb.specs.Packet.{reason_of}
use Rattle.usb.specs.Fields.{token_of, setup_data_of}
use Rattle.usb.specs.Pid.{SPLIT, MALFORMED, SOF, SETUP, IN, OUT, PING}
use Rattle.transaction.specs.Table.{pick, only, ◌or◌}
use Rattle.transaction.specs.Status.{transaction_status}
use Rattle.transaction.specs.declared.Judged.{Judged}
use Rattle.transaction.proofs.Laws.{extract-keeps}
use Rattle.transaction.specs.declared.Style.{Style}
use Rattle.transaction.specs.declared.Style.TheVariants.{Nothing as NoStyle, Simple, Split, Token}
use Rattle.transaction.specs.declared.Status.{Status}
use Rattle.transaction.specs.declared.Status.TheVariants.{New, Continue, Retry, Done, Fail, Ambiguous, Invalid}
use Rattle.details.specs.Kind.{Unknown}
use Rattle.details.proofs.SearchLaws.{First, first-is}
use Rattle.details.specs.Search.{first_from}
use Rattle.std.specs.Prelude.{Option, Some, None as Absent}
use Rattle.endpoints.specs.declared.Phase.{Phase}
use Rattle.endpoints.specs.declared.Phase.TheVariants.{None, Early, Active, Ended}
use Rattle.group.specs.declared.Effect.{Effect}
use Rattle.group.specs.declared.Effect.TheVariants.{NoEffect, NewDevice, Request, PendingData, IndexData}
use Rattle.group.specs.declared.Grouped.{Grouped}
use Rattle.group.proofs.Laws.{group-keeps}
use Rattle.rules.specs.Rows.{Row, T, D, EventRow}
use Rattle.rules.specs.World.{stamped, World, phase, push, change, with_slot, with_transaction, with_shelf, with_event_state, with_keepalive, with_id, with_pid, more_transactions, with_pending, with_total, new_transaction, last_stamped}
use Rattle.rules.specs.Endpoints.{add_device, device_for, push_endpoint, add_endpoint_on, address_for, endpoint_lookup, found, packet_endpoint_at, packet_endpoint, number_at, endpoint_of, detail_of, set_detail_on}
use Rattle.rules.specs.Groups.{add_group_entry, push_group, link, link_once, group_step, effect_step, grouped, becomes, group_update, group_early_append, undecided}
use Rattle.rules.specs.Transactions.{transaction_end_at, transaction_end, append_token, transaction_append, push_transaction, begin, type_of, begin_on, begin_split, begin_plain, transaction_start, resume_at, state_at, completes, keep_payload, brought, extracted, update_at, update_from, is_dropped, transaction_update}
use Rattle.rules.specs.Events.{event_add_subgroup, event_subgroup_start, event_add_group, Act, nothing, single, group, subgroup, keepalive, Turn, turn_of, event_act, event_update}
use Rattle.rules.specs.Decoder.{append_bytes, push_packet, handle_raw_packet, suspend, end_all_active, end_all, handle_event, finish, handle_detail}
use Rattle.rules.specs.Demand.{Call, packet, event, detail, finishing, call}
use Rattle.rules.specs.Marks.{Mark}
use Rattle.rules.specs.declared.Slot.{Slot}
use Rattle.rules.specs.declared.Slot.TheVariants.{Empty, Current, Suspended}
use Rattle.rules.specs.declared.EventState.TheVariants.{Idle}
use Rattle.rules.proofs.Facts.{Facts, pass, calm}
use Rattle.rules.proofs.Loops.{open_of, wait_of, Inside}
use Rattle.rules.proofs.Keeps.{Keeps, passed, item-keeps, entry-keeps, link-keeps, link_once-keeps, quiet_keeps, becomes-keeps, group_step-keeps, group_early_start-keeps, end_all_active-keeps, push_group-keeps}

-- ---- where a token's endpoint is found: at a row that is there, and not at the event endpoint's

abbrev pub Spot : Option ℕ → ℕ → Type 0
Spot (Some i) n = (i < n) × ¬ (i ≡ 0)
Spot Absent n = Unit {0}

and_right : (p q : Bool) → (p && q) ≡ true → q ≡ true
and_right true q h = h
and_right false q h = let z : false ≡ true = h in cc

on-spot : (f : Option ℕ) (a : ℕ) (w : World) → (w.endpoints 0).address ≡ 16 → ¬ (a ≡ 16) → Spot (endpoint_lookup f a w) w.count
on-spot Absent a w s d = tt
on-spot (Some i) a w s d = by (first_from test 0 w.count) (first-is test w.count 0)
  where
    test : ℕ → Bool
    test j = eqb (w.endpoints j).device i && eqb (w.endpoints j).address a

    other : (j : ℕ) → test j ≡ true → ¬ (j ≡ 0)
    other j h z =
        let t : eqb (w.endpoints 0).address a ≡ true = and_right (eqb (w.endpoints 0).device i) _ (rw z at h) in
        d (sym (eqb-true _ _ t) ∙ s)

    by : (f : Option ℕ) → First test 0 w.count f → Spot f w.count
    by (Some j) r = (omega (arith, r.1.0), other j r.1.1.0)
    by Absent r = tt

small : (p : List ℕ) → (token_of p).number < 16
small p = mod-lt _ (omega arith)

not_16 : (b : Bool) (n : ℕ) → n < 16 → ¬ (pick b (n + 128) n ≡ 16)
not_16 true n h z = omega arith
not_16 false n h z = omega arith

pub found-spot : (pid : ℕ) (p : List ℕ) (w : World) → 3 ≤ w.count → (w.endpoints 0).address ≡ 16 → Spot (found pid p w) w.count
found-spot pid p w t s = by (eqb pid SOF) ((SETUP or IN or OUT or only PING) pid)
  where
    by : (a b : Bool) → Spot (pick a (Some 2) (pick b (endpoint_lookup (device_for (token_of p).address w) (address_for pid (token_of p).number) w) (Some 1))) w.count
    by true b = (omega arith, λ z. omega arith)
    by false true = on-spot (device_for (token_of p).address w) (address_for pid (token_of p).number) w s (not_16 (eqb pid IN && not (eqb (token_of p).number 0)) (token_of p).number (small p))
    by false false = (omega arith, λ z. omega arith)

module _ (base : List Row) where
  -- v keeps what w holds, with c' endpoints and the transaction on y'
  pub record Moves (c y : ℕ) (w v : World) : Type 0 where
    pub c' : ℕ
    pub y' : ℕ
    pub fits : y' < c'
    pub three : 3 ≤ c'
    pub keeps : (e : ℕ) → Keeps base e c y w → Keeps base e c' y' v

  then : {c y : ℕ} {w v u : World} (m : Moves c y w v) → Moves m.c' m.y' v u → Moves c y w u
  then m n = record { c' = n.c'; y' = n.y'; fits = n.fits; three = n.three; keeps = λ e l. n.keeps e (m.keeps e l) }

  module _ (c y : ℕ) (f : y < c) (t : 3 ≤ c) where
    abbrev stays : (w v : World) → ((e : ℕ) → Keeps base e c y w → Keeps base e c y v) → Moves c y w v
    stays w v k = record { c' = c; y' = y; fits = f; three = t; keeps = k }

    -- ---- group_update and transaction_end

    effect : (g : Effect) (x : ℕ) (w : World) → Moves c y w (effect_step g x w)
    effect NoEffect x w = stays w _ (λ e l. l)
    effect (NewDevice a) x w = stays w (add_device a w) (λ e l. passed l)
    effect (Request n) x w = stays w (effect_step (Request n) x w) (λ e l. passed l)
    effect (PendingData n) x w =
        stays w (effect_step (PendingData n) x w) (λ e l. quiet_keeps base e c y (with_pending n w.transaction.link) (λ a. refl) (λ a. refl) (λ a. refl) x w l)
    effect (IndexData n b i) x w =
        stays w (effect_step (IndexData n b i) x w) (λ e l. quiet_keeps base e c y (with_total ((w.endpoints x).total + n)) (λ a. refl) (λ a. refl) (λ a. refl) x (push (D x (pick b i w.transaction.link) (w.endpoints x).total) w) (passed l))

    update : (s k : Bool) (w : World) → ¬ (w.transaction.endpoint ≡ 0) → Moves c y w (group_update w.transaction.endpoint s k w)
    unfolding group_update
    update s k w real = then (stays w v (λ e l. group_step-keeps base e c y x (rw l.target f) real r.status u (status e l))) (effect r.effect x v)
      where
        x : ℕ
        x = w.transaction.endpoint

        r : Grouped
        r = grouped x s k w

        u : World
        u = change x (becomes r.endpoint) w

        v : World
        v = group_step r.status x u

        status : (e : ℕ) → Keeps base e c y w → Keeps base e c y u
        status e l =
            let h = group-keeps (w.endpoints x) w.transaction (detail_of x w) s k in
            becomes-keeps base e c y r.endpoint x w h.phase h.groups h.address l

    end_at : (z : Slot) (s k : Bool) (w : World) → Moves c y w (transaction_end_at z s k w)
    end_at Empty s k w = stays w w (λ e l. l)
    end_at Current s k w = drop (by (eqb w.transaction.endpoint 0) refl)
      where
        drop : {v : World} → Moves c y w v → Moves c y w (with_slot Empty v)
        drop m = record { c' = m.c'; y' = m.y'; fits = m.fits; three = m.three; keeps = m.keeps }

        by : (b : Bool) → eqb w.transaction.endpoint 0 ≡ b → Moves c y w (pick b w (group_update w.transaction.endpoint s k w))
        by true h = stays w w (λ e l. l)
        by false h = update s k w (eqb-false _ _ h)
    end_at Suspended s k w = stays w w (λ e l. l)

    pub ending : (s k : Bool) (w : World) → Moves c y w (transaction_end s k w)
    ending s k w = end_at w.slot s k w

    appending : (w : World) → Moves c y w (group_early_append w)
    unfolding group_early_append
    appending w = by (eqb w.transaction.endpoint 0 || undecided (w.endpoints w.transaction.endpoint))
      where
        by : (b : Bool) → Moves c y w (pick b w (link_once w.transaction.endpoint w))
        by true = stays w w (λ e l. l)
        by false = stays w (link_once w.transaction.endpoint w) (λ e l. link_once-keeps base e c y w.transaction.endpoint w l)

    pub resuming : (z : Slot) (n : ℕ) (w : World) → Moves c y w (resume_at z n w)
    resuming Empty n w = stays w w (λ e l. l)
    resuming Current n w = stays w w (λ e l. l)
    resuming Suspended n w = stays w (link w.transaction.endpoint v) (λ e l. link-keeps base e c y w.transaction.endpoint v (passed l))
      where
        v : World
        v = begin (with_id w.transactions w.transaction) (push_transaction n w)

    -- ---- add_endpoint

    unused_facts : (e : ℕ) (p : Phase) {g n : ℕ} {ms : List Mark} → Inside p e c → e ≡ c → g ≡ 0 → Facts e (open_of p) (wait_of p) g n ms → Facts e false calm 0 n ms
    unused_facts e None i q h k = rw h at k
    unused_facts e Early i q h k = absurd (omega arith)
    unused_facts e Active i q h k = absurd (omega arith)
    unused_facts e Ended i q h k = absurd (omega arith)

    wider : (e : ℕ) (p : Phase) → Inside p e c → Inside p e (suc c)
    wider e None l = tt
    wider e Early l = omega arith
    wider e Active l = omega arith
    wider e Ended l = omega arith

    push-keeps : (e d a : ℕ) (v : World) → Keeps base e c y v → Keeps base e (suc c) y (push_endpoint d a v)
    push-keeps e d a v l = at (eqb e v.count) refl
      where
        at : (b : Bool) → eqb e v.count ≡ b → Keeps base e (suc c) y (push_endpoint d a v)
        at true q =
            let s : e ≡ v.count = eqb-true e v.count q in
            let z : e ≡ c = s ∙ l.size in
            rw q (record { facts = pass (unused_facts e (phase e v) l.inside z (l.unused (omega arith)) l.facts); inside = tt; unused = λ i. refl; quiet = λ i. refl; special = λ i. absurd (omega arith); size = ap suc l.size; target = l.target })
        at false q = rw q (record { facts = pass l.facts; inside = wider e (phase e v) l.inside; unused = λ i. l.unused (omega arith); quiet = l.quiet; special = l.special; size = ap suc l.size; target = l.target })

    add-keeps : (g : Option ℕ) (e d a : ℕ) (w : World) → Keeps base e c y w → Keeps base e (suc c) y (add_endpoint_on g d a w)
    add-keeps (Some i) e d a w l = push-keeps e i a w l
    add-keeps Absent e d a w l = push-keeps e w.device_count a (add_device d w) (passed l)

  -- ---- packet_endpoint, transaction_start, transaction_append

  -- x is an endpoint of v, and not the event endpoint
  record Placed (c y x : ℕ) (w v : World) : Type 0 where
    c'' : ℕ
    there : x < c''
    real : ¬ (x ≡ 0)
    old : y < c''
    three'' : 3 ≤ c''
    keeps'' : (e : ℕ) → Keeps base e c y w → Keeps base e c'' y v

  module _ (c y : ℕ) (f : y < c) (t : 3 ≤ c) where
    placing : (pid : ℕ) (p : List ℕ) (w : World) → Keeps base 0 c y w → Placed c y (endpoint_of pid p w) w (packet_endpoint pid p w)
    placing pid p w z = by (found pid p w) (found-spot pid p w (let q = z.size in omega arith) (z.special refl))
      where
        by : (g : Option ℕ) → Spot g w.count → Placed c y (number_at g w) w (packet_endpoint_at g pid p w)
        by (Some i) s = let q = z.size in record { c'' = c; there = omega (arith, s.0); real = s.1; old = f; three'' = t; keeps'' = λ e l. l }
        by Absent s =
            let q = z.size in
            record { c'' = suc c; there = omega arith; real = λ h. omega arith; old = omega arith; three'' = omega arith; keeps'' = λ e l. add-keeps c y f t (device_for (token_of p).address w) e (token_of p).address (address_for pid (token_of p).number) w l }

    onto : (x : ℕ) → x < c → ¬ (x ≡ 0) → (kind pid n : ℕ) (w : World) → Moves c y w (begin_on x kind pid n w)
    onto x there real kind pid n w =
        record { c' = c; y' = x; fits = there; three = t; keeps = λ e l. group_early_start-keeps base e c x x there real pid v (record { facts = l.facts; inside = l.inside; unused = l.unused; quiet = l.quiet; special = l.special; size = l.size; target = refl }) }
      where
        v : World
        v = begin (new_transaction (Simple pid) n pid x kind) w

  module _ (c y : ℕ) (f : y < c) (t : 3 ≤ c) where
    starting : (n pid : ℕ) (p : List ℕ) (w : World) → Keeps base 0 c y w → Moves c y w (transaction_start n pid p w)
    starting n pid p w z = by (eqb pid MALFORMED) (eqb pid SPLIT)
      where
        v : World
        v = push_transaction n w

        i : Placed c y (endpoint_of pid p v) v (packet_endpoint pid p v)
        i = placing c y f t pid p v (passed z)

        u : World
        u = packet_endpoint pid p v

        x : ℕ
        x = endpoint_of pid p v

        by : (a b : Bool) → Moves c y w (pick a (begin_on 1 Unknown pid w.transactions v) (pick b (begin_split p pid w.transactions v) (begin_plain pid p w.transactions v)))
        by true b = then (stays c y f t w v (λ e l. passed l)) (onto c y f t 1 (omega arith) (λ h. omega arith) Unknown pid w.transactions v)
        by false true =
            record { c' = c; y' = 0; fits = omega arith; three = t; keeps = λ e l. record { facts = pass l.facts; inside = l.inside; unused = l.unused; quiet = l.quiet; special = l.special; size = l.size; target = refl } }
        by false false =
            then (record { c' = i.c''; y' = y; fits = i.old; three = i.three''; keeps = λ e l. i.keeps'' e (passed l) }) (onto i.c'' y i.old i.three'' x i.there i.real (type_of x u) pid w.transactions u)

    token : (s : Style) (pid : ℕ) (p : List ℕ) (w : World) → Keeps base 0 c y w → Moves c y w (append_token s pid p w)
    token NoStyle pid p w z = stays c y f t w w (λ e l. l)
    token (Simple first) pid p w z = stays c y f t w w (λ e l. l)
    token (Split sc kind) pid p w z =
        record { c' = i.c''; y' = endpoint_of pid p w; fits = i.there; three = i.three''; keeps = λ e l. put e (i.keeps'' e l) }
      where
        i : Placed c y (endpoint_of pid p w) w (packet_endpoint pid p w)
        i = placing c y f t pid p w z

        put : (e : ℕ) → Keeps base e i.c'' y (packet_endpoint pid p w) → Keeps base e i.c'' (endpoint_of pid p w) (append_token (Split sc kind) pid p w)
        put e l = record { facts = l.facts; inside = l.inside; unused = l.unused; quiet = l.quiet; special = l.special; size = l.size; target = refl }
    token (Token sc kind first) pid p w z = stays c y f t w w (λ e l. l)

    appended : (pid : ℕ) (p : List ℕ) (w : World) → Keeps base 0 c y w → Moves c y w (transaction_append pid p w)
    appended pid p w z = again (token w.transaction.style pid p w z)
      where
        again : {v : World} → Moves c y w v → Moves c y w (with_transaction (with_pid pid v.transaction) v)
        again m = record { c' = m.c'; y' = m.y'; fits = m.fits; three = m.three; keeps = m.keeps }

  -- ---- transaction_update

  module _ (high : Bool) (c y : ℕ) (f : y < c) (t : 3 ≤ c) (n pid : ℕ) (p : List ℕ) where
    appended-ended : (s k : Bool) (w : World) → Keeps base 0 c y w → Moves c y w (transaction_end s k (transaction_append pid p w))
    appended-ended s k w z =
        let m : Moves c y w (transaction_append pid p w) = appended c y f t pid p w z in
        then m (ending m.c' m.y' m.fits m.three s k (transaction_append pid p w))

    abbrev pub bringing : (w : World) → Moves c y w (brought high pid p w)
    bringing w =
        stays c y f t w (brought high pid p w) (λ e l. record { facts = l.facts; inside = l.inside; unused = l.unused; quiet = l.quiet; special = l.special; size = l.size; target = (extract-keeps high w.transaction pid (length p) (setup_data_of p)).endpoint ∙ l.target })

    -- the shelf is not spoken of
    abbrev pub extracting : (w : World) → Moves c y w (extracted high pid p w)
    extracting w = stays c y f t w (extracted high pid p w) (λ e l. (bringing (keep_payload high pid p w)).keeps e l)

    updating : (s : Status) (k : Bool) (w : World) → Keeps base 0 c y w → Moves c y w (update_at high s n pid p k w)
    updating New k w z =
        then (bringing w) (then m (then a (appending a.c' a.y' a.fits a.three (transaction_start n pid p v))))
      where
        v : World
        v = transaction_end false false (brought high pid p w)

        m : Moves c y (brought high pid p w) v
        m = ending c y f t false false (brought high pid p w)

        a : Moves m.c' m.y' v (transaction_start n pid p v)
        a = starting m.c' m.y' m.fits m.three n pid p v (m.keeps 0 ((bringing w).keeps 0 z))
    updating Continue k w z =
        then (extracting w) (then m (appending m.c' m.y' m.fits m.three (transaction_append pid p (extracted high pid p w))))
      where
        m : Moves c y (extracted high pid p w) (transaction_append pid p (extracted high pid p w))
        m = appended c y f t pid p (extracted high pid p w) ((extracting w).keeps 0 z)
    updating Retry k w z = then (extracting w) (appended-ended true k (extracted high pid p w) ((extracting w).keeps 0 z))
    updating Done k w z = then (extracting w) (appended-ended true k (extracted high pid p w) ((extracting w).keeps 0 z))
    updating Fail k w z = then (extracting w) (appended-ended false k (extracted high pid p w) ((extracting w).keeps 0 z))
    updating Ambiguous k w z = then (extracting w) (appended c y f t pid p (extracted high pid p w) ((extracting w).keeps 0 z))
    updating Invalid k w z =
        then a (ending a.c' a.y' a.fits a.three false false (transaction_start n pid p w))
      where
        a : Moves c y w (transaction_start n pid p w)
        a = starting c y f t n pid p w z

  -- ---- the calls

  module _ (c y : ℕ) (f : y < c) (t : 3 ≤ c) where
    transacting : (high : Bool) (n : ℕ) (p : List ℕ) (w : World) → Keeps base 0 c y w → Moves c y w (transaction_update high n p w)
    unfolding transaction_update
    transacting high n p w z = by (is_dropped w.slot w.transaction)
      where
        u : World
        u = resume_at w.slot n w

        m : Moves c y w u
        m = resuming c y f t w.slot n w

        j : Judged
        j = transaction_status high (state_at u.slot u.transaction) p

        by : (b : Bool) → Moves c y w (pick b (with_slot Empty w) (update_from high n p u))
        by true = stays c y f t w (with_slot Empty w) (λ e l. l)
        by false =
            then m (updating high m.c' m.y' m.fits m.three n j.pid p j.status (completes (state_at u.slot u.transaction).style j.status) u (m.keeps 0 z))

    packets : (high : Bool) (p : List ℕ) (time : ℕ) (w : World) → Keeps base 0 c y w → Moves c y w (handle_raw_packet high p time w)
    unfolding handle_raw_packet
    packets high p time w z = then (stays c y f t w v (λ e l. passed (passed l))) (transacting high w.packets p v (passed (passed z)))
      where
        v : World
        v = push_packet w.bytes time (append_bytes p (with_event_state Idle (stamped time (reason_of p) w)))

    subgroup-adds : (n : ℕ) (w : World) → Moves c y w (event_add_subgroup n w)
    subgroup-adds n w = again (ending c y f t false false w)
      where
        again : {v : World} → Moves c y w v → Moves c y w (push_transaction n v)
        again m = record { c' = m.c'; y' = m.y'; fits = m.fits; three = m.three; keeps = λ e l. passed (m.keeps e l) }

    subgroup-starts : (n : ℕ) (w : World) → Moves c y w (event_subgroup_start n w)
    subgroup-starts n w =
        record { c' = m.c'; y' = m.y'; fits = m.fits; three = m.three; keeps = λ e l. quiet_keeps base e m.c' m.y' more_transactions (λ a. refl) (λ a. refl) (λ a. refl) 0 (push (T 0 (pred v.transactions)) v) (passed (m.keeps e l)) }
      where
        v : World
        v = event_add_subgroup n w

        m : Moves c y w v
        m = subgroup-adds n w

    group-adds : (n : ℕ) (s : Bool) (w : World) → Moves c y w (event_add_group n s w)
    group-adds n s w =
        record { c' = m.c'; y' = m.y'; fits = m.fits; three = m.three; keeps = λ e l. item-keeps base e m.c' m.y' 0 (add_group_entry 0 s u) (entry-keeps base e m.c' m.y' 0 s u (push_group-keeps base e m.c' m.y' i v (let h = m.three in omega arith) (m.keeps e l))) }
      where
        v : World
        v = event_subgroup_start n w

        m : Moves c y w v
        m = subgroup-starts n w

        i : ℕ
        i = pred (v.endpoints 0).transactions

        u : World
        u = push_group 0 i v

    acts : (a : Act) (n : ℕ) (w : World) → Moves c y w (event_act a n w)
    acts nothing n w = stays c y f t w w (λ e l. l)
    acts single n w = group-adds n false w
    acts group n w = group-adds n true w
    acts subgroup n w = subgroup-starts n w
    acts keepalive n w = by w.keepalive (group-adds n true w)
      where
        by : (b : Bool) → Moves c y w (event_add_group n true w) → Moves c y w (pick b (event_subgroup_start n w) (with_keepalive true (event_add_group n true w)))
        by true m = subgroup-starts n w
        by false m = record { c' = m.c'; y' = m.y'; fits = m.fits; three = m.three; keeps = m.keeps }

    turning : (n kind : ℕ) (w : World) → Moves c y w (event_update n kind w)
    unfolding event_update
    turning n kind w = again (acts r.act n w)
      where
        r : Turn
        r = turn_of w.event_state kind

        again : {v : World} → Moves c y w v → Moves c y w (with_event_state r.next v)
        again m = record { c' = m.c'; y' = m.y'; fits = m.fits; three = m.three; keeps = m.keeps }

    ending-all : (w : World) → Moves c y w (end_all w)
    ending-all w = again (ending c y f t false false w)
      where
        again : {v : World} → Moves c y w v → Moves c y w (with_keepalive false (end_all_active v))
        again {v} m = record { c' = m.c'; y' = m.y'; fits = m.fits; three = m.three; keeps = λ e l. end_all_active-keeps base e m.c' m.y' v (m.keeps e l) }

  module _ (c y : ℕ) (f : y < c) (t : 3 ≤ c) where
    events : (kind code time : ℕ) (w : World) → Moves c y w (handle_event kind code time w)
    unfolding handle_event
    events kind code time w = by (eqb kind 0)
      where
        go : {v : World} → Moves c y w v → Moves c y w (event_update w.packets kind (push (EventRow w.packets code) (push_packet w.bytes time v)))
        go {v} m =
            let u : World = push (EventRow w.packets code) (push_packet w.bytes time v) in
            let k : Moves m.c' m.y' v u = stays m.c' m.y' m.fits m.three v u (λ e l. passed (passed l)) in
            then m (then k (turning m.c' m.y' m.fits m.three w.packets kind u))

        by : (q : Bool) → Moves c y w (event_update w.packets kind (push (EventRow w.packets code) (push_packet w.bytes time (pick q (suspend (stamped time 0 w)) (end_all (stamped time 0 w))))))
        by true = go (stays c y f t w (suspend (stamped time 0 w)) (λ e l. l))
        by false = go (then (stays c y f t w (stamped time 0 w) (λ e l. l)) (ending-all c y f t (stamped time 0 w)))

    details : (g : Option ℕ) (number direction kind max : ℕ) (w : World) → Moves c y w (set_detail_on g number direction kind max w)
    details (Some i) number direction kind max w = stays c y f t w _ (λ e l. l)
    details Absent number direction kind max w = stays c y f t w w (λ e l. l)

    pub calls : (high : Bool) (k : Call) (w : World) → Keeps base 0 c y w → Moves c y w (call high k w)
    unfolding handle_detail finish
    calls high (packet p time shelf) w z =
        let m = packets c y f t high p time (with_shelf shelf w) z in record { c' = m.c'; y' = m.y'; fits = m.fits; three = m.three; keeps = m.keeps }
    calls high (event kind code time) w z = events kind code time w
    calls high (detail a number r kind m) w z = details (device_for a w) number r kind m w
    calls high finishing w z = then (stays c y f t w (last_stamped w) (λ e l. l)) (ending c y f t false false (last_stamped w))
