-- A light end leaves what any end leaves: `light-is`. Each step of an end stores the entry once; stored once with all that the steps do to it, it is the same.
use mathlib.Core.Path.{◌≡◌, refl, sym, ap, ◌∙◌}
use mathlib.Core.Bool.{Bool, true, false, ◌&&◌, not, true≢false}
use mathlib.Core.List.{List, [], ◌∷◌}
use Prim.Native.Nat.{ℕ, suc, ◌+◌, ◌*◌, ◌%◌, ◌^◌, ◌<◌}
use native.Mathlib.Nat.{mod-eq_of_lt}
use native.Mathlib.Omega.{arith}
use lib.ListN.{length, set}
use lib.Seq.{sets, set-set, set_comm}
use Rattle.rows.specs.One.{one}
use Rattle.rows.specs.Sets.{opt}
use Rattle.rows.specs.Widths.{packet_width, link_width}
use Rattle.endpoints.specs.Link as kind
use Rattle.endpoints.specs.Word as word
use Rattle.endpoints.specs.Table.{words, entry_at, store_at}
use Rattle.endpoints.proofs.TableLaws.{Fits, load_store_same}
use Rattle.endpoints.specs.declared.Endpoint.{Endpoint}
use Rattle.transaction.specs.Payload.{start_pid}
use Rattle.transaction.specs.declared.Transaction.{Transaction}
use Rattle.group.specs.declared.Effect.{Effect}
use Rattle.group.specs.declared.Effect.TheVariants.{NoEffect, NewDevice, Request, PendingData, IndexData}
use Rattle.rules.specs.World.{more_transactions, with_link}
use Rattle.update.specs.Effect.{passes, effect_entry}
use Rattle.update.specs.Entry.{become_entry, entry_after, counted, words_after}
use Rattle.update.specs.Update.{when}
use Rattle.update.specs.declared.Update.{Update}
use Rattle.update.specs.declared.Then.{Then}
use Rattle.update.specs.declared.Then.TheVariants.{Keep, Begin, BeginFailed, Last, BeginEarly}
use Rattle.record.specs.Bools.{both}
use Rattle.tally.specs.declared.add.Tally.{Tally}
use Rattle.tally.specs.Tallies.{add_counts}
use Rattle.write.specs.Memory.{alter}
use Rattle.write_update.specs.Carried.{opened, closed}
use Rattle.write_packet.specs.Desk.{total_words, ended_desk}
use Rattle.rules.specs.declared.EventState.TheVariants.{Idle}
use Rattle.rules.specs.declared.Slot.TheVariants.{Empty}
use Rattle.plan.specs.declared.End.{End}
use Rattle.call.specs.State.{State, state, logs, held_at}
use Rattle.quick.specs.Close.{close_state}
use Rattle.quick.specs.Light.{is_quiet, is_counting, light_entry, light_state}
use Rattle.quick.proofs.Fit.{off}

-- ---- one place stored twice

-- a word stored in front of others
set_front : (vs l : List ℕ) (a i v : ℕ) → i < a → set (sets l a vs) i v ≡ sets (set l i v) a vs
set_front [] l a i v h = refl
set_front (w ∷ vs) l a i v h = set_front vs (set l a w) (suc a) i v (omega arith) ∙ ap (λ (m : List ℕ). sets m (suc a) vs) (set_comm l a i w v (λ e. absurd (omega (arith, e))))

-- words stored over as many
sets_over : (us vs l : List ℕ) (a : ℕ) → length us ≡ length vs → sets (sets l a us) a vs ≡ sets l a vs
sets_over [] [] l a h = refl
sets_over [] (v ∷ vs) l a h = absurd (omega arith)
sets_over (u ∷ us) [] l a h = absurd (omega arith)
sets_over (u ∷ us) (v ∷ vs) l a h =
    ap (λ (m : List ℕ). sets m (suc a) vs) (set_front us (set l a u) (suc a) a v (omega arith) ∙ ap (λ (m : List ℕ). sets m (suc a) us) (set-set l a u v))
    ∙ sets_over us vs (set l a v) (suc a) (omega arith)

store-over : (t : List ℕ) (x : ℕ) (d e : Endpoint) → store_at (store_at t x d) x e ≡ store_at t x e
unfolding store_at
store-over t x d e = sets_over (words d) (words e) t (x * word.width) refl

-- ---- an entry that is stored and then changed

-- what becomes of the group, on the table
abbrev become_table : Then → ℕ → ℕ → List ℕ → List ℕ
become_table Keep x pid t = t
become_table Begin x pid t = alter x (become_entry Begin pid) t
become_table BeginFailed x pid t = alter x (become_entry BeginFailed pid) t
become_table Last x pid t = alter x (become_entry Last pid) t
become_table BeginEarly x pid t = alter x (become_entry BeginEarly pid) t

module _ (t : List ℕ) (x : ℕ) (sized : length t ≡ word.table) (there : x < 128) where
  pub stored : (e : Endpoint) → Fits e → entry_at (store_at t x e) x ≡ e
  stored e f = load_store_same t x e sized there f

  changed : (f : Endpoint → Endpoint) (e : Endpoint) → Fits e → alter x f (store_at t x e) ≡ store_at t x (f e)
  changed f e h = ap (λ (a : Endpoint). store_at (store_at t x e) x (f a)) (stored e h) ∙ store-over t x e (f e)

  -- ---- what becomes of the entry e, step by step

  module _ (pid : ℕ) (byte : pid < 256) (e : Endpoint) (fits : Fits e) where
    linked-fits : (b : Bool) → Fits (when b more_transactions e)
    linked-fits true = record { address = fits.address; state = fits.state; first = fits.first; last = fits.last }
    linked-fits false = fits

    light-fits : (b : Bool) (g : Then) → Fits (become_entry g pid (when b more_transactions e))
    light-fits b Keep = linked-fits b
    light-fits b Begin = record { address = (linked-fits b).address; state = (linked-fits b).state; first = byte; last = byte }
    light-fits b BeginFailed = record { address = (linked-fits b).address; state = (linked-fits b).state; first = byte; last = byte }
    light-fits b Last = record { address = (linked-fits b).address; state = (linked-fits b).state; first = (linked-fits b).first; last = byte }
    light-fits b BeginEarly = record { address = (linked-fits b).address; state = (linked-fits b).state; first = (linked-fits b).first; last = (linked-fits b).last }

    link-table : (b : Bool) → when b (alter x more_transactions) (store_at t x e) ≡ store_at t x (when b more_transactions e)
    link-table true = changed more_transactions e fits
    link-table false = refl

    pub light-table : (b : Bool) (g : Then) → become_table g x pid (when b (alter x more_transactions) (store_at t x e)) ≡ store_at t x (become_entry g pid (when b more_transactions e))
    light-table b g = ap (become_table g x pid) (link-table b) ∙ by g
      where
        by : (g : Then) → become_table g x pid (store_at t x (when b more_transactions e)) ≡ store_at t x (become_entry g pid (when b more_transactions e))
        by Keep = refl
        by Begin = changed (become_entry Begin pid) (when b more_transactions e) (linked-fits b)
        by BeginFailed = changed (become_entry BeginFailed pid) (when b more_transactions e) (linked-fits b)
        by Last = changed (become_entry Last pid) (when b more_transactions e) (linked-fits b)
        by BeginEarly = changed (become_entry BeginEarly pid) (when b more_transactions e) (linked-fits b)

    pub light-read : (b : Bool) (g : Then) → entry_at (become_table g x pid (when b (alter x more_transactions) (store_at t x e))) x ≡ become_entry g pid (when b more_transactions e)
    light-read b g = ap (λ (m : List ℕ). entry_at m x) (light-table b g) ∙ stored (become_entry g pid (when b more_transactions e)) (light-fits b g)

-- ---- what is left

-- the table once a payload is counted, and the entry that is read for it
abbrev total_table : Effect → ℕ → ℕ → List ℕ → Endpoint → List ℕ
total_table NoEffect x link t e = t
total_table (NewDevice address) x link t e = t
total_table (Request n) x link t e = t
total_table (PendingData n) x link t e = store_at t x (effect_entry (PendingData n) e link)
total_table (IndexData n waited i) x link t e = store_at t x (effect_entry (IndexData n waited i) e link)

module _ (t : Transaction) (z : Tally) (packet : List ℕ) (time : ℕ) (s : State) where
  abbrev x : ℕ
  x = t.endpoint

  abbrev pid : ℕ
  pid = start_pid t.style

  -- with a T row where b says so, under the number c; m and e are the table and the entry before a payload is counted, and its D row is at k
  abbrev left_at : Bool → Effect → ℕ → List ℕ → Endpoint → ℕ → State
  left_at b f c m e k =
      let h = held_at s in
      let g = s.logs in
      let own = when b (with_link c) t in
      state
      (record {
        counts = add_counts s.decoder.counts z;
        slot = Empty;
        transaction = own;
        last = s.decoder.last;
        event = Idle;
        keepalive = s.decoder.keepalive;
        waiting = z.waiting;
        finished = s.decoder.finished;
        high = s.decoder.high;
        time = time;
      })
      s.devices
      (total_table f x own.link m e)
      (logs
      (sets g.bytes h.bytes packet)
      g.devices
      g.endpoints
      (sets g.packets (h.packets * packet_width) (s.decoder.counts.bytes ∷ time ∷ []))
      g.events
      g.transactions
      g.groups
      g.statebytes
      g.states
      g.items
      (sets (sets g.links (h.links * link_width) (opt b (kind.T ∷ x ∷ t.id ∷ 0 ∷ []))) (k * link_width) (total_words f x e own.link))
      g.requests)

  -- the update of a light end
  abbrev quiet : Bool → Then → Update
  quiet b g = record { over = false; cut = false; link = b; start = false; group = g; end = false; item = false }

  abbrev placed : Bool → ℕ
  placed true = (held_at s).links + 1
  placed false = (held_at s).links

  module _ (e : Endpoint) where
    abbrev stores : Bool → Then → List ℕ
    stores b g = become_table g x pid (when b (alter x more_transactions) (store_at s.table x e))

    -- the steps of an end, as they are
    steps : (b : Bool) (g : Then) (f : Effect) → is_counting f ≡ true
        → close_state t (record { entry = e; update = quiet b g; effect = f }) z packet time s ≡ left_at b f (entry_at (store_at s.table x e) x).transactions (stores b g) (entry_at (stores b g) x) (placed b)
    unfolding ended_desk opened closed
    steps true Keep NoEffect h = refl
    steps true Begin NoEffect h = refl
    steps true BeginFailed NoEffect h = refl
    steps true Last NoEffect h = refl
    steps true BeginEarly NoEffect h = refl
    steps false Keep NoEffect h = refl
    steps false Begin NoEffect h = refl
    steps false BeginFailed NoEffect h = refl
    steps false Last NoEffect h = refl
    steps false BeginEarly NoEffect h = refl
    steps true Keep (IndexData n waited i) h = refl
    steps true Begin (IndexData n waited i) h = refl
    steps true BeginFailed (IndexData n waited i) h = refl
    steps true Last (IndexData n waited i) h = refl
    steps true BeginEarly (IndexData n waited i) h = refl
    steps false Keep (IndexData n waited i) h = refl
    steps false Begin (IndexData n waited i) h = refl
    steps false BeginFailed (IndexData n waited i) h = refl
    steps false Last (IndexData n waited i) h = refl
    steps false BeginEarly (IndexData n waited i) h = refl
    steps b g (NewDevice address) h = absurd (true≢false (sym h))
    steps b g (Request n) h = absurd (true≢false (sym h))
    steps b g (PendingData n) h = absurd (true≢false (sym h))

    placed-is : (b : Bool) → placed b ≡ (held_at s).links + one b
    placed-is true = refl
    placed-is false = omega arith

    -- the last store is over the one before it
    total-once : (f : Effect) (link : ℕ) (a : Endpoint) → is_counting f ≡ true → total_table f x link (store_at s.table x a) a ≡ store_at s.table x (effect_entry f a link)
    total-once NoEffect link a h = refl
    total-once (IndexData n waited i) link a h = store-over s.table x a (effect_entry (IndexData n waited i) a link)
    total-once (NewDevice address) link a h = absurd (true≢false (sym h))
    total-once (Request n) link a h = absurd (true≢false (sym h))
    total-once (PendingData n) link a h = absurd (true≢false (sym h))

    module _ (sized : length s.table ≡ word.table) (there : x < 128) (byte : pid < 256) (fits : Fits e) where
      quiet_is : (b : Bool) (g : Then) (f : Effect) → is_counting f ≡ true
          → light_state t (record { entry = e; update = quiet b g; effect = f }) (add_counts s.decoder.counts z) z.waiting packet time s ≡ close_state t (record { entry = e; update = quiet b g; effect = f }) z packet time s
      quiet_is b g f h =
          let a = become_entry g pid (when b more_transactions e) in
          let link = (when b (with_link e.transactions) t).link in
          sym
          (steps b g f h
          ∙ ((λ i. left_at b f (stored s.table x sized there e fits i).transactions (light-table s.table x sized there pid byte e fits b g i) (light-read s.table x sized there pid byte e fits b g i) (placed-is b i))
          ∙ ap (λ (m : List ℕ). state (left_at b f e.transactions m a ((held_at s).links + one b)).decoder s.devices m (left_at b f e.transactions m a ((held_at s).links + one b)).logs) (total-once f link a h)))

-- ---- of the tests that were made

module _ (u : Update) (h : is_quiet u ≡ true) where
  pub quieted : u ≡ record { over = false; cut = false; link = u.link; start = false; group = u.group; end = false; item = false }
  quieted =
      let a = both (((not u.over && not u.cut) && not u.start) && not u.end) (not u.item) h in
      let b = both ((not u.over && not u.cut) && not u.start) (not u.end) a.0 in
      let c = both (not u.over && not u.cut) (not u.start) b.0 in
      let d = both (not u.over) (not u.cut) c.0 in
      λ i. record { over = off u.over d.0 i; cut = off u.cut d.1 i; link = u.link; start = off u.start c.1 i; group = u.group; end = off u.end b.1 i; item = off u.item a.1 i }

one_more : (e : Endpoint) → e.transactions + 1 < 2 ^ 64 → (e.transactions + 1) % 2 ^ 64 ≡ suc e.transactions
one_more e h = mod-eq_of_lt h ∙ omega arith

-- what the code makes of the entry, in words, where its count of T rows has room
words-quiet : (b : Bool) (g : Then) (pid : ℕ) (e : Endpoint) → e.transactions + one b < 2 ^ 64
    → words_after (record { over = false; cut = false; link = b; start = false; group = g; end = false; item = false }) pid e ≡ become_entry g pid (when b more_transactions e)
unfolding entry_after
words-quiet false Keep pid e h = refl
words-quiet false Begin pid e h = refl
words-quiet false BeginFailed pid e h = refl
words-quiet false Last pid e h = refl
words-quiet false BeginEarly pid e h = refl
words-quiet true Keep pid e h = λ i. counted (one_more e h i) e.groups (become_entry Keep pid (more_transactions e))
words-quiet true Begin pid e h = λ i. counted (one_more e h i) e.groups (become_entry Begin pid (more_transactions e))
words-quiet true BeginFailed pid e h = λ i. counted (one_more e h i) e.groups (become_entry BeginFailed pid (more_transactions e))
words-quiet true Last pid e h = λ i. counted (one_more e h i) e.groups (become_entry Last pid (more_transactions e))
words-quiet true BeginEarly pid e h = λ i. counted (one_more e h i) e.groups (become_entry BeginEarly pid (more_transactions e))

pub words_light : (u : Update) (pid : ℕ) (e : Endpoint) → is_quiet u ≡ true → e.transactions + one u.link < 2 ^ 64 → words_after u pid e ≡ light_entry u pid e
words_light u pid e h f = (λ i. words_after (quieted u h i) pid e) ∙ words-quiet u.link u.group pid e f

-- no step but the last changes the total
pub light-total : (u : Update) (pid : ℕ) (e : Endpoint) (f : Effect) → passes f e.total ≡ false → passes f (light_entry u pid e).total ≡ false
light-total u pid e f h = by u.link u.group
  where
    by : (b : Bool) (g : Then) → passes f (become_entry g pid (when b more_transactions e)).total ≡ false
    by true Keep = h
    by true Begin = h
    by true BeginFailed = h
    by true Last = h
    by true BeginEarly = h
    by false Keep = h
    by false Begin = h
    by false BeginFailed = h
    by false Last = h
    by false BeginEarly = h

pub light-is : (t : Transaction) (e : End) (z : Tally) (packet : List ℕ) (time : ℕ) (s : State) → length s.table ≡ word.table → t.endpoint < 128 → start_pid t.style < 256 → Fits e.entry
    → is_quiet e.update ≡ true → is_counting e.effect ≡ true → light_state t e (add_counts s.decoder.counts z) z.waiting packet time s ≡ close_state t e z packet time s
light-is t e z packet time s sized there byte fits h c =
    let p = quieted e.update h in
    (λ i. light_state t (record { entry = e.entry; update = p i; effect = e.effect }) (add_counts s.decoder.counts z) z.waiting packet time s)
    ∙ (quiet_is t z packet time s e.entry sized there byte fits e.update.link e.update.group e.effect c
    ∙ λ i. close_state t (record { entry = e.entry; update = sym p i; effect = e.effect }) z packet time s)
