-- What two shelves have in common where calls from a fresh decoder keep something (`Kin`), and the steps of the rules that keep it without looking at a shelf: on
-- an endpoint whose setup data are a read, the bytes that count were laid by on both; so were the bytes that an IN under way brought; and a payload that waits is
-- at an endpoint that no IN brings data of a request to.
use Prim.Native.Nat.{ℕ, zero, suc, ◌+◌, ◌*◌, ◌≤◌, ◌<◌, min, zero-le}
use native.Mathlib.Nat.{le_refl}
use native.Mathlib.Omega.{arith}
use mathlib.Core.Path.{◌≡◌, refl, sym, ap, subst, ◌∙◌}
use mathlib.Core.Bool.{Bool, true, false, ◌&&◌, ◌||◌, not}
use mathlib.Core.List.{List}
use mathlib.Core.Logic.{◌⊎◌, inl, inr}
use borrow.Author.Tests.{eqb-true, eqb-false}
use lib.Dec.{eqb}
use lib.ListN.{length}
use Rattle.usb.specs.Pid.{IN, OUT}
use Rattle.transaction.specs.Payload.{start_pid}
use Rattle.transaction.specs.Table.{pick}
use Rattle.transaction.specs.declared.Style.{Style}
use Rattle.transaction.specs.declared.Style.TheVariants.{Nothing, Simple, Split, Token}
use Rattle.endpoints.specs.Table.{with_phase}
use Rattle.endpoints.specs.declared.Endpoint.{Endpoint}
use Rattle.endpoints.specs.declared.Phase.{Phase}
use Rattle.endpoints.specs.declared.Phase.TheVariants.{None, Early, Active, Ended}
use Rattle.descriptors.specs.Kind.{kind_of}
use Rattle.descriptors.specs.Laid.{is_laid}
use Rattle.group.specs.Setup.{direction, with_data}
use Rattle.group.specs.Step.{is_active}
use Rattle.group.specs.Control.{stage_of}
use Rattle.rules.specs.World.{World, phase, change, more_transactions, more_groups, with_last, cleared}
use Rattle.rules.specs.Groups.{link, close_phase, activated, starts_early, undecided, group_early_start, group_early_append}
use Rattle.rules.specs.declared.Slot.{Slot}
use Rattle.rules.specs.declared.Slot.TheVariants.{Empty, Current, Suspended}
use Rattle.update.specs.Entry.{close_entry, entry_after}
use Rattle.update.specs.Update.{when, links, early, become, act, decide_early_start, decide_early_append}
use Rattle.update.specs.declared.Then.{Then}
use Rattle.update.specs.declared.Then.TheVariants.{Keep, Begin, BeginFailed, Last, BeginEarly}
use Rattle.update.specs.declared.Update.{Update}
use Rattle.update.proofs.After.{act-entry, act-other}
use Rattle.update.proofs.Decided.{early-start-is, early-append-is}
use Rattle.plan.proofs.Frame.{Parts, by_parts, other-after}
use Rattle.demands.specs.Shelf.{Agree}
use Rattle.demands.proofs.Alike.{fewer}
use Rattle.unread.proofs.Stages.{never, is_data, awaits}

-- ---- what it goes by

pub record Plain : Type 0 where
  pub count : ℕ
  pub devices : ℕ
  -- of each device
  pub kept : ℕ → ℕ
  -- of each endpoint
  pub device : ℕ → ℕ
  pub address : ℕ → ℕ
  pub setup : ℕ → ℕ
  pub payload : ℕ → ℕ
  pub pending : ℕ → Bool
  -- of the transaction
  pub slot : Slot
  pub style : Style
  pub endpoint : ℕ
  pub filled : Bool
  pub brought : ℕ

abbrev pub plain : World → Plain
plain w =
    record {
      count = w.count;
      devices = w.device_count;
      kept = λ i. (w.devices i).kept;
      device = λ x. (w.endpoints x).device;
      address = λ x. (w.endpoints x).address;
      setup = λ x. (w.endpoints x).setup;
      payload = λ x. (w.endpoints x).payload;
      pending = λ x. (w.endpoints x).pending;
      slot = w.slot;
      style = w.transaction.style;
      endpoint = w.transaction.endpoint;
      filled = w.transaction.filled;
      brought = w.transaction.payload;
    }

-- and which endpoints await data
pub record View : Type 0 where
  pub plain : Plain
  pub awaited : ℕ → Bool

abbrev pub view : World → View
view w = record { plain = plain w; awaited = λ x. awaits (w.endpoints x) }

-- ---- what is in common

-- INs go to endpoints that face in and to number 0, OUTs to those that do not face in
abbrev pub Aims : ℕ → ℕ → Type 0
Aims pid address = (pid ≡ IN → (128 ≤ address) ⊎ (address ≡ 0)) × (pid ≡ OUT → address < 128)

-- a split without its token has no payload
abbrev pub Unfilled : Style → Bool → Type 0
Unfilled Nothing b = Unit {0}
Unfilled (Simple first) b = Unit {0}
Unfilled (Split sc kind) b = b ≡ false
Unfilled (Token sc kind pid) b = Unit {0}

module _ (h g : List ℕ) where
  pub record Still (w : View) : Type 0 where
    pub long : length h ≡ length g
    -- the special endpoints stand, and each endpoint's device is there
    pub three : 3 ≤ w.plain.count
    pub event : w.plain.address 0 ≡ 16
    pub owner : (x : ℕ) → w.plain.device x < w.plain.devices
    -- the entries that each device keeps
    pub entries : (i : ℕ) → i < w.plain.devices → Agree (i * 8192 + 4096) (min (w.plain.kept i) 585 * 7) h g
    -- the bytes of a read that count
    pub payload : (x : ℕ) → is_laid (kind_of (w.plain.setup x)) ≡ true → Agree (w.plain.device x * 8192) (min (w.plain.payload x) 4096) h g
    -- a payload that waits
    pub waits : (x : ℕ) → w.plain.pending x ≡ true → (w.plain.address x < 128) × (w.plain.address x ≡ 0 → w.awaited x ≡ true → ⊥)

  -- of the transaction: what an IN brought to a read stands behind the bytes that count
  pub record Brings (v : Plain) : Type 0 where
    pub there : v.endpoint < v.count
    pub split : Unfilled v.style v.filled
    pub aims : Aims (start_pid v.style) (v.address v.endpoint)
    pub bytes : start_pid v.style ≡ IN → v.filled ≡ true → is_laid (kind_of (v.setup v.endpoint)) ≡ true
        → Agree (v.device v.endpoint * 8192) (min (v.payload v.endpoint + v.brought) 4096) h g

  abbrev pub BringsIn : Slot → Plain → Type 0
  BringsIn Empty v = Unit {0}
  BringsIn Current v = Brings v
  BringsIn Suspended v = Brings v

  pub record Kin (v : View) : Type 0 where
    pub still : Still v
    pub brings : BringsIn v.plain.slot v.plain

-- ---- steps that leave it

-- the same endpoints and devices, with no more payload, and the same transaction
pub record Mild (p q : Plain) : Type 0 where
  pub count : q.count ≡ p.count
  pub devices : q.devices ≡ p.devices
  pub kept : (i : ℕ) → q.kept i ≡ p.kept i
  pub device : (x : ℕ) → q.device x ≡ p.device x
  pub address : (x : ℕ) → q.address x ≡ p.address x
  pub setup : (x : ℕ) → q.setup x ≡ p.setup x
  pub payload : (x : ℕ) → q.payload x ≤ p.payload x
  pub pending : (x : ℕ) → q.pending x ≡ p.pending x
  pub slot : q.slot ≡ p.slot
  pub style : q.style ≡ p.style
  pub endpoint : q.endpoint ≡ p.endpoint
  pub filled : q.filled ≡ p.filled
  pub brought : q.brought ≡ p.brought

-- and no endpoint awaits data that did not
pub record Tame (p q : View) : Type 0 where
  pub mild : Mild p.plain q.plain
  pub awaited : (x : ℕ) → q.awaited x ≡ true → p.awaited x ≡ true

pub level : {p : Plain} → Mild p p
level {p} =
    record { count = refl; devices = refl; kept = λ i. refl; device = λ x. refl; address = λ x. refl; setup = λ x. refl; payload = λ x. le_refl (p.payload x); pending = λ x. refl; slot = refl; style = refl; endpoint = refl; filled = refl; brought = refl }

pub then : {p q r : Plain} → Mild p q → Mild q r → Mild p r
then a b =
    record {
      count = b.count ∙ a.count;
      devices = b.devices ∙ a.devices;
      kept = λ i. b.kept i ∙ a.kept i;
      device = λ x. b.device x ∙ a.device x;
      address = λ x. b.address x ∙ a.address x;
      setup = λ x. b.setup x ∙ a.setup x;
      payload = λ x. omega (arith, a.payload x, b.payload x);
      pending = λ x. b.pending x ∙ a.pending x;
      slot = b.slot ∙ a.slot;
      style = b.style ∙ a.style;
      endpoint = b.endpoint ∙ a.endpoint;
      filled = b.filled ∙ a.filled;
      brought = b.brought ∙ a.brought;
    }

module _ (h g : List ℕ) where
  pub agree_at : (d e m n : ℕ) → e ≡ d → m ≤ n → Agree (d * 8192) (min n 4096) h g → Agree (e * 8192) (min m 4096) h g
  agree_at d e m n q l a =
      subst (λ (k : ℕ). Agree (k * 8192) (min m 4096) h g) (sym q) (fewer (d * 8192) (min m 4096) (min n 4096) h g (omega arith) a)

  pub still_tame : {a b : View} → Tame a b → Still h g a → Still h g b
  still_tame {a} {b} t s =
      let m = t.mild in
      let p = a.plain in
      let q = b.plain in
      record {
        long = s.long;
        three = omega (arith, m.count, s.three);
        event = m.address 0 ∙ s.event;
        owner = λ x. omega (arith, m.device x, m.devices, s.owner x);
        entries = λ i l. subst (λ (k : ℕ). Agree (i * 8192 + 4096) (min k 585 * 7) h g) (sym (m.kept i)) (s.entries i (omega (arith, m.devices)));
        payload = λ x r. agree_at (p.device x) (q.device x) (q.payload x) (p.payload x) (m.device x) (m.payload x) (s.payload x (ap (λ (k : ℕ). is_laid (kind_of k)) (sym (m.setup x)) ∙ r));
        waits = λ x r. (let w = s.waits x (sym (m.pending x) ∙ r) in (omega (arith, m.address x, w.0), λ z y. w.1 (sym (m.address x) ∙ z) (t.awaited x y)));
      }

  -- the transaction's part goes by a mild step alone
  brings_mild : {p q : Plain} → Mild p q → Brings h g p → Brings h g q
  brings_mild {p} {q} m b =
      let x = p.endpoint in
      let y = q.endpoint in
      let e : q.address y ≡ p.address x = m.address y ∙ ap p.address m.endpoint in
      let d : q.device y ≡ p.device x = m.device y ∙ ap p.device m.endpoint in
      let u : q.setup y ≡ p.setup x = m.setup y ∙ ap p.setup m.endpoint in
      let n : p.payload y ≡ p.payload x = ap p.payload m.endpoint in
      record {
        there = omega (arith, m.endpoint, m.count, b.there);
        split = subst (λ (s : Style). Unfilled s q.filled) (sym m.style) (subst (Unfilled p.style) (sym m.filled) b.split);
        aims = subst (λ (s : Style). Aims (start_pid s) (q.address y)) (sym m.style) (subst (Aims (start_pid p.style)) (sym e) b.aims);
        bytes = λ i f r. agree_at (p.device x) (q.device y) (q.payload y + q.brought) (p.payload x + p.brought) d (omega (arith, m.payload y, n, m.brought))
            (b.bytes (ap start_pid (sym m.style) ∙ i) (sym m.filled ∙ f) (ap (λ (k : ℕ). is_laid (kind_of k)) (sym u) ∙ r));
      }

  brings_in : (s : Slot) {p q : Plain} → Mild p q → BringsIn h g s p → BringsIn h g s q
  brings_in Empty m b = tt
  brings_in Current m b = brings_mild m b
  brings_in Suspended m b = brings_mild m b

  pub kin_tame : {p q : View} → Tame p q → Kin h g p → Kin h g q
  kin_tame {p} {q} t k =
      record { still = still_tame t k.still; brings = subst (λ (s : Slot). BringsIn h g s q.plain) (sym t.mild.slot) (brings_in p.plain.slot t.mild k.brings) }

  -- where the slot is empty
  pub kin-empty : {p : View} → p.plain.slot ≡ Empty → Still h g p → Kin h g p
  kin-empty {p} q s = record { still = s; brings = subst (λ (z : Slot). BringsIn h g z p.plain) (sym q) tt }

-- ---- one endpoint changed

pub record Softly (a b : Endpoint) : Type 0 where
  pub device : b.device ≡ a.device
  pub address : b.address ≡ a.address
  pub setup : b.setup ≡ a.setup
  pub payload : b.payload ≤ a.payload
  pub pending : b.pending ≡ a.pending

pub changes : (x : ℕ) (f : Endpoint → Endpoint) → ((a : Endpoint) → Softly a (f a)) → (w : World) → Mild (plain w) (plain (change x f w))
changes x f s w =
    record {
      count = refl;
      devices = refl;
      kept = λ i. refl;
      device = λ j. same (λ (e : Endpoint). e.device) (λ a. (s a).device) j;
      address = λ j. same (λ (e : Endpoint). e.address) (λ a. (s a).address) j;
      setup = λ j. same (λ (e : Endpoint). e.setup) (λ a. (s a).setup) j;
      payload = λ j. less (eqb j x) (w.endpoints j);
      pending = λ j. flag (eqb j x) (w.endpoints j);
      slot = refl;
      style = refl;
      endpoint = refl;
      filled = refl;
      brought = refl;
    }
  where
    same : (k : Endpoint → ℕ) → ((a : Endpoint) → k (f a) ≡ k a) → (j : ℕ) → k (pick (eqb j x) (f (w.endpoints j)) (w.endpoints j)) ≡ k (w.endpoints j)
    same k q j = by (eqb j x)
      where
        by : (b : Bool) → k (pick b (f (w.endpoints j)) (w.endpoints j)) ≡ k (w.endpoints j)
        by true = q (w.endpoints j)
        by false = refl

    less : (b : Bool) (a : Endpoint) → (pick b (f a) a).payload ≤ a.payload
    less true a = (s a).payload
    less false a = le_refl a.payload

    flag : (b : Bool) (a : Endpoint) → (pick b (f a) a).pending ≡ a.pending
    flag true a = (s a).pending
    flag false a = refl

-- a function that leaves all of it
pub soft : (a b : Endpoint) → b.device ≡ a.device → b.address ≡ a.address → b.setup ≡ a.setup → b.payload ≤ a.payload → b.pending ≡ a.pending → Softly a b
soft a b d e s p q = record { device = d; address = e; setup = s; payload = p; pending = q }

-- ---- an update, part by part

abbrev Milds : (World → World) → Type 0
Milds f = (w : World) → Mild (plain w) (plain (f w))

parts : (x : ℕ) → Parts Milds x
parts x =
    record {
      over = λ w. changes x (with_phase Ended) (λ a. soft a _ refl refl refl (le_refl a.payload) refl) w;
      cut = λ w. changes x (with_phase Ended) (λ a. soft a _ refl refl refl (le_refl a.payload) refl) w;
      link = λ w. changes x more_transactions (λ a. soft a _ refl refl refl (le_refl a.payload) refl) w;
      start = λ w. changes x more_groups (λ a. soft a _ refl refl refl (le_refl a.payload) refl) w;
      group = becoming;
      end = λ w. then (changes x cleared (λ a. soft a _ refl refl refl zero-le refl) w) (changes x (with_phase Ended) (λ a. soft a _ refl refl refl (le_refl a.payload) refl) (change x cleared w));
      item = λ w. level;
    }
  where
    becoming : (t : Then) → Milds (become t x)
    becoming Keep w = level
    becoming Begin w = changes x (activated true (start_pid w.transaction.style)) (λ a. soft a _ refl refl refl zero-le refl) w
    becoming BeginFailed w = changes x (activated false (start_pid w.transaction.style)) (λ a. soft a _ refl refl refl zero-le refl) w
    becoming Last w = changes x (with_last (start_pid w.transaction.style)) (λ a. soft a _ refl refl refl (le_refl a.payload) refl) w
    becoming BeginEarly w = changes x (with_phase Early) (λ a. soft a _ refl refl refl (le_refl a.payload) refl) w

pub act_mild : (u : Update) (x : ℕ) → Milds (act u x)
act_mild u x = by_parts Milds may (λ f k p q w. then (p w) (q (f w))) x (parts x) u
  where
    may : (b : Bool) (f : World → World) → Milds f → Milds (when b f)
    may true f s w = s w
    may false f s w = level

-- ---- of the other endpoints it leaves alone which of them await data

pub close-awaits : (e : Endpoint) → awaits (close_entry e) ≡ awaits e
close-awaits e = ap (λ (b : Bool). b && (e.done && is_data (stage_of (direction e.setup) (with_data e.setup) e.last IN))) (by e.phase)
  where
    by : (p : Phase) → is_active (close_phase p) ≡ is_active p
    by None = refl
    by Early = refl
    by Active = refl
    by Ended = refl

pub other-awaits : (u : Update) (x j : ℕ) (w : World) → (j ≡ x → ⊥) → awaits ((act u x w).endpoints j) ≡ awaits (w.endpoints j)
other-awaits u x j w ne = ap awaits (act-other x j ne u w) ∙ other-after awaits (λ s e. refl) close-awaits u x (w.endpoints j)

-- of its own, where its entry does
act_tame : (u : Update) (x : ℕ) (w : World) → (awaits (entry_after u (start_pid w.transaction.style) (w.endpoints x)) ≡ true → awaits (w.endpoints x) ≡ true)
    → Tame (view w) (view (act u x w))
act_tame u x w h = record { mild = act_mild u x w; awaited = λ j. by j (eqb j x) refl }
  where
    by : (j : ℕ) (b : Bool) → eqb j x ≡ b → awaits ((act u x w).endpoints j) ≡ true → awaits (w.endpoints j) ≡ true
    by j true q =
        subst (λ (k : ℕ). awaits ((act u x w).endpoints k) ≡ true → awaits (w.endpoints k) ≡ true) (sym (eqb-true j x q))
        (λ a. h (ap awaits (sym (act-entry u x w)) ∙ a))
    by j false q = λ a. sym (other-awaits u x j w (eqb-false j x q)) ∙ a

-- ---- a group that starts early, and a T row

pub link-awaits : (l : Bool) (pid : ℕ) (e : Endpoint) → awaits (entry_after (links l Keep) pid e) ≡ true → awaits e ≡ true
unfolding entry_after
link-awaits true pid e h = h
link-awaits false pid e h = h

early-awaits : (p : Phase) (l : Bool) (pid : ℕ) (e : Endpoint) → awaits (entry_after (early p l) pid e) ≡ true → awaits e ≡ true
unfolding entry_after
early-awaits None true pid e h = never h
early-awaits None false pid e h = never h
early-awaits Early true pid e h = never h
early-awaits Early false pid e h = never h
early-awaits Active true pid e h = never h
early-awaits Active false pid e h = never h
early-awaits Ended true pid e h = never h
early-awaits Ended false pid e h = never h

pub start_tame : (pid x : ℕ) (w : World) → Tame (view w) (view (group_early_start pid x w))
start_tame pid x w =
    subst (λ (v : World). Tame (view w) (view v)) (sym (early-start-is pid x w))
    (act_tame (decide_early_start pid (phase x w) w.transaction.linked) x w (by (starts_early pid (phase x w))))
  where
    by : (b : Bool) → awaits (entry_after (pick b (early (phase x w) w.transaction.linked) (links false Keep)) (start_pid w.transaction.style) (w.endpoints x)) ≡ true → awaits (w.endpoints x) ≡ true
    by true = early-awaits (phase x w) w.transaction.linked (start_pid w.transaction.style) (w.endpoints x)
    by false = link-awaits false (start_pid w.transaction.style) (w.endpoints x)

pub append_tame : (w : World) → Tame (view w) (view (group_early_append w))
append_tame w =
    let x = w.transaction.endpoint in
    subst (λ (v : World). Tame (view w) (view v)) (sym (early-append-is w))
    (act_tame (decide_early_append w.transaction (w.endpoints x)) x w
    (link-awaits (pick (eqb x 0 || undecided (w.endpoints x)) false (not w.transaction.linked)) (start_pid w.transaction.style) (w.endpoints x)))

pub link_tame : (x : ℕ) (w : World) → Tame (view w) (view (link x w))
link_tame x w = act_tame (links true Keep) x w (link-awaits true (start_pid w.transaction.style) (w.endpoints x))
