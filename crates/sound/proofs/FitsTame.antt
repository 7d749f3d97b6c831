-- What stands while a call is under way, on the parts of a world that it speaks of, and which changes of the endpoints keep it.
use Prim.Native.Nat.{ℕ, suc, ◌+◌, ◌<◌, ◌≤◌}
use native.Mathlib.Nat.{le_refl}
use native.Mathlib.Omega.{arith}
use mathlib.Core.Bool.{Bool, true, false}
use mathlib.Core.Logic.{◌⊎◌, inr}
use mathlib.Core.Path.{◌≡◌, refl, sym, ap, ◌∙◌}
use borrow.Author.Tests.{eqb-true}
use lib.Dec.{eqb}
use Rattle.transaction.specs.Table.{pick}
use Rattle.transaction.specs.declared.Transaction.{Transaction}
use Rattle.endpoints.specs.Table.{with_phase}
use Rattle.endpoints.specs.declared.Endpoint.{Endpoint}
use Rattle.endpoints.specs.declared.Phase.{Phase}
use Rattle.rules.specs.World.{World, no_item, more_transactions, more_groups}
use Rattle.record.specs.Formed.{standing, holds}
use Rattle.record.proofs.FormedLaws.{Special}
use Rattle.sound.specs.Fit.{link_rows, EntryFit, HeldFit, Fit}

-- Fit, of c endpoints f, d devices, the first at a, r transaction rows, i items with the last on l, and k link rows. The transaction t is on y;
-- whether it counts is b
pub record Stands (b : Bool) (y : ℕ) (f : ℕ → Endpoint) (c a d : ℕ) (t : Transaction) (r l i k : ℕ) : Type 0 where
  pub device : 0 < d
  pub first : a ≡ 0
  pub three : 3 ≤ c
  pub event : Special (f 0) 0x10
  pub invalid : Special (f 1) 0x11
  pub framing : Special (f 2) 0x12
  pub rests : standing (f 0).phase ≡ false
  pub entries : (j : ℕ) → j < c → EntryFit k d (f j)
  pub held : b ≡ true → HeldFit t f c r
  pub last : (l ≡ no_item) ⊎ ((l < c) × (0 < i))
  pub target : t.endpoint ≡ y

-- n link rows stood before the journal
abbrev pub StandsIn : ℕ → Bool → ℕ → World → Type 0
StandsIn n b y w =
    Stands b y w.endpoints w.count (w.devices 0).address w.device_count w.transaction w.transactions w.last_item w.items (n + link_rows w.journal)

pub begun : (n : ℕ) (w : World) → Fit n w → StandsIn n (holds w.slot) w.transaction.endpoint w
begun n w f =
    record { device = f.device; first = f.first; three = f.three; event = f.event; invalid = f.invalid; framing = f.framing; rests = f.rests; entries = f.entries; held = f.held; last = f.last; target = refl }

-- it counts where the slot holds it
pub done : (n : ℕ) (b : Bool) (y : ℕ) (w : World) → (holds w.slot ≡ true → b ≡ true) → StandsIn n b y w → Fit n w
done n b y w h l =
    record { device = l.device; first = l.first; three = l.three; event = l.event; invalid = l.invalid; framing = l.framing; rests = l.rests; entries = l.entries; held = λ q. l.held (h q); last = l.last }

-- ---- an endpoint changed

-- b may stand for a at place j, where k link rows have become k'
pub record Tame (j k k' d : ℕ) (a b : Endpoint) : Type 0 where
  pub device : b.device ≡ a.device
  pub address : b.address ≡ a.address
  pub more : a.transactions ≤ b.transactions
  pub rests : j ≡ 0 → standing a.phase ≡ false → standing b.phase ≡ false
  pub fits : EntryFit k d a → EntryFit k' d b

pub wider : {k k' d d' : ℕ} {e : Endpoint} → k ≤ k' → d ≤ d' → EntryFit k d e → EntryFit k' d' e
wider h g e =
    record { transactions = omega (arith, e.transactions); groups = omega (arith, e.groups); device = omega (arith, e.device); pendinglink = e.pendinglink; group = e.group }

pub same : {j k k' d : ℕ} {a : Endpoint} → k ≤ k' → Tame j k k' d a a
same {a = a} h = record { device = refl; address = refl; more = le_refl a.transactions; rests = λ z q. q; fits = wider h (le_refl _) }

special : {j k k' d m : ℕ} {a b : Endpoint} → Tame j k k' d a b → Special a m → Special b m
special h s = record { device = h.device ∙ s.device; address = h.address ∙ s.address }

-- each endpoint changed so
pub spread : {b : Bool} {y : ℕ} {f g : ℕ → Endpoint} {c a d : ℕ} {t : Transaction} {r l i k k' : ℕ} → ((j : ℕ) → Tame j k k' d (f j) (g j)) → Stands b y f c a d t r l i k → Stands b y g c a d t r l i k'
spread {t = t} h s =
    record {
      device = s.device;
      first = s.first;
      three = s.three;
      event = special (h 0) s.event;
      invalid = special (h 1) s.invalid;
      framing = special (h 2) s.framing;
      rests = (h 0).rests refl s.rests;
      entries = λ j q. (h j).fits (s.entries j q);
      held = λ q. (let u = s.held q in record { endpoint = u.endpoint; id = u.id; link = λ z. ((u.link z).0, omega (arith, (u.link z).1, (h t.endpoint).more)) });
      last = s.last;
      target = s.target;
    }

-- one changed, at x
pub one-changed : (x : ℕ) (h : Endpoint → Endpoint) (f : ℕ → Endpoint) {k k' d : ℕ} → k ≤ k' → Tame x k k' d (f x) (h (f x)) → (j : ℕ) → Tame j k k' d (f j) (pick (eqb j x) (h (f j)) (f j))
one-changed x h f {k} {k'} {d} le at j = by (eqb j x) refl
  where
    by : (q : Bool) → eqb j x ≡ q → Tame j k k' d (f j) (pick q (h (f j)) (f j))
    by true q = let s : j ≡ x = eqb-true j x q in rw s at
    by false q = same le

-- ---- the changes that the rules make

module _ {j k d : ℕ} (a : Endpoint) where
  -- nothing that it speaks of but what waits
  pub alike : (b : Endpoint) → b.device ≡ a.device → b.address ≡ a.address → b.phase ≡ a.phase → b.transactions ≡ a.transactions → b.groups ≡ a.groups → (EntryFit k d a → b.pending ≡ true → b.pendinglink < b.transactions) → Tame j k k d a b
  alike b hd ha hp ht hg hw =
      record { device = hd; address = ha; more = omega arith; rests = λ z q. ap standing hp ∙ q; fits = λ e. record { transactions = omega (arith, e.transactions); groups = omega (arith, e.groups); device = omega (arith, e.device); pendinglink = hw e; group = λ q. omega (arith, e.group (sym (ap standing hp) ∙ q)) } }

  -- another phase: one that stands only where there is a group, and at the event endpoint only where one stood
  pub phased : (p : Phase) → (j ≡ 0 → standing a.phase ≡ false → standing p ≡ false) → (EntryFit k d a → standing p ≡ true → 0 < a.groups) → Tame j k k d a (with_phase p a)
  phased p z g =
      record { device = refl; address = refl; more = le_refl _; rests = z; fits = λ e. record { transactions = e.transactions; groups = e.groups; device = e.device; pendinglink = e.pendinglink; group = g e } }

  pub more-transactions : Tame j k (suc k) d a (more_transactions a)
  more-transactions =
      record { device = refl; address = refl; more = omega arith; rests = λ z q. q; fits = λ e. record { transactions = omega (arith, e.transactions); groups = omega (arith, e.groups); device = e.device; pendinglink = λ q. omega (arith, e.pendinglink q); group = e.group } }

  pub more-groups : Tame j k (suc k) d a (more_groups a)
  more-groups =
      record { device = refl; address = refl; more = le_refl _; rests = λ z q. q; fits = λ e. record { transactions = omega (arith, e.transactions); groups = omega (arith, e.groups); device = e.device; pendinglink = e.pendinglink; group = λ q. omega arith } }

pub then : {j k k' k'' d : ℕ} {a b c : Endpoint} → Tame j k k' d a b → Tame j k' k'' d b c → Tame j k k'' d a c
then g h = record { device = h.device ∙ g.device; address = h.address ∙ g.address; more = omega (arith, g.more, h.more); rests = λ z q. h.rests z (g.rests z q); fits = λ e. h.fits (g.fits e) }

-- ---- the rest of a world changed

-- more link rows
pub longer : {b : Bool} {y : ℕ} {f : ℕ → Endpoint} {c a d : ℕ} {t : Transaction} {r l i k k' : ℕ} → k ≤ k' → Stands b y f c a d t r l i k → Stands b y f c a d t r l i k'
longer h s = spread (λ j. same h) s

-- another transaction, and more rows of them
pub carries : {b b' : Bool} {y y' : ℕ} {f : ℕ → Endpoint} {c a d : ℕ} {t t' : Transaction} {r r' l i k : ℕ} → (b' ≡ true → HeldFit t' f c r') → t'.endpoint ≡ y' → Stands b y f c a d t r l i k → Stands b' y' f c a d t' r' l i k
carries h q s =
    record { device = s.device; first = s.first; three = s.three; event = s.event; invalid = s.invalid; framing = s.framing; rests = s.rests; entries = s.entries; held = h; last = s.last; target = q }

-- a transaction that is on the same endpoint with the same T row, where there may be more rows
pub held_as : {t t' : Transaction} {f : ℕ → Endpoint} {c r r' : ℕ} → t'.endpoint ≡ t.endpoint → t'.id < r' → t'.linked ≡ t.linked → t'.link ≡ t.link → HeldFit t f c r → HeldFit t' f c r'
held_as he hi hk hl u = record { endpoint = omega (arith, u.endpoint); id = hi; link = λ z. (let v = u.link (sym hk ∙ z) in (omega (arith, v.0), rw (he, hl) v.1)) }

-- an item
pub itemed : {b : Bool} {y : ℕ} {f : ℕ → Endpoint} {c a d : ℕ} {t : Transaction} {r l l' i k : ℕ} → l' < c → Stands b y f c a d t r l i k → Stands b y f c a d t r l' (suc i) k
itemed h s =
    record { device = s.device; first = s.first; three = s.three; event = s.event; invalid = s.invalid; framing = s.framing; rests = s.rests; entries = s.entries; held = s.held; last = inr (h, omega arith); target = s.target }

-- the first device stays as it is, and there may be more of them
pub deviced : {b : Bool} {y : ℕ} {f : ℕ → Endpoint} {c a a' d d' : ℕ} {t : Transaction} {r l i k : ℕ} → a' ≡ a → d ≤ d' → Stands b y f c a d t r l i k → Stands b y f c a' d' t r l i k
deviced q h s =
    record { device = omega (arith, s.device); first = q ∙ s.first; three = s.three; event = s.event; invalid = s.invalid; framing = s.framing; rests = s.rests; entries = λ j z. wider (le_refl _) h (s.entries j z); held = s.held; last = s.last; target = s.target }
