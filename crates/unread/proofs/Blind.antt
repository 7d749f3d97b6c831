-- The functions of the rules that do not look at the shelf, and two worlds beside each other that differ in their shelves alone.
use Prim.Native.Nat.{ℕ, ◌+◌}
use mathlib.Core.Path.{◌≡◌, refl, sym, ap, subst, ◌∙◌}
use mathlib.Core.Bool.{Bool, true, false}
use mathlib.Core.List.{List}
use lib.Dec.{eqb}
use Rattle.usb.specs.Fields.{token_of}
use Rattle.usb.specs.Pid.{SETUP, IN, OUT, SOF, PING, SPLIT, MALFORMED}
use Rattle.transaction.specs.Table.{pick, only, ◌or◌}
use Rattle.transaction.specs.declared.Style.{Style}
use Rattle.transaction.specs.declared.Style.TheVariants.{Nothing as NoStyle, Simple, Split, Token}
use Rattle.details.specs.Kind.{Unknown}
use Rattle.std.specs.Prelude.{Option, Some, None}
use Rattle.rules.specs.World.{World, with_shelf, with_transaction, phase, with_id, with_pid, with_token, new_transaction}
use Rattle.rules.specs.Endpoints.{device_for, add_endpoint_on, address_for, endpoint_lookup, found, number_at, packet_endpoint_at, packet_endpoint, endpoint_of, set_endpoint_type}
use Rattle.rules.specs.Groups.{group_early_start, group_early_append}
use Rattle.rules.specs.Transactions.{append_token, transaction_append, push_transaction, begin, type_of, begin_on, begin_split, begin_plain, transaction_start, resume_at}
use Rattle.rules.specs.declared.Slot.{Slot}
use Rattle.rules.specs.declared.Slot.TheVariants.{Empty, Current, Suspended}
use Rattle.update.specs.Update.{act, decide_early_start, decide_early_append}
use Rattle.update.specs.declared.Update.{Update}
use Rattle.update.proofs.Decided.{early-start-is, early-append-is}
use Rattle.demands.proofs.Unread.{act-shelf}
use Rattle.unread.proofs.Kin.{View, view}

abbrev pub Blind : (World → World) → Type 0
Blind f = (g : List ℕ) (w : World) → f (with_shelf g w) ≡ with_shelf g (f w)

-- so it leaves its own
pub blind-shelf : (f : World → World) → Blind f → (w : World) → (f w).shelf ≡ w.shelf
blind-shelf f b w = ap (λ (v : World). v.shelf) (b w.shelf w)

-- ---- two worlds beside each other, with what their shelves have in common

pub record Beside (P : List ℕ → List ℕ → View → Type 0) (w v : World) : Type 0 where
  pub h : List ℕ
  pub g : List ℕ
  pub mine : w.shelf ≡ h
  pub other : v ≡ with_shelf g w
  pub holds : P h g (view w)

pub blindly : (P Q : List ℕ → List ℕ → View → Type 0) (f : World → World) → Blind f → ((h g : List ℕ) (w : World) → P h g (view w) → Q h g (view (f w)))
    → (w v : World) → Beside P w v → Beside Q (f w) (f v)
blindly P Q f b k w v x =
    record { h = x.h; g = x.g; mine = blind-shelf f b w ∙ x.mine; other = ap f x.other ∙ b x.g w; holds = k x.h x.g w x.holds }

pub weaker : (P Q : List ℕ → List ℕ → View → Type 0) → ((h g : List ℕ) (v : View) → P h g v → Q h g v) → {w v : World} → Beside P w v → Beside Q w v
weaker P Q k {w} {v} x = record { h = x.h; g = x.g; mine = x.mine; other = x.other; holds = k x.h x.g (view w) x.holds }

-- ---- groups that start early, T rows

pub early-start_blind : (pid x : ℕ) → Blind (group_early_start pid x)
early-start_blind pid x g w =
    let u = decide_early_start pid (phase x w) w.transaction.linked in
    early-start-is pid x (with_shelf g w) ∙ (act-shelf g u x w ∙ ap (with_shelf g) (sym (early-start-is pid x w)))

pub early-append_blind : Blind group_early_append
early-append_blind g w =
    let u = decide_early_append w.transaction (w.endpoints w.transaction.endpoint) in
    early-append-is (with_shelf g w) ∙ (act-shelf g u w.transaction.endpoint w ∙ ap (with_shelf g) (sym (early-append-is w)))

-- ---- the endpoint of a packet

add_blind : (f : Option ℕ) (d a : ℕ) → Blind (add_endpoint_on f d a)
add_blind (Some i) d a g w = refl
add_blind None d a g w = refl

place_blind : (f : Option ℕ) (pid : ℕ) (p : List ℕ) (g : List ℕ) (w : World) → packet_endpoint_at f pid p (with_shelf g w) ≡ with_shelf g (packet_endpoint_at f pid p w)
place_blind (Some i) pid p g w = refl
place_blind None pid p g w = add_blind (device_for (token_of p).address w) (token_of p).address (address_for pid (token_of p).number) g w

lookup_blind : (f : Option ℕ) (a : ℕ) (g : List ℕ) (w : World) → endpoint_lookup f a (with_shelf g w) ≡ endpoint_lookup f a w
lookup_blind (Some i) a g w = refl
lookup_blind None a g w = refl

found_blind : (pid : ℕ) (p g : List ℕ) (w : World) → found pid p (with_shelf g w) ≡ found pid p w
found_blind pid p g w =
    ap (λ (f : Option ℕ). pick (eqb pid SOF) (Some 2) (pick ((SETUP or IN or OUT or only PING) pid) f (Some 1)))
    (lookup_blind (device_for (token_of p).address w) (address_for pid (token_of p).number) g w)

number_blind : (f : Option ℕ) (g : List ℕ) (w : World) → number_at f (with_shelf g w) ≡ number_at f w
number_blind (Some i) g w = refl
number_blind None g w = refl

endpoint_blind : (pid : ℕ) (p g : List ℕ) (w : World) → endpoint_of pid p (with_shelf g w) ≡ endpoint_of pid p w
endpoint_blind pid p g w = ap (λ (f : Option ℕ). number_at f (with_shelf g w)) (found_blind pid p g w) ∙ number_blind (found pid p w) g w

packet_blind : (pid : ℕ) (p : List ℕ) → Blind (packet_endpoint pid p)
packet_blind pid p g w = ap (λ (f : Option ℕ). packet_endpoint_at f pid p (with_shelf g w)) (found_blind pid p g w) ∙ place_blind (found pid p w) pid p g w

-- ---- transaction_append

token_blind : (s : Style) (pid : ℕ) (p : List ℕ) → Blind (append_token s pid p)
token_blind NoStyle pid p g w = refl
token_blind (Simple first) pid p g w = refl
token_blind (Split sc kind) pid p g w =
    let x = endpoint_of pid p w in
    ap (λ (y : ℕ). with_transaction (with_token (Token sc kind pid) y w.transaction) (set_endpoint_type y kind (packet_endpoint pid p (with_shelf g w)))) (endpoint_blind pid p g w)
    ∙ ap (λ (v : World). with_transaction (with_token (Token sc kind pid) x w.transaction) (set_endpoint_type x kind v)) (packet_blind pid p g w)
token_blind (Token sc kind first) pid p g w = refl

pub append_blind : (pid : ℕ) (p : List ℕ) → Blind (transaction_append pid p)
append_blind pid p g w = ap (λ (v : World). with_transaction (with_pid pid v.transaction) v) (token_blind w.transaction.style pid p g w)

-- ---- transaction_start

on_blind : (x kind pid n : ℕ) → Blind (begin_on x kind pid n)
on_blind x kind pid n g w = early-start_blind pid x g (begin (new_transaction (Simple pid) n pid x kind) w)

plain_blind : (pid : ℕ) (p : List ℕ) (n : ℕ) → Blind (begin_plain pid p n)
plain_blind pid p n g w =
    let x = endpoint_of pid p w in
    ap (λ (y : ℕ). begin_on y (type_of y (packet_endpoint pid p (with_shelf g w))) pid n (packet_endpoint pid p (with_shelf g w))) (endpoint_blind pid p g w)
    ∙ ap (λ (v : World). begin_on x (type_of x v) pid n v) (packet_blind pid p g w) ∙ on_blind x (type_of x (packet_endpoint pid p w)) pid n g (packet_endpoint pid p w)

pub start_blind : (id pid : ℕ) (p : List ℕ) → Blind (transaction_start id pid p)
start_blind id pid p g w = by (eqb pid MALFORMED) (eqb pid SPLIT)
  where
    n : ℕ
    n = w.transactions

    v : World
    v = push_transaction id w

    by : (a b : Bool) → pick a (begin_on 1 Unknown pid n (with_shelf g v)) (pick b (begin_split p pid n (with_shelf g v)) (begin_plain pid p n (with_shelf g v)))
        ≡ with_shelf g (pick a (begin_on 1 Unknown pid n v) (pick b (begin_split p pid n v) (begin_plain pid p n v)))
    by true b = on_blind 1 Unknown pid n g v
    by false true = refl
    by false false = plain_blind pid p n g v

-- ---- a suspended transaction that is resumed

pub resume_blind : (s : Slot) (id : ℕ) → Blind (resume_at s id)
resume_blind Empty id g w = refl
resume_blind Current id g w = refl
resume_blind Suspended id g w = refl
