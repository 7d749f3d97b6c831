-- What extract_payload leaves as it was, for the crates above.
use mathlib.Core.Bool.{Bool, true, false, ◌&&◌}
use mathlib.Core.Path.{◌≡◌, refl}
use Prim.Native.Nat.{ℕ, ◌-◌}
use lib.Dec.{eqb}
use Rattle.usb.specs.Pid.{DATA0}
use Rattle.transaction.specs.declared.Transaction.{Transaction}
use Rattle.transaction.specs.Table.{pick}
use Rattle.transaction.specs.Payload.{takes_setup, yields, changed, with_setup, with_payload, extract_payload}

pub record Kept (t u : Transaction) : Type 0 where
  pub style : u.style ≡ t.style
  pub id : u.id ≡ t.id
  pub last : u.last ≡ t.last
  pub endpoint : u.endpoint ≡ t.endpoint
  pub kind : u.kind ≡ t.kind
  pub linked : u.linked ≡ t.linked
  pub link : u.link ≡ t.link

changed-kept : (t : Transaction) (r : Bool) (s : ℕ) (f : Bool) (n : ℕ) → Kept t (changed t r s f n)
changed-kept t r s f n = record { style = refl; id = refl; last = refl; endpoint = refl; kind = refl; linked = refl; link = refl }

by_tests : (a b : Bool) (t : Transaction) (s n : ℕ) → Kept t (pick a (with_setup t s) (pick b (with_payload t n) t))
by_tests true b t s n = changed-kept t true s t.filled t.payload
by_tests false true t s n = changed-kept t t.ready t.setup true n
by_tests false false t s n = changed-kept t t.ready t.setup t.filled t.payload

pub extract-keeps : (high : Bool) (t : Transaction) (pid len setup : ℕ) → Kept t (extract_payload high t pid len setup)
unfolding extract_payload
extract-keeps high t pid len setup = by_tests (eqb pid DATA0 && takes_setup t.style) (yields high pid) t setup (len - 3)
