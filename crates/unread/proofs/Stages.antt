-- The data stage of a control transfer by its setup data, the last token and the next; and what an endpoint that waits for the data of a read looks like.
use Prim.Native.Nat.{ℕ, ◌/◌, ◌<◌}
use native.Mathlib.Omega.{arith}
use mathlib.Core.Path.{◌≡◌, refl, sym, ap, ◌∙◌}
use mathlib.Core.Bool.{Bool, true, false, ◌&&◌, true≢false}
use mathlib.Core.List.{List, [], ◌∷◌}
use mathlib.Core.Logic.{◌⊎◌, inl, inr}
use borrow.Author.Tests.{eqb-true}
use lib.Dec.{eqb}
use Rattle.usb.specs.Fields.{setup_of, direction_of}
use Rattle.usb.specs.Pid.{SETUP, IN, OUT}
use Rattle.usb.specs.declared.fields.Setup.{Setup}
use Rattle.transaction.specs.Table.{pick, Row, fits, look}
use Rattle.endpoints.specs.declared.Endpoint.{Endpoint}
use Rattle.group.specs.Control.{stage_rows, stage_of}
use Rattle.group.specs.Setup.{direction, with_data}
use Rattle.group.specs.Step.{is_active}
use Rattle.group.specs.declared.control.Stage.{Stage}
use Rattle.group.specs.declared.control.Stage.TheVariants.{Data, Status, Ping, Wrong}
use Rattle.descriptors.specs.Kind.{is_read, is_set_configuration, is_set_interface, kind_by, kind_of}
use Rattle.descriptors.specs.Laid.{is_laid}
use Rattle.descriptors.specs.declared.request.Kind.{Kind}
use Rattle.descriptors.specs.declared.request.Kind.TheVariants.{DeviceRead, ConfigurationRead, SetConfiguration, SetInterface, Other}
use Rattle.record.specs.Bools.{both}

pub never : {A : Type 0} → false ≡ true → A
never h = absurd (true≢false (sym h))

-- ---- the data stage

abbrev pub is_data : Stage → Bool
is_data Data = true
is_data Status = false
is_data Ping = false
is_data Wrong = false

-- a request to the host takes its data by INs, after its SETUP or another IN; one to the device by OUTs
abbrev pub Tokens : ℕ → ℕ → ℕ → Type 0
Tokens dir last next = (((dir ≡ 1) × (next ≡ IN)) × ((last ≡ SETUP) ⊎ (last ≡ IN))) ⊎ ((dir ≡ 0) × (next ≡ OUT))

-- a table whose rows have it where their answer is Data
module _ (P : Type 0) where
  abbrev Each : List ℕ → List (Row Stage) → Type 0
  Each xs [] = Unit {0}
  Each xs (r ∷ rs) = (is_data r.answer ≡ true → fits r.tests xs ≡ true → P) × Each xs rs

  look_data : (rs : List (Row Stage)) (xs : List ℕ) → Each xs rs → is_data (look rs Wrong xs) ≡ true → P
  look_data [] xs a h = never h
  look_data (r ∷ rs) xs a h = by (fits r.tests xs) r.guard refl (look_data rs xs a.1) h
    where
      by : (b c : Bool) → fits r.tests xs ≡ b → (is_data (look rs Wrong xs) ≡ true → P) → is_data (pick (b && c) r.answer (look rs Wrong xs)) ≡ true → P
      by true true q f k = a.0 k q
      by true false q f k = f k
      by false c q f k = f k

module _ (dir size last next : ℕ) where
  pub data_tokens : is_data (stage_of dir size last next) ≡ true → Tokens dir last next
  data_tokens =
      look_data (Tokens dir last next) stage_rows (dir ∷ size ∷ last ∷ next ∷ []) (
        λ a q. inl (((first 1 1 SETUP IN q).0, (first 1 1 SETUP IN q).1.1), inl (first 1 1 SETUP IN q).1.0),
        (
          λ a q. inr ((first 0 1 SETUP OUT q).0, (first 0 1 SETUP OUT q).1.1),
          (
            λ a q. inl (((first 1 1 IN IN q).0, (first 1 1 IN IN q).1.1), inr (first 1 1 IN IN q).1.0),
            (
              λ a q. inr ((first 0 1 OUT OUT q).0, (first 0 1 OUT OUT q).1.1),
              (λ a q. never a, (λ a q. never a, (λ a q. never a, (λ a q. never a, (λ a q. never a, (λ a q. never a, (λ a q. never a, (λ a q. never a, tt)))))))),
            ),
          ),
        ),
      )
    where
      first : (d s l n : ℕ) → (eqb dir d && (eqb size s && (eqb last l && (eqb next n && true)))) ≡ true → (dir ≡ d) × ((last ≡ l) × (next ≡ n))
      first d s l n q =
          let a = both (eqb dir d) _ q in
          let b = both (eqb size s) _ a.1 in
          let c = both (eqb last l) _ b.1 in
          (eqb-true dir d a.0, (eqb-true last l c.0, eqb-true next n (both (eqb next n) true c.1).0))

-- ---- reads

-- the setup data of a read ask for data from the device
pub read-direction : (setup : ℕ) → is_laid (kind_of setup) ≡ true → direction setup ≡ 1
unfolding kind_of kind_by is_read
read-direction setup h = by (eqb s.kind 0x80) refl h
  where
    s : Setup
    s = setup_of setup

    second : (a b : Bool) → is_laid (pick a SetConfiguration (pick b SetInterface Other)) ≡ false
    second true b = refl
    second false true = refl
    second false false = refl

    by : (k : Bool) → eqb s.kind 0x80 ≡ k
        → is_laid (pick (k && (eqb s.request 6 && eqb (s.value / 256) 1)) DeviceRead (pick (k && (eqb s.request 6 && eqb (s.value / 256) 2)) ConfigurationRead (pick (is_set_configuration s) SetConfiguration (pick (is_set_interface s) SetInterface Other)))) ≡ true
        → direction_of s.kind ≡ 1
    by true q r = ap direction_of (eqb-true s.kind 0x80 q)
    by false q r = never (sym (second (is_set_configuration s) (is_set_interface s)) ∙ r)

-- ---- an endpoint where an IN would bring data to a request

abbrev pub awaits : Endpoint → Bool
awaits e = is_active e.phase && (e.done && is_data (stage_of (direction e.setup) (with_data e.setup) e.last IN))

-- not one whose last token is an OUT, nor one whose request is to the device
pub out-last : (e : Endpoint) → e.last ≡ OUT → awaits e ≡ true → ⊥
out-last e q h =
    let b = both (is_active e.phase) _ h in
    let c = both e.done _ b.1 in
    no (data_tokens (direction e.setup) (with_data e.setup) e.last IN c.1)
  where
    other : (e.last ≡ SETUP) ⊎ (e.last ≡ IN) → ⊥
    other (inl l) = omega arith
    other (inr l) = omega arith

    no : Tokens (direction e.setup) e.last IN → ⊥
    no (inl p) = other p.1
    no (inr p) = let n = p.1 in omega arith

pub out-setup : (e : Endpoint) → direction e.setup ≡ 0 → awaits e ≡ true → ⊥
out-setup e q h =
    let b = both (is_active e.phase) _ h in
    let c = both e.done _ b.1 in
    no (data_tokens (direction e.setup) (with_data e.setup) e.last IN c.1)
  where
    no : Tokens (direction e.setup) e.last IN → ⊥
    no (inl p) = let d = p.0.0 in omega arith
    no (inr p) = let n = p.1 in omega arith
