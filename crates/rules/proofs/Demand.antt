-- Demand 3 on the marks: what every call keeps (`Sound`), and what that gives; so it holds after every sequence of calls.
use mathlib.Core.Path.{◌≡◌, refl, ap, ◌∙◌}
use mathlib.Core.Bool.{Bool, true, false}
use mathlib.Core.List.{List, [], ◌++◌}
use Prim.Native.Nat.{ℕ, zero, suc, ◌+◌, ◌<◌, ◌≤◌}
use native.Mathlib.Omega.{arith}
use borrow.Author.Tests.{ltb-true, ltb-false}
use lib.Dec.{eqb, ltb}
use lib.ListN.{length, length-append}
use Rattle.transaction.specs.Table.{pick}
use Rattle.details.specs.Details.{fresh}
use Rattle.endpoints.specs.declared.Endpoint.{Endpoint}
use Rattle.endpoints.specs.declared.Phase.{Phase}
use Rattle.endpoints.specs.declared.Phase.TheVariants.{None, Early, Active, Ended}
use Rattle.rules.specs.Rows.{Row}
use Rattle.rules.specs.World.{World, phase, with_journal}
use Rattle.endpoints.specs.Table.{new_endpoint}
use Rattle.rules.specs.Decoder as Decoder
use Rattle.rules.specs.Marks.{Mark, marks, starts, endings, closings}
use Rattle.rules.specs.Demand.{Call, call, up_to, Standing, none, open-one, waiting-one}
use Rattle.rules.proofs.Reach.{Reach, begin, next, OnMarks}
use Rattle.rules.proofs.Facts.{Facts, pass, extra, one}
use Rattle.rules.proofs.Facts as facts
use Rattle.rules.proofs.Loops.{open_of, wait_of}
use Rattle.rules.proofs.Keeps.{Holds, Keeps}
use Rattle.rules.proofs.Moves.{Moves, calls}

-- of every endpoint: c of them are there, and the transaction is on y
pub record Sound (js : List Row) (w : World) : Type 0 where
  pub c : ℕ
  pub y : ℕ
  pub fits : y < c
  pub three : 3 ≤ c
  pub keeps : (e : ℕ) → Keeps js e c y (with_journal [] w)

-- a call keeps it
pub sound : (high : Bool) (js : List Row) (w : World) (k : Call) → Sound js w → Sound ((call high k (with_journal [] w)).journal ++ js) (call high k (with_journal [] w))
sound high js w k s = record { c = m.c'; y = m.y'; fits = m.fits; three = m.three; keeps = λ e. m.keeps e (s.keeps e) }
  where
    m : Moves js s.c s.y (with_journal [] w) (call high k (with_journal [] w))
    m = calls js s.c s.y s.fits s.three high k (with_journal [] w) (s.keeps 0)

-- an endpoint that is not there has no group
none-there : {e c y : ℕ} (p : Phase) {g d k t n : ℕ} {ms : List Mark} → Holds e c y p g d k t n ms → c ≤ e → 3 ≤ c → (d' : ℕ) → Holds e c y None 0 d' k t n ms
none-there None l h three d' =
    record { facts = rw (l.unused h) at l.facts; inside = tt; unused = λ i. refl; quiet = λ i. refl; special = λ i. absurd (omega arith); size = l.size; target = l.target }
none-there Early l h three d' = let i = l.inside in absurd (omega arith)
none-there Active l h three d' = let i = l.inside in absurd (omega arith)
none-there Ended l h three d' = let i = l.inside in absurd (omega arith)

-- v says what w says of every endpoint that is there, and of any other that it has no group
pub record Like (w v : World) : Type 0 where
  pub count : v.count ≡ w.count
  pub target : v.transaction.endpoint ≡ w.transaction.endpoint
  pub items : v.items ≡ w.items
  pub there : (e : ℕ) → e < w.count → v.endpoints e ≡ w.endpoints e
  pub beyond : (e : ℕ) → w.count ≤ e → (phase e v ≡ None) × ((v.endpoints e).groups ≡ 0)

pub sound_like : {js : List Row} {w v : World} → Like w v → Sound js w → Sound js v
sound_like {js} {w} {v} a s = record { c = s.c; y = s.y; fits = s.fits; three = s.three; keeps = λ e. at e (ltb e w.count) refl }
  where
    rest : {e c y : ℕ} {p : Phase} {g d : ℕ} {ms : List Mark} → Holds e c y p g d w.count w.transaction.endpoint w.items ms → Holds e c y p g d v.count v.transaction.endpoint v.items ms
    rest l = rw (a.count, a.target, a.items) l

    at : (e : ℕ) (b : Bool) → ltb e w.count ≡ b → Keeps js e s.c s.y (with_journal [] v)
    at e true h = let q : v.endpoints e ≡ w.endpoints e = a.there e (ltb-true e w.count h) in rw q (rest (s.keeps e))
    at e false h =
        let l = ltb-false e w.count h in
        let z = (s.keeps e).size in
        let b = a.beyond e l in
        rw (b.0, b.1) (rest (none-there (phase e w) (s.keeps e) (omega arith) s.three (v.endpoints e).address))

fresh_keeps : (e : ℕ) → Keeps (Decoder.fresh).journal e 3 0 (with_journal [] Decoder.fresh)
unfolding fresh
fresh_keeps e = new (place (eqb e 2) (eqb e 1) (eqb e 0)).phase _ _ (none_yet (eqb e 2) (eqb e 1) (eqb e 0)) (no-groups (eqb e 2) (eqb e 1) (eqb e 0)) (λ z. rw z)
  where
    place : (i j k : Bool) → Endpoint
    place i j k = pick i (new_endpoint 0 18) (pick j (new_endpoint 0 17) (pick k (new_endpoint 0 16) (new_endpoint 0 0)))

    new : (p : Phase) (g d : ℕ) → p ≡ None → g ≡ 0 → (e ≡ 0 → d ≡ 16) → Holds e 3 0 p g d 3 0 0 (marks e (Decoder.fresh).journal)
    new p g d q h s = rw (q, h) (record { facts = pass (pass (pass (pass (facts.fresh e)))); inside = tt; unused = λ i. refl; quiet = λ i. refl; special = s; size = refl; target = refl })

    none_yet : (i j k : Bool) → (place i j k).phase ≡ None
    none_yet true j k = refl
    none_yet false true k = refl
    none_yet false false true = refl
    none_yet false false false = refl

    no-groups : (i j k : Bool) → (place i j k).groups ≡ 0
    no-groups true j k = refl
    no-groups false true k = refl
    no-groups false false true = refl
    no-groups false false false = refl

pub always : {high : Bool} {js : List Row} {w : World} → Reach high js w → Sound js w
always begin = record { c = 3; y = 0; fits = omega arith; three = omega arith; keeps = fresh_keeps }
always {high} (next {js} {w} k r) = sound high js w k (always r)

length-up_to : (n : ℕ) → length (up_to n) ≡ n
length-up_to zero = refl
length-up_to (suc n) = simp length-append (omega (arith, length-up_to n))

module _ {e g n : ℕ} {ms : List Mark} where
  pub ended-length : (p : Phase) → Facts e (open_of p) (wait_of p) g n ms → length (endings ms) ≡ length (closings ms) + extra (wait_of p)
  ended-length p f = ap length (f.finished _ refl) ∙ length-up_to _

  stand : (p : Phase) → ¬ (e ≡ 0) → Facts e (open_of p) (wait_of p) g n ms → Standing (starts ms) (length (endings ms)) (length (closings ms))
  stand None d f = let a = f.grouped d in let b = f.counted d in let l = ended-length None f in none (omega arith) (omega arith)
  stand Early d f = let a = f.grouped d in let b = f.counted d in let l = ended-length Early f in open-one (omega arith) (omega arith)
  stand Active d f = let a = f.grouped d in let b = f.counted d in let l = ended-length Active f in open-one (omega arith) (omega arith)
  stand Ended d f = let a = f.grouped d in let b = f.counted d in let l = ended-length Ended f in waiting-one (omega arith) (omega arith)

-- ---- what it gives

-- how many groups are not closed
abbrev pub unclosed : Phase → ℕ
unclosed None = 0
unclosed Early = 1
unclosed Active = 1
unclosed Ended = 1

-- of every endpoint but the event endpoint
module _ {js : List Row} {w : World} (s : Sound js w) (e : ℕ) (d : ¬ (e ≡ 0)) where
  kept : Keeps js e s.c s.y (with_journal [] w)
  kept = s.keeps e

  pub on-marks : OnMarks e js
  on-marks =
      let f = kept.facts in
      record { standing = stand (phase e w) d f; ended = f.finished (length (endings (marks e js))) (ended-length (phase e w) f); closing = f.named; asserted = f.asserted; turned = f.turned }

  -- the groups of an endpoint are its G rows: those closed, and the one that its phase speaks of
  pub groups_of : (starts (marks e js) ≡ (w.endpoints e).groups) × ((w.endpoints e).groups ≡ length (closings (marks e js)) + unclosed (phase e w))
  groups_of = (kept.facts.grouped d, kept.facts.counted d ∙ by (phase e w))
    where
      by : (p : Phase) → length (closings (marks e js)) + (extra (wait_of p) + one (open_of p)) ≡ length (closings (marks e js)) + unclosed p
      by None = refl
      by Early = refl
      by Active = refl
      by Ended = refl

-- ---- after every sequence of calls

pub demand3 : {high : Bool} {js : List Row} {w : World} → Reach high js w → (e : ℕ) → ¬ (e ≡ 0) → OnMarks e js
demand3 r = on-marks (always r)

pub groups_are : {high : Bool} {js : List Row} {w : World} → Reach high js w → (e : ℕ) → ¬ (e ≡ 0) → (starts (marks e js) ≡ (w.endpoints e).groups) × ((w.endpoints e).groups ≡ length (closings (marks e js)) + unclosed (phase e w))
groups_are r = groups_of (always r)

-- the three special endpoints are there, and the transaction's endpoint is
pub endpoints-there : {high : Bool} {js : List Row} {w : World} → Reach high js w → (3 ≤ w.count) × (w.transaction.endpoint < w.count)
endpoints-there {high} {js} {w} r =
    let s : Sound js w = always r in
    let k = (s.keeps 0).size in
    let t = (s.keeps 0).target in
    (omega (arith, s.three), omega (arith, s.fits))
