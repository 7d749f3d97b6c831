-- Laws (proved): what the contract of `fresh` rules out and gives: any two outcomes coincide; a decoder that was made is well formed on its logs and stands for
-- the world that the rules begin with; a refused one is ill whatever it is lent.
use Rattle.std.specs.Prelude.{ℕ, ◌<◌, ◌≡◌, refl, Bool, true, false, cond, eqb, length}
use Rattle.std.proofs.Common.{arith, sym, ap, subst, ◌∙◌, eqb-true}
use Rattle.std.proofs.Math.Bool.{not}
use mathlib.Core.List.{List, replicate}
use Rattle.std.proofs.lemmas.Bool.{eqb-false}
use Rattle.std.proofs.Math.Seq.{length-sets}
use Rattle.endpoints.specs.Word as word
use Rattle.details.specs.Details.{fresh as freshDevice}
use Rattle.details.specs.declared.Device.{Device}
use Rattle.rules.specs.Decoder.{fresh}
use Rattle.record.specs.Bools.{nor, or_right}
use Rattle.record.specs.Fresh.{counts_of, refused_decoder}
use Rattle.record.proofs.FreshLaws.{fresh_formed, fresh-world, refused-ill, Agrees}
use Rattle.record.specs.Room.{fitting, long}
use Rattle.record.specs.RoomLaws.{within}
use Rattle.record.specs.declared.Counts.{Counts}
use Rattle.call.specs.Outcome.{is_ill, world_at}
use Rattle.call.specs.State.{Logs, State, state, room_of}
use Rattle.start.specs.Fresh.{fresh_answer, made_logs, made, unmade, Makes, no_devices}

-- 01: "any two permitted outcomes coincide"
pub fresh_unique : {high : Bool} {v : List Device} {t : List ℕ} {l : Logs} {a b : ℕ} {s' s'' : State} → Makes high v t l a s' → Makes high v t l b s'' → (a ≡ b) × (s' ≡ s'')
fresh_unique {high} {v} {t} {l} {a} {b} {s'} {s''} x y = (same, pick (eqb a 0) refl)
  where
    same : a ≡ b
    same = x.answer ∙ sym y.answer

    pick : (c : Bool) → eqb a 0 ≡ c → s' ≡ s''
    pick true e = let z = eqb-true a 0 e in x.accepted z ∙ sym (y.accepted (sym same ∙ z))
    pick false e = let n = eqb-false a 0 e in x.refused n ∙ sym (y.refused (λ z. n (same ∙ z)))

-- answer 0: no log is too long, and the rows fit
passes : (a b : Bool) → ◌≡◌ {A = ℕ} (cond a 1 (cond b 0 7)) 0 → (a ≡ false) × (b ≡ true)
passes true b h = absurd (omega arith)
passes false true h = (refl, refl)
passes false false h = absurd (omega arith)

pub fitted : (room : Counts) → fresh_answer room ≡ 0 → (long room ≡ false) × (fitting (counts_of 1 3) room ≡ true)
unfolding fresh_answer
fitted room h = passes (long room) (fitting (counts_of 1 3) room) h

-- the rows leave every log as long as it was
same-room : (l : Logs) → room_of (made_logs l) ≡ room_of l
same-room l = rw (length-sets, length-sets)

module _ {high : Bool} {v : List Device} {t : List ℕ} {l : Logs} {s' : State} (m : Makes high v t l 0 s') (ht : length t ≡ word.table) (hv : 0 < length v) where
  well-made : is_ill (made high v t l) ≡ false
  unfolding is_ill made
  well-made =
      let h = fitted (room_of l) (sym m.answer) in
      rw (same-room l) (nor (long (room_of l)) _ h.0 (ap not (fresh_formed t ht high v (room_of l) hv (within _ _ h.1))))

  -- "a fresh decoder answered 0 .. is well formed on its logs"
  pub fresh-well : is_ill s' ≡ false
  fresh-well = ap is_ill (m.accepted refl) ∙ well-made

  stands-made : Agrees (world_at (made high v t l)) fresh
  unfolding made
  stands-made = fresh-world t ht high v hv

  -- it stands for the world that the rules begin with
  pub fresh_stands : Agrees (world_at s') fresh
  fresh_stands = rw (m.accepted refl) stands-made

refused-any : (v : List Device) (t : List ℕ) (l : Logs) → is_ill (state refused_decoder v t l) ≡ true
unfolding is_ill
refused-any v t l = or_right (long (room_of l)) _ (ap not (refused-ill v t (room_of l)))

-- "refused, it .. returns a record that every call answers 1", on any devices, table and logs
pub fresh-refused : {high : Bool} {v : List Device} {t : List ℕ} {l : Logs} {a : ℕ} {s' : State} → Makes high v t l a s' → (a ≡ 0 → ⊥)
    → (v' : List Device) (t' : List ℕ) (l' : Logs) → is_ill (state s'.decoder v' t' l') ≡ true
unfolding unmade
fresh-refused m n v' t' l' = ap (λ (s : State). is_ill (state s.decoder v' t' l')) (m.refused n) ∙ refused-any v' t' l'

-- on rows of which nothing is known
pub made_on : {high : Bool} {t : List ℕ} {l : Logs} {d : Device} {s : State} {a : ℕ} → d ≡ freshDevice 0 → Makes high (replicate 64 d) t l a s → Makes high no_devices t l a s
made_on {high} {t} {l} {s = s} {a} e m = subst (λ (x : Device). Makes high (replicate 64 x) t l a s) e m
