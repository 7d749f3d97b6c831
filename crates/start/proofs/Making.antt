-- Making a fresh decoder, over plain values: the room that the answer 0 tells, and the contract from its pieces.
use Prim.Native.Nat.{ℕ, ◌≤◌}
use native.Mathlib.Omega.{arith}
use mathlib.Core.Path.{◌≡◌, ap}
use mathlib.Core.Bool.{Bool}
use mathlib.Core.List.{List}
use lib.ListN.{length, set}
use lib.Seq.{sets}
use Rattle.details.specs.Details as details
use Rattle.details.specs.declared.Device.{Device}
use Rattle.rules.specs.Decoder.{fresh}
use Rattle.rules.specs.Rows.{log}
use Rattle.record.specs.Fresh.{counts_of, fresh_decoder, fresh_table, refused_decoder}
use Rattle.record.specs.RoomLaws.{within}
use Rattle.record.specs.declared.Decoder.{Decoder}
use Rattle.call.specs.State.{Logs, logs, state, room_by, room_of}
use Rattle.start.specs.Fresh.{fresh_answer, made, unmade, Makes}
use Rattle.start.proofs.FreshLaws.{fitted}

-- ---- the answer and the rows

-- answer 0: there is room for one device and three endpoint rows
pub roomy : (l : Logs) → fresh_answer (room_of l) ≡ 0 → (1 ≤ length l.devices) × (9 ≤ length l.endpoints)
unfolding room_by
roomy l h =
    let w = within (counts_of 1 3) (room_of l) (fitted (room_of l) h).1 in
    let d = w.devices in
    let e = w.endpoints in
    (omega arith, omega arith)

module _ (high : Bool) (v : List Device) (t : List ℕ) (l : Logs) (a : ℕ) (e : a ≡ fresh_answer (room_of l)) where
  pub refuses : {d : Decoder} → (a ≡ 0 → ⊥) → d ≡ refused_decoder → Makes high v t l a (state d v t l)
  unfolding unmade
  refuses n h = record { answer = e; accepted = λ z. absurd (n z); refused = λ z. ap (λ (x : Decoder). state x v t l) h }

  pub makes : {d : Decoder} {x : Device} {t' m n : List ℕ} → a ≡ 0 → d ≡ fresh_decoder high → x ≡ details.fresh 0 → t' ≡ fresh_table t
      → m ≡ sets l.devices 0 (log 1 fresh.journal) → n ≡ sets l.endpoints 0 (log 2 fresh.journal)
      → Makes high v t l a (state d (set v 0 x) t' (logs l.bytes m n l.packets l.events l.transactions l.groups l.statebytes l.states l.items l.links l.requests))
  unfolding made
  makes z h g k p q =
      record {
        answer = e;
        accepted = λ y. λ i. state (h i) (set v 0 (g i)) (k i) (logs l.bytes (p i) (q i) l.packets l.events l.transactions l.groups l.statebytes l.states l.items l.links l.requests);
        refused = λ y. absurd (y z);
      }
