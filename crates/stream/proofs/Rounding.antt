-- The laws of what a block or an import comes to, round by round: the test before the first round, and the packets with the record behind them.
use Prim.Native.Nat.{ℕ, ◌+◌}
use mathlib.Core.Bool.{Bool, true, false, not, cond, ◌&&◌}
use mathlib.Core.Path.{◌≡◌, sym, ap, ◌∙◌}
use borrow.Author.Tests.{not-true}
use lib.Dec.{eqb}
use Rattle.rows.specs.One.{one}
use Rattle.record.specs.Bools.{both}
use Rattle.record.specs.declared.Counts.{Counts}
use Rattle.call.specs.State.{State, room_of}
use Rattle.sound.specs.Sound.{sound_in}
use Rattle.step.specs.declared.Stepped.{Stepped}
use Rattle.stream.specs.Led.{Fits}
use Rattle.stream.specs.Rounds.{gone_on, halted, with_step}
use Rattle.stream.specs.declared.Run.{Run}

-- whether the record is sound and not finished, as the code tests it
pub fits_by : (s : State) {b : Bool} {room : Counts} → room ≡ room_of s.logs → b ≡ sound_in s.decoder s.devices s.table room → Fits (b && not s.decoder.finished) s
fits_by s {b} {room} r q =
    record {
      sound = λ e. ap (sound_in s.decoder s.devices s.table) (sym r) ∙ (sym q ∙ (both b _ e).0);
      unfinished = λ e. not-true _ (both b _ e).1;
    }

-- the packets with the record behind them, as the code puts them together
module _ (p : Run) (q : Stepped) where
  pub step_halts : q.going ≡ false → halted p q ≡ with_step p q
  step_halts e = ap (λ (b : Bool). cond b (gone_on p q) (halted p q)) (sym e)

  pub step_goes : {u : ℕ} → q.going ≡ true → u ≡ one (eqb q.answer 8)
      → record { going = true; answer = 0; taken = p.taken + 1; eights = p.eights + u; place = q.next; clock = q.clock; decoder = q.decoder; devices = q.devices } ≡ with_step p q
  step_goes e h =
      (λ i. record { going = true; answer = 0; taken = p.taken + 1; eights = p.eights + h i; place = q.next; clock = q.clock; decoder = q.decoder; devices = q.devices })
      ∙ ap (λ (b : Bool). cond b (gone_on p q) (halted p q)) (sym e)
