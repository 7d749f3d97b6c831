-- What an accepted call leaves as it was, and so what packets that lead from one state to another do.
use Prim.Native.Nat.{ℕ, ◌≤◌}
use native.Mathlib.Omega.{arith}
use mathlib.Core.Bool.{Bool, true, false}
use mathlib.Core.List.{List}
use mathlib.Core.Path.{◌≡◌, refl, sym, ap, subst, ◌∙◌}
use lib.Dec.{eqb}
use lib.ListN.{length}
use Rattle.rows.specs.One.{one}
use Rattle.rules.specs.World.{World}
use Rattle.record.specs.Answers.{Tests}
use Rattle.trace.specs.declared.clock.Clock.{Clock}
use Rattle.call.specs.Outcome.{Answers, accepts, decoder_of}
use Rattle.call.specs.State.{State}
use Rattle.packet.specs.Call.{PacketCall}
use Rattle.sound.specs.Sound.{is_sound}
use Rattle.sound.proofs.Keeps.{kept}
use Rattle.step.specs.Block.{Stand}
use Rattle.stream.specs.Led.{Fits, Calls, Led}
use Rattle.stream.specs.Led.Led.{none, more}
use Rattle.stream.specs.declared.part.Reader.{Reader}

-- the devices are as many, and a decoder that was not finished is not
pub record Stays (s s' : State) : Type 0 where
  pub sound : is_sound s ≡ true → is_sound s' ≡ true
  pub finished : s'.decoder.finished ≡ s.decoder.finished
  pub many : length s'.devices ≡ length s.devices

pub stays_same : (s : State) → Stays s s
stays_same s = record { sound = λ h. h; finished = refl; many = refl }

pub stays_then : {s s' s'' : State} → Stays s s' → Stays s' s'' → Stays s s''
stays_then x y = record { sound = λ h. y.sound (x.sound h); finished = y.finished ∙ x.finished; many = y.many ∙ x.many }

pub stays_fit : {s s' : State} → Stays s s' → (b : Bool) → Fits b s → Fits b s'
stays_fit h b f = record { sound = λ e. h.sound (f.sound e); unfinished = λ e. h.finished ∙ f.unfinished e }

pub answers_stay : {q : Tests} {w : World} {s s' : State} {a : ℕ} → (is_sound s ≡ true → is_sound s' ≡ true) → Answers q w s.decoder.finished s a s' → accepts a ≡ true → Stays s s'
unfolding decoder_of
answers_stay h p e =
    let l = p.left (ap accepts (sym p.answer) ∙ e) in
    record { sound = h; finished = ap (λ d. d.finished) l.decoder; many = l.devices.size }

pub packet-stays : (bytes : List ℕ) (time : ℕ) (s : State) (h : List ℕ) (a : ℕ) (s' : State) (h' : List ℕ) → PacketCall bytes time s h a s' h' → accepts a ≡ true → Stays s s'
packet-stays bytes time s h a s' h' x e = answers_stay (kept.packet bytes time h h' s a s' x) x.answers e

pub led-stays : {r : Reader} {t : List ℕ} {at n e at' : ℕ} {c c' : Clock} {s s' : Stand} → Led r t at c s n e at' c' s' → Stays s.state s'.state
led-stays {s = s} none = stays_same s.state
led-stays {s' = s''} (more {s' = s'} p a l x k) = stays_then (led-stays l) (packet-stays _ _ s'.state s'.shelf a s''.state s''.shelf x.call k)

one_small : (b : Bool) → one b ≤ 1
one_small true = omega arith
one_small false = omega arith

-- as the code counts the 8s
pub eight_small : (answer : ℕ) {u : ℕ} → u ≡ one (eqb answer 8) → u ≤ 1
eight_small answer e = subst (λ (x : ℕ). x ≤ 1) (sym e) (one_small (eqb answer 8))
