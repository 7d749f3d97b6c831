-- What the test is by its first part, and the endpoints of a record that is well formed.
use Prim.Native.Nat.{ℕ, ◌≤◌}
use mathlib.Core.Path.{◌≡◌, refl}
use mathlib.Core.Bool.{Bool, true, false, not, ◌&&◌, ◌||◌, false≢true, true≢false}
use mathlib.Core.List.{List}
use Rattle.details.specs.declared.Device.{Device}
use Rattle.record.specs.Formed.{every, well_formed}
use Rattle.record.specs.Room.{long}
use Rattle.record.specs.declared.Counts.{Counts}
use Rattle.record.specs.declared.Decoder.{Decoder}
use Rattle.call.proofs.OutcomeLaws.{sound_by}
use Rattle.sound.specs.Sound.{is_paid, sound_in}

false-first : (a b : Bool) → a ≡ true → false ≡ (not a && b)
false-first true b h = refl
false-first false b h = absurd (false≢true h)

then-second : (a b : Bool) → a ≡ false → (not a && b) ≡ b
then-second true b h = absurd (true≢false h)
then-second false b h = refl

module _ (d : Decoder) (v : List Device) (t : List ℕ) (room : Counts) where
  pub few : (long room || not (well_formed d v t room)) ≡ false → d.counts.endpoints ≤ 128
  few h = (sound_by d v t room h).0.counts.few_endpoints

  pub ill_unsound : (long room || not (well_formed d v t room)) ≡ true → false ≡ sound_in d v t room
  unfolding sound_in
  ill_unsound h = false-first (long room || not (well_formed d v t room)) (every (is_paid d t) 0 d.counts.endpoints) h

  pub well_sound : (long room || not (well_formed d v t room)) ≡ false → sound_in d v t room ≡ every (is_paid d t) 0 d.counts.endpoints
  unfolding sound_in
  well_sound h = then-second (long room || not (well_formed d v t room)) (every (is_paid d t) 0 d.counts.endpoints) h
