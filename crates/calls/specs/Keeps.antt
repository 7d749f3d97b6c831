-- Inner (cited by private contracts alone): what is stored of what a call left, and what the words then stand for.
use Rattle.std.specs.Prelude.{ℕ, Bool, true, cond, List, ◌≡◌}
use Rattle.std.proofs.lemmas.List.Edits.{sets}
use Rattle.details.specs.declared.Device.{Device}
use Rattle.record.specs.declared.Decoder.{Decoder}
use Rattle.trace.specs.declared.clock.Clock.{Clock}
use Rattle.handle.specs.Words.{decoder_in, devices_in, stored}
use Rattle.calls.specs.Block.{clock_in, clock_words}

pub record Keeps (on : Bool) (w : List ℕ) (d : Decoder) (v : List Device) (w' : List ℕ) : Type 0 where
  pub words : w' ≡ cond on (stored w d v) w
  pub decoder : on ≡ true → decoder_in w' ≡ d
  pub devices : on ≡ true → devices_in w' ≡ v

pub record KeepsClock (on : Bool) (k : List ℕ) (c : Clock) (k' : List ℕ) : Type 0 where
  pub words : k' ≡ cond on (sets k 0 (clock_words c)) k
  pub stands : on ≡ true → clock_in k' ≡ c
