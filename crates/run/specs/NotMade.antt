-- Inner (cited by private contracts alone): what `run` gives back where the decoder can't be made.
use Rattle.std.specs.Prelude.{ℕ, List}
use Rattle.details.specs.declared.Device.{Device}
use Rattle.record.specs.declared.Decoder.{Decoder}
use Rattle.run.specs.declared.Done.{Done}

abbrev pub not_made : ℕ → Decoder → List Device → Done
not_made a d v = record { answer = a; place = 0; decoder = d; devices = v }
