-- Inner (cited by private contracts alone): what the pass over the records goes by.
use Rattle.std.specs.Prelude.{Option, Some, None}
use Rattle.trace.specs.declared.Next.{Next}
use Rattle.trace.specs.declared.Next.TheVariants.{Packet, Event, Detail, Unknown, Cut, End}
use Rattle.trace.specs.declared.details.Passed.{Passed}

-- what is no whole record ends it
abbrev pub passed_by : Next → Option Passed
passed_by (Packet ticks start end next) = Some (record { next = next.at; details = 0 })
passed_by (Event ticks kind code next) = Some (record { next = next.at; details = 0 })
passed_by (Detail address number direction kind max next) = Some (record { next = next.at; details = 1 })
passed_by Unknown = None
passed_by Cut = None
passed_by End = None
