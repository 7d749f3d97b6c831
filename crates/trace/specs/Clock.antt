-- To be believed: Document 01, "Trace and listing": the time of each record that has ticks.
-- Assumes nothing.
-- Hold it to: 01, "Trace and listing": "The first time is its ticks ..", "modulo 2^64"
use Rattle.std.specs.Prelude.{ℕ, ◌+◌, ◌-◌, ◌%◌, ◌^◌, true, false}
use Rattle.usb.specs.Packet.{pick}
use Rattle.trace.specs.declared.clock.Clock.{Clock}

abbrev pub stopped : Clock
stopped = record { started = false; last = 0; time = 0 }

-- this counter minus the last, modulo 2^32 (`2 ^ 32` is added first, so that the difference of two u32 does not fall below 0)
abbrev pub since : ℕ → ℕ → ℕ
since last ticks = (ticks + 2 ^ 32 - last) % 2 ^ 32

-- the first time is its ticks; each later time adds the difference; past 2^64 - 1 it is taken modulo 2^64
abbrev pub tick_of : Clock → ℕ → Clock
tick_of c ticks =
    record {
      started = true;
      last = ticks;
      time = pick c.started ((c.time + since c.last ticks) % 2 ^ 64) ticks;
    }
