-- Inner (cited by private contracts alone): what a block or an import comes to, round by round.
use Rattle.std.specs.Prelude.{ℕ, ◌+◌, ◌^◌, ◌<◌, Bool, true, false, cond, List, ◌≡◌, eqb}
use Rattle.rows.specs.One.{one}
use Rattle.details.specs.declared.Device.{Device}
use Rattle.record.specs.declared.Decoder.{Decoder}
use Rattle.trace.specs.declared.clock.Clock.{Clock}
use Rattle.step.specs.declared.Stepped.{Stepped}
use Rattle.stream.specs.declared.Run.{Run}

-- before the first round
abbrev pub none_yet : Decoder → List Device → Clock → ℕ → Run
none_yet d v c at = record { going = true; answer = 0; taken = 0; eights = 0; place = at; clock = c; decoder = d; devices = v }

-- the packets p, and the record behind them was taken
abbrev pub gone_on : Run → Stepped → Run
gone_on p q =
    record {
      going = true;
      answer = 0;
      taken = p.taken + 1;
      eights = p.eights + one (eqb q.answer 8);
      place = q.next;
      clock = q.clock;
      decoder = q.decoder;
      devices = q.devices;
    }

-- it was refused, or there is none
abbrev pub halted : Run → Stepped → Run
halted p q = record { going = false; answer = q.answer; taken = p.taken; eights = p.eights; place = p.place; clock = p.clock; decoder = q.decoder; devices = q.devices }

-- the counts with one more, where it was taken, are words
pub record Few (p : Run) (q : Stepped) : Type 0 where
  pub taken : q.going ≡ true → p.taken + 1 < 2 ^ 64
  pub eights : q.going ≡ true → p.eights + 1 < 2 ^ 64

abbrev pub with_step : Run → Stepped → Run
with_step p q = cond q.going (gone_on p q) (halted p q)

-- the rounds r, and m behind them
abbrev pub with_round : Run → Run → Run
with_round r m =
    record {
      going = m.going;
      answer = m.answer;
      taken = r.taken + m.taken;
      eights = r.eights + m.eights;
      place = m.place;
      clock = m.clock;
      decoder = m.decoder;
      devices = m.devices;
    }
