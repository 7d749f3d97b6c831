-- Inner (cited by private contracts alone): the invariant `sound`: a call is not answered 1, and no endpoint's payloads pass the packet bytes logged even when
-- they are added up.
use Rattle.std.specs.Prelude.{ℕ, ◌+◌, Bool, not, ◌&&◌, ◌||◌, List, leb}
use Rattle.endpoints.specs.Table.{entry_at}
use Rattle.details.specs.declared.Device.{Device}
use Rattle.record.specs.Formed.{every, well_formed}
use Rattle.record.specs.Room.{long}
use Rattle.record.specs.declared.Counts.{Counts}
use Rattle.record.specs.declared.Decoder.{Decoder}
use Rattle.call.specs.State.{State, room_of}
use Rattle.sound.specs.Fit.{in_hand, brings}

-- of endpoint i: what it has in hand, and what the transaction that is held may bring to it
abbrev pub paying : Decoder → List ℕ → ℕ → ℕ
paying d table i = in_hand (entry_at table i) + brings d.slot d.transaction i

abbrev pub is_paid : Decoder → List ℕ → ℕ → Bool
is_paid d table i = leb (paying d table i) d.counts.bytes

-- on logs with this room; the first part is answer 1's test (call, is_ill)
unfoldable pub sound_in : Decoder → List Device → List ℕ → Counts → Bool
sound_in d devices table room =
    not (long room || not (well_formed d devices table room)) && every (is_paid d table) 0 d.counts.endpoints

abbrev pub is_sound : State → Bool
is_sound s = sound_in s.decoder s.devices s.table (room_of s.logs)
