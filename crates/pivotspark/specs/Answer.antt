-- To be believed: the number by which a C caller learns what the packet check answers.
-- Assumes nothing.
-- Hold it to: ours: the C entry pivotspark_check
use Rattle.std.specs.Prelude.{ℕ, ◌*◌, Result, Ok, Err}
use Rattle.usb.specs.Packet.{reason_number}
use Rattle.usb.specs.declared.reason.Reason.{Reason}

-- the PID byte of a valid packet; for a malformed one 256 times its reason
abbrev pub answer_of : Result ℕ Reason → ℕ
answer_of (Ok pid) = pid
answer_of (Err reason) = 256 * reason_number reason
