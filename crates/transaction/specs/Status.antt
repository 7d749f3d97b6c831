-- To be believed: Document 000, transaction_status: what a packet is to a transaction.
-- Hold it to: transaction_status of decoder.rs: its first lines; high is the mode of 02, 6
use Rattle.std.specs.Prelude.{Bool, List, ℕ, length, Result, Ok, Err}
use Rattle.usb.specs.Pid.{MALFORMED}
use Rattle.usb.specs.Packet.{no_reason, reason_number, checked_of}
use Rattle.usb.specs.declared.reason.Reason.{Reason}
use Rattle.transaction.specs.declared.Status.{Status}
use Rattle.transaction.specs.declared.Status.TheVariants.{Invalid}
use Rattle.transaction.specs.declared.Style.{Style}
use Rattle.transaction.specs.declared.Style.TheVariants.{Nothing, Simple, Split, Token}
use Rattle.transaction.specs.declared.Transaction.{Transaction}
use Rattle.transaction.specs.declared.Judged.{Judged}
use Rattle.transaction.specs.Simple.{start_status, simple_status_in}
use Rattle.transaction.specs.Split.{split_status}

abbrev pub status_of : Bool → Style → Transaction → ℕ → ℕ → Status
status_of high Nothing t next len = start_status next
status_of high (Simple first) t next len = simple_status_in high first t.last next t.kind len
status_of high (Split sc kind) t next len = split_status kind sc t.last next len
status_of high (Token sc kind pid) t next len = split_status kind sc t.last next len

-- of a valid packet, and of a malformed one, whose reason goes on upward (02, 1)
abbrev pub judged : ℕ → Status → Judged
judged p s = record { pid = p; status = s; reason = no_reason }

abbrev pub malformed : ℕ → Judged
malformed reason = record { pid = MALFORMED; status = Invalid; reason = reason }

-- a malformed packet is Invalid whatever the transaction is
abbrev pub judged_of : Bool → Transaction → Result ℕ Reason → ℕ → Judged
judged_of high t (Err reason) len = malformed (reason_number reason)
judged_of high t (Ok next) len = judged next (status_of high t.style t next len)

unfoldable pub transaction_status : Bool → Transaction → List ℕ → Judged
transaction_status high t packet = judged_of high t (checked_of packet) (length packet)
