-- Laws (proved): what transaction_status says of a packet's reason.
use Rattle.std.specs.Prelude.{Bool, List, ◌≡◌, refl, ℕ, length, Result, Ok, Err}
use Rattle.std.proofs.Common.{sym, subst, ◌∙◌}
use Rattle.usb.specs.Packet.{reason_of, checked_of}
use Rattle.usb.proofs.Laws.{why_of, why-is}
use Rattle.usb.specs.declared.reason.Reason.{Reason}
use Rattle.transaction.specs.declared.Status.{Status}
use Rattle.transaction.specs.declared.Status.TheVariants.{New, Continue, Retry, Done, Fail, Ambiguous, Invalid}
use Rattle.transaction.specs.declared.Transaction.{Transaction}
use Rattle.transaction.specs.declared.Judged.{Judged}
use Rattle.transaction.specs.Status.{judged, judged_of, transaction_status}

-- it is that of the bytes
pub status-reason : (high : Bool) (t : Transaction) (packet : List ℕ) → (transaction_status high t packet).reason ≡ reason_of packet
unfolding transaction_status
status-reason high t packet = by (checked_of packet) ∙ why-is packet
  where
    by : (c : Result ℕ Reason) → (judged_of high t c (length packet)).reason ≡ why_of c
    by (Ok next) = refl
    by (Err reason) = refl

-- a packet that is not Invalid has none
abbrev pub Taken : Status → Type 0
Taken New = Unit {0}
Taken Continue = Unit {0}
Taken Retry = Unit {0}
Taken Done = Unit {0}
Taken Fail = Unit {0}
Taken Ambiguous = Unit {0}
Taken Invalid = ⊥

taken-judged : (high : Bool) (t : Transaction) (packet : List ℕ) → Taken (transaction_status high t packet).status → transaction_status high t packet ≡ judged (transaction_status high t packet).pid (transaction_status high t packet).status
unfolding transaction_status
taken-judged high t packet = by (checked_of packet)
  where
    by : (c : Result ℕ Reason) → Taken (judged_of high t c (length packet)).status → judged_of high t c (length packet) ≡ judged (judged_of high t c (length packet)).pid (judged_of high t c (length packet)).status
    by (Ok next) h = refl
    by (Err reason) h = absurd h

pub judged-is : (high : Bool) (t : Transaction) (packet : List ℕ) {j : Judged} → j ≡ transaction_status high t packet → Taken j.status → j ≡ judged j.pid j.status
judged-is high t packet e = subst (λ (x : Judged). Taken x.status → x ≡ judged x.pid x.status) (sym e) (taken-judged high t packet)
