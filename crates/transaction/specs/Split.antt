-- To be believed: Document 000, transaction_status: the rows of a split, in the Rust's order.
-- Hold it to: transaction_status of decoder.rs, the table of a split (scripts/rows compares the rows); 01, "Rules of a transaction"
use Rattle.std.specs.Prelude.{List, [], ◌∷◌, ℕ, eqb}
use Rattle.usb.specs.Pid.{OUT, IN, SETUP, SPLIT, DATA0, DATA1, MDATA, ACK, NAK, NYET, STALL, ERR}
use Rattle.usb.specs.Types.{Control, Isochronous, Bulk, Interrupt, Start, Complete}
use Rattle.transaction.specs.declared.Status.{Status}
use Rattle.transaction.specs.declared.Status.TheVariants.{Continue, Retry, Done, Fail, Invalid}
use Rattle.transaction.specs.Table.{Row, ◌gives◌, ◌when◌, only, ◌or◌, look}

-- by type, SC, the last PID and the next; len is the packet's length
abbrev pub split_rows : ℕ → List (Row Status)
split_rows len =
    -- control and bulk: SSPLIT, SETUP or OUT, DATA0 or DATA1, ACK or NAK
    (only Bulk ∷ only Start ∷ only SPLIT ∷ only OUT ∷ []) gives Continue
    ∷ (only Control ∷ only Start ∷ only SPLIT ∷ SETUP or only OUT ∷ []) gives Continue
    ∷ (only Control ∷ only Start ∷ only SETUP ∷ only DATA0 ∷ []) gives Continue when eqb len 11
    ∷ (Bulk or only Control ∷ only Start ∷ only OUT ∷ DATA0 or only DATA1 ∷ []) gives Continue
    ∷ (Bulk or only Control ∷ only Start ∷ DATA0 or only DATA1 ∷ only ACK ∷ []) gives Done
    ∷ (Bulk or only Control ∷ only Start ∷ DATA0 or only DATA1 ∷ only NAK ∷ []) gives Fail
    -- CSPLIT, SETUP or OUT, ACK, NAK, NYET or STALL
    ∷ (only Bulk ∷ only Complete ∷ only SPLIT ∷ only OUT ∷ []) gives Continue
    ∷ (only Bulk ∷ only Complete ∷ only SETUP ∷ only ACK ∷ []) gives Done
    ∷ (only Bulk ∷ only Complete ∷ only SETUP ∷ only NYET ∷ []) gives Retry
    ∷ (only Bulk ∷ only Complete ∷ only OUT ∷ NAK or only STALL ∷ []) gives Fail
    ∷ (only Control ∷ only Complete ∷ only SPLIT ∷ SETUP or only OUT ∷ []) gives Continue
    ∷ (only Control ∷ only Complete ∷ SETUP or only OUT ∷ only ACK ∷ []) gives Done
    ∷ (only Control ∷ only Complete ∷ SETUP or only OUT ∷ only NYET ∷ []) gives Retry
    ∷ (only Control ∷ only Complete ∷ SETUP or only OUT ∷ NAK or only STALL ∷ []) gives Fail
    -- SSPLIT, IN, ACK or NAK
    ∷ (Control or only Bulk ∷ only Start ∷ only SPLIT ∷ only IN ∷ []) gives Continue
    ∷ (Control or only Bulk ∷ only Start ∷ only IN ∷ only ACK ∷ []) gives Done
    ∷ (Control or only Bulk ∷ only Start ∷ only IN ∷ only NAK ∷ []) gives Fail
    -- CSPLIT, IN, DATA0, DATA1, NAK, NYET or STALL
    ∷ (Control or only Bulk ∷ only Complete ∷ only SPLIT ∷ only IN ∷ []) gives Continue
    ∷ (Control or only Bulk ∷ only Complete ∷ only IN ∷ DATA0 or only DATA1 ∷ []) gives Done
    ∷ (Control or only Bulk ∷ only Complete ∷ only IN ∷ only NYET ∷ []) gives Retry
    ∷ (Control or only Bulk ∷ only Complete ∷ only IN ∷ NAK or only STALL ∷ []) gives Fail
    -- interrupt: SSPLIT, OUT, DATA0 or DATA1
    ∷ (only Interrupt ∷ only Start ∷ only SPLIT ∷ only OUT ∷ []) gives Continue
    ∷ (only Interrupt ∷ only Start ∷ only OUT ∷ DATA0 or only DATA1 ∷ []) gives Done
    -- CSPLIT, OUT, ACK, NAK, NYET, STALL or ERR
    ∷ (only Interrupt ∷ only Complete ∷ only SPLIT ∷ only OUT ∷ []) gives Continue
    ∷ (only Interrupt ∷ only Complete ∷ only OUT ∷ only ACK ∷ []) gives Done
    ∷ (only Interrupt ∷ only Complete ∷ only OUT ∷ only NYET ∷ []) gives Retry
    ∷ (only Interrupt ∷ only Complete ∷ only OUT ∷ NAK or STALL or only ERR ∷ []) gives Fail
    -- SSPLIT, IN
    ∷ (only Interrupt ∷ only Start ∷ only SPLIT ∷ only IN ∷ []) gives Done
    -- CSPLIT, IN, DATA0, DATA1, MDATA, NAK, NYET, STALL or ERR
    ∷ (only Interrupt ∷ only Complete ∷ only SPLIT ∷ only IN ∷ []) gives Continue
    ∷ (only Interrupt ∷ only Complete ∷ only IN ∷ DATA0 or DATA1 or only MDATA ∷ []) gives Done
    ∷ (only Interrupt ∷ only Complete ∷ only IN ∷ only NYET ∷ []) gives Retry
    ∷ (only Interrupt ∷ only Complete ∷ only IN ∷ NAK or STALL or only ERR ∷ []) gives Fail
    -- isochronous: SSPLIT, OUT, DATA0
    ∷ (only Isochronous ∷ only Start ∷ only SPLIT ∷ only OUT ∷ []) gives Continue
    ∷ (only Isochronous ∷ only Start ∷ only OUT ∷ only DATA0 ∷ []) gives Done
    -- SSPLIT, IN
    ∷ (only Isochronous ∷ only Start ∷ only SPLIT ∷ only IN ∷ []) gives Done
    -- CSPLIT, IN, DATA0, MDATA, NYET or ERR
    ∷ (only Isochronous ∷ only Complete ∷ only SPLIT ∷ only IN ∷ []) gives Continue
    ∷ (only Isochronous ∷ only Complete ∷ only IN ∷ DATA0 or only MDATA ∷ []) gives Done
    ∷ (only Isochronous ∷ only Complete ∷ only IN ∷ only NYET ∷ []) gives Retry
    ∷ (only Isochronous ∷ only Complete ∷ only IN ∷ only ERR ∷ []) gives Fail
    ∷ []

abbrev pub split_status : ℕ → ℕ → ℕ → ℕ → ℕ → Status
split_status kind sc last next len = look (split_rows len) Invalid (kind ∷ sc ∷ last ∷ next ∷ [])
