-- To be believed: Document 000, transaction_status: the rows where there is no transaction, or a plain one, in the Rust's order. As there, those for
-- MALFORMED are never reached: such a packet is Invalid before any row is looked at.
-- Hold it to: transaction_status of decoder.rs, with no transaction or a plain one (scripts/rows compares the rows); 01, "Rules of a transaction"; 02, 6 (`high_rows`)
use Rattle.std.specs.Prelude.{Bool, List, [], ◌∷◌, ◌++◌, ℕ, eqb}
use Rattle.usb.specs.Pid.{OUT, IN, SOF, PING, MALFORMED, SETUP, SPLIT, DATA0, DATA1, DATA2, MDATA, ACK, NAK, NYET, STALL}
use Rattle.usb.specs.Types.{Control, Isochronous, Bulk, Interrupt}
use Rattle.transaction.specs.declared.Status.{Status}
use Rattle.transaction.specs.declared.Status.TheVariants.{New, Continue, Done, Fail, Ambiguous, Invalid}
use Rattle.transaction.specs.Table.{Row, ◌gives◌, ◌when◌, pick, any, only, ◌or◌, look}

-- no transaction: by the next PID
abbrev pub start_rows : List (Row Status)
start_rows =
    (SOF or SETUP or IN or OUT or PING or only SPLIT ∷ []) gives New
    ∷ (only MALFORMED ∷ []) gives New
    ∷ []

abbrev pub start_status : ℕ → Status
start_status next = look start_rows Invalid (next ∷ [])

-- by the endpoint's type; any number but the four of USB 2.0 is a type that is not known
abbrev pub kind_rows : List (Row Status)
kind_rows =
    (only Isochronous ∷ []) gives Done
    ∷ (Control or Bulk or only Interrupt ∷ []) gives Continue
    ∷ []

abbrev pub by_kind : ℕ → Status
by_kind kind = look kind_rows Ambiguous (kind ∷ [])

-- a plain transaction: by the first PID, the last and the next; kind is the endpoint's type, len the packet's length
abbrev pub simple_rows : ℕ → ℕ → List (Row Status)
simple_rows kind len =
    (any ∷ any ∷ SETUP or IN or OUT or PING or only SPLIT ∷ []) gives New
    ∷ (any ∷ only SOF ∷ only SOF ∷ []) gives Continue
    ∷ (any ∷ only MALFORMED ∷ only MALFORMED ∷ []) gives Continue
    ∷ (any ∷ any ∷ SOF or only MALFORMED ∷ []) gives New
    ∷ (any ∷ only SETUP ∷ only DATA0 ∷ []) gives Continue when eqb len 11
    ∷ (only SETUP ∷ only DATA0 ∷ only ACK ∷ []) gives Done
    ∷ (any ∷ only IN ∷ NAK or only STALL ∷ []) gives Fail
    ∷ (any ∷ IN or only OUT ∷ DATA0 or only DATA1 ∷ []) gives by_kind kind
    ∷ (IN or only OUT ∷ DATA0 or only DATA1 ∷ ACK or only NYET ∷ []) gives Done
    ∷ (only OUT ∷ DATA0 or only DATA1 ∷ NAK or only STALL ∷ []) gives Fail
    ∷ (any ∷ only PING ∷ only ACK ∷ []) gives Done
    ∷ (any ∷ only PING ∷ NAK or only STALL ∷ []) gives Fail
    ∷ []

-- 02, 6, before these in the mode: "on an endpoint known as isochronous, IN then DATA2, and OUT then DATA2 or MDATA, are Done"
abbrev pub high_rows : ℕ → List (Row Status)
high_rows kind =
    (any ∷ only IN ∷ only DATA2 ∷ []) gives Done when eqb kind Isochronous
    ∷ (any ∷ only OUT ∷ DATA2 or only MDATA ∷ []) gives Done when eqb kind Isochronous
    ∷ []

-- high is the mode of 02, 6; "without the mode nothing changes"
abbrev pub simple_rows_in : Bool → ℕ → ℕ → List (Row Status)
simple_rows_in high kind len = pick high (high_rows kind ++ simple_rows kind len) (simple_rows kind len)

abbrev pub simple_status_in : Bool → ℕ → ℕ → ℕ → ℕ → ℕ → Status
simple_status_in high first last next kind len = look (simple_rows_in high kind len) Invalid (first ∷ last ∷ next ∷ [])
