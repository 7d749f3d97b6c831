-- To be believed: Document 000, start_pid and extract_payload: the token of a transaction, and what a data packet brings to it.
-- Hold it to: start_pid and extract_payload of decoder.rs; 01, "Packets": "A payload is the part .."; 02, 6 (`yields` in the mode)
use Rattle.std.specs.Prelude.{Bool, true, false, ◌&&◌, ℕ, ◌-◌, eqb}
use Rattle.usb.specs.Pid.{SETUP, DATA0, DATA1, DATA2, MDATA}
use Rattle.usb.specs.Types.{Control, Start}
use Rattle.transaction.specs.declared.Style.{Style}
use Rattle.transaction.specs.declared.Style.TheVariants.{Nothing, Simple, Split, Token}
use Rattle.transaction.specs.declared.Transaction.{Transaction}
use Rattle.transaction.specs.Table.{pick, only, ◌or◌}

-- the PID of the token; 0 where there is none, which the Rust refuses
abbrev pub start_pid : Style → ℕ
start_pid Nothing = 0
start_pid (Simple pid) = pid
start_pid (Split sc kind) = 0
start_pid (Token sc kind pid) = pid

abbrev pub split_setup : ℕ → ℕ → ℕ → Bool
split_setup sc kind pid = eqb sc Start && (eqb kind Control && eqb pid SETUP)

-- a DATA0 brings setup bytes after a plain SETUP, and after one in a control start split
abbrev pub takes_setup : Style → Bool
takes_setup Nothing = false
takes_setup (Simple first) = eqb first SETUP
takes_setup (Split sc kind) = false
takes_setup (Token sc kind pid) = split_setup sc kind pid

-- Transaction from its fields, in their order
abbrev pub make_transaction : Style → ℕ → ℕ → ℕ → ℕ → Bool → ℕ → Bool → ℕ → Bool → ℕ → Transaction
make_transaction style id last endpoint kind linked link ready setup filled payload =
    record {
      style = style;
      id = id;
      last = last;
      endpoint = endpoint;
      kind = kind;
      linked = linked;
      link = link;
      ready = ready;
      setup = setup;
      filled = filled;
      payload = payload;
    }

-- the transaction with these four fields; extract_payload changes no other
abbrev pub changed : Transaction → Bool → ℕ → Bool → ℕ → Transaction
changed t ready setup filled payload = make_transaction t.style t.id t.last t.endpoint t.kind t.linked t.link ready setup filled payload

abbrev pub with_setup : Transaction → ℕ → Transaction
with_setup t s = changed t true s t.filled t.payload

abbrev pub with_payload : Transaction → ℕ → Transaction
with_payload t n = changed t t.ready t.setup true n

-- "DATA0 and DATA1 alone yield payloads" (01, Rules of a group); in the mode of 02, 6 DATA2 and MDATA yield theirs as well
abbrev pub yields : Bool → ℕ → Bool
yields high pid = pick high ((DATA0 or DATA1 or DATA2 or only MDATA) pid) ((DATA0 or only DATA1) pid)

-- A payload is the part from byte 1 up to two before the end (01, Packets; USB 2.0, 8.4.4). The PID is tested before the style,
-- which the Rust matches together: a test on the left decides at once.
unfoldable pub extract_payload : Bool → Transaction → ℕ → ℕ → ℕ → Transaction
extract_payload high t pid len setup =
    pick (eqb pid DATA0 && takes_setup t.style)
    (with_setup t setup)
    (pick (yields high pid) (with_payload t (len - 3)) t)
