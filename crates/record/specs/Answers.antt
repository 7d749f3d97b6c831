-- To be believed: the answer numbers, in the order they are tested (01, the table of "Answer numbers"); words in quotation marks are its.
-- Hold it to: 01, "Answer numbers", the table in its order
use Rattle.std.specs.Prelude.{ℕ, Bool, true, false, cond, ltb, Option, Some, None}
use Rattle.details.specs.Details.{wrong}

-- what each number is given for, but for 0
pub record Tests : Type 0 where
  -- 1: "a lent log is too long, or the record is not well formed"
  pub ill : Bool
  -- 2: "the decoder was finished before"
  pub finished : Bool
  -- 3: "packet longer than 4,096"
  pub long : Bool
  -- 4: "event kind above 7"
  pub kind : Bool
  -- 5: "detail with number above 15, type above 3, direction above 1, or number 0 with a type other than control"
  pub detail : Bool
  -- 6: "detail for an address with no device"
  pub address : Bool
  -- 7: "by the rules the call would end with more rows, bytes, devices or endpoints than there is room for"
  pub full : Bool
  -- 9: "an endpoint's byte total would pass 2^64 - 1"
  pub over : Bool
  -- 8: "a packet comes while the suspended transaction has no endpoint"
  pub dropped : Bool

-- the first that applies; 0 where "none below applies"
unfoldable pub first_of : Tests → ℕ
first_of q =
    cond q.ill 1
    (cond q.finished 2
    (cond q.long 3
    (cond q.kind 4
    (cond q.detail 5
    (cond q.address 6
    (cond q.full 7
    (cond q.over 9
    (cond q.dropped 8 0))))))))

-- ---- each call's own tests; those of another call never apply

abbrev pub packet_tests : Bool → Bool → ℕ → Bool → Bool → Bool → Tests
packet_tests ill finished len full over dropped =
    record { ill = ill; finished = finished; long = ltb 4096 len; kind = false; detail = false; address = false; full = full; over = over; dropped = dropped }

abbrev pub event_tests : Bool → Bool → ℕ → Bool → Bool → Tests
event_tests ill finished kind full over =
    record { ill = ill; finished = finished; long = false; kind = ltb 7 kind; detail = false; address = false; full = full; over = over; dropped = false }

-- no device now stands for the address
abbrev pub missing : Option ℕ → Bool
missing (Some d) = false
missing None = true

-- a detail call appends nothing
abbrev pub detail_tests : Bool → Bool → ℕ → ℕ → ℕ → Option ℕ → Tests
detail_tests ill finished number direction kind device =
    record {
      ill = ill;
      finished = finished;
      long = false;
      kind = false;
      detail = wrong number direction kind;
      address = missing device;
      full = false;
      over = false;
      dropped = false;
    }

abbrev pub finish_tests : Bool → Bool → Bool → Bool → Tests
finish_tests ill finished full over =
    record { ill = ill; finished = finished; long = false; kind = false; detail = false; address = false; full = full; over = over; dropped = false }
