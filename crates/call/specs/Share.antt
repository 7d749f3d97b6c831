-- Inner (cited by private contracts alone): what the code of several calls shares: the first tests, where a call begins to write, the transaction's T row, and
-- what is known of lent words.
use Rattle.std.specs.Prelude.{ℕ, pred, ◌^◌, ◌<◌, cond, not, ◌||◌, List, ltb, ◌≡◌, length, get_or}
use Rattle.endpoints.specs.Word as word
use Rattle.details.specs.declared.Device.{Device}
use Rattle.transaction.specs.declared.Transaction.{Transaction}
use Rattle.rules.specs.World.{stamp, last_of}
use Rattle.rules.specs.declared.Stamp.{Stamp}
use Rattle.endpoints.specs.Table.{first_at}
use Rattle.write.specs.declared.Firsts.{Firsts}
use Rattle.write.specs.declared.Written.{Written}
use Rattle.record.specs.Formed.{well_formed}
use Rattle.record.specs.Room.{long}
use Rattle.record.specs.declared.Counts.{Counts}
use Rattle.record.specs.declared.Decoder.{Decoder}

-- the tests that come first: 1, 2 and then a, where n passes `most` (a packet's length: 3; an event's kind: 4)
abbrev pub first_tests : Decoder → List Device → List ℕ → Counts → ℕ → ℕ → ℕ → ℕ
first_tests d v t room n most a = cond (long room || not (well_formed d v t room)) 1 (cond d.finished 2 (cond (ltb most n) a 0))

-- the first numbers of the logs whose rows other rows name
abbrev pub firsts_of : List ℕ → Firsts
firsts_of t = record { groups = first_at 6 t; statebytes = first_at 7 t; items = first_at 9 t }

-- what finish brings: the last packet row, or zeros where there is none (02, 9)
abbrev pub last_stamp : Decoder → Stamp
last_stamp d = last_of d.counts.packets (stamp (pred d.counts.packets) d.time 0)

-- where a call begins to write, and what it brings: n rows are held
abbrev pub written_of : Stamp → Counts → Decoder → List ℕ → Written
written_of c n d t =
    record { stamp = c; firsts = firsts_of t; groups = n.groups; statebytes = n.statebytes; states = n.states; items = n.items; links = n.links; last = d.last; linked = d.transaction.linked; link = d.transaction.link }

-- a transaction with the T row that it has by now
abbrev pub tied : Transaction → Written → Transaction
tied t h = record { style = t.style; id = t.id; last = t.last; endpoint = t.endpoint; kind = t.kind; linked = h.linked; link = h.link; ready = t.ready; setup = t.setup; filled = t.filled; payload = t.payload }

-- each word is one
abbrev pub Words : List ℕ → Type 0
Words t = (i : ℕ) → get_or t i 0 < 2 ^ 64

-- each byte is one
abbrev pub Bytes : List ℕ → Type 0
Bytes l = (i : ℕ) → get_or l i 0 < 256

-- a lent table has all its words
pub record Known (t : List ℕ) : Type 0 where
  pub size : length t ≡ word.table
  pub words : Words t
