-- The room for a packet that is taken without a plan (specs/Room.antt): by four logs it is the room for all twelve.
use mathlib.Core.Path.{◌≡◌, refl, sym, ap, subst, ◌∙◌}
use mathlib.Core.Bool.{Bool, true, false, ◌&&◌, not, false≢true}
use Prim.Native.Nat.{ℕ, ◌+◌}
use native.Mathlib.Omega.{arith}
use borrow.Author.Tests.{leb-true}
use lib.Dec.{leb}
use Rattle.tally.specs.Tallies.{add_counts, room_for}
use Rattle.tally.specs.declared.add.Tally.{Tally}
use Rattle.record.specs.Bools.{both}
use Rattle.record.specs.Room.{fitting, most_number, numbered}
use Rattle.record.specs.RoomLaws.{Within, Numbered, fitting_within, is-numbered}
use Rattle.record.specs.declared.Counts.{Counts}
use Rattle.quick.specs.Room.{more_rows, most_numbers, rows_room, RowsFit, RowsRoom}

-- a test that is turned round
pub off : (b : Bool) → not b ≡ true → b ≡ false
off true h = absurd (false≢true h)
off false h = refl

-- nothing more of the other kinds
pub plain : (n : Counts) (len a b : ℕ) → ◌≡◌ {A = Counts}
    (record { bytes = n.bytes + (0 + len); devices = n.devices + 0; endpoints = n.endpoints + 0; packets = n.packets + 1; events = n.events + 0; transactions = n.transactions + a; groups = n.groups + 0; statebytes = n.statebytes + 0; states = n.states + 0; items = n.items + 0; links = n.links + b; requests = n.requests + 0 })
    (more_rows a b len n)
plain n len a b =
    let same : (m : ℕ) → m + 0 ≡ m = λ m. omega arith in
    let long : n.bytes + (0 + len) ≡ n.bytes + len = omega arith in
    λ i. record { bytes = long i; devices = same n.devices i; endpoints = same n.endpoints i; packets = n.packets + 1; events = same n.events i; transactions = n.transactions + a; groups = same n.groups i; statebytes = same n.statebytes i; states = same n.states i; items = same n.items i; links = n.links + b; requests = same n.requests i }

-- the rows, of those that fitted before
fits_by : (a b len : ℕ) (n room : Counts) → Within n room → RowsFit a b len n room → fitting (more_rows a b len n) room ≡ true
fits_by a b len n room w f =
    fitting_within (more_rows a b len n) room
    (record {
      bytes = f.bytes;
      devices = w.devices;
      few_devices = w.few_devices;
      endpoints = w.endpoints;
      few_endpoints = w.few_endpoints;
      packets = f.packets;
      events = w.events;
      transactions = f.transactions;
      groups = w.groups;
      statebytes = w.statebytes;
      states = w.states;
      items = w.items;
      links = f.links;
      requests = w.requests;
    })

-- and their numbers
numbers_by : (a b len : ℕ) (n : Counts) → Numbered n → RowsFit a b len n most_numbers → numbered (more_rows a b len n) ≡ true
numbers_by a b len n m f =
    is-numbered (more_rows a b len n)
    (record { bytes = f.bytes; packets = f.packets; events = m.events; transactions = f.transactions; groups = m.groups; statebytes = m.statebytes; states = m.states; items = m.items; links = f.links })

-- the room, of rows and numbers that fitted before, for a tally that has no other rows
pub room-by : (a b len : ℕ) (z : Tally) (held n room : Counts) → ((m : Counts) → add_counts m z ≡ more_rows a b len m) → Within held room → Numbered n → RowsRoom a b len held n room → room_for held n z room ≡ true
room-by a b len z held n room e w m f =
    let p : fitting (add_counts held z) room ≡ true = ap (λ (c : Counts). fitting c room) (e held) ∙ fits_by a b len held room w f.rows in
    let q : numbered (add_counts n z) ≡ true = ap numbered (e n) ∙ numbers_by a b len n m f.numbers in
    λ i. p i && q i

-- the comparisons that rows_fit has made
pub room_fits : (a b len : ℕ) (held n room : Counts) → rows_room a b len held n room ≡ true → RowsRoom a b len held n room
room_fits a b len held n room h =
    let r1 = leb (held.bytes + len) room.bytes in
    let r2 = leb (held.packets + 1) room.packets in
    let r3 = leb (held.transactions + a) room.transactions in
    let r4 = leb (held.links + b) room.links in
    let n1 = leb (n.bytes + len) most_number in
    let n2 = leb (n.packets + 1) most_number in
    let n3 = leb (n.transactions + a) most_number in
    let p = both ((((((r1 && r2) && r3) && r4) && n1) && n2) && n3) _ h in
    let q = both (((((r1 && r2) && r3) && r4) && n1) && n2) n3 p.0 in
    let c = both ((((r1 && r2) && r3) && r4) && n1) n2 q.0 in
    let d = both (((r1 && r2) && r3) && r4) n1 c.0 in
    let e = both ((r1 && r2) && r3) r4 d.0 in
    let f = both (r1 && r2) r3 e.0 in
    let g = both r1 r2 f.0 in
    record {
      rows = record { bytes = leb-true _ _ g.0; packets = leb-true _ _ g.1; transactions = leb-true _ _ f.1; links = leb-true _ _ e.1 };
      numbers = record { bytes = leb-true _ _ d.1; packets = leb-true _ _ c.1; transactions = leb-true _ _ q.1; links = leb-true _ _ p.1 };
    }

-- by numbers of rows that are equal
pub fit_same : {a b a' b' len : ℕ} {n room : Counts} → a' ≡ a → b' ≡ b → RowsFit a b len n room → RowsFit a' b' len n room
fit_same {a} {b} {a'} {b'} {len} {n} {room} e f h = subst (λ (x : ℕ). RowsFit x b' len n room) (sym e) (subst (λ (y : ℕ). RowsFit a y len n room) (sym f) h)
