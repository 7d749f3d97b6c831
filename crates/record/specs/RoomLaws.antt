-- Inner (cited by private contracts alone): what `fitting` and `long` tell, each number by its log's name, and what they want.
use Rattle.std.specs.Prelude.{ℕ, ◌+◌, ◌-◌, ◌≤◌, ◌≡◌, true, false, List}
use Rattle.std.proofs.Common.{arith, sym, subst, leb-true, le-leb, ltb-false, le-ltb}
use Rattle.record.specs.Bools.{both, and, neither, nor}
use Rattle.endpoints.specs.Table.{first_at}
use Rattle.record.specs.Room.{most_rows, most_bytes, most_devices, most_endpoints, most_number, fitting, long, held_of, begun, numbered, roomy}
use Rattle.record.specs.declared.Counts.{Counts}

-- every count is within its log
pub record Within (n room : Counts) : Type 0 where
  pub bytes : n.bytes ≤ room.bytes
  pub devices : n.devices ≤ room.devices
  pub few_devices : n.devices ≤ most_devices
  pub endpoints : n.endpoints ≤ room.endpoints
  pub few_endpoints : n.endpoints ≤ most_endpoints
  pub packets : n.packets ≤ room.packets
  pub events : n.events ≤ room.events
  pub transactions : n.transactions ≤ room.transactions
  pub groups : n.groups ≤ room.groups
  pub statebytes : n.statebytes ≤ room.statebytes
  pub states : n.states ≤ room.states
  pub items : n.items ≤ room.items
  pub links : n.links ≤ room.links
  pub requests : n.requests ≤ room.requests

pub within : (n room : Counts) → fitting n room ≡ true → Within n room
unfolding fitting
within n room h =
    let h13 = both _ _ h in
    let h12 = both _ _ h13.0 in
    let h11 = both _ _ h12.0 in
    let h10 = both _ _ h11.0 in
    let h9 = both _ _ h10.0 in
    let h8 = both _ _ h9.0 in
    let h7 = both _ _ h8.0 in
    let h6 = both _ _ h7.0 in
    let h5 = both _ _ h6.0 in
    let h4 = both _ _ h5.0 in
    let h3 = both _ _ h4.0 in
    let h2 = both _ _ h3.0 in
    let h1 = both _ _ h2.0 in
    record {
      bytes = leb-true _ _ h1.0;
      devices = leb-true _ _ h1.1;
      few_devices = leb-true _ _ h2.1;
      endpoints = leb-true _ _ h3.1;
      few_endpoints = leb-true _ _ h4.1;
      packets = leb-true _ _ h5.1;
      events = leb-true _ _ h6.1;
      transactions = leb-true _ _ h7.1;
      groups = leb-true _ _ h8.1;
      statebytes = leb-true _ _ h9.1;
      states = leb-true _ _ h10.1;
      items = leb-true _ _ h11.1;
      links = leb-true _ _ h12.1;
      requests = leb-true _ _ h13.1;
    }

pub fitting_within : (n room : Counts) → Within n room → fitting n room ≡ true
unfolding fitting
fitting_within n room w =
    and _ _ (and _ _ (and _ _ (and _ _ (and _ _ (and _ _ (and _ _ (and _ _ (and _ _ (and _ _ (and _ _ (and _ _ (and _ _ (le-leb _ _ w.bytes) (le-leb _ _ w.devices)) (le-leb _ _ w.few_devices)) (le-leb _ _ w.endpoints)) (le-leb _ _ w.few_endpoints)) (le-leb _ _ w.packets)) (le-leb _ _ w.events)) (le-leb _ _ w.transactions)) (le-leb _ _ w.groups)) (le-leb _ _ w.statebytes)) (le-leb _ _ w.states)) (le-leb _ _ w.items)) (le-leb _ _ w.links)) (le-leb _ _ w.requests)

-- no log is too long
pub record Short (room : Counts) : Type 0 where
  pub bytes : room.bytes ≤ most_bytes
  pub devices : room.devices ≤ most_rows
  pub endpoints : room.endpoints ≤ most_rows
  pub packets : room.packets ≤ most_rows
  pub events : room.events ≤ most_rows
  pub transactions : room.transactions ≤ most_rows
  pub groups : room.groups ≤ most_rows
  pub statebytes : room.statebytes ≤ most_bytes
  pub states : room.states ≤ most_rows
  pub items : room.items ≤ most_rows
  pub links : room.links ≤ most_rows
  pub requests : room.requests ≤ most_rows

pub short : (room : Counts) → long room ≡ false → Short room
unfolding long
short room h =
    let h11 = neither _ _ h in
    let h10 = neither _ _ h11.0 in
    let h9 = neither _ _ h10.0 in
    let h8 = neither _ _ h9.0 in
    let h7 = neither _ _ h8.0 in
    let h6 = neither _ _ h7.0 in
    let h5 = neither _ _ h6.0 in
    let h4 = neither _ _ h5.0 in
    let h3 = neither _ _ h4.0 in
    let h2 = neither _ _ h3.0 in
    let h1 = neither _ _ h2.0 in
    record {
      bytes = ltb-false _ _ h1.0;
      devices = ltb-false _ _ h1.1;
      endpoints = ltb-false _ _ h2.1;
      packets = ltb-false _ _ h3.1;
      events = ltb-false _ _ h4.1;
      transactions = ltb-false _ _ h5.1;
      groups = ltb-false _ _ h6.1;
      statebytes = ltb-false _ _ h7.1;
      states = ltb-false _ _ h8.1;
      items = ltb-false _ _ h9.1;
      links = ltb-false _ _ h10.1;
      requests = ltb-false _ _ h11.1;
    }

pub long-short : (room : Counts) → Short room → long room ≡ false
unfolding long
long-short room s =
    nor _ _ (nor _ _ (nor _ _ (nor _ _ (nor _ _ (nor _ _ (nor _ _ (nor _ _ (nor _ _ (nor _ _ (nor _ _ (le-ltb _ _ s.bytes) (le-ltb _ _ s.devices)) (le-ltb _ _ s.endpoints)) (le-ltb _ _ s.packets)) (le-ltb _ _ s.events)) (le-ltb _ _ s.transactions)) (le-ltb _ _ s.groups)) (le-ltb _ _ s.statebytes)) (le-ltb _ _ s.states)) (le-ltb _ _ s.items)) (le-ltb _ _ s.links)) (le-ltb _ _ s.requests)

-- ---- numbers and places

-- no log's first number passes that of its next row
pub record Begun (table : List ℕ) (n : Counts) : Type 0 where
  pub bytes : first_at 0 table ≤ n.bytes
  pub packets : first_at 3 table ≤ n.packets
  pub events : first_at 4 table ≤ n.events
  pub transactions : first_at 5 table ≤ n.transactions
  pub groups : first_at 6 table ≤ n.groups
  pub statebytes : first_at 7 table ≤ n.statebytes
  pub states : first_at 8 table ≤ n.states
  pub items : first_at 9 table ≤ n.items
  pub links : first_at 10 table ≤ n.links

pub begun-is : (table : List ℕ) (n : Counts) → begun table n ≡ true → Begun table n
unfolding begun
begun-is table n h =
    let h8 = both _ _ h in
    let h7 = both _ _ h8.0 in
    let h6 = both _ _ h7.0 in
    let h5 = both _ _ h6.0 in
    let h4 = both _ _ h5.0 in
    let h3 = both _ _ h4.0 in
    let h2 = both _ _ h3.0 in
    let h1 = both _ _ h2.0 in
    record {
      bytes = leb-true _ _ h1.0;
      packets = leb-true _ _ h1.1;
      events = leb-true _ _ h2.1;
      transactions = leb-true _ _ h3.1;
      groups = leb-true _ _ h4.1;
      statebytes = leb-true _ _ h5.1;
      states = leb-true _ _ h6.1;
      items = leb-true _ _ h7.1;
      links = leb-true _ _ h8.1;
    }

pub is-begun : (table : List ℕ) (n : Counts) → Begun table n → begun table n ≡ true
unfolding begun
is-begun table n b = and _ _ (and _ _ (and _ _ (and _ _ (and _ _ (and _ _ (and _ _ (and _ _ (le-leb _ _ b.bytes) (le-leb _ _ b.packets)) (le-leb _ _ b.events)) (le-leb _ _ b.transactions)) (le-leb _ _ b.groups)) (le-leb _ _ b.statebytes)) (le-leb _ _ b.states)) (le-leb _ _ b.items)) (le-leb _ _ b.links)

-- no number passes the greatest
pub record Numbered (n : Counts) : Type 0 where
  pub bytes : n.bytes ≤ most_number
  pub packets : n.packets ≤ most_number
  pub events : n.events ≤ most_number
  pub transactions : n.transactions ≤ most_number
  pub groups : n.groups ≤ most_number
  pub statebytes : n.statebytes ≤ most_number
  pub states : n.states ≤ most_number
  pub items : n.items ≤ most_number
  pub links : n.links ≤ most_number

pub numbered_is : (n : Counts) → numbered n ≡ true → Numbered n
unfolding numbered
numbered_is n h =
    let h8 = both _ _ h in
    let h7 = both _ _ h8.0 in
    let h6 = both _ _ h7.0 in
    let h5 = both _ _ h6.0 in
    let h4 = both _ _ h5.0 in
    let h3 = both _ _ h4.0 in
    let h2 = both _ _ h3.0 in
    let h1 = both _ _ h2.0 in
    record {
      bytes = leb-true _ _ h1.0;
      packets = leb-true _ _ h1.1;
      events = leb-true _ _ h2.1;
      transactions = leb-true _ _ h3.1;
      groups = leb-true _ _ h4.1;
      statebytes = leb-true _ _ h5.1;
      states = leb-true _ _ h6.1;
      items = leb-true _ _ h7.1;
      links = leb-true _ _ h8.1;
    }

pub is-numbered : (n : Counts) → Numbered n → numbered n ≡ true
unfolding numbered
is-numbered n b = and _ _ (and _ _ (and _ _ (and _ _ (and _ _ (and _ _ (and _ _ (and _ _ (le-leb _ _ b.bytes) (le-leb _ _ b.packets)) (le-leb _ _ b.events)) (le-leb _ _ b.transactions)) (le-leb _ _ b.groups)) (le-leb _ _ b.statebytes)) (le-leb _ _ b.states)) (le-leb _ _ b.items)) (le-leb _ _ b.links)

-- all that room asks of counts
pub record Roomy (table : List ℕ) (n room : Counts) : Type 0 where
  pub begun : Begun table n
  pub held : Within (held_of table n) room
  pub numbered : Numbered n

pub roomy-is : (table : List ℕ) (n room : Counts) → roomy table n room ≡ true → Roomy table n room
unfolding roomy
roomy-is table n room h =
    let g = both _ _ h in
    let b = both _ _ g.0 in
    record { begun = begun-is table n b.0; held = within _ _ b.1; numbered = numbered_is n g.1 }

pub is-roomy : (table : List ℕ) (n room : Counts) → Roomy table n room → roomy table n room ≡ true
unfolding roomy
is-roomy table n room r = and _ _ (and _ _ (is-begun table n r.begun) (fitting_within _ _ r.held)) (is-numbered n r.numbered)

-- room on another table with the same first numbers, and for the same numbers
pub roomy_same : {t t' : List ℕ} {n n' room : Counts} → ((k : ℕ) → first_at k t' ≡ first_at k t) → n' ≡ n → Roomy t n room → Roomy t' n' room
roomy_same {t} {t'} {n} {n'} {room} f e r =
    subst (λ (m : Counts). Roomy t' m room) (sym e)
    (record {
      begun = record { bytes = let a = f 0 in let b = r.begun.bytes in omega (arith, a, b); packets = let a = f 3 in let b = r.begun.packets in omega (arith, a, b); events = let a = f 4 in let b = r.begun.events in omega (arith, a, b); transactions = let a = f 5 in let b = r.begun.transactions in omega (arith, a, b); groups = let a = f 6 in let b = r.begun.groups in omega (arith, a, b); statebytes = let a = f 7 in let b = r.begun.statebytes in omega (arith, a, b); states = let a = f 8 in let b = r.begun.states in omega (arith, a, b); items = let a = f 9 in let b = r.begun.items in omega (arith, a, b); links = let a = f 10 in let b = r.begun.links in omega (arith, a, b) };
      held = record { bytes = let a = f 0 in let b = r.held.bytes in omega (arith, a, b); devices = r.held.devices; few_devices = r.held.few_devices; endpoints = r.held.endpoints; few_endpoints = r.held.few_endpoints; packets = let a = f 3 in let b = r.held.packets in omega (arith, a, b); events = let a = f 4 in let b = r.held.events in omega (arith, a, b); transactions = let a = f 5 in let b = r.held.transactions in omega (arith, a, b); groups = let a = f 6 in let b = r.held.groups in omega (arith, a, b); statebytes = let a = f 7 in let b = r.held.statebytes in omega (arith, a, b); states = let a = f 8 in let b = r.held.states in omega (arith, a, b); items = let a = f 9 in let b = r.held.items in omega (arith, a, b); links = let a = f 10 in let b = r.held.links in omega (arith, a, b); requests = r.held.requests };
      numbered = r.numbered;
    })

-- where every log begins at 0, the rows held are all that are numbered
pub all_held : (t : List ℕ) (n : Counts) → ((k : ℕ) → first_at k t ≡ 0) → held_of t n ≡ n
all_held t n z = λ i. record { bytes = none n.bytes (z 0) i; devices = n.devices; endpoints = n.endpoints; packets = none n.packets (z 3) i; events = none n.events (z 4) i; transactions = none n.transactions (z 5) i; groups = none n.groups (z 6) i; statebytes = none n.statebytes (z 7) i; states = none n.states (z 8) i; items = none n.items (z 9) i; links = none n.links (z 10) i; requests = n.requests }
  where
    none : (m : ℕ) {k : ℕ} → k ≡ 0 → m - k ≡ m
    none m {k} e = omega (arith, e)
