-- Inner (cited by private contracts alone): how many rows a call adds, step by step (plan), before anything is written; and the counts then.
use Rattle.std.specs.Prelude.{ℕ, ◌+◌, ◌-◌, ◌^◌, ◌<◌, ◌≤◌, Bool, false, not, ◌&&◌, ◌≡◌}
use Rattle.rows.specs.One.{one}
use Rattle.group.specs.Step.{is_active}
use Rattle.rules.specs.Events.{Act}
use Rattle.rules.specs.World.{◌▷◌}
use Rattle.tally.specs.Tally.{none, add_device, add_endpoint, add_event, add_packet, add_transaction, tally_effect, tally_update, tally_act}
use Rattle.update.specs.Update.{when}
use Rattle.tally.specs.declared.add.Tally.{Tally}
use Rattle.record.specs.Room.{fitting, numbered}
use Rattle.record.specs.RoomLaws.{Numbered}
use Rattle.record.specs.declared.Counts.{Counts}
use Rattle.plan.specs.declared.Begin.{Begin}
use Rattle.plan.specs.declared.End.{End}
use Rattle.plan.specs.declared.Ending.{Ending}
use Rattle.plan.specs.declared.Plan.{Plan}

-- ---- the steps; n is how many endpoints there are before

-- how many there are once the step's rows are
abbrev pub endpoints_then : Begin → ℕ → ℕ
endpoints_then s n = n + one s.endpoint

unfoldable pub tally_begin : Begin → ℕ → Tally → Tally
tally_begin s n t =
    t ▷ when s.row add_transaction
    ▷ when s.device add_device
    ▷ when s.endpoint add_endpoint
    ▷ tally_update s.update (endpoints_then s n)

unfoldable pub tally_end : End → ℕ → Tally → Tally
tally_end s n t = t ▷ tally_update s.update n ▷ tally_effect s.effect

-- ---- the calls; m is how many endpoints wait before

-- a packet of so many bytes, as `played` goes (plan, Packet); a resume adds no endpoint
unfoldable pub tally_plan : Plan → ℕ → ℕ → ℕ → Tally
tally_plan p len n m =
    none m ▷ add_packet len
    ▷ when p.resumes (tally_begin p.resume n)
    ▷ when p.ends (tally_end p.end n)
    ▷ tally_begin p.begin n
    ▷ when p.closes (tally_end p.close (endpoints_then p.begin n))

-- finish, and the first part of any event but a keepalive
unfoldable pub tally_ending : Ending → ℕ → ℕ → Tally
tally_ending e n m = none m ▷ when e.ends (tally_end e.end n)

-- every active group ends, and k endpoints wait then
abbrev pub wait_anew : ℕ → Tally → Tally
wait_anew k t =
    record { bytes = t.bytes; devices = t.devices; endpoints = t.endpoints; packets = t.packets; events = t.events; transactions = t.transactions; groups = t.groups; statebytes = t.statebytes; states = t.states; items = t.items; links = t.links; requests = t.requests; waiting = k }

-- the rows of the event itself, where there is a keepalive group or not
unfoldable pub tally_rows : Act → Bool → ℕ → Tally → Tally
tally_rows a keepalive n t = t ▷ add_packet 0 ▷ add_event ▷ tally_act a keepalive n

-- a keepalive, which only suspends
unfoldable pub tally_keepalive : Act → Bool → ℕ → ℕ → Tally
tally_keepalive a keepalive n m = none m ▷ tally_rows a keepalive n

-- how many wait once every active group has ended: m after the transaction's end, and those active, of which there were a before it. The
-- transaction's endpoint has an active group then unless its group ended
unfoldable pub waiting_then : Ending → ℕ → ℕ → ℕ
waiting_then e m a = when e.ends (λ (k : ℕ). k + one (not e.end.update.end) - one (is_active e.end.entry.phase)) (m + a)

-- any other event, with a groups active before it
unfoldable pub tally_event : Ending → Act → ℕ → ℕ → ℕ → Tally
tally_event e act n m a =
    let t = tally_ending e n m in
    t ▷ wait_anew (waiting_then e t.waiting a) ▷ tally_rows act false n

-- ---- the counts then

unfoldable pub add_counts : Counts → Tally → Counts
add_counts n t =
    record {
      bytes = n.bytes + t.bytes;
      devices = n.devices + t.devices;
      endpoints = n.endpoints + t.endpoints;
      packets = n.packets + t.packets;
      events = n.events + t.events;
      transactions = n.transactions + t.transactions;
      groups = n.groups + t.groups;
      statebytes = n.statebytes + t.statebytes;
      states = n.states + t.states;
      items = n.items + t.items;
      links = n.links + t.links;
      requests = n.requests + t.requests;
    }

-- there is room for a tally's rows: behind the rows that are held, and by their numbers, where n are numbered
abbrev pub room_for : Counts → Counts → Tally → Counts → Bool
room_for held n t room = fitting (add_counts held t) room && numbered (add_counts n t)

-- each sum is a word
pub record Sums (n : Counts) (t : Tally) : Type 0 where
  pub bytes : n.bytes + t.bytes < 2 ^ 64
  pub devices : n.devices + t.devices < 2 ^ 64
  pub endpoints : n.endpoints + t.endpoints < 2 ^ 64
  pub packets : n.packets + t.packets < 2 ^ 64
  pub events : n.events + t.events < 2 ^ 64
  pub transactions : n.transactions + t.transactions < 2 ^ 64
  pub groups : n.groups + t.groups < 2 ^ 64
  pub statebytes : n.statebytes + t.statebytes < 2 ^ 64
  pub states : n.states + t.states < 2 ^ 64
  pub items : n.items + t.items < 2 ^ 64
  pub links : n.links + t.links < 2 ^ 64
  pub requests : n.requests + t.requests < 2 ^ 64

-- no count passes k
pub record Under (k : ℕ) (n : Counts) : Type 0 where
  pub bytes : n.bytes ≤ k
  pub devices : n.devices ≤ k
  pub endpoints : n.endpoints ≤ k
  pub packets : n.packets ≤ k
  pub events : n.events ≤ k
  pub transactions : n.transactions ≤ k
  pub groups : n.groups ≤ k
  pub statebytes : n.statebytes ≤ k
  pub states : n.states ≤ k
  pub items : n.items ≤ k
  pub links : n.links ≤ k
  pub requests : n.requests ≤ k

-- what a sum asks of the counts: the rows held are few, and no number passes the greatest; those that are never given back are held
pub record Countable (held n : Counts) : Type 0 where
  pub few : Under (2 ^ 40) held
  pub numbered : Numbered n
  pub devices : n.devices ≡ held.devices
  pub endpoints : n.endpoints ≡ held.endpoints
  pub requests : n.requests ≡ held.requests
