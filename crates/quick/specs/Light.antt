-- Inner (cited by private contracts alone): a light end: it writes no group row and no item, and adds no device and no request. So what it leaves is a T row, a D row and one entry.
use Rattle.std.specs.Prelude.{ℕ, ◌+◌, ◌*◌, Bool, true, false, ◌&&◌, not, List, [], ◌∷◌}
use Rattle.std.proofs.lemmas.List.Edits.{sets}
use Rattle.rows.specs.One.{one}
use Rattle.rows.specs.Sets.{opt}
use Rattle.rows.specs.Widths.{packet_width, link_width}
use Rattle.endpoints.specs.Link as kind
use Rattle.endpoints.specs.Table.{store_at}
use Rattle.endpoints.specs.declared.Endpoint.{Endpoint}
use Rattle.transaction.specs.Payload.{start_pid}
use Rattle.transaction.specs.declared.Transaction.{Transaction}
use Rattle.group.specs.declared.Effect.{Effect}
use Rattle.group.specs.declared.Effect.TheVariants.{NoEffect, NewDevice, Request, PendingData, IndexData}
use Rattle.rules.specs.World.{more_transactions, with_link}
use Rattle.rules.specs.declared.EventState.TheVariants.{Idle}
use Rattle.rules.specs.declared.Slot.TheVariants.{Empty}
use Rattle.update.specs.Effect.{passes, effect_entry}
use Rattle.update.specs.Entry.{become_entry}
use Rattle.update.specs.Update.{when}
use Rattle.update.specs.declared.Update.{Update}
use Rattle.record.specs.declared.Counts.{Counts}
use Rattle.record.specs.declared.Decoder.{Decoder}
use Rattle.plan.specs.declared.End.{End}
use Rattle.call.specs.State.{State, state, logs, held_at}
use Rattle.write_packet.specs.Desk.{total_words}
use Rattle.quick.specs.Room.{rows_room}

-- ---- the shape

-- no row of a group, and no item
abbrev pub is_quiet : Update → Bool
is_quiet u = (((not u.over && not u.cut) && not u.start) && not u.end) && not u.item

-- nothing, or a payload that is counted
abbrev pub is_counting : Effect → Bool
is_counting NoEffect = true
is_counting (NewDevice address) = false
is_counting (Request n) = false
is_counting (PendingData n) = false
is_counting (IndexData n waited i) = true

-- whether there is a D row
abbrev pub is_total : Effect → Bool
is_total NoEffect = false
is_total (NewDevice address) = false
is_total (Request n) = false
is_total (PendingData n) = false
is_total (IndexData n waited i) = true

-- its link rows
abbrev pub link_rows : Update → Effect → ℕ
link_rows u f = one u.link + one (is_total f)

-- what is tested: the end is light, no byte total passes, and there is room for a packet of so many bytes
abbrev pub light_fits : End → ℕ → Counts → Counts → Counts → Bool
light_fits e len held n room = is_quiet e.update && (is_counting e.effect && (not (passes e.effect e.entry.total) && rows_room 0 (link_rows e.update e.effect) len held n room))

-- ---- what it leaves

-- the transaction, with its T row where it gets one; e is the entry of its endpoint
abbrev pub light_link : Bool → Endpoint → Transaction → Transaction
light_link l e t = when l (with_link e.transactions) t

-- the entry, before a payload is counted
abbrev pub light_entry : Update → ℕ → Endpoint → Endpoint
light_entry u pid e = become_entry u.group pid (when u.link more_transactions e)

-- with the counts n, and m endpoints waiting, of a packet at this time
abbrev pub light_decoder : Transaction → End → Counts → ℕ → ℕ → Decoder → Decoder
light_decoder t e n m time d =
    record {
      counts = n;
      slot = Empty;
      transaction = light_link e.update.link e.entry t;
      last = d.last;
      event = Idle;
      keepalive = d.keepalive;
      waiting = m;
      finished = d.finished;
      high = d.high;
      time = time;
    }

abbrev pub light_table : Transaction → End → List ℕ → List ℕ
light_table t e table = store_at table t.endpoint (effect_entry e.effect (light_entry e.update (start_pid t.style) e.entry) (light_link e.update.link e.entry t).link)

-- the link log, which holds n rows: the T row, then the D row
abbrev pub light_links : Transaction → End → ℕ → List ℕ → List ℕ
light_links t e n l =
    sets (sets l (n * link_width) (opt e.update.link (kind.T ∷ t.endpoint ∷ t.id ∷ 0 ∷ []))) ((n + one e.update.link) * link_width)
    (total_words e.effect t.endpoint (light_entry e.update (start_pid t.style) e.entry) (light_link e.update.link e.entry t).link)

abbrev pub light_state : Transaction → End → Counts → ℕ → List ℕ → ℕ → State → State
light_state t e n m packet time s =
    let h = held_at s in
    let g = s.logs in
    state (light_decoder t e n m time s.decoder) s.devices (light_table t e s.table)
    (logs
    (sets g.bytes h.bytes packet)
    g.devices
    g.endpoints
    (sets g.packets (h.packets * packet_width) (s.decoder.counts.bytes ∷ time ∷ []))
    g.events
    g.transactions
    g.groups
    g.statebytes
    g.states
    g.items
    (light_links t e h.links g.links)
    g.requests)
