-- Inner (cited by private contracts alone): begin-only: a packet whose plan (plan, Packet) is one step that begins, with no new device, endpoint or type, and no row but perhaps a transaction row and a T row.
use Rattle.std.specs.Prelude.{ℕ, ◌*◌, ◌<◌, ◌≡◌, Bool, true, false, List, [], ◌∷◌, ◌⊎◌, length}
use Rattle.std.proofs.lemmas.List.Edits.{sets}
use Rattle.usb.specs.Packet.{no_reason}
use Rattle.rows.specs.One.{one}
use Rattle.rows.specs.Sets.{opt}
use Rattle.rows.specs.Widths.{packet_width, transaction_width, link_width}
use Rattle.transaction.specs.Payload.{start_pid}
use Rattle.transaction.specs.declared.Transaction.{Transaction}
use Rattle.endpoints.specs.declared.Endpoint.{Endpoint}
use Rattle.group.specs.declared.Effect.TheVariants.{NoEffect}
use Rattle.endpoints.specs.Link as kind
use Rattle.endpoints.specs.Table.{entry_at, store_at}
use Rattle.rules.specs.Rows.{naming, transaction_words}
use Rattle.rules.specs.World.{World, more_transactions, with_link}
use Rattle.rules.specs.declared.EventState.TheVariants.{Idle}
use Rattle.rules.specs.declared.Slot.{Slot}
use Rattle.rules.specs.declared.Slot.TheVariants.{Current}
use Rattle.update.specs.Update.{when, links}
use Rattle.update.specs.declared.Then.TheVariants.{Keep, Last}
use Rattle.record.specs.declared.Decoder.{Decoder}
use Rattle.plan.specs.declared.End.{End}
use Rattle.plan.specs.declared.Plan.{Plan}
use Rattle.call.specs.State.{State, state, logs, held_at}
use Rattle.quick.specs.Room.{more_rows}

-- ---- the shape: a transaction row where `row` says so, a T row where l does; t is the transaction then. What is under a flag that is off is p's

abbrev pub only_begin : Plan → Bool → Transaction → Bool → Slot → Plan
only_begin p row t l slot =
    record {
      resumes = false;
      resume = p.resume;
      ends = false;
      old = p.old;
      brought = p.brought;
      end = p.end;
      begin = record {
        row = row;
        device = false;
        endpoint = false;
        types = false;
        owner = p.begin.owner;
        place = p.begin.place;
        number = p.begin.number;
        kind = p.begin.kind;
        transaction = t;
        update = links l Keep;
      };
      closes = false;
      close = p.close;
      slot = slot;
      reason = no_reason;
    }

pub record BeginOnly (p : Plan) (row : Bool) (t : Transaction) (l : Bool) (next : Slot) : Type 0 where
  pub resumes : p.resumes ≡ false
  pub ends : p.ends ≡ false
  pub begins : p.begin.row ≡ row
  pub device : p.begin.device ≡ false
  pub endpoint : p.begin.endpoint ≡ false
  pub types : p.begin.types ≡ false
  pub transaction : p.begin.transaction ≡ t
  pub update : p.begin.update ≡ links l Keep
  pub closes : p.closes ≡ false
  pub slot : p.slot ≡ next
  pub reason : p.reason ≡ no_reason

-- ---- an old transaction at rest: its end changes no word, so that the packet is begin-only though its plan has that end

abbrev pub rest_end : Endpoint → End
rest_end e = record { entry = e; update = links false Last; effect = NoEffect }

-- the plan without it
abbrev pub unended : Plan → Plan
unended p = record { resumes = p.resumes; resume = p.resume; ends = false; old = p.old; brought = p.brought; end = p.end; begin = p.begin; closes = p.closes; close = p.close; slot = p.slot; reason = p.reason }

pub record BeginRest (p : Plan) (w : World) (row : Bool) (t : Transaction) (l : Bool) : Type 0 where
  pub begins : BeginOnly (unended p) row t l Current
  pub ends : p.ends ≡ true
  pub there : p.old < w.count
  pub end : p.end ≡ rest_end (w.endpoints p.old)
  pub done : (w.endpoints p.old).done ≡ true
  pub last : (w.endpoints p.old).last ≡ start_pid p.brought.style

-- with no old transaction, or with one at rest
abbrev pub Begins : Plan → World → Bool → Transaction → Bool → Type 0
Begins p w row t l = BeginOnly p row t l Current ⊎ BeginRest p w row t l

-- ---- what it leaves

-- the transaction with its T row, of the table before it
abbrev pub begin_link : Bool → List ℕ → Transaction → Transaction
begin_link l table t = when l (with_link (entry_at table t.endpoint).transactions) t

-- after a packet of so many bytes
abbrev pub begin_decoder : Bool → Transaction → Bool → ℕ → ℕ → List ℕ → Decoder → Decoder
begin_decoder row t l len time table d =
    record {
      counts = more_rows (one row) (one l) len d.counts;
      slot = Current;
      transaction = begin_link l table t;
      last = d.last;
      event = Idle;
      keepalive = d.keepalive;
      waiting = d.waiting;
      finished = d.finished;
      high = d.high;
      time = time;
    }

abbrev pub begin_table : Bool → ℕ → List ℕ → List ℕ
begin_table l x table = when l (λ v. store_at v x (more_transactions (entry_at v x))) table

abbrev pub begin_state : Bool → Transaction → Bool → List ℕ → ℕ → State → State
begin_state row t l packet time s =
    let n = s.decoder.counts in
    let h = held_at s in
    let g = s.logs in
    state
    (begin_decoder row t l (length packet) time s.table s.decoder)
    s.devices
    (begin_table l t.endpoint s.table)
    (logs
    (sets g.bytes h.bytes packet)
    g.devices
    g.endpoints
    (sets g.packets (h.packets * packet_width) (n.bytes ∷ time ∷ []))
    g.events
    (sets g.transactions (h.transactions * transaction_width) (opt row (transaction_words (naming n.packets no_reason))))
    g.groups
    g.statebytes
    g.states
    g.items
    (sets g.links (h.links * link_width) (opt l (kind.T ∷ t.endpoint ∷ t.id ∷ 0 ∷ [])))
    g.requests)
