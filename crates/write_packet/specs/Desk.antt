-- Inner (cited by private contracts alone): what the steps of a call (plan, Step) write on: how far the call has written, the endpoint table and the eight logs
-- that steps go to; and what each step does to them. `sets l i vs` (lib.Seq) is the list l with vs stored from place i on, so each log is said word for word.
use Rattle.std.specs.Prelude.{ℕ, ◌+◌, ◌*◌, ◌/◌, Bool, true, false, List, [], ◌∷◌}
use Rattle.std.proofs.lemmas.List.Edits.{sets}
use Rattle.rows.specs.Widths.{endpoint_width, link_width, transaction_width}
use Rattle.rows.specs.Sets.{opt}
use Rattle.details.specs.Details.{number_of}
use Rattle.endpoints.specs.Link as kind
use Rattle.endpoints.specs.Table.{entry_at, store_at}
use Rattle.endpoints.specs.declared.Endpoint.{Endpoint}
use Rattle.transaction.specs.Payload.{start_pid}
use Rattle.transaction.specs.Table.{pick}
use Rattle.transaction.specs.declared.Transaction.{Transaction}
use Rattle.group.specs.declared.Effect.{Effect}
use Rattle.group.specs.declared.Effect.TheVariants.{NoEffect, NewDevice, Request, PendingData, IndexData}
use Rattle.rules.specs.Rows.{naming, transaction_words}
use Rattle.rules.specs.World.{◌▷◌}
use Rattle.rules.specs.declared.Stamp.{Stamp}
use Rattle.endpoints.specs.Table.{new_endpoint}
use Rattle.update.specs.Effect.{effect_entry}
use Rattle.update.specs.Update.{when}
use Rattle.update.specs.declared.Update.{Update}
use Rattle.write.specs.Memory.{Memory, memory}
use Rattle.write.specs.declared.Written.{Written}
use Rattle.write_update.specs.Carried.{carried}
use Rattle.plan.specs.declared.Begin.{Begin}
use Rattle.plan.specs.declared.End.{End}
use Rattle.plan.specs.declared.Plan.{Plan}
use Rattle.write_packet.specs.declared.Hand.{Hand}

pub record Desk : Type 0 where
  pub hand : Hand
  pub table : List ℕ
  pub devices : List ℕ
  pub endpoints : List ℕ
  pub transactions : List ℕ
  pub groups : List ℕ
  pub statebytes : List ℕ
  pub states : List ℕ
  pub items : List ℕ
  pub links : List ℕ

abbrev pub desk : Hand → List ℕ → List ℕ → List ℕ → List ℕ → List ℕ → List ℕ → List ℕ → List ℕ → List ℕ → Desk
desk h t d e r g m s i l =
    record { hand = h; table = t; devices = d; endpoints = e; transactions = r; groups = g; statebytes = m; states = s; items = i; links = l }

-- ---- the part that an update is carried out on (write_update)

abbrev pub memory_of : Desk → Memory
memory_of k = memory k.hand.written k.table k.groups k.statebytes k.states k.items k.links

abbrev pub with_written : Written → Hand → Hand
with_written d h = record { written = d; transactions = h.transactions; devices = h.devices; endpoints = h.endpoints }

abbrev pub with_memory : Memory → Desk → Desk
with_memory m k = desk (with_written m.written k.hand) m.table k.devices k.endpoints k.transactions m.groups m.statebytes m.states m.items m.links

-- an update of endpoint x by the transaction in row id that began with pid
abbrev pub acted_desk : Update → ℕ → ℕ → ℕ → Desk → Desk
acted_desk u x id pid k = with_memory (carried u k.hand.endpoints x id pid (memory_of k)) k

-- ---- a step that begins: its rows, each where its flag says so

-- the tally with the T row of a transaction
abbrev pub tied_to : Transaction → Written → Written
tied_to t d = record { stamp = d.stamp; firsts = d.firsts; groups = d.groups; statebytes = d.statebytes; states = d.states; items = d.items; links = d.links; last = d.last; linked = t.linked; link = t.link }

-- one row more, where the flag says so
abbrev pub plus : Bool → ℕ → ℕ
plus true n = n + 1
plus false n = n

abbrev pub opened_hand : Begin → Hand → Hand
opened_hand s h =
    record {
      written = tied_to s.transaction h.written;
      transactions = plus s.row h.transactions;
      devices = plus s.device h.devices;
      endpoints = plus s.endpoint h.endpoints;
    }

-- the entry of a new endpoint behind n others
abbrev pub new_entry : ℕ → ℕ → ℕ → List ℕ → List ℕ
new_entry n place number t = store_at t n (new_endpoint place number)

abbrev pub transaction_words_if : Stamp → Begin → List ℕ
transaction_words_if c s = opt s.row (transaction_words (naming c.packet c.reason))

abbrev pub device_words : Begin → List ℕ
device_words s = opt s.device (s.owner ∷ [])

abbrev pub endpoint_words : Begin → List ℕ
endpoint_words s = opt s.endpoint (s.place ∷ number_of s.number ∷ s.number / 128 ∷ [])

-- by the call's own packet
abbrev pub opened_desk : Begin → Desk → Desk
opened_desk s k =
    desk (opened_hand s k.hand)
    (when s.endpoint (new_entry k.hand.endpoints s.place s.number) k.table)
    (sets k.devices k.hand.devices (device_words s))
    (sets k.endpoints (k.hand.endpoints * endpoint_width) (endpoint_words s))
    (sets k.transactions (k.hand.transactions * transaction_width) (transaction_words_if k.hand.written.stamp s))
    k.groups k.statebytes k.states k.items k.links

-- then what is done to the transaction's endpoint
unfoldable pub begun_desk : Begin → Desk → Desk
begun_desk s k =
    k ▷ opened_desk s
    ▷ acted_desk s.update s.transaction.endpoint s.transaction.id (start_pid s.transaction.style)

-- ---- a step that ends

abbrev pub stored_desk : ℕ → Endpoint → Desk → Desk
stored_desk x e k = desk k.hand (store_at k.table x e) k.devices k.endpoints k.transactions k.groups k.statebytes k.states k.items k.links

-- what group_status has as its effect: how many device and link rows there are then, of m before; the row of a request is its caller's (shelving)
abbrev pub devices_by : Effect → ℕ → ℕ
devices_by NoEffect m = m
devices_by (NewDevice address) m = m + 1
devices_by (Request n) m = m
devices_by (PendingData n) m = m
devices_by (IndexData n waited i) m = m

abbrev pub links_by : Effect → ℕ → ℕ
links_by NoEffect m = m
links_by (NewDevice address) m = m
links_by (Request n) m = m
links_by (PendingData n) m = m
links_by (IndexData n waited i) m = m + 1

-- their words; the endpoint x has the entry e, and link is the transaction's T row
abbrev pub new_device_words : Effect → List ℕ
new_device_words NoEffect = []
new_device_words (NewDevice address) = address ∷ []
new_device_words (Request n) = []
new_device_words (PendingData n) = []
new_device_words (IndexData n waited i) = []

abbrev pub total_words : Effect → ℕ → Endpoint → ℕ → List ℕ
total_words NoEffect x e link = []
total_words (NewDevice address) x e link = []
total_words (Request n) x e link = []
total_words (PendingData n) x e link = []
total_words (IndexData n waited i) x e link = kind.D ∷ x ∷ pick waited i link ∷ e.total ∷ []

-- the entry is stored where the effect is on it
abbrev pub effect_table : Effect → ℕ → ℕ → List ℕ → List ℕ
effect_table NoEffect x link t = t
effect_table (NewDevice address) x link t = t
effect_table (Request n) x link t = t
effect_table (PendingData n) x link t = store_at t x (effect_entry (PendingData n) (entry_at t x) link)
effect_table (IndexData n waited i) x link t = store_at t x (effect_entry (IndexData n waited i) (entry_at t x) link)

abbrev pub with_links : ℕ → Written → Written
with_links n d = record { stamp = d.stamp; firsts = d.firsts; groups = d.groups; statebytes = d.statebytes; states = d.states; items = d.items; links = n; last = d.last; linked = d.linked; link = d.link }

abbrev pub effect_hand : Effect → Hand → Hand
effect_hand f h =
    record {
      written = with_links (links_by f h.written.links) h.written;
      transactions = h.transactions;
      devices = devices_by f h.devices;
      endpoints = h.endpoints;
    }

abbrev pub effect_desk : Effect → ℕ → Desk → Desk
effect_desk f x k =
    let link = k.hand.written.link in
    let e = entry_at k.table x in
    desk (effect_hand f k.hand)
    (effect_table f x link k.table)
    (sets k.devices k.hand.devices (new_device_words f))
    k.endpoints k.transactions k.groups k.statebytes k.states k.items
    (sets k.links (k.hand.written.links * link_width) (total_words f x e link))

-- before the effect; the transaction is that in row id, which began with pid
abbrev pub closing_desk : ℕ → ℕ → ℕ → End → Desk → Desk
closing_desk x id pid s k = k ▷ stored_desk x s.entry ▷ acted_desk s.update x id pid

unfoldable pub ended_desk : ℕ → ℕ → ℕ → End → Desk → Desk
ended_desk x id pid s k = k ▷ closing_desk x id pid s ▷ effect_desk s.effect x

-- ---- the steps of a packet, in their order: the desks that they begin with, and the last

abbrev pub end_plan : Plan → Desk → Desk
end_plan p k = when p.ends (ended_desk p.old p.brought.id (start_pid p.brought.style) p.end) k

abbrev pub close_plan : Plan → Desk → Desk
close_plan p k = when p.closes (ended_desk p.begin.transaction.endpoint p.begin.transaction.id (start_pid p.begin.transaction.style) p.close) k

abbrev pub desk2 : Plan → Desk → Desk
desk2 p k = when p.resumes (begun_desk p.resume) k

abbrev pub desk3 : Plan → Desk → Desk
desk3 p k = end_plan p (desk2 p k)

abbrev pub desk4 : Plan → Desk → Desk
desk4 p k = begun_desk p.begin (desk3 p k)

abbrev pub performed : Plan → Desk → Desk
performed p k = close_plan p (desk4 p k)
