-- To be believed: the record and the devices that lent words stand for, and the words that stand for them.
-- Hold it to: ours: struct Decoder and the structs in it, struct Device, field by field, each at its place (Place); a flag, a byte: endpoints, Table
use Rattle.std.specs.Prelude.{ℕ, zero, suc, ◌+◌, ◌*◌, ◌/◌, ◌%◌, cond, List, [], ◌∷◌, ◌++◌, map, eqb, get_or}
use Rattle.std.proofs.lemmas.List.Edits.{sets}
use Rattle.rows.specs.One.{one}
use Rattle.details.specs.declared.Detail.{Detail}
use Rattle.details.specs.declared.Device.{Device}
use Rattle.endpoints.specs.Table.{flag_of, byte_of}
use Rattle.transaction.specs.declared.Style.{Style}
use Rattle.transaction.specs.declared.Style.TheVariants.{Nothing, Simple, Split, Token}
use Rattle.transaction.specs.declared.Transaction.{Transaction}
use Rattle.rules.specs.declared.EventState.{EventState}
use Rattle.rules.specs.declared.EventState.TheVariants.{Idle, LsKeepaliveGroup, AwaitDeviceChirp, PartialDeviceChirp, ValidDeviceChirp, AwaitHostChirp, PartialHostChirp, ValidHostChirp}
use Rattle.rules.specs.declared.Slot.{Slot}
use Rattle.rules.specs.declared.Slot.TheVariants.{Empty, Current, Suspended}
use Rattle.record.specs.declared.Counts.{Counts}
use Rattle.record.specs.declared.Decoder.{Decoder}
use Rattle.handle.specs.declared.variant.Numbers.{Numbers}
use Rattle.handle.specs.Place as place

-- word k
abbrev pub word_in : List ℕ → ℕ → ℕ
word_in words k = get_or words k 0

-- ---- enums by number; a number that is none of them is read as the first

abbrev pub style_of : ℕ → ℕ → ℕ → ℕ → Style
style_of w sc kind pid = cond (eqb w 1) (Simple pid) (cond (eqb w 2) (Split sc kind) (cond (eqb w 3) (Token sc kind pid) Nothing))

abbrev pub numbers : ℕ → ℕ → ℕ → ℕ → Numbers
numbers style sc kind pid = record { style = style; sc = sc; kind = kind; pid = pid }

-- a style's number and its bytes; 0 for those that it has not
abbrev pub style_words : Style → Numbers
style_words Nothing = numbers 0 0 0 0
style_words (Simple pid) = numbers 1 0 0 pid
style_words (Split sc kind) = numbers 2 sc kind 0
style_words (Token sc kind pid) = numbers 3 sc kind pid

abbrev pub slot_of : ℕ → Slot
slot_of w = cond (eqb w 1) Current (cond (eqb w 2) Suspended Empty)

abbrev pub slot_word : Slot → ℕ
slot_word Empty = 0
slot_word Current = 1
slot_word Suspended = 2

abbrev pub event_of : ℕ → EventState
event_of w =
    cond (eqb w 1) LsKeepaliveGroup
    (cond (eqb w 2) AwaitDeviceChirp
    (cond (eqb w 3) PartialDeviceChirp
    (cond (eqb w 4) ValidDeviceChirp
    (cond (eqb w 5) AwaitHostChirp
    (cond (eqb w 6) PartialHostChirp
    (cond (eqb w 7) ValidHostChirp Idle))))))

abbrev pub event_word : EventState → ℕ
event_word Idle = 0
event_word LsKeepaliveGroup = 1
event_word AwaitDeviceChirp = 2
event_word PartialDeviceChirp = 3
event_word ValidDeviceChirp = 4
event_word AwaitHostChirp = 5
event_word PartialHostChirp = 6
event_word ValidHostChirp = 7

-- ---- what words w stand for

abbrev pub counts_of : (ℕ → ℕ) → Counts
counts_of w =
    record {
      bytes = w place.bytes;
      devices = w place.devices;
      endpoints = w place.endpoints;
      packets = w place.packets;
      events = w place.events;
      transactions = w place.transactions;
      groups = w place.groups;
      statebytes = w place.statebytes;
      states = w place.states;
      items = w place.items;
      links = w place.links;
      requests = w place.requests;
    }

abbrev pub transaction_of : (ℕ → ℕ) → Transaction
transaction_of w =
    record {
      style = style_of (w place.style) (byte_of (w place.sc)) (byte_of (w place.splitkind)) (byte_of (w place.pid));
      last = byte_of (w place.lastpid);
      id = w place.id;
      endpoint = w place.endpoint;
      kind = byte_of (w place.kind);
      linked = flag_of (w place.linked);
      ready = flag_of (w place.ready);
      filled = flag_of (w place.filled);
      link = w place.link;
      setup = w place.setup;
      payload = w place.payload;
    }

abbrev pub decoder_of : (ℕ → ℕ) → Decoder
decoder_of w =
    record {
      counts = counts_of w;
      transaction = transaction_of w;
      last = w place.lastitem;
      waiting = w place.waiting;
      time = w place.time;
      slot = slot_of (w place.slot);
      event = event_of (w place.event);
      keepalive = flag_of (w place.keepalive);
      finished = flag_of (w place.finished);
      high = flag_of (w place.high);
    }

-- a detail is one word: the kind, 256 more where a descriptor gave it, and 65536 times the max
abbrev pub detail_of : ℕ → Detail
detail_of w = record { kind = byte_of w; given = flag_of (byte_of (w / 256)); max = w / 65536 % 65536 }

-- f of the n numbers from i on
abbrev pub from : {A : Type 0} → (ℕ → A) → ℕ → ℕ → List A
from f i zero = []
from f i (suc n) = f i ∷ from f (suc i) n

-- by the words of a device's row
abbrev pub device_of : (ℕ → ℕ) → Device
device_of w =
    record {
      address = byte_of (w place.address);
      chosen = w place.chosen % 65536;
      kept = w place.kept % 65536;
      details = from (λ k. detail_of (w k)) place.details 32;
    }

abbrev pub device_at : List ℕ → ℕ → Device
device_at words i = device_of (λ k. word_in words (place.row i + k))

unfoldable pub decoder_in : List ℕ → Decoder
decoder_in words = decoder_of (word_in words)

unfoldable pub devices_in : List ℕ → List Device
devices_in words = from (device_at words) 0 64

-- ---- the words that stand for it, in the order of their places

abbrev pub count_words : Counts → List ℕ
count_words n =
    n.bytes
    ∷ n.devices
    ∷ n.endpoints
    ∷ n.packets
    ∷ n.events
    ∷ n.transactions
    ∷ n.groups
    ∷ n.statebytes
    ∷ n.states
    ∷ n.items
    ∷ n.links
    ∷ n.requests
    ∷ []

abbrev pub transaction_words : Transaction → List ℕ
transaction_words t =
    (style_words t.style).style
    ∷ (style_words t.style).sc
    ∷ (style_words t.style).kind
    ∷ (style_words t.style).pid
    ∷ t.last
    ∷ t.id
    ∷ t.endpoint
    ∷ t.kind
    ∷ one t.linked
    ∷ one t.ready
    ∷ one t.filled
    ∷ t.link
    ∷ t.setup
    ∷ t.payload
    ∷ []

abbrev pub rest_words : Decoder → List ℕ
rest_words d =
    d.last
    ∷ d.waiting
    ∷ d.time
    ∷ slot_word d.slot
    ∷ event_word d.event
    ∷ one d.keepalive
    ∷ one d.finished
    ∷ one d.high
    ∷ []

abbrev pub decoder_words : Decoder → List ℕ
decoder_words d = count_words d.counts ++ transaction_words d.transaction ++ rest_words d

abbrev pub decoder_stored : List ℕ → Decoder → List ℕ
decoder_stored words d = sets words 0 (decoder_words d)

abbrev pub detail_word : Detail → ℕ
detail_word x = x.kind + 256 * one x.given + 65536 * x.max

-- a row, with the word that belongs to no field as it is
abbrev pub device_words : Device → ℕ → List ℕ
device_words v spare = v.address ∷ v.chosen ∷ v.kept ∷ spare ∷ map detail_word v.details

abbrev pub row_stored : List ℕ → ℕ → Device → List ℕ
row_stored words i v = sets words (place.row i) (device_words v (word_in words (place.row i + place.spare)))

-- the rows from row i on
abbrev pub rows_stored : List ℕ → ℕ → List Device → List ℕ
rows_stored words i [] = words
rows_stored words i (v ∷ vs) = rows_stored (row_stored words i v) (suc i) vs

-- a record and its devices; words that belong to no field stay as they were
unfoldable pub stored : List ℕ → Decoder → List Device → List ℕ
stored words d devices = rows_stored (decoder_stored words d) 0 devices
