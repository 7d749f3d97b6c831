-- Laws (proved): a fresh decoder is well formed in every room that it fits, and stands for the world that the rules begin with; a refused one is well formed
-- in none.
use Prim.Native.Nat.{ℕ, zero, suc, ◌+◌, ◌*◌, ◌<◌, ◌≤◌}
use Rattle.std.proofs.Common.{arith, sym, ◌∙◌, inl, get_or-set_same}
use Rattle.std.specs.Prelude.{◌≡◌, Bool, true, false, List, eqb, length, get_or, replicate}
use Rattle.std.proofs.Math.Path.{refl, ap}
use Rattle.std.proofs.lemmas.Bool.{false≢true}
use Rattle.std.proofs.lemmas.List.{length-replicate}
use Rattle.details.specs.Details.{fresh}
use Rattle.endpoints.specs.Phases.{in_phase, waiting}
use Rattle.endpoints.proofs.PhasesLaws.{count_none, phase-entry}
use Rattle.details.specs.Search.{blank}
use Rattle.endpoints.specs.Table.{words, phase_word, entry_at, store_at, first_at, new_endpoint}
use Rattle.endpoints.proofs.TableLaws.{Fits, load_store_same, load_store-other}
use Rattle.endpoints.specs.Word as word
use Rattle.details.specs.declared.Device.{Device}
use Rattle.endpoints.specs.declared.Endpoint.{Endpoint}
use Rattle.rules.specs.Decoder as rules
use Rattle.rules.specs.World.{World}
use Rattle.record.specs.Formed.{well_formed, Stored}
use Rattle.record.proofs.FormedLaws.{EntryFormed, well, well-formed}
use Rattle.record.specs.Fresh.{counts_of, fresh_decoder, fresh_devices, clear_table, fresh_table, refused_decoder}
use Rattle.record.specs.Room.{held_of}
use Rattle.record.specs.RoomLaws.{Within, Begun}
use Rattle.record.proofs.StoredLaws.{stored_same, stored_other, length_store}
use Rattle.record.proofs.TabledLaws.{store_past}
use Rattle.record.specs.World.{world_of}
use Rattle.record.specs.declared.Counts.{Counts}

new-fits : (address : ℕ) → address < 256 → Fits (new_endpoint 0 address)
new-fits address h = record { address = h; state = omega arith; first = omega arith; last = omega arith }

new_formed : (n : Counts) (address : ℕ) → 0 < n.devices → EntryFormed n (new_endpoint 0 address)
new_formed n address h =
    record {
      transactions = omega arith;
      groups = omega arith;
      device = h;
      pendinglink = λ w. absurd (false≢true w);
      payload = omega arith;
      pendinglength = λ w. absurd (false≢true w);
      group = λ w. absurd (false≢true w);
    }

-- the number of special endpoint i
abbrev number_at : ℕ → ℕ
number_at zero = 0x10
number_at (suc zero) = 0x11
number_at (suc (suc i)) = 0x12

-- a cleared table has no other word than 0
pub clear-word : (n i : ℕ) → ◌≡◌ {A = ℕ} (get_or (replicate n 0) i 0) 0
clear-word zero i = refl
clear-word (suc n) zero = refl
clear-word (suc n) (suc i) = clear-word n i

-- two worlds that say the same: all but the journal, and of endpoints and devices those that there are
pub record Agrees (w v : World) : Type 0 where
  pub endpoints : (i : ℕ) → i < v.count → w.endpoints i ≡ v.endpoints i
  pub count : w.count ≡ v.count
  pub devices : (i : ℕ) → i < v.device_count → w.devices i ≡ v.devices i
  pub device_count : w.device_count ≡ v.device_count
  pub slot : w.slot ≡ v.slot
  pub transaction : w.transaction ≡ v.transaction
  pub last_item : w.last_item ≡ v.last_item
  pub event_state : w.event_state ≡ v.event_state
  pub keepalive : w.keepalive ≡ v.keepalive
  pub bytes : w.bytes ≡ v.bytes
  pub packets : w.packets ≡ v.packets
  pub transactions : w.transactions ≡ v.transactions
  pub groups : w.groups ≡ v.groups
  pub state_bytes : w.state_bytes ≡ v.state_bytes
  pub items : w.items ≡ v.items

-- behind the three entries of a fresh table all is 0
pub fresh_beyond : (table : List ℕ) (i : ℕ) → 3 * word.width ≤ i → get_or (fresh_table table) i 0 ≡ 0
unfolding fresh_table
fresh_beyond table i h =
    store_past _ 2 _ i (omega arith) ∙ (store_past _ 1 _ i (omega arith) ∙ (store_past _ 0 _ i (omega arith) ∙ clear-word (length table) i))

-- so each log begins at 0
pub fresh-first : (table : List ℕ) (k : ℕ) → first_at k (fresh_table table) ≡ 0
unfolding first_at
fresh-first table k = fresh_beyond table (word.firsts + k) (omega arith)

module _ (table : List ℕ) (l : length table ≡ word.table) where
  length_0 : length (clear_table table) ≡ word.table
  length_0 = length-replicate (length table) 0 ∙ l

  length_1 : length (store_at (clear_table table) 0 (new_endpoint 0 0x10)) ≡ word.table
  length_1 = length_store _ _ _ ∙ length_0

  length_2 : length (store_at (store_at (clear_table table) 0 (new_endpoint 0 0x10)) 1 (new_endpoint 0 0x11)) ≡ word.table
  length_2 = length_store _ _ _ ∙ length_1

  pub fresh-entry : (i : ℕ) → i < 3 → entry_at (fresh_table table) i ≡ new_endpoint 0 (number_at i)
  unfolding fresh_table
  fresh-entry zero h =
      load_store-other _ 2 0 _ (λ e. omega arith) ∙ (load_store-other _ 1 0 _ (λ e. omega arith) ∙ load_store_same (clear_table table) 0 _ length_0 (omega arith) (new-fits 0x10 (omega arith)))
  fresh-entry (suc zero) h = load_store-other _ 2 1 _ (λ e. omega arith) ∙ load_store_same _ 1 _ length_1 (omega arith) (new-fits 0x11 (omega arith))
  fresh-entry (suc (suc zero)) h = load_store_same _ 2 _ length_2 (omega arith) (new-fits 0x12 (omega arith))
  fresh-entry (suc (suc (suc i))) h = absurd (omega arith)

  pub fresh-stored : (i : ℕ) → i < 3 → Stored (fresh_table table) i
  unfolding fresh_table
  fresh-stored zero h =
      stored_other _ 2 0 _ (λ e. omega arith) (stored_other _ 1 0 _ (λ e. omega arith) (stored_same (clear_table table) 0 _ length_0 (omega arith) (new-fits 0x10 (omega arith))))
  fresh-stored (suc zero) h = stored_other _ 2 1 _ (λ e. omega arith) (stored_same _ 1 _ length_1 (omega arith) (new-fits 0x11 (omega arith)))
  fresh-stored (suc (suc zero)) h = stored_same _ 2 _ length_2 (omega arith) (new-fits 0x12 (omega arith))
  fresh-stored (suc (suc (suc i))) h = absurd (omega arith)

  -- so it holds all that it numbers
  fresh-held : (room : Counts) → Within (counts_of 1 3) room → Within (held_of (fresh_table table) (counts_of 1 3)) room
  fresh-held room w =
      record {
        bytes = omega (arith, w.bytes);
        devices = omega (arith, w.devices);
        few_devices = omega (arith, w.few_devices);
        endpoints = omega (arith, w.endpoints);
        few_endpoints = omega (arith, w.few_endpoints);
        packets = omega (arith, w.packets);
        events = omega (arith, w.events);
        transactions = omega (arith, w.transactions);
        groups = omega (arith, w.groups);
        statebytes = omega (arith, w.statebytes);
        states = omega (arith, w.states);
        items = omega (arith, w.items);
        links = omega (arith, w.links);
        requests = omega (arith, w.requests);
      }

  none-waits : waiting (fresh_table table) 3 ≡ 0
  none-waits =
      count_none 3 (in_phase word.Ended (fresh_table table)) 0
      (λ j u v. phase-entry (fresh_table table) j word.Ended (omega arith) (omega arith) ∙ ap (λ (e : Endpoint). eqb (phase_word e.phase) word.Ended) (fresh-entry j v))

  first-device : (devices : List Device) → 0 < length devices → (get_or (fresh_devices devices) 0 blank).address ≡ 0
  unfolding fresh
  first-device devices h = ap (λ (d : Device). d.address) (get_or-set_same devices 0 (fresh 0) blank h)

  pub fresh_formed : (high : Bool) (devices : List Device) (room : Counts) → 0 < length devices → Within (counts_of 1 3) room
      → well_formed (fresh_decoder high) (fresh_devices devices) (fresh_table table) room ≡ true
  fresh_formed high devices room h w =
      let e0 = fresh-entry 0 (omega arith) in
      let e1 = fresh-entry 1 (omega arith) in
      let e2 = fresh-entry 2 (omega arith) in
      well-formed _ _ _ _
      (record {
        begun = record {
          bytes = let e = fresh-first table 0 in omega (arith, e);
          packets = let e = fresh-first table 3 in omega (arith, e);
          events = let e = fresh-first table 4 in omega (arith, e);
          transactions = let e = fresh-first table 5 in omega (arith, e);
          groups = let e = fresh-first table 6 in omega (arith, e);
          statebytes = let e = fresh-first table 7 in omega (arith, e);
          states = let e = fresh-first table 8 in omega (arith, e);
          items = let e = fresh-first table 9 in omega (arith, e);
          links = let e = fresh-first table 10 in omega (arith, e);
        };
        counts = fresh-held room w;
        numbered = record { bytes = omega arith; packets = omega arith; events = omega arith; transactions = omega arith; groups = omega arith; statebytes = omega arith; states = omega arith; items = omega arith; links = omega arith };
        specials = record {
          some = omega arith;
          address = first-device devices h;
          three = omega arith;
          event = record { device = ap (λ (e : Endpoint). e.device) e0; address = ap (λ (e : Endpoint). e.address) e0 };
          invalid = record { device = ap (λ (e : Endpoint). e.device) e1; address = ap (λ (e : Endpoint). e.address) e1 };
          framing = record { device = ap (λ (e : Endpoint). e.device) e2; address = ap (λ (e : Endpoint). e.address) e2 };
        };
        rests = ap (λ (e : Endpoint). e.phase) e0;
        endpoints = λ i v. let q = fresh-entry i v in record { entry = rw q (new_formed (counts_of 1 3) (number_at i) (omega arith)); words = fresh-stored i v };
        held = λ g. absurd (false≢true g);
        last = inl refl;
        waiting = sym none-waits;
      })

  -- it stands for the world that the rules begin with (fn new of decoder.rs)
  pub fresh-world : (high : Bool) (devices : List Device) → 0 < length devices → Agrees (world_of (fresh_decoder high) (fresh_devices devices) (fresh_table table)) rules.fresh
  unfolding fresh
  fresh-world high devices h =
      record {
        endpoints = λ i v. fresh-entry i v ∙ began i v;
        count = refl;
        devices = λ i v. device i v;
        device_count = refl;
        slot = refl;
        transaction = refl;
        last_item = refl;
        event_state = refl;
        keepalive = refl;
        bytes = refl;
        packets = refl;
        transactions = refl;
        groups = refl;
        state_bytes = refl;
        items = refl;
      }
    where
      began : (i : ℕ) → i < 3 → new_endpoint 0 (number_at i) ≡ (rules.fresh).endpoints i
      began zero v = refl
      began (suc zero) v = refl
      began (suc (suc zero)) v = refl
      began (suc (suc (suc i))) v = absurd (omega arith)

      device : (i : ℕ) → i < 1 → get_or (fresh_devices devices) i blank ≡ (rules.fresh).devices i
      device zero v = get_or-set_same devices 0 (fresh 0) blank h
      device (suc i) v = absurd (omega arith)

-- 01: "refused, it .. returns a record that every call answers 1"
pub refused-ill : (devices : List Device) (table : List ℕ) (room : Counts) → well_formed refused_decoder devices table room ≡ false
refused-ill devices table room = pick (well_formed refused_decoder devices table room) refl
  where
    pick : (b : Bool) → well_formed refused_decoder devices table room ≡ b → b ≡ false
    pick true h = let g = (well refused_decoder devices table room h).specials.some in absurd (omega arith)
    pick false h = refl
