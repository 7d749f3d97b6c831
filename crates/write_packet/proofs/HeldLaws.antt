-- Laws (proved): a desk that holds a world holds, once a step is carried out, the world that the step (plan, Step) makes of it.
use Rattle.std.specs.Prelude.{ℕ, suc, ◌+◌, ◌*◌, ◌/◌, ◌<◌, ◌≤◌, Bool, true, false, List, [], ◌∷◌, ◌≡◌, eqb}
use Rattle.std.proofs.Common.{arith, append-nil, sym, ap, ◌∙◌, eqb-true}
use Rattle.std.proofs.Math.Path.{refl, subst}
use Rattle.std.proofs.lemmas.Bool.{eqb-false}
use Rattle.std.proofs.lemmas.List.Edits.{sets}
use Rattle.rows.specs.Widths.{endpoint_width, transaction_width}
use Rattle.rows.specs.Sets.{opt}
use Rattle.details.specs.Details.{number_of}
use Rattle.endpoints.specs.Link as kind
use Rattle.endpoints.specs.Table.{entry_at, new_endpoint}
use Rattle.endpoints.proofs.TableLaws.{Fits, load_store_same, load_store-other}
use Rattle.details.specs.declared.Device.{Device}
use Rattle.endpoints.specs.declared.Endpoint.{Endpoint}
use Rattle.transaction.specs.Payload.{start_pid}
use Rattle.transaction.specs.Table.{pick}
use Rattle.transaction.specs.declared.Transaction.{Transaction}
use Rattle.group.specs.declared.Effect.{Effect}
use Rattle.group.specs.declared.Effect.TheVariants.{NoEffect, NewDevice, Request, PendingData, IndexData}
use Rattle.rules.specs.Rows.{Named, Row, TransactionRow, naming, transaction_words, DeviceRow, D, log}
use Rattle.rules.specs.World.{World, push, change, change_device, with_transaction, with_pending, with_total}
use Rattle.rules.specs.Endpoints.{add_device, push_endpoint, typed}
use Rattle.rules.specs.Groups.{becomes, decode_request, effect_step}
use Rattle.rules.specs.Transactions.{push_transaction}
use Rattle.update.specs.Update.{when, act}
use Rattle.update.specs.declared.Update.{Update}
use Rattle.rules.specs.declared.Stamp.{Stamp}
use Rattle.write.proofs.Holds.{Holds}
use Rattle.write.proofs.HoldsLaws.{append, keep, holds-altered, holds-link-row}
use Rattle.write.specs.Memory.{Memory, memory, altered, link_row}
use Rattle.write_update.specs.Carried.{carried}
use Rattle.record.proofs.TabledLaws.{Tabled, tabled-alter, tabled-more}
use Rattle.write_update.proofs.CarriedLaws.{holds-carried}
use Rattle.write_update.proofs.TabledLaws.{carried_tabled}
use Rattle.plan.specs.Sound.{BeginFits, EndFits}
use Rattle.plan.specs.Step.{opened, begun, ended}
use Rattle.plan.specs.declared.Begin.{Begin}
use Rattle.plan.specs.declared.End.{End}
use Rattle.plan.proofs.Frame.{Rest, act-rest}
use Rattle.write_packet.proofs.BesideLaws.{Beside, beside-change, beside-push, beside-act}
use Rattle.write_packet.specs.Desk.{Desk, desk, memory_of, with_memory, acted_desk, plus, new_entry, opened_desk, begun_desk, stored_desk, effect_desk, closing_desk, ended_desk}
use Rattle.write_packet.proofs.Held.{HoldsAll, Brought}

-- ---- steps on memory and on nothing else

-- the numbers of `Holds` are those of its world
own : {n id pid : ℕ} {m₀ m : Memory} {w : World} → Holds n id pid m₀ w m → Holds w.count w.transaction.id (start_pid w.transaction.style) m₀ w m
own {n} {id} {pid} {m₀} {m} {w} h =
    record {
      sized = h.sized;
      stamp = h.stamp;
      context = h.context;
      count = refl;
      endpoints = λ j u. h.endpoints j (omega (arith, h.count));
      row = refl;
      began = refl;
      linked = h.linked;
      link = h.link;
      last_item = h.last_item;
      group_count = h.group_count;
      state_byte_count = h.state_byte_count;
      item_count = h.item_count;
      groups = h.groups;
      statebytes = h.statebytes;
      states = h.states;
      items = h.items;
      links = h.links;
    }

module _ {k₀ k : Desk} {w : World} (h : HoldsAll k₀ w k) where
  held-memory : (v : World) (m : Memory) → Beside w v → Holds w.count w.transaction.id (start_pid w.transaction.style) (memory_of k₀) v m
      → Tabled w.count k₀.table m.table → HoldsAll k₀ v (with_memory m k)
  held-memory v m b a t =
      record {
        memory = own a;
        devices = keep h.devices _ b.devices;
        endpoints = keep h.endpoints _ b.endpoints;
        transactions = keep h.transactions _ b.transactions;
        device_count = h.device_count ∙ sym b.device_count;
        count = h.count ∙ sym b.count;
        table = subst (λ (c : ℕ). Tabled c k₀.table m.table) (sym b.count) t;
      }

  -- an update
  held-act : (u : Update) (x : ℕ) → w.count ≤ 128 → x < w.count → start_pid w.transaction.style < 256
      → HoldsAll k₀ (act u x w) (acted_desk u x w.transaction.id (start_pid w.transaction.style) k)
  held-act u x few there byte =
      subst (λ (c : ℕ). HoldsAll k₀ (act u x w) (with_memory (carried u c x w.transaction.id (start_pid w.transaction.style) (memory_of k)) k)) (sym h.count)
      (held-memory (act u x w) (carried u w.count x w.transaction.id (start_pid w.transaction.style) (memory_of k)) (beside-act x u w)
      (holds-carried few byte x there u h.memory)
      (carried_tabled few byte x there u w.transaction.id (memory_of k) h.table))

  -- an entry changed
  held-altered : (x : ℕ) (f : Endpoint → Endpoint) → w.count ≤ 128 → x < w.count → ((e : Endpoint) → Fits e → Fits (f e))
      → HoldsAll k₀ (change x f w) (with_memory (altered x f (memory_of k)) k)
  held-altered x f few there fits =
      held-memory (change x f w) (altered x f (memory_of k)) (beside-change x f w) (holds-altered h.memory x f there few fits)
      (tabled-alter h.table few x f there fits)

-- ---- rows of the other three logs

-- a world with other devices, counts, shelf and rows
abbrev others : (ℕ → Device) → ℕ → ℕ → List ℕ → List Row → World → World
others d c t h js w = record { endpoints = w.endpoints; count = w.count; devices = d; device_count = c; slot = w.slot; transaction = w.transaction; last_item = w.last_item; event_state = w.event_state; keepalive = w.keepalive; context = w.context; shelf = h; bytes = w.bytes; packets = w.packets; transactions = t; groups = w.groups; state_bytes = w.state_bytes; items = w.items; journal = js }

holds-others : {n id pid : ℕ} {m₀ m : Memory} {w : World} → Holds n id pid m₀ w m → (d : ℕ → Device) (c t : ℕ) (l : List ℕ) (js : List Row)
    → log 6 js ≡ log 6 w.journal → log 7 js ≡ log 7 w.journal → log 8 js ≡ log 8 w.journal → log 9 js ≡ log 9 w.journal → log 10 js ≡ log 10 w.journal
    → Holds n id pid m₀ (others d c t l js w) m
holds-others h d c t l js e6 e7 e8 e9 e10 =
    record {
      sized = h.sized;
      stamp = h.stamp;
      context = h.context;
      count = h.count;
      endpoints = h.endpoints;
      row = h.row;
      began = h.began;
      linked = h.linked;
      link = h.link;
      last_item = h.last_item;
      group_count = h.group_count;
      state_byte_count = h.state_byte_count;
      item_count = h.item_count;
      groups = keep h.groups js e6;
      statebytes = keep h.statebytes js e7;
      states = keep h.states js e8;
      items = keep h.items js e9;
      links = keep h.links js e10;
    }

abbrev transaction_if : Bool → Named → Desk → Desk
transaction_if b r k =
    desk (record { written = k.hand.written; transactions = plus b k.hand.transactions; devices = k.hand.devices; endpoints = k.hand.endpoints })
    k.table k.devices k.endpoints (sets k.transactions (k.hand.transactions * transaction_width) (opt b (transaction_words r))) k.groups k.statebytes k.states k.items k.links

abbrev device_if : Bool → ℕ → Desk → Desk
device_if b a k =
    desk (record { written = k.hand.written; transactions = k.hand.transactions; devices = plus b k.hand.devices; endpoints = k.hand.endpoints })
    k.table (sets k.devices k.hand.devices (opt b (a ∷ []))) k.endpoints k.transactions k.groups k.statebytes k.states k.items k.links

abbrev endpoint_if : Bool → ℕ → ℕ → Desk → Desk
endpoint_if b p a k =
    desk (record { written = k.hand.written; transactions = k.hand.transactions; devices = k.hand.devices; endpoints = plus b k.hand.endpoints })
    (when b (new_entry k.hand.endpoints p a) k.table) k.devices (sets k.endpoints (k.hand.endpoints * endpoint_width) (opt b (p ∷ number_of a ∷ a / 128 ∷ []))) k.transactions k.groups k.statebytes k.states k.items k.links

abbrev told_desk : Bool → ℕ → Desk → Desk
told_desk linked link k =
    let d = k.hand.written in
    desk (record { written = record { stamp = d.stamp; firsts = d.firsts; groups = d.groups; states = d.states; statebytes = d.statebytes; items = d.items; links = d.links; last = d.last; linked = linked; link = link }; transactions = k.hand.transactions; devices = k.hand.devices; endpoints = k.hand.endpoints })
    k.table k.devices k.endpoints k.transactions k.groups k.statebytes k.states k.items k.links

module _ {k₀ k : Desk} {w : World} (h : HoldsAll k₀ w k) where
  held-transaction : (b : Bool) (id : ℕ) → HoldsAll k₀ (when b (push_transaction id) w) (transaction_if b (naming id w.context.reason) k)
  held-transaction false id = h
  held-transaction true id =
      record {
        memory = holds-others h.memory w.devices w.device_count (suc w.transactions) w.shelf (TransactionRow (naming id w.context.reason) ∷ w.journal) (append-nil _) (append-nil _) (append-nil _) (append-nil _) (append-nil _);
        devices = keep h.devices _ (append-nil _);
        endpoints = keep h.endpoints _ (append-nil _);
        transactions = append h.transactions _ (id ∷ w.context.reason ∷ []) refl refl (omega arith);
        device_count = h.device_count;
        count = h.count;
        table = h.table;
      }

  held-device : (b : Bool) (a : ℕ) → HoldsAll k₀ (when b (add_device a) w) (device_if b a k)
  held-device false a = h
  held-device true a =
      record {
        memory = holds-others h.memory (add_device a w).devices (suc w.device_count) w.transactions w.shelf (DeviceRow a ∷ w.journal) (append-nil _) (append-nil _) (append-nil _) (append-nil _) (append-nil _);
        devices = append h.devices _ (a ∷ []) refl refl refl;
        endpoints = keep h.endpoints _ (append-nil _);
        transactions = keep h.transactions _ (append-nil _);
        device_count = omega (arith, h.device_count);
        count = h.count;
        table = h.table;
      }

  -- a device changed
  held_types : (b : Bool) (p : ℕ) (f : Device → Device) → HoldsAll k₀ (when b (change_device p f) w) k
  held_types false p f = h
  held_types true p f =
      record {
        memory = holds-others h.memory (change_device p f w).devices w.device_count w.transactions w.shelf w.journal refl refl refl refl refl;
        devices = h.devices;
        endpoints = h.endpoints;
        transactions = h.transactions;
        device_count = h.device_count;
        count = h.count;
        table = h.table;
      }

-- ---- a new endpoint

holds-new : {k₀ k : Desk} {w : World} → HoldsAll k₀ w k → (p a : ℕ) → w.count < 128 → a < 256
    → Holds (suc w.count) w.transaction.id (start_pid w.transaction.style) (memory_of k₀) (push_endpoint p a w)
    (memory k.hand.written (new_entry w.count p a k.table) k.groups k.statebytes k.states k.items k.links)
holds-new {k₀} {k} {w} h p a few byte =
    let m = h.memory in
    record {
      sized = (tabled-more h.table few (new_endpoint p a) fits).size;
      stamp = m.stamp;
      context = m.context;
      count = refl;
      endpoints = λ j u. at j u (eqb j w.count) refl;
      row = refl;
      began = refl;
      linked = m.linked;
      link = m.link;
      last_item = m.last_item;
      group_count = m.group_count;
      state_byte_count = m.state_byte_count;
      item_count = m.item_count;
      groups = keep m.groups _ (append-nil _);
      statebytes = keep m.statebytes _ (append-nil _);
      states = keep m.states _ (append-nil _);
      items = keep m.items _ (append-nil _);
      links = keep m.links _ (append-nil _);
    }
  where
    fits : Fits (new_endpoint p a)
    fits = record { address = byte; state = omega arith; first = omega arith; last = omega arith }

    at : (j : ℕ) → j < suc w.count → (b : Bool) → eqb j w.count ≡ b → entry_at (new_entry w.count p a k.table) j ≡ pick b (new_endpoint p a) (w.endpoints j)
    at j u true q = let z = eqb-true j w.count q in rw z (load_store_same k.table w.count (new_endpoint p a) h.table.size few fits)
    at j u false q = let z = eqb-false j w.count q in load_store-other k.table w.count j (new_endpoint p a) z ∙ h.memory.endpoints j (omega arith)

module _ {k₀ k : Desk} {w : World} (h : HoldsAll k₀ w k) where
  held-endpoint : (b : Bool) (p a : ℕ) → (when b (push_endpoint p a) w).count ≤ 128 → a < 256 → HoldsAll k₀ (when b (push_endpoint p a) w) (endpoint_if b p a k)
  held-endpoint false p a few byte = h
  held-endpoint true p a few byte =
      record {
        memory =
            subst (λ (c : ℕ). Holds (suc w.count) w.transaction.id (start_pid w.transaction.style) (memory_of k₀) (push_endpoint p a w) (memory k.hand.written (new_entry c p a k.table) k.groups k.statebytes k.states k.items k.links)) (sym h.count)
            (holds-new h p a (omega arith) byte);
        devices = keep h.devices _ (append-nil _);
        endpoints = append h.endpoints _ (p ∷ number_of a ∷ a / 128 ∷ []) refl refl (omega arith);
        transactions = keep h.transactions _ (append-nil _);
        device_count = h.device_count;
        count = omega (arith, h.count);
        table =
            subst (λ (c : ℕ). Tabled (suc w.count) k₀.table (new_entry c p a k.table)) (sym h.count)
            (tabled-more h.table (omega arith) (new_endpoint p a) (record { address = byte; state = omega arith; first = omega arith; last = omega arith }));
      }

-- ---- the transaction

module _ {k₀ k : Desk} {w : World} (h : HoldsAll k₀ w k) where
  held-told : (t : Transaction) (linked : Bool) (link : ℕ) → linked ≡ t.linked → link ≡ t.link → HoldsAll k₀ (with_transaction t w) (told_desk linked link k)
  held-told t linked link e f =
      let m = h.memory in
      record {
        memory =
            record {
              sized = m.sized;
              stamp = m.stamp;
              context = m.context;
              count = refl;
              endpoints = m.endpoints;
              row = refl;
              began = refl;
              linked = e;
              link = f;
              last_item = m.last_item;
              group_count = m.group_count;
              state_byte_count = m.state_byte_count;
              item_count = m.item_count;
              groups = m.groups;
              statebytes = m.statebytes;
              states = m.states;
              items = m.items;
              links = m.links;
            };
        devices = h.devices;
        endpoints = h.endpoints;
        transactions = h.transactions;
        device_count = h.device_count;
        count = h.count;
        table = h.table;
      }

  pub holds-brought : (t : Transaction) → Brought t w.transaction → HoldsAll k₀ (with_transaction t w) k
  holds-brought t b = held-told t k.hand.written.linked k.hand.written.link (h.memory.linked ∙ sym b.linked) (h.memory.link ∙ sym b.link)

-- ---- a step that begins

types-count : (b : Bool) (p : ℕ) (f : Device → Device) (w : World) → (when b (change_device p f) w).count ≡ w.count
types-count true p f w = refl
types-count false p f w = refl

module _ {k₀ k : Desk} {w : World} (id : ℕ) (s : Begin) (fits : BeginFits id s w) (h : HoldsAll k₀ w k) (own : k₀.hand.written.stamp.packet ≡ id) where
  -- the transaction row names the call's packet, with its reason
  names : naming id w.context.reason ≡ naming k.hand.written.stamp.packet k.hand.written.stamp.reason
  names =
      λ i. naming (sym (ap (λ (c : Stamp). c.packet) h.memory.stamp ∙ own) i) (ap (λ (c : Stamp). c.reason) (h.memory.context ∙ sym h.memory.stamp) i)

  rowed : HoldsAll k₀ (when s.row (push_transaction id) w) (transaction_if s.row (naming k.hand.written.stamp.packet k.hand.written.stamp.reason) k)
  rowed = subst (λ (r : Named). HoldsAll k₀ (when s.row (push_transaction id) w) (transaction_if s.row r k)) names (held-transaction h s.row id)

  pub opened-holds : HoldsAll k₀ (with_transaction s.transaction (opened id s w)) (opened_desk s k)
  unfolding opened
  opened-holds =
      held-told
      (held_types (held-endpoint (held-device rowed s.device s.owner) s.endpoint s.place s.number few fits.number) s.types s.place (typed s.number s.kind))
      s.transaction s.transaction.linked s.transaction.link refl refl
    where
      few : (when s.endpoint (push_endpoint s.place s.number) (when s.device (add_device s.owner) (when s.row (push_transaction id) w))).count ≤ 128
      few = subst (λ (c : ℕ). c ≤ 128) (types-count s.types s.place (typed s.number s.kind) _) fits.few

  begun_by : HoldsAll k₀ (with_transaction s.transaction (opened id s w)) (opened_desk s k) → HoldsAll k₀ (begun id s w) (begun_desk s k)
  unfolding begun begun_desk
  begun_by o = held-act o s.update s.transaction.endpoint fits.few fits.there fits.token

  pub begun-holds : HoldsAll k₀ (begun id s w) (begun_desk s k)
  begun-holds = begun_by opened-holds

-- the transaction that it leaves
pub begun-id : (id : ℕ) (s : Begin) (w : World) → (begun id s w).transaction.id ≡ s.transaction.id
unfolding begun
begun-id id s w = ap (λ (r : Rest). r.id) (act-rest s.update s.transaction.endpoint (with_transaction s.transaction (opened id s w)))

pub begun-style : (id : ℕ) (s : Begin) (w : World) → (begun id s w).transaction.style ≡ s.transaction.style
unfolding begun
begun-style id s w = ap (λ (r : Rest). r.style) (act-rest s.update s.transaction.endpoint (with_transaction s.transaction (opened id s w)))

-- ---- a step that ends

module _ {k₀ k : Desk} {w : World} (h : HoldsAll k₀ w k) (x : ℕ) (few : w.count ≤ 128) (there : x < w.count) where
  held-pending : (n : ℕ) → HoldsAll k₀ (change x (with_pending n w.transaction.link) w) (effect_desk (PendingData n) x k)
  held-pending n =
      subst (λ (i : ℕ). HoldsAll k₀ (change x (with_pending n w.transaction.link) w) (with_memory (altered x (with_pending n i) (memory_of k)) k)) (sym h.memory.link)
      (held-altered h x (with_pending n w.transaction.link) few there (λ e f. record { address = f.address; state = f.state; first = f.first; last = f.last }))

  -- a D row
  held-total-row : (a b : ℕ) → HoldsAll k₀ (push (D x a b) w) (with_memory (link_row kind.D x a b (memory_of k)) k)
  held-total-row a b =
      held-memory h (push (D x a b) w) (link_row kind.D x a b (memory_of k)) (beside-push (D x a b) refl refl refl w)
      (holds-link-row h.memory (D x a b) kind.D x a b refl) h.table

module _ {k₀ k : Desk} {w : World} (h : HoldsAll k₀ w k) (x : ℕ) (few : w.count ≤ 128) (there : x < w.count) where
  held_index : (n : ℕ) (waited : Bool) (i : ℕ) → HoldsAll k₀ (effect_step (IndexData n waited i) x w) (effect_desk (IndexData n waited i) x k)
  held_index n waited i =
      subst (λ (t : ℕ). HoldsAll k₀ (effect_step (IndexData n waited i) x w) (counted k.hand.written.link t)) (sym total)
      (subst (λ (l : ℕ). HoldsAll k₀ (effect_step (IndexData n waited i) x w) (counted l (w.endpoints x).total)) (sym h.memory.link)
      (held-altered (held-total-row h x few there (pick waited i w.transaction.link) (w.endpoints x).total) x (with_total ((w.endpoints x).total + n)) few there
      (λ e f. record { address = f.address; state = f.state; first = f.first; last = f.last })))
    where
      total : (entry_at k.table x).total ≡ (w.endpoints x).total
      total = ap (λ (e : Endpoint). e.total) (h.memory.endpoints x there)

      counted : ℕ → ℕ → Desk
      counted l t = with_memory (altered x (with_total (t + n)) (link_row kind.D x (pick waited i l) t (memory_of k))) k

  -- a request: the row is not on the desk, and neither are the devices nor the shelf
  held-request : (n : ℕ) → HoldsAll k₀ (decode_request n x w) k
  held-request n =
      let v = decode_request n x w in
      record {
        memory = holds-others h.memory v.devices w.device_count w.transactions v.shelf v.journal (append-nil _) (append-nil _) (append-nil _) (append-nil _) (append-nil _);
        devices = keep h.devices _ (append-nil _);
        endpoints = keep h.endpoints _ (append-nil _);
        transactions = keep h.transactions _ (append-nil _);
        device_count = h.device_count;
        count = h.count;
        table = h.table;
      }

  held_effect : (f : Effect) → HoldsAll k₀ (effect_step f x w) (effect_desk f x k)
  held_effect NoEffect = h
  held_effect (NewDevice a) = held-device h true a
  held_effect (Request n) = held-request n
  held_effect (PendingData n) = held-pending h x few there n
  held_effect (IndexData n waited i) = held_index n waited i

module _ {k₀ k : Desk} {w : World} (x : ℕ) (s : End) (fits : EndFits x s w) (h : HoldsAll k₀ w k) where
  pub stored-holds : HoldsAll k₀ (change x (becomes s.entry) w) (stored_desk x s.entry k)
  stored-holds = held-altered h x (becomes s.entry) fits.few fits.there (λ e f. fits.bytes)

  -- before the effect
  pub closing-holds : HoldsAll k₀ (act s.update x (change x (becomes s.entry) w)) (closing_desk x w.transaction.id (start_pid w.transaction.style) s k)
  closing-holds = held-act stored-holds s.update x fits.few fits.there fits.token

  same_count : (act s.update x (change x (becomes s.entry) w)).count ≡ w.count
  same_count = (beside-act x s.update (change x (becomes s.entry) w)).count

  pub ended-holds : (id pid : ℕ) → w.transaction.id ≡ id → start_pid w.transaction.style ≡ pid → HoldsAll k₀ (ended x s w) (ended_desk x id pid s k)
  unfolding ended ended_desk
  ended-holds id pid e f =
      subst (λ (i : ℕ). HoldsAll k₀ (ended x s w) (ended_desk x i pid s k)) e
      (subst (λ (p : ℕ). HoldsAll k₀ (ended x s w) (ended_desk x w.transaction.id p s k)) f
      (held_effect closing-holds x (subst (λ (c : ℕ). c ≤ 128) (sym same_count) fits.few) (subst (λ (c : ℕ). x < c) (sym same_count) fits.there) s.effect))
