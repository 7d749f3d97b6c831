-- What is left of the listing, from each kind on; that the listing is all of it; and that each kind's lines, behind those before it, make it.
-- Assumes nothing.
use Prim.Native.Nat.{ℕ}
use mathlib.Core.Path.{◌≡◌, refl, sym}
use mathlib.Core.List.{List, [], ◌++◌, append-nil}
use Rattle.text.specs.Append.{Room, Appended}
use Rattle.text.specs.Words.{title}
use Rattle.text.proofs.Appends.{Left, start, room, step, done}
use Rattle.record.specs.declared.Counts.{Counts}
use Rattle.call.specs.State.{Logs}
use Rattle.lines.specs.Listing.{lines_of, state_lines, listing}
use Rattle.lines.specs.declared.Kind.TheVariants.{Device, Endpoint, Packet, Event, Transaction, Group, Item, Link, Request}

module _ (n : Counts) (l : Logs) where
  abbrev pub from_requests : List ℕ
  from_requests = lines_of Request n.requests l.requests

  abbrev pub from_links : List ℕ
  from_links = lines_of Link n.links l.links ++ from_requests

  abbrev pub from_items : List ℕ
  from_items = lines_of Item n.items l.items ++ from_links

  abbrev pub from_states : List ℕ
  from_states = state_lines n.states l.states n.statebytes l.statebytes ++ from_items

  abbrev pub from_groups : List ℕ
  from_groups = lines_of Group n.groups l.groups ++ from_states

  abbrev pub from_transactions : List ℕ
  from_transactions = lines_of Transaction n.transactions l.transactions ++ from_groups

  abbrev pub from_events : List ℕ
  from_events = lines_of Event n.events l.events ++ from_transactions

  abbrev pub from_packets : List ℕ
  from_packets = lines_of Packet n.packets l.packets ++ from_events

  abbrev pub from_endpoints : List ℕ
  from_endpoints = lines_of Endpoint n.endpoints l.endpoints ++ from_packets

  abbrev pub from_devices : List ℕ
  from_devices = lines_of Device n.devices l.devices ++ from_endpoints

  pub listing-is : listing n l ≡ title ++ from_devices
  unfolding listing
  listing-is = refl

-- ---- one kind behind another: after each call, what is left of the listing, and room for the next

pub room_title : (n : Counts) (l : Logs) (o : List ℕ) → Room o 0 (listing n l) → Room o 0 title
room_title n l o h = room title (from_devices n l) (start {l = o} {at = 0}) (listing-is n l) h

module _ (n : Counts) (l : Logs) {o₀ : List ℕ} (h : Room o₀ 0 (listing n l)) where
  module _ {o₁ : List ℕ} {p₁ : ℕ} (a₁ : Appended o₀ 0 title o₁ p₁) where
    left_devices : Left o₀ 0 (listing n l) o₁ p₁ (from_devices n l)
    left_devices = step title (from_devices n l) start (listing-is n l) a₁

    pub room_devices : Room o₁ p₁ (lines_of Device n.devices l.devices)
    room_devices = room (lines_of Device n.devices l.devices) (from_endpoints n l) left_devices refl h

    module _ {o₂ : List ℕ} {p₂ : ℕ} (a₂ : Appended o₁ p₁ (lines_of Device n.devices l.devices) o₂ p₂) where
      left_endpoints : Left o₀ 0 (listing n l) o₂ p₂ (from_endpoints n l)
      left_endpoints = step (lines_of Device n.devices l.devices) (from_endpoints n l) left_devices refl a₂

      pub room_endpoints : Room o₂ p₂ (lines_of Endpoint n.endpoints l.endpoints)
      room_endpoints = room (lines_of Endpoint n.endpoints l.endpoints) (from_packets n l) left_endpoints refl h

      module _ {o₃ : List ℕ} {p₃ : ℕ} (a₃ : Appended o₂ p₂ (lines_of Endpoint n.endpoints l.endpoints) o₃ p₃) where
        left_packets : Left o₀ 0 (listing n l) o₃ p₃ (from_packets n l)
        left_packets = step (lines_of Endpoint n.endpoints l.endpoints) (from_packets n l) left_endpoints refl a₃

        pub room_packets : Room o₃ p₃ (lines_of Packet n.packets l.packets)
        room_packets = room (lines_of Packet n.packets l.packets) (from_events n l) left_packets refl h

        module _ {o₄ : List ℕ} {p₄ : ℕ} (a₄ : Appended o₃ p₃ (lines_of Packet n.packets l.packets) o₄ p₄) where
          left_events : Left o₀ 0 (listing n l) o₄ p₄ (from_events n l)
          left_events = step (lines_of Packet n.packets l.packets) (from_events n l) left_packets refl a₄

          pub room_events : Room o₄ p₄ (lines_of Event n.events l.events)
          room_events = room (lines_of Event n.events l.events) (from_transactions n l) left_events refl h

          module _ {o₅ : List ℕ} {p₅ : ℕ} (a₅ : Appended o₄ p₄ (lines_of Event n.events l.events) o₅ p₅) where
            left_transactions : Left o₀ 0 (listing n l) o₅ p₅ (from_transactions n l)
            left_transactions = step (lines_of Event n.events l.events) (from_transactions n l) left_events refl a₅

            pub room_transactions : Room o₅ p₅ (lines_of Transaction n.transactions l.transactions)
            room_transactions = room (lines_of Transaction n.transactions l.transactions) (from_groups n l) left_transactions refl h

            module _ {o₆ : List ℕ} {p₆ : ℕ} (a₆ : Appended o₅ p₅ (lines_of Transaction n.transactions l.transactions) o₆ p₆) where
              left_groups : Left o₀ 0 (listing n l) o₆ p₆ (from_groups n l)
              left_groups = step (lines_of Transaction n.transactions l.transactions) (from_groups n l) left_transactions refl a₆

              pub room_groups : Room o₆ p₆ (lines_of Group n.groups l.groups)
              room_groups = room (lines_of Group n.groups l.groups) (from_states n l) left_groups refl h

              module _ {o₇ : List ℕ} {p₇ : ℕ} (a₇ : Appended o₆ p₆ (lines_of Group n.groups l.groups) o₇ p₇) where
                left_states : Left o₀ 0 (listing n l) o₇ p₇ (from_states n l)
                left_states = step (lines_of Group n.groups l.groups) (from_states n l) left_groups refl a₇

                pub room_states : Room o₇ p₇ (state_lines n.states l.states n.statebytes l.statebytes)
                room_states = room (state_lines n.states l.states n.statebytes l.statebytes) (from_items n l) left_states refl h

                module _ {o₈ : List ℕ} {p₈ : ℕ} (a₈ : Appended o₇ p₇ (state_lines n.states l.states n.statebytes l.statebytes) o₈ p₈) where
                  left_items : Left o₀ 0 (listing n l) o₈ p₈ (from_items n l)
                  left_items = step (state_lines n.states l.states n.statebytes l.statebytes) (from_items n l) left_states refl a₈

                  pub room_items : Room o₈ p₈ (lines_of Item n.items l.items)
                  room_items = room (lines_of Item n.items l.items) (from_links n l) left_items refl h

                  module _ {o₉ : List ℕ} {p₉ : ℕ} (a₉ : Appended o₈ p₈ (lines_of Item n.items l.items) o₉ p₉) where
                    left_links : Left o₀ 0 (listing n l) o₉ p₉ (from_links n l)
                    left_links = step (lines_of Item n.items l.items) (from_links n l) left_items refl a₉

                    pub room_links : Room o₉ p₉ (lines_of Link n.links l.links)
                    room_links = room (lines_of Link n.links l.links) (from_requests n l) left_links refl h

                    module _ {o₁₀ : List ℕ} {p₁₀ : ℕ} (a₁₀ : Appended o₉ p₉ (lines_of Link n.links l.links) o₁₀ p₁₀) where
                      left_requests : Left o₀ 0 (listing n l) o₁₀ p₁₀ (from_requests n l)
                      left_requests = step (lines_of Link n.links l.links) (from_requests n l) left_links refl a₁₀

                      pub room_requests : Room o₁₀ p₁₀ (lines_of Request n.requests l.requests)
                      room_requests = room (lines_of Request n.requests l.requests) [] left_requests (sym (append-nil (lines_of Request n.requests l.requests))) h

                      pub whole : {o₁₁ : List ℕ} {p₁₁ : ℕ} → Appended o₁₀ p₁₀ (lines_of Request n.requests l.requests) o₁₁ p₁₁ → Appended o₀ 0 (listing n l) o₁₁ p₁₁
                      whole a₁₁ = done (step (lines_of Request n.requests l.requests) [] left_requests (sym (append-nil (lines_of Request n.requests l.requests))) a₁₁)
