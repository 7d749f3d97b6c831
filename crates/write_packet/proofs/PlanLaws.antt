-- Laws (proved): a packet's steps in a row: from the desk at a call's entry to the one that holds the world that the rules make; and what `perform` requires.
use Rattle.std.specs.Prelude.{ℕ, suc, ◌+◌, ◌*◌, Bool, true, false, List, [], ◌∷◌, ◌≡◌, refl, eqb, length}
use Rattle.std.proofs.Common.{arith, append-nil, sym, ap}
use Rattle.rows.specs.Widths.{endpoint_width, transaction_width}
use Rattle.transaction.specs.Payload.{start_pid}
use Rattle.rules.specs.Rows.{Row, BytesRow, PacketRow, log}
use Rattle.usb.specs.Packet.{reason_of}
use Rattle.rules.specs.World.{World, ◌▷◌, with_transaction, stamp, stamped}
use Rattle.rules.specs.declared.EventState.{EventState}
use Rattle.rules.specs.declared.EventState.TheVariants.{Idle}
use Rattle.rules.specs.declared.Slot.{Slot}
use Rattle.rules.specs.declared.Stamp.{Stamp}
use Rattle.update.specs.Update.{when}
use Rattle.write.proofs.Holds.{Appended, Worded}
use Rattle.write.proofs.HoldsLaws.{keep, appended-fits, holds-start, holds-room}
use Rattle.record.proofs.TabledLaws.{tabled_start}
use Rattle.plan.specs.Packet.{played}
use Rattle.plan.specs.Sound.{PlanFits, world1, world2, world3, world4}
use Rattle.plan.specs.Step.{begun, ended}
use Rattle.plan.specs.declared.Plan.{Plan}
use Rattle.write_packet.specs.Asked.{RoomAll, PlanAsks}
use Rattle.write_packet.specs.Desk.{Desk, memory_of, begun_desk, ended_desk, desk2, desk3, desk4, performed}
use Rattle.write_packet.proofs.Held.{HoldsAll, Matches, SpaceAll, Brought}
use Rattle.write_packet.proofs.HeldLaws.{begun-holds, begun-id, begun-style, ended-holds, holds-brought}
use Rattle.write_packet.proofs.ReadyLaws.{begin-asks, end-asks}

-- ---- at a call's entry

unwritten : (k : ℕ) (words : List ℕ) (to : ℕ) (js : List Row) → js ≡ [] → Appended k words to js words to
unwritten k words to js e = rw e (record { written = refl; filled = omega arith })

pub holds-entry : (w : World) (k : Desk) → w.journal ≡ [] → w.context ≡ k.hand.written.stamp → Matches w k → HoldsAll k w k
holds-entry w k e c m =
    record {
      memory = holds-start w.count w.transaction.id (start_pid w.transaction.style) w (memory_of k) e m.sized c refl m.entries refl refl m.linked m.link m.last_item m.groups m.statebytes m.items;
      devices = unwritten 1 k.devices k.hand.devices w.journal e;
      endpoints = unwritten 2 k.endpoints (k.hand.endpoints * endpoint_width) w.journal e;
      transactions = unwritten 5 k.transactions (k.hand.transactions * transaction_width) w.journal e;
      device_count = m.devices;
      count = m.endpoints;
      table = tabled_start w.count k.table m.sized m.stored;
    }

-- ---- what no step writes: packet bytes (log 0), packet rows (3), and the parts of the record that no log is told of

abbrev pub SameLogs : List Row → List Row → Type 0
SameLogs js js' = (k : ℕ) → eqb 0 k ≡ false → eqb 3 k ≡ false → log k js' ≡ log k js

abbrev pub aside : Slot → EventState → Bool → ℕ → ℕ → List Row → World → World
aside s e b n p js w = record { endpoints = w.endpoints; count = w.count; devices = w.devices; device_count = w.device_count; slot = s; transaction = w.transaction; last_item = w.last_item; event_state = e; keepalive = b; context = w.context; shelf = w.shelf; bytes = n; packets = p; transactions = w.transactions; groups = w.groups; state_bytes = w.state_bytes; items = w.items; journal = js }

pub holds-aside : {k₀ k : Desk} {w : World} → HoldsAll k₀ w k → (s : Slot) (e : EventState) (b : Bool) (n p : ℕ) (js : List Row) → SameLogs w.journal js → HoldsAll k₀ (aside s e b n p js w) k
holds-aside h s e b n p js l =
    let m = h.memory in
    record {
      memory =
          record {
            sized = m.sized;
            stamp = m.stamp;
            context = m.context;
            count = refl;
            endpoints = m.endpoints;
            row = refl;
            began = refl;
            linked = m.linked;
            link = m.link;
            last_item = m.last_item;
            group_count = m.group_count;
            state_byte_count = m.state_byte_count;
            item_count = m.item_count;
            groups = keep m.groups js (l 6 refl refl);
            statebytes = keep m.statebytes js (l 7 refl refl);
            states = keep m.states js (l 8 refl refl);
            items = keep m.items js (l 9 refl refl);
            links = keep m.links js (l 10 refl refl);
          };
      devices = keep h.devices js (l 1 refl refl);
      endpoints = keep h.endpoints js (l 2 refl refl);
      transactions = keep h.transactions js (l 5 refl refl);
      device_count = h.device_count;
      count = h.count;
      table = h.table;
    }

pub all_start : (packet : List ℕ) (time : ℕ) (w : World) (k : Desk) → w.journal ≡ [] → k.hand.written.stamp ≡ stamp w.packets time (reason_of packet) → Matches (stamped time (reason_of packet) w) k → HoldsAll k (world1 packet time w) k
all_start packet time w k e c m =
    holds-aside (holds-entry (stamped time (reason_of packet) w) k e (sym c) m) w.slot Idle w.keepalive (w.bytes + length packet) (suc w.packets) (PacketRow w.bytes time ∷ BytesRow packet ∷ w.journal)
    (λ k a b. rw (a, b) (simp append-nil))

-- room is what the journal's rows need
pub room-all : {k₀ k : Desk} {w : World} → HoldsAll k₀ w k → SpaceAll k₀ w.journal → Worded w → RoomAll k
room-all h r z =
    record {
      memory = holds-room h.memory r.memory z;
      devices = appended-fits h.devices r.devices;
      endpoints = appended-fits h.endpoints r.endpoints;
      transactions = appended-fits h.transactions r.transactions;
    }

-- ---- the four steps

when-holds : {k₀ : Desk} (b : Bool) (f : World → World) (g : Desk → Desk) (w : World) (k : Desk) → (b ≡ true → HoldsAll k₀ (f w) (g k)) → HoldsAll k₀ w k → HoldsAll k₀ (when b f w) (when b g k)
when-holds true f g w k step h = step refl
when-holds false f g w k step h = h

module _ {k₀ k : Desk} (p : Plan) (packet : List ℕ) (time : ℕ) (w : World) (fits : PlanFits p packet time w)
    (brought : p.ends ≡ true → Brought p.brought (world2 p packet time w).transaction) (h : HoldsAll k₀ (world1 packet time w) k) where
  -- the call's packet
  own : k₀.hand.written.stamp.packet ≡ w.packets
  own = sym (ap (λ (c : Stamp). c.packet) h.memory.context)

  holds2 : HoldsAll k₀ (world2 p packet time w) (desk2 p k)
  holds2 = when-holds p.resumes (begun w.packets p.resume) (begun_desk p.resume) (world1 packet time w) k (λ e. begun-holds w.packets p.resume (fits.resume e) h own) h

  -- what the packet brought to the old transaction
  holds-old : p.ends ≡ true → HoldsAll k₀ (with_transaction p.brought (world2 p packet time w)) (desk2 p k)
  holds-old e = holds-brought holds2 p.brought (brought e)

  holds3 : HoldsAll k₀ (world3 p packet time w) (desk3 p k)
  holds3 =
      when-holds p.ends (λ v. ended p.old p.end (with_transaction p.brought v)) (ended_desk p.old p.brought.id (start_pid p.brought.style) p.end)
      (world2 p packet time w) (desk2 p k)
      (λ e. ended-holds p.old p.end (fits.end e) (holds-old e) p.brought.id (start_pid p.brought.style) refl refl) holds2

  holds4 : HoldsAll k₀ (world4 p packet time w) (desk4 p k)
  holds4 = begun-holds w.packets p.begin fits.begin holds3 own

  same_id : (world4 p packet time w).transaction.id ≡ p.begin.transaction.id
  same_id = begun-id w.packets p.begin (world3 p packet time w)

  same-token : start_pid (world4 p packet time w).transaction.style ≡ start_pid p.begin.transaction.style
  same-token = ap start_pid (begun-style w.packets p.begin (world3 p packet time w))

  pub performed-holds : HoldsAll k₀ (world4 p packet time w ▷ when p.closes (ended p.begin.transaction.endpoint p.close)) (performed p k)
  performed-holds =
      when-holds p.closes (ended p.begin.transaction.endpoint p.close) (ended_desk p.begin.transaction.endpoint p.begin.transaction.id (start_pid p.begin.transaction.style) p.close)
      (world4 p packet time w) (desk4 p k)
      (λ e. ended-holds p.begin.transaction.endpoint p.close (fits.close e) holds4 p.begin.transaction.id (start_pid p.begin.transaction.style) same_id same-token) holds4

  pub played-holds : HoldsAll k₀ (played p packet time w) (performed p k)
  unfolding played
  played-holds =
      let v = world4 p packet time w ▷ when p.closes (ended p.begin.transaction.endpoint p.close) in
      holds-aside performed-holds p.slot v.event_state v.keepalive v.bytes v.packets v.journal
      (λ k a b. refl)

  -- what perform requires
  pub ready : RoomAll (performed p k) → PlanAsks p k
  ready r =
      record {
        resume = λ e. begin-asks w.packets p.resume (fits.resume e) h own;
        end = λ e. end-asks p.old p.end (fits.end e) (holds-old e) p.brought.id (start_pid p.brought.style) refl refl;
        begin = begin-asks w.packets p.begin fits.begin holds3 own;
        close = λ e. end-asks p.begin.transaction.endpoint p.close (fits.close e) holds4 p.begin.transaction.id (start_pid p.begin.transaction.style) same_id same-token;
        room = r;
      }
