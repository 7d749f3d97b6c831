-- A packet whose plan is of a given shape, and whose sum is known: what it leaves, and what carrying it out asks.
use mathlib.Core.Path.{◌≡◌, refl, sym}
use mathlib.Core.Bool.{false}
use mathlib.Core.List.{List, [], ◌∷◌}
use Prim.Native.Nat.{ℕ, ◌+◌, ◌*◌, ◌<◌, ◌≤◌}
use lib.ListN.{length, get_or}
use lib.Seq.{sets}
use Rattle.std.specs.Prelude.{Ok}
use Rattle.rows.specs.Widths.{packet_width}
use Rattle.transaction.specs.Payload.{start_pid}
use Rattle.rules.specs.Transactions.{is_dropped}
use Rattle.record.proofs.FormedLaws.{WellFormed}
use Rattle.plan.specs.Packet.{plan_of}
use Rattle.plan.specs.declared.Plan.{Plan}
use Rattle.call.specs.Outcome.{is_ill, world_at}
use Rattle.call.proofs.OutcomeLaws.{sound}
use Rattle.call.specs.Share.{Known}
use Rattle.call.specs.State.{State, state, logs, held_at, room_of}
use Rattle.write_packet.specs.Asked.{PlanAsks}
use Rattle.write_packet.specs.Desk.{performed}
use Rattle.packet.specs.After.{sum_plan, hand_of, decoder_by, change_by, is_change}
use Rattle.packet.specs.Call.{PacketCall}
use Rattle.packet.specs.declared.sum.Sum.{Sum}
use Rattle.packet.proofs.Answers.{Decided, desk_by, with_parts, accepted-by, asks_by, rows_fit}
use Rattle.packet.proofs.Changes.{changed-none, shelved-none, requested-none}

-- the tests that were passed, and what is known of the arguments
pub record Enters (packet : List ℕ) (s : State) : Type 0 where
  pub ill : is_ill s ≡ false
  pub finished : s.decoder.finished ≡ false
  pub short : length packet ≤ 4096
  pub live : is_dropped s.decoder.slot s.decoder.transaction ≡ false
  pub known : Known s.table
  pub many : length s.devices ≡ 64
  pub token : start_pid s.decoder.transaction.style < 256
  pub first : get_or packet 0 0 < 256

-- what the plan q with the sum z leaves, where it changes nothing of what is the caller's
abbrev pub left_with : Plan → Sum → List ℕ → ℕ → State → State
left_with q z packet time s =
    let k = performed q (desk_by (hand_of time q.reason s.decoder (held_at s) s.table) s) in
    state (decoder_by s.decoder q z k.hand) s.devices k.table
    (logs (sets s.logs.bytes (held_at s).bytes packet) k.devices k.endpoints (sets s.logs.packets ((held_at s).packets * packet_width) (s.decoder.counts.bytes ∷ time ∷ [])) s.logs.events k.transactions k.groups k.statebytes k.states k.items k.links s.logs.requests)

module _ (packet : List ℕ) (time : ℕ) (s : State) (h : Enters packet s) where
  pub well : WellFormed s.decoder s.devices s.table (room_of s.logs)
  well = (sound s h.ill).0

  module _ {q : Plan} {z : Sum} (e : plan_of s.decoder.high packet (world_at s) ≡ q) (f : sum_plan s.decoder (held_at s) q (length packet) (room_of s.logs) ≡ Ok z) where
    decided : Decided packet s q (held_at s) (room_of s.logs) (Ok z)
    decided =
        record {
          passes = record { ill = h.ill; finished = h.finished; short = h.short };
          known = h.known;
          live = h.live;
          many = h.many;
          token = h.token;
          first = h.first;
          words = false;
          plan = sym e;
          rows = refl;
          room = refl;
          sum = sym f;
        }

    pub shape-asks : PlanAsks q (desk_by (hand_of time q.reason s.decoder (held_at s) s.table) s)
    shape-asks = asks_by packet time s decided refl refl

    pub shape-rows : ((held_at s).bytes + length packet ≤ length s.logs.bytes) × (((held_at s).packets + 1) * packet_width ≤ length s.logs.packets)
    shape-rows = rows_fit packet time s decided refl

    pub shape-call : is_change (change_by s.decoder.high q s.decoder.counts.devices (held_at s).requests) ≡ false → (shelf : List ℕ) → PacketCall packet time s shelf 0 (left_with q z packet time s) shelf
    shape-call c shelf =
        let k = performed q (desk_by (hand_of time q.reason s.decoder (held_at s) s.table) s) in
        let x = change_by s.decoder.high q s.decoder.counts.devices (held_at s).requests in
        with_parts packet time s shelf (sym (changed-none x packet shelf s.devices c)) (sym (requested-none x packet shelf s.devices c s.logs.requests)) (sym (shelved-none x packet shelf s.devices c))
        (accepted-by packet time s decided refl {h = hand_of time q.reason s.decoder (held_at s) s.table} {k = k} {x = decoder_by s.decoder q z k.hand} {c = x} refl refl refl refl refl refl shelf)
