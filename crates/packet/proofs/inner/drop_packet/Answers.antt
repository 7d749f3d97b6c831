use native.Mathlib.Omega.{arith}
use Prim.Native.Nat.{ℕ, ◌+◌, ◌*◌, ◌≤◌}
use mathlib.Core.Bool.{Bool, true, false, cond}
use mathlib.Core.List.{List, ◌∷◌, []}
use mathlib.Core.Path.{◌≡◌, refl, sym, ap, ◌∙◌}
use Rattle.std.specs.Prelude.{Result, Ok, Err}
use lib.ListN.{length}
use lib.Seq.{sets}
use Rattle.rows.specs.Widths.{packet_width}
use Rattle.record.specs.Bools.{both}
use Rattle.record.specs.Room.{fitting}
use Rattle.record.specs.RoomLaws.{within}
use Rattle.record.specs.declared.Counts.{Counts}
use Rattle.record.specs.declared.Decoder.{Decoder}
use Rattle.tally.specs.Tallies.{add_counts, room_for}
use Rattle.packet.specs.After.{sum_by, sum_dropped, tally_dropped, dropped_decoder}
use Rattle.packet.specs.Dropped.{Drops, fits_dropped, is_room, answer_of, left_of, refused}
use Rattle.packet.specs.declared.change.Change.{Change}
use Rattle.packet.specs.declared.inner.Inner.{Inner}
use Rattle.packet.specs.declared.sum.Refusal.{Refusal}
use Rattle.packet.specs.declared.sum.Sum.{Sum}
use Rattle.packet.proofs.inner.drop_packet.Goals as goal

fits_sum : (d : Decoder) (held : Counts) (len : ℕ) (room : Counts) → fits_dropped d held len room ≡ true → fitting (add_counts held (tally_dropped d len)) room ≡ true
unfolding sum_dropped
fits_sum d held len room h = (both _ _ (by (room_for held d.counts (tally_dropped d len) room) h)).0
  where
    by : (b : Bool) → is_room (sum_by b false d (tally_dropped d len)) ≡ true → b ≡ true
    by true h = refl
    by false h = h

spare-bytes : (d : Decoder) (held : Counts) (len : ℕ) (room : Counts) → fits_dropped d held len room ≡ true → held.bytes + len ≤ room.bytes
unfolding add_counts
spare-bytes d held len room h = let w = (within _ room (fits_sum d held len room h)).bytes in omega (arith, w)

spare-packets : (d : Decoder) (held : Counts) (len : ℕ) (room : Counts) → fits_dropped d held len room ≡ true → held.packets + 1 ≤ room.packets
unfolding add_counts
spare-packets d held len room h = let w = (within _ room (fits_sum d held len room h)).packets in omega (arith, w)

module _ {d : Decoder} {held : Counts} {none : Change} {packet : List ℕ} {time : ℕ} {room : Counts} {b p : List ℕ} where
  full : {r : Refusal} {x : Inner} → Err r ≡ sum_dropped d held (length packet) room → x ≡ refused r d none → Drops d held none packet time room b p x b p
  full e q =
      record {
        answer = ap (λ (x : Inner). x.answer) q ∙ ap answer_of e;
        decoder = ap (λ (x : Inner). x.decoder) q ∙ ap (left_of d time) e;
        change = ap (λ (x : Inner). x.change) q;
        bytes = ap (λ (z : Result Sum Refusal). cond (is_room z) (sets b held.bytes packet) b) e;
        packets = ap (λ (z : Result Sum Refusal). cond (is_room z) (sets p (held.packets * packet_width) (d.counts.bytes ∷ time ∷ [])) p) e;
      }

  dropped : {z : Sum} {x : Decoder} {b' p' : List ℕ} → Ok z ≡ sum_dropped d held (length packet) room → x ≡ dropped_decoder d time z → b' ≡ sets b held.bytes packet
      → p' ≡ sets p (held.packets * packet_width) (d.counts.bytes ∷ time ∷ []) → Drops d held none packet time room b p (record { answer = 8; decoder = x; change = none }) b' p'
  dropped e q g k =
      record {
        answer = ap answer_of e;
        decoder = q ∙ ap (left_of d time) e;
        change = refl;
        bytes = g ∙ ap (λ (z : Result Sum Refusal). cond (is_room z) (sets b held.bytes packet) b) e;
        packets = k ∙ ap (λ (z : Result Sum Refusal). cond (is_room z) (sets p (held.packets * packet_width) (d.counts.bytes ∷ time ∷ [])) p) e;
      }

pub sum_dropped-requires : goal.sum_dropped-requires
sum_dropped-requires c = record { len_bound = c.requires.packet_len_bound; waiting_bound = c.requires.waiting_bound; countable = c.requires.countable }

pub returns-in-Err : goal.returns-in-Err
returns-in-Err c = full c.in-Err.ensures c.refused.ensures

pub put_packet-requires : goal.put_packet-requires
put_packet-requires c =
    let z : fits_dropped c.args.d c.args.held _ c.args.room ≡ true = ap is_room (sym c.in-Ok.ensures) in
    let b = spare-bytes _ _ _ _ z in
    let p = spare-packets _ _ _ _ z in
    let l = c.requires.bytes_in_bounds in
    let m = c.requires.packet_width_in_bounds in
    record { packet_in_bounds = omega (arith, b, l); packet_width_in_bounds = omega (arith, p, m) }

pub returns : goal.returns
returns c = dropped c.in-Ok.ensures c.dropped_decoder.ensures c.put_packet.ensures.bytes_after c.put_packet.ensures.packets_after
