-- Inner (cited by private contracts alone): what a packet that drops the suspended transaction gives and writes: with room its own rows, without nothing.
use Rattle.std.specs.Prelude.{ℕ, ◌*◌, Bool, true, false, cond, List, [], ◌∷◌, ◌≡◌, length, Result, Ok, Err}
use Rattle.std.proofs.lemmas.List.Edits.{sets}
use Rattle.rows.specs.Widths.{packet_width}
use Rattle.record.specs.declared.Counts.{Counts}
use Rattle.record.specs.declared.Decoder.{Decoder}
use Rattle.packet.specs.After.{refusal, sum_dropped, dropped_decoder}
use Rattle.packet.specs.declared.change.Change.{Change}
use Rattle.packet.specs.declared.inner.Inner.{Inner}
use Rattle.packet.specs.declared.sum.Refusal.{Refusal}
use Rattle.packet.specs.declared.sum.Sum.{Sum}

-- a packet that is refused leaves all as it was
abbrev pub refused : Refusal → Decoder → Change → Inner
refused r d none = record { answer = refusal r; decoder = d; change = none }

-- the answer and the record
abbrev pub answer_of : Result Sum Refusal → ℕ
answer_of (Ok s) = 8
answer_of (Err r) = refusal r

abbrev pub left_of : Decoder → ℕ → Result Sum Refusal → Decoder
left_of d time (Ok s) = dropped_decoder d time s
left_of d time (Err r) = d

abbrev pub is_room : Result Sum Refusal → Bool
is_room (Ok s) = true
is_room (Err r) = false

-- whether there is room
abbrev pub fits_dropped : Decoder → Counts → ℕ → Counts → Bool
fits_dropped d held len room = is_room (sum_dropped d held len room)

pub record Drops (d : Decoder) (held : Counts) (none : Change) (packet : List ℕ) (time : ℕ) (room : Counts) (b p : List ℕ) (r : Inner) (b' p' : List ℕ) : Type 0 where
  pub answer : r.answer ≡ answer_of (sum_dropped d held (length packet) room)
  pub decoder : r.decoder ≡ left_of d time (sum_dropped d held (length packet) room)
  pub change : r.change ≡ none
  pub bytes : b' ≡ cond (fits_dropped d held (length packet) room) (sets b held.bytes packet) b
  pub packets : p' ≡ cond (fits_dropped d held (length packet) room) (sets p (held.packets * packet_width) (d.counts.bytes ∷ time ∷ [])) p
