use native.Mathlib.Omega.{arith}
use mathlib.Core.Bool.{Bool, ◌&&◌, not}
use mathlib.Core.Path.{◌≡◌, sym, ap, ◌∙◌}
use Rattle.std.specs.Prelude.{Some}
use Prim.Native.Nat.{ℕ, ◌^◌}
use Rattle.update.specs.Effect.{passes}
use Rattle.tally.specs.Tallies.{room_for}
use Rattle.tally.specs.declared.add.Tally.{Tally}
use Rattle.tally.proofs.Bounds.{looser}
use Rattle.record.specs.declared.Counts.{Counts}
use Rattle.record.specs.declared.Decoder.{Decoder}
use Rattle.plan.specs.Devices.{adds_device, asks}
use Rattle.plan.specs.declared.End.{End}
use Rattle.quick.specs.Close.{close_tally, taken, rows_if}
use Rattle.quick.proofs.CloseOnly.{close_small}
use Rattle.quick.proofs.close.close_of.Goals as goal

pub has_room_for-fits-requires : goal.has_room_for-fits-requires
has_room_for-fits-requires c = let a = c in record { under = a.requires.countable.few; within = rw c.close_tally-tally.ensures (looser (close_small a.args.end a.args.len a.args.d a.requires.len_bound a.requires.waiting_bound a.requires.endpoints_bound) (2 ^ 40) (omega arith)); numbered = a.requires.countable.numbered }

taken-is : (closes : Bool) (e : End) (d : Decoder) (held : Counts) (len : ℕ) (room : Counts) {t : Tally} {over adds asked fits : Bool}
    → t ≡ close_tally e len d → over ≡ passes e.effect e.entry.total → adds ≡ adds_device e.effect → asked ≡ asks e.effect → fits ≡ room_for held d.counts t room
    → (closes && (fits && (not over && (not adds && not asked)))) ≡ taken closes e d held len room
taken-is closes e d held len room e1 e2 e3 e4 e5 = let f = e5 ∙ ap (λ (x : Tally). room_for held d.counts x room) e1 in
    λ i. closes && (f i && (not (e2 i) && (not (e3 i) && not (e4 i))))

pub returns-then-closes-fits : goal.returns-then-closes-fits
returns-then-closes-fits c = let a = c.args in
    let t = taken-is a.closes a.end a.d a.held a.len a.room c.close_tally-tally.ensures c.total_passes-over.ensures c.adds_device-adds.ensures c.is_request-asks.ensures c.has_room_for-fits.ensures in
    ap Some c.close_tally-tally.ensures ∙ ap (λ (b : Bool). rows_if b (close_tally a.end a.len a.d)) (sym c.if-closes-fits.true ∙ t)

pub returns-else-closes-fits : goal.returns-else-closes-fits
returns-else-closes-fits c = let a = c.args in
    let t = taken-is a.closes a.end a.d a.held a.len a.room c.close_tally-tally.ensures c.total_passes-over.ensures c.adds_device-adds.ensures c.is_request-asks.ensures c.has_room_for-fits.ensures in
    ap (λ (b : Bool). rows_if b (close_tally a.end a.len a.d)) (sym c.if-closes-fits.false ∙ t)
