use Rattle.std.proofs.Common.{arith, rules}
use Prim.Native.Nat.{ℕ, ◌-◌, ◌≤◌, ◌<◌}
use mathlib.Core.Path.{◌≡◌, sym, ◌∙◌}
use mathlib.Core.Bool.{false≢true}
use native.Mathlib.Nat.{add-zero}
use borrow.Author.Tests.{le-leb, lt-leb, eq-eqb, ne_eqb}
use lib.Dec.{eqb}
use lib.ListN.{length}
use Rattle.usb.specs.Packet.{data_sums, format_reason}
use Rattle.usb.proofs.check_data.Goals as goal
use Rattle.usb.proofs.check_data.Goals.{in-3-to-1027, in_default, in_default-2}

less : (n : ℕ) → n - 2 - 1 ≡ n - 3
less n = omega arith

pub returns-then-not-matches : goal.returns-then-not-matches
unfolding format_reason
returns-then-not-matches c =
    elim c.if-matches.branch [
      | in-3-to-1027 w ↦ absurd (false≢true (sym c.if-not-matches.true ∙ w.matches-is))
      | in_default w ↦ let l : length c.args.p.now < 3 = search rules in simp (lt-leb _ _ l)
      | in_default-2 w ↦ let l : 3 ≤ length c.args.p.now = search rules in let m : 1027 < length c.args.p.now = search rules in simp (le-leb _ _ l, lt-leb _ _ m)
    ]

pub returns-then-crc-pair : goal.returns-then-crc-pair
unfolding format_reason
returns-then-crc-pair c =
    let h : (3 ≤ length c.args.p.now) × (length c.args.p.now ≤ 1027) = elim c.if-matches.branch [ in-3-to-1027 w ↦ search rules | in_default w ↦ search rules | in_default-2 w ↦ search rules ] in
    let e : eqb c.crc16-crc.result c.pair.result ≡ data_sums c.args.p.now = simp (c.pair.ensures, c.crc16-crc.ensures, less, add-zero) in
    simp (le-leb _ _ h.0, le-leb _ _ h.1, ← e, ne_eqb _ _ c.if-crc-pair.true)

pub returns : goal.returns
unfolding format_reason
returns c =
    let h : (3 ≤ length c.args.p.now) × (length c.args.p.now ≤ 1027) = elim c.if-matches.branch [ in-3-to-1027 w ↦ search rules | in_default w ↦ search rules | in_default-2 w ↦ search rules ] in
    let e : eqb c.crc16-crc.result c.pair.result ≡ data_sums c.args.p.now = simp (c.pair.ensures, c.crc16-crc.ensures, less, add-zero) in
    simp (le-leb _ _ h.0, le-leb _ _ h.1, ← e, eq-eqb _ _ c.if-crc-pair.false)
