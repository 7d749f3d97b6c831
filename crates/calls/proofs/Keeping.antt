-- What is stored of what a call left stands for it, whether the call was accepted or not: a refused call leaves what there was.
use Prim.Native.Nat.{ℕ, suc, ◌<◌, ◌%◌}
use native.Mathlib.Nat.{mod-eq_of_lt}
use native.Mathlib.Omega.{arith}
use mathlib.Core.Bool.{Bool, true, false, cond, true≢false}
use mathlib.Core.List.{List, [], ◌∷◌, replicate}
use mathlib.Core.Path.{◌≡◌, refl, sym, ap, subst, ◌∙◌}
use borrow.Author.Tests.{ltb-false}
use lib.Dec.{ltb}
use lib.ListN.{length, get_or}
use lib.Seq.{sets}
use Rattle.rows.specs.Sets.{get_d-sets_in}
use Rattle.details.specs.Details.{fresh}
use Rattle.details.specs.declared.Device.{Device}
use Rattle.endpoints.specs.Table.{flag_of}
use Rattle.record.specs.declared.Decoder.{Decoder}
use Rattle.handle.specs.Words.{decoder_in, devices_in, stored}
use Rattle.handle.proofs.WordsLaws.{flag_one}
use Rattle.trace.specs.Trace.{next_at}
use Rattle.trace.specs.declared.clock.Clock.{Clock}
use Rattle.call.specs.Outcome.{accepts}
use Rattle.call.specs.State.{Logs, State, state, room_of}
use Rattle.start.specs.Fresh.{Makes, no_devices}
use Rattle.start.proofs.FreshLaws.{made_on}
use Rattle.packet.specs.Call.{PacketCall}
use Rattle.packet.proofs.CallLaws.{packet-kept}
use Rattle.events.specs.Call.{EventCall, FinishCall}
use Rattle.step.specs.Block.{Stand, stand, Takes}
use Rattle.step.specs.Block.Takes.{done, stops, goes}
use Rattle.step.proofs.BlockLaws.{gives_same}
use Rattle.pcap.specs.Pcap as pcap
use Rattle.pcap.specs.declared.Exported.{Exported}
use Rattle.pcap.specs.declared.Format.{Format}
use Rattle.import.specs.Import as import
use Rattle.import.proofs.ImportLaws.{gives-kept}
use Rattle.export.specs.Record.{size_in, ExportsIn}
use Rattle.calls.specs.Block.{clock_in, clock_words, BlockKept}
use Rattle.calls.specs.Calls.{state_in, Kept, FreshKept, PacketKept, EventKept, FinishKept}
use Rattle.calls.specs.Keeps.{Keeps, KeepsClock}
use Rattle.calls.specs.Pcap.{ImportKept, told_of, SizeTold, ExportTold}

-- ---- what is stored

module _ {on : Bool} {w : List ℕ} {d : Decoder} {v : List Device} where
  pub keeps-stored : {w' : List ℕ} → on ≡ true → w' ≡ stored w d v → decoder_in w' ≡ d → devices_in w' ≡ v → Keeps on w d v w'
  keeps-stored q x e f = record { words = x ∙ ap (λ (b : Bool). cond b (stored w d v) w) (sym q); decoder = λ u. e; devices = λ u. f }

  pub keeps-none : on ≡ false → Keeps on w d v w
  keeps-none q = record { words = ap (λ (b : Bool). cond b (stored w d v) w) (sym q); decoder = λ u. absurd (true≢false (sym u ∙ q)); devices = λ u. absurd (true≢false (sym u ∙ q)) }

module _ {on : Bool} {k : List ℕ} {c : Clock} where
  pub clock-stored : {k' : List ℕ} → on ≡ true → k' ≡ sets k 0 (clock_words c) → clock_in k' ≡ c → KeepsClock on k c k'
  clock-stored q x e = record { words = x ∙ ap (λ (b : Bool). cond b (sets k 0 (clock_words c)) k) (sym q); stands = λ u. e }

  pub clock-none : on ≡ false → KeepsClock on k c k
  clock-none q = record { words = ap (λ (b : Bool). cond b (sets k 0 (clock_words c)) k) (sym q); stands = λ u. absurd (true≢false (sym u ∙ q)) }

-- three words make the clock again
pub clock-back : (k : List ℕ) (c : Clock) → length k ≡ 3 → c.last < 4294967296 → clock_in (sets k 0 (clock_words c)) ≡ c
clock-back k c l h =
    let first = get_d-sets_in (clock_words c) k 0 0 0 (omega arith) (omega arith) in
    let second = get_d-sets_in (clock_words c) k 0 1 0 (omega arith) (omega arith) in
    let third = get_d-sets_in (clock_words c) k 0 2 0 (omega arith) (omega arith) in
    λ i. record { started = (ap flag_of first ∙ flag_one c.started) i; last = (ap (λ (n : ℕ). n % 4294967296) second ∙ mod-eq_of_lt h) i; time = third i }

-- ---- a call, from the words before to the words after

-- C is the call's contract, of the state before and the state after; where nothing is stored it left all as it was
module _ (C : State → State → Type 0) {w w' t t' : List ℕ} {l l' : Logs} {d d' : Decoder} {v v' : List Device} {on : Bool}
    (e : d ≡ decoder_in w) (f : v ≡ devices_in w) (x : C (state d v t l) (state d' v' t' l'))
    (same : C (state_in w t l) (state d' v' t' l') → on ≡ false → state d' v' t' l' ≡ state_in w t l) (k : Keeps on w d' v' w') where
  before : C (state_in w t l) (state d' v' t' l')
  before = subst (λ (s : State). C s (state d' v' t' l')) (λ i. state (e i) (f i) t l) x

  left : (b : Bool) → on ≡ b → (decoder_in w' ≡ d') × (devices_in w' ≡ v')
  left true q = (k.decoder q, k.devices q)
  left false q =
      let u = k.words ∙ ap (λ (b : Bool). cond b (stored w d' v') w) q in
      let s = same before q in
      (ap decoder_in u ∙ ap (λ (s : State). s.decoder) (sym s), ap devices_in u ∙ ap (λ (s : State). s.devices) (sym s))

  pub carried : C (state_in w t l) (state_in w' t' l')
  carried = let u = left on refl in subst (C (state_in w t l)) (λ i. state (sym u.0 i) (sym u.1 i) t' l') before

  pub kept_by : Kept on w w'
  kept_by = let u = left on refl in k.words ∙ λ i. cond on (stored w (sym u.0 i) (sym u.1 i)) w

-- ---- each entry

module _ {w w' t t' : List ℕ} {l l' : Logs} {d d' : Decoder} {v v' : List Device} (e : d ≡ decoder_in w) (f : v ≡ devices_in w) where
  pub packet_by : {packet h h' : List ℕ} {time a : ℕ} → PacketCall packet time (state d v t l) h a (state d' v' t' l') h' → Keeps (accepts a) w d' v' w'
      → PacketKept packet time w t l h a w' t' l' h'
  packet_by {packet} {h} {h'} {time} {a} x k = record { call = carried C e f x same k; words = kept_by C e f x same k }
    where
      C : State → State → Type 0
      C s s' = PacketCall packet time s h a s' h'

      same : C (state_in w t l) (state d' v' t' l') → accepts a ≡ false → state d' v' t' l' ≡ state_in w t l
      same c q = (packet-kept packet time (state_in w t l) h c q).0

  pub event-by : {kind code time a : ℕ} → EventCall kind code time (state d v t l) a (state d' v' t' l') → Keeps (accepts a) w d' v' w' → EventKept kind code time w t l a w' t' l'
  event-by {kind} {code} {time} {a} x k = record { call = carried C e f x same k; words = kept_by C e f x same k }
    where
      C : State → State → Type 0
      C s s' = EventCall kind code time s a s'

      same : C (state_in w t l) (state d' v' t' l') → accepts a ≡ false → state d' v' t' l' ≡ state_in w t l
      same c q = c.kept (ap accepts (sym c.answer) ∙ q)

  pub finish_by : {a : ℕ} → FinishCall (state d v t l) a (state d' v' t' l') → Keeps (accepts a) w d' v' w' → FinishKept w t l a w' t' l'
  finish_by {a} x k = record { call = carried C e f x same k; words = kept_by C e f x same k }
    where
      C : State → State → Type 0
      C s s' = FinishCall s a s'

      same : C (state_in w t l) (state d' v' t' l') → accepts a ≡ false → state d' v' t' l' ≡ state_in w t l
      same c q = c.kept (ap accepts (sym c.answer) ∙ q)

-- a block that takes no record leaves all as it was
none-taken : {typed : Bool} {b : List ℕ} {at n r a p : ℕ} {c c' : Clock} {s s' : Stand} → Takes typed b at c s n r a p c' s' → ltb 0 n ≡ false → (s' ≡ s) × (c' ≡ c)
none-taken (done x) q = (refl, refl)
none-taken {typed} {b} {at} {a = a} {c = c} {s = s} {s' = s'} (stops x h) q = (gives_same typed b (next_at b at) c s a s' x h, refl)
none-taken (goes {n = n} o x h r) q = let u = ltb-false 0 (suc n) q in absurd (omega (arith, u))

module _ {w w' t t' k k' : List ℕ} {l l' : Logs} {d d' : Decoder} {v v' : List Device} {c c' : Clock} (e : d ≡ decoder_in w) (f : v ≡ devices_in w) (g : c ≡ clock_in k) where
  pub block_by : {typed : Bool} {b h h' o o' : List ℕ} {n r a p : ℕ}
      → Takes typed b 0 c (stand (state d v t l) h) n r a p c' (stand (state d' v' t' l') h')
      → Keeps (ltb 0 n) w d' v' w'
      → KeepsClock (ltb 0 n) k c' k'
      → o' ≡ sets o 0 (n ∷ r ∷ p ∷ [])
      → BlockKept typed b w k t l h o a w' k' t' l' h' o'
  block_by {typed} {b} {h} {h'} {o} {o'} {n} {r} {a} {p} x y z u =
      record {
        taken = n;
        eights = r;
        place = p;
        takes = subst (λ (q : Clock). C q (state_in w t l) (state_in w' t' l')) (sym clock) (carried (C c') e f from same y);
        words = kept_by (C c') e f from same y;
        clock = z.words ∙ ap (λ (q : Clock). cond (ltb 0 n) (sets k 0 (clock_words q)) k) (sym clock);
        told = u;
      }
    where
      C : Clock → State → State → Type 0
      C q s s' = Takes typed b 0 (clock_in k) (stand s h) n r a p q (stand s' h')

      from : C c' (state d v t l) (state d' v' t' l')
      from = subst (λ (q : Clock). Takes typed b 0 q (stand (state d v t l) h) n r a p c' (stand (state d' v' t' l') h')) g x

      same : C c' (state_in w t l) (state d' v' t' l') → ltb 0 n ≡ false → state d' v' t' l' ≡ state_in w t l
      same i q = ap (λ (s : Stand). s.state) (none-taken i q).0

      at : (on : Bool) → ltb 0 n ≡ on → clock_in k' ≡ c'
      at true q = z.stands q
      at false q = ap clock_in (z.words ∙ ap (λ (b : Bool). cond b (sets k 0 (clock_words c')) k) q) ∙ sym (none-taken from q).1

      clock : clock_in k' ≡ c'
      clock = at (ltb 0 n) refl

-- an import that takes no record leaves all as it was
none_imported : {f : Format} {b : List ℕ} {at n r a p : ℕ} {s s' : Stand} → import.Imports f b at s n r a p s' → ltb 0 n ≡ false → s' ≡ s
none_imported (import.Imports.done x) q = refl
none_imported {f} {b} {at} {a = a} {s = s} {s' = s'} (import.Imports.stops x h) q = gives-kept f b (pcap.next_at f b at) s a s' x h
none_imported (import.Imports.goes {n = n} o x h r) q = let u = ltb-false 0 (suc n) q in absurd (omega (arith, u))

module _ {w t : List ℕ} {l : Logs} {d : Decoder} {v : List Device} (e : d ≡ decoder_in w) (f : v ≡ devices_in w) where
  pub import_by : {w' t' : List ℕ} {l' : Logs} {d' : Decoder} {v' : List Device} {g g' : Format} {b h h' o o' : List ℕ} {n r a p : ℕ}
      → g ≡ g'
      → import.Imports g b 0 (stand (state d v t l) h) n r a p (stand (state d' v' t' l') h')
      → Keeps (ltb 0 n) w d' v' w'
      → o' ≡ sets o 0 (n ∷ r ∷ p ∷ [])
      → ImportKept g' b w t l h o a w' t' l' h' o'
  import_by {w'} {t'} {l'} {d'} {v'} {g} {g'} {b} {h} {h'} {n = n} {r} {a} {p} q x y u =
      record { taken = n; eights = r; place = p; imports = carried C e f from same y; words = kept_by C e f from same y; told = u }
    where
      C : State → State → Type 0
      C s s' = import.Imports g' b 0 (stand s h) n r a p (stand s' h')

      from : C (state d v t l) (state d' v' t' l')
      from = subst (λ (z : Format). import.Imports z b 0 (stand (state d v t l) h) n r a p (stand (state d' v' t' l') h')) q x

      same : C (state_in w t l) (state d' v' t' l') → ltb 0 n ≡ false → state d' v' t' l' ≡ state_in w t l
      same i q = ap (λ (s : Stand). s.state) (none_imported i q)

-- an export by the state that the words stand for
module _ (w : List ℕ) {t : List ℕ} {l : Logs} {d : Decoder} {v : List Device} (e : d ≡ decoder_in w) (f : v ≡ devices_in w) where
  loaded : state d v t l ≡ state_in w t l
  loaded i = state (e i) (f i) t l

  pub size_by : {o o' : List ℕ} {r : Exported} → r ≡ size_in (state d v t l) → o' ≡ told_of r o → SizeTold (state_in w t l) o r.answer o'
  size_by {o} x y =
      let z = x ∙ ap size_in loaded in
      record { answer = ap (λ (r : Exported). r.answer) z; told = y ∙ ap (λ (r : Exported). told_of r o) z }

  pub export_by : {b b' o o' : List ℕ} {r : Exported} → ExportsIn (state d v t l) b b' r → o' ≡ told_of r o → ExportTold (state_in w t l) b o r.answer b' o'
  export_by {b} {b'} {r = r} x y = record { result = r; exports = subst (λ (s : State). ExportsIn s b b' r) loaded x; answer = refl; told = y }

-- what is made is stored, also where it is refused
pub fresh_by : {high : Bool} {w w' t t' : List ℕ} {l l' : Logs} {x : Device} {d' : Decoder} {v' : List Device} {a : ℕ}
    → x ≡ fresh 0
    → Makes high (replicate 64 x) t l a (state d' v' t' l')
    → w' ≡ stored w d' v'
    → decoder_in w' ≡ d'
    → devices_in w' ≡ v'
    → FreshKept high w t l a w' t' l'
fresh_by {high} {w} {w'} {t} {t'} {l} {l'} {a = a} q m k e f =
    record {
      makes = subst (Makes high no_devices t l a) (λ i. state (sym e i) (sym f i) t' l') (made_on q m);
      words = k ∙ λ i. stored w (sym e i) (sym f i);
    }
