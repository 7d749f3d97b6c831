-- An import of an exported file on a decoder that was not finished is answered 0, or 7 for want of room.
use Prim.Native.Nat.{ℕ, ◌≤◌}
use mathlib.Core.Bool.{Bool, true, false, cond, true≢false}
use mathlib.Core.List.{List, [], ◌∷◌, ◌++◌, append_assoc}
use mathlib.Core.Path.{◌≡◌, refl, sym, ap, subst, ◌∙◌}
use mathlib.Core.Logic.{◌⊎◌, inl, inr}
use borrow.Author.Tests.{le-ltb, ltb-false}
use lib.ListN.{length}
use Rattle.transaction.specs.Table.{pick}
use Rattle.record.specs.Answers.{first_of, packet_tests}
use Rattle.sound.proofs.Keeps.{passed}
use Rattle.record.specs.declared.Decoder.{Decoder}
use Rattle.pcap.specs.Pcap.{next_at}
use Rattle.pcap.specs.File.{Item, head_bytes, item_bytes, body_of}
use Rattle.pcap.specs.Fits.{Fits}
use Rattle.pcap.specs.Export.{written_format, items_of, file_bytes, late}
use Rattle.pcap.proofs.Written.{item-end, item-next}
use Rattle.pcap.specs.declared.Next.{Next}
use Rattle.rules.specs.Demand.{Call, packet, event, detail, finishing}
use Rattle.rules.specs.Rows.{Row}
use Rattle.call.specs.Outcome.{accepts, is_ill, decoder_of}
use Rattle.call.specs.State.{State}
use Rattle.packet.specs.Call.{tests_of, PacketCall}
use Rattle.step.specs.Block.{Stand, stand}
use Rattle.demands.specs.Sequence.{Does, Sequence, made, then}
use Rattle.demands.proofs.Meets.{meets}
use Rattle.once.proofs.Follows.{follows}
use Rattle.export.specs.Record.{source_in}
use Rattle.import.specs.Import.{Gives, behind, Imports, ImportsFile}
use Rattle.import.specs.Import.Imports.{done, stops, goes}
use Rattle.import.proofs.ImportLaws.{none_here}
use Rattle.exchange.specs.Exchange.{item_by, packets_of, Exchange}
use Rattle.exchange.proofs.Flows.{exported, left_behind}
use Rattle.exchange.proofs.Back.{called, more, at-end, fits, behind-head, back}

-- ---- no packet that was accepted is longer than 4,096 bytes

abbrev pub Shorts : List Item → Type 0
Shorts [] = Unit {0}
Shorts (r ∷ rs) = (length r.bytes ≤ 4096) × Shorts rs

shorts-append : (xs ys : List Item) → Shorts xs → Shorts ys → Shorts (xs ++ ys)
shorts-append [] ys h k = k
shorts-append (x ∷ xs) ys h k = (h.0, shorts-append xs ys h.1 k)

short-packet : {p : List ℕ} {time : ℕ} {s s' : State} {g g' : List ℕ} {a : ℕ} → PacketCall p time s g a s' g' → accepts a ≡ true → length p ≤ 4096
short-packet {p} {time} {s} {g = g} x e = ltb-false 4096 (length p) (passed (tests_of p time s g) (ap accepts (sym x.answers.answer) ∙ e)).long

short_by : (k : Call) (s : State) (a : ℕ) (s' : State) → Does k s a s' → accepts a ≡ true → Shorts (item_by k)
short_by (packet p time shelf) s a s' d e = (short-packet d.does e, tt)
short_by (event kind code time) s a s' d e = tt
short_by (detail address number direction kind max) s a s' d e = tt
short_by finishing s a s' d e = tt

pub shorts : {js : List Row} {s : State} (q : Sequence js s) → Shorts (packets_of q)
shorts (made hv ht m) = tt
shorts (then {js} {s} k a s' q d) = shorts-append (packets_of q) (pick (accepts a) (item_by k) []) (shorts q) (by (accepts a) refl)
  where
    by : (b : Bool) → accepts a ≡ b → Shorts (pick b (item_by k) [])
    by true e = short_by k s a s' d e
    by false e = tt

-- ---- a packet that is refused

-- 3 where a packet is too long, else n
abbrev beside : ℕ → Bool → ℕ
beside n long = cond long 3 n

by_tests : (ill finished : Bool) (n : ℕ) (full over dropped : Bool) (a : ℕ) → ill ≡ false → finished ≡ false → n ≤ 4096 → a ≡ first_of (packet_tests ill finished n full over dropped)
    → (a ≡ 9 → ⊥) → accepts a ≡ false → a ≡ 7
unfolding first_of
by_tests true finished n full over dropped a i f l e nine h = absurd (true≢false i)
by_tests false true n full over dropped a i f l e nine h = absurd (true≢false f)
by_tests false false n true over dropped a i f l e nine h = e ∙ ap (beside 7) (le-ltb 4096 n l)
by_tests false false n false true dropped a i f l e nine h = absurd (nine (e ∙ ap (beside 9) (le-ltb 4096 n l)))
by_tests false false n false false true a i f l e nine h = absurd (true≢false (sym (ap accepts (e ∙ ap (beside 8) (le-ltb 4096 n l))) ∙ h))
by_tests false false n false false false a i f l e nine h = absurd (true≢false (sym (ap accepts (e ∙ ap (beside 0) (le-ltb 4096 n l))) ∙ h))

module _ {js : List Row} {s : State} (q : Sequence js s) {p : List ℕ} {time : ℕ} {g g' : List ℕ} {a : ℕ} {s' : State} (x : PacketCall p time s g a s' g') where
  no_room : s.decoder.finished ≡ false → length p ≤ 4096 → accepts a ≡ false → a ≡ 7
  no_room f l h =
      by_tests (is_ill s) s.decoder.finished (length p) _ _ _ a (meets q).well f l x.answers.answer
      (follows.never_9 q (packet p time g) a s' (record { left = g'; does = x })) h

  -- one that is taken leaves a decoder that is not finished
  unfinished : accepts a ≡ true → s.decoder.finished ≡ false → s'.decoder.finished ≡ false
  unfolding decoder_of
  unfinished h f = ap (λ (d : Decoder). d.finished) (x.answers.left (ap accepts (sym x.answers.answer) ∙ h)).decoder ∙ f

-- what an import of the file answers: it is taken, or room is wanting
abbrev pub TakenOrFull : ℕ → Type 0
TakenOrFull a = (a ≡ 0) ⊎ (a ≡ 7)

-- ---- all records, behind any prefix

pub answered : (rs : List Item) (before : List ℕ) → Fits written_format rs → Shorts rs → {js : List Row} {at n e a p : ℕ} {x x' : Stand} (q : Sequence js x.state) → x.state.decoder.finished ≡ false
    → at ≡ length before → Imports written_format (before ++ body_of written_format rs) at x n e a p x' → (a ≡ 0) ⊎ (a ≡ 7)
answered [] before fits small q f c (done w) = inl refl
answered [] before fits small {at = at} {x = x} {x' = x'} q f c (stops {a = a} g h) =
    absurd (none_here written_format (before ++ []) (next_at written_format (before ++ []) at) x a x' (at-end before at c) g)
answered [] before fits small {at = at} {x = x} q f c (goes {s' = x₁} a g h w) =
    absurd (none_here written_format (before ++ []) (next_at written_format (before ++ []) at) x a x₁ (at-end before at c) g)
answered (r ∷ rs) before fits small q f c (done w) = inl refl
answered (r ∷ rs) before fits small {x = x} {x' = x'} q f c (stops {a = a} g h) =
    let t = before ++ (item_bytes written_format r ++ body_of written_format rs) in
    let g₁ = subst (λ (i : ℕ). Gives written_format t (next_at written_format t i) x a x') c g in
    inr (no_room q (called r fits.0 before (body_of written_format rs) x x' a q g₁) f small.0 h)
answered (r ∷ rs) before fits small {at = at} {p = p} {x = x} {x' = x'} q f c (goes {n = n} {e = e} {b = b} {s' = x₁} a g h w) =
    let t = before ++ (item_bytes written_format r ++ body_of written_format rs) in
    let g₁ = subst (λ (i : ℕ). Gives written_format t (next_at written_format t i) x a x₁) c g in
    let o = item-next written_format r fits.0 before (body_of written_format rs) in
    let y : behind (next_at written_format t at) at ≡ length (before ++ item_bytes written_format r) =
    ap (λ (i : ℕ). behind (next_at written_format t i) i) c ∙ (ap (λ (m : Next). behind m (length before)) (sym o) ∙ sym (item-end written_format r fits.0 before (body_of written_format rs))) in
    let w₁ = subst (λ (u : List ℕ). Imports written_format u (behind (next_at written_format t at) at) x₁ n e b p x') (sym (append_assoc before (item_bytes written_format r) (body_of written_format rs))) w in
    answered rs (before ++ item_bytes written_format r) fits.1 small.1 (more r fits.0 before (body_of written_format rs) x x₁ a q g₁)
    (unfinished q (called r fits.0 before (body_of written_format rs) x x₁ a q g₁) h f) y w₁
