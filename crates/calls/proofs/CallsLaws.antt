-- Laws (proved): what the contracts of the entries rule out: any two outcomes coincide, the words of the record too.
-- Where the record is not stored every word is as it was.
use Rattle.std.specs.Prelude.{ℕ, Bool, true, false, cond, ◌||◌, List, [], ◌∷◌, ◌≡◌, refl, ltb}
use Rattle.std.proofs.Common.{sym, ap, ◌∙◌}
use Rattle.std.proofs.lemmas.List.Edits.{sets}
use Rattle.details.specs.declared.Device.{Device}
use Rattle.record.specs.declared.Decoder.{Decoder}
use Rattle.trace.specs.declared.clock.Clock.{Clock}
use Rattle.handle.specs.Words.{decoder_in, devices_in, stored}
use Rattle.call.specs.Outcome.{accepts}
use Rattle.call.specs.State.{Logs, State}
use Rattle.start.proofs.FreshLaws.{fresh_unique}
use Rattle.packet.proofs.CallLaws.{packet_unique}
use Rattle.events.proofs.CallLaws.{event_unique, finish_unique}
use Rattle.step.specs.Block.{Stand}
use Rattle.step.proofs.BlockLaws.{block_unique}
use Rattle.calls.specs.Calls.{state_in, Kept, FreshKept, PacketKept, EventKept, FinishKept}
use Rattle.calls.specs.Block.{clock_in, clock_words, BlockKept}

-- words that are kept alike, and stand for the same
pub kept_unique : {on on' : Bool} (w w' w'' : List ℕ) → on ≡ on' → Kept on w w' → Kept on' w w'' → decoder_in w' ≡ decoder_in w'' → devices_in w' ≡ devices_in w'' → w' ≡ w''
kept_unique w w' w'' q x y d v = x ∙ ((λ i. cond (q i) (stored w (d i) (v i)) w) ∙ sym y)

-- words that are not stored, as those of a refused call, are as they were
pub left_as : {on : Bool} (w w' : List ℕ) → Kept on w w' → on ≡ false → w' ≡ w
left_as w w' x e = x ∙ ap (λ (b : Bool). cond b (stored w (decoder_in w') (devices_in w')) w) e

-- the four single calls
pub fresh-kept_unique : {high : Bool} {w t w' t' w'' t'' : List ℕ} {l l' l'' : Logs} {a b : ℕ} → FreshKept high w t l a w' t' l' → FreshKept high w t l b w'' t'' l''
    → (a ≡ b) × (w' ≡ w'') × (t' ≡ t'') × (l' ≡ l'')
fresh-kept_unique {w = w} x y =
    let u = fresh_unique x.makes y.makes in
    let s = u.1 in
    (u.0, x.words ∙ ((λ i. stored w (s i).decoder (s i).devices) ∙ sym y.words), ap (λ (s : State). s.table) s, ap (λ (s : State). s.logs) s)

pub packet-kept_unique : {packet w t h w' t' h' w'' t'' h'' : List ℕ} {time : ℕ} {l l' l'' : Logs} {a b : ℕ}
    → PacketKept packet time w t l h a w' t' l' h' → PacketKept packet time w t l h b w'' t'' l'' h''
    → (a ≡ b) × (w' ≡ w'') × (t' ≡ t'') × (l' ≡ l'') × (h' ≡ h'')
packet-kept_unique {packet} {w} {t} {h} {w'} {t'} {w'' = w''} {t''} {time = time} {l} {l'} {l''} x y =
    let u = packet_unique packet time (state_in w t l) h x.call y.call in
    let s = u.1.0 in
    (u.0, kept_unique w w' w'' (ap accepts u.0) x.words y.words (ap (λ (s : State). s.decoder) s) (ap (λ (s : State). s.devices) s), ap (λ (s : State). s.table) s, ap (λ (s : State). s.logs) s, u.1.1)

pub event-kept_unique : {kind code time : ℕ} {w t w' t' w'' t'' : List ℕ} {l l' l'' : Logs} {a b : ℕ}
    → EventKept kind code time w t l a w' t' l' → EventKept kind code time w t l b w'' t'' l''
    → (a ≡ b) × (w' ≡ w'') × (t' ≡ t'') × (l' ≡ l'')
event-kept_unique {kind} {code} {time} {w} {t} {w'} {t'} {w''} {t''} {l} {l'} {l''} x y =
    let u = event_unique kind code time (state_in w t l) x.call y.call in
    let s = u.1 in
    (u.0, kept_unique w w' w'' (ap accepts u.0) x.words y.words (ap (λ (s : State). s.decoder) s) (ap (λ (s : State). s.devices) s), ap (λ (s : State). s.table) s, ap (λ (s : State). s.logs) s)

pub finish-kept_unique : {w t w' t' w'' t'' : List ℕ} {l l' l'' : Logs} {a b : ℕ} → FinishKept w t l a w' t' l' → FinishKept w t l b w'' t'' l''
    → (a ≡ b) × (w' ≡ w'') × (t' ≡ t'') × (l' ≡ l'')
finish-kept_unique {w} {t} {w'} {t'} {w''} {t''} {l} {l'} {l''} x y =
    let u = finish_unique (state_in w t l) x.call y.call in
    let s = u.1 in
    (u.0, kept_unique w w' w'' (ap accepts u.0) x.words y.words (ap (λ (s : State). s.decoder) s) (ap (λ (s : State). s.devices) s), ap (λ (s : State). s.table) s, ap (λ (s : State). s.logs) s)

-- a block
pub block-kept_unique : {typed : Bool} {bs w k t h o w' k' t' h' o' w'' k'' t'' h'' o'' : List ℕ} {l l' l'' : Logs} {a b : ℕ}
    → BlockKept typed bs w k t l h o a w' k' t' l' h' o' → BlockKept typed bs w k t l h o b w'' k'' t'' l'' h'' o''
    → (a ≡ b) × (w' ≡ w'') × (k' ≡ k'') × (t' ≡ t'') × (l' ≡ l'') × (h' ≡ h'') × (o' ≡ o'')
block-kept_unique {w = w} {k} {o = o} {w' = w'} {t' = t'} {w'' = w''} {t'' = t''} {l' = l'} {l''} x y =
    let u = block_unique x.takes y.takes in
    let s = ap (λ (s : Stand). s.state) u.final in
    let clock = x.clock ∙ ((λ i. cond (ltb 0 (u.taken i)) (sets k 0 (clock_words (u.clock i))) k) ∙ sym y.clock) in
    let told = x.told ∙ ((λ i. sets o 0 (u.taken i ∷ u.eights i ∷ u.place i ∷ [])) ∙ sym y.told) in
    (u.answer, kept_unique w w' w'' (ap (ltb 0) u.taken) x.words y.words (ap (λ (s : State). s.decoder) s) (ap (λ (s : State). s.devices) s), clock, ap (λ (s : State). s.table) s, ap (λ (s : State). s.logs) s, ap (λ (s : Stand). s.shelf) u.final, told)
