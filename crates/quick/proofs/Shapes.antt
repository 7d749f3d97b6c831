-- The shape by the slot and the packet's status, of what the code has: each part with its equation (shape_of).
use mathlib.Core.Path.{◌≡◌, refl, sym, ap, subst, ◌∙◌}
use mathlib.Core.Bool.{Bool, true, false, ◌&&◌, false≢true}
use mathlib.Core.List.{List}
use Prim.Native.Nat.{ℕ, ◌<◌}
use Rattle.details.specs.declared.Detail.{Detail}
use Rattle.endpoints.specs.declared.Endpoint.{Endpoint}
use lib.ListN.{length}
use Rattle.usb.specs.Packet.{checked_of}
use Rattle.std.specs.Prelude.{Result}
use Rattle.usb.specs.declared.reason.Reason.{Reason}
use Rattle.transaction.specs.Status.{judged, judged_of, transaction_status}
use Rattle.transaction.proofs.StatusLaws.{Taken, judged-is}
use Rattle.transaction.specs.declared.Judged.{Judged}
use Rattle.transaction.specs.declared.Status.{Status}
use Rattle.transaction.specs.declared.Status.TheVariants.{New, Continue, Retry, Done, Fail, Ambiguous, Invalid}
use Rattle.transaction.specs.declared.Style.{Style}
use Rattle.transaction.specs.declared.Transaction.{Transaction}
use Rattle.rules.specs.Transactions.{state_at, is_kept}
use Rattle.rules.specs.World.{World}
use Rattle.rules.specs.declared.Slot.{Slot}
use Rattle.rules.specs.declared.Slot.TheVariants.{Empty, Current, Suspended}
use Rattle.record.specs.Bools.{both}
use Rattle.record.specs.Formed.{holds}
use Rattle.record.specs.declared.Decoder.{Decoder}
use Rattle.plan.specs.Packet.{is_new, plan_of}
use Rattle.decide.specs.Ready.{Ready}
use Rattle.quick.specs.Shaped.{next_shape, brought_to, is_free, is_plain, Shaped}
use Rattle.quick.specs.declared.shape.Shape.{Shape}
use Rattle.quick.proofs.Packets.{next_shaped}

-- the status, by the check that was made before
pub status_checked : (high : Bool) (t : Transaction) (packet : List ℕ) {c : Result ℕ Reason} {j : Judged} → c ≡ checked_of packet → j ≡ judged_of high t c (length packet) → j ≡ transaction_status high t packet
unfolding transaction_status
status_checked high t packet e h = h ∙ ap (λ (x : Result ℕ Reason). judged_of high t x (length packet)) e

-- ---- a token

new_is : (s : Status) → is_new s ≡ true → s ≡ New
new_is New h = refl
new_is Continue h = absurd (false≢true h)
new_is Retry h = absurd (false≢true h)
new_is Done h = absurd (false≢true h)
new_is Fail h = absurd (false≢true h)
new_is Ambiguous h = absurd (false≢true h)
new_is Invalid h = absurd (false≢true h)

pub token-asks : (high : Bool) (s : Slot) (t : Transaction) (old : Detail) (e : Endpoint) (packet : List ℕ) {u : Transaction} {j : Judged} {a b : Bool} → u ≡ state_at s t → j ≡ transaction_status high u packet → a ≡ is_new j.status → b ≡ is_free s t old e
    → (a && b) ≡ true → (is_free s t old e ≡ true) × (transaction_status high (state_at s t) packet ≡ judged j.pid New)
token-asks high s t old e packet {u} {j} {a} {b} e1 e2 e3 e4 h =
    let g = both a b h in
    let new = new_is j.status (sym e3 ∙ g.0) in
    (sym e4 ∙ g.1, sym (e2 ∙ ap (λ (x : Transaction). transaction_status high x packet) e1) ∙ (judged-is high u packet e2 (subst Taken (sym new) tt) ∙ ap (judged j.pid) new))

-- ---- a packet of a plain transaction

plain-holds : (s : Slot) (y : Style) → is_plain s y ≡ true → s ≡ Current
plain-holds Empty y h = absurd (false≢true h)
plain-holds Current y h = refl
plain-holds Suspended y h = absurd (false≢true h)

pub plain-there : (d : Decoder) (table : List ℕ) → Ready d table → is_plain d.slot d.transaction.style ≡ true → d.transaction.endpoint < d.counts.endpoints
plain-there d table r h = r.held (ap holds (plain-holds d.slot d.transaction.style h))

pub next-seen : (high : Bool) (packet : List ℕ) (w : World) {u t : Transaction} {j : Judged} {q : Shape} → is_plain w.slot w.transaction.style ≡ true → u ≡ state_at w.slot w.transaction → j ≡ transaction_status high u packet
    → t ≡ brought_to high w.transaction j.pid packet → is_kept high t (w.endpoints w.transaction.endpoint) t.last ≡ false → q ≡ next_shape j.status w.transaction.endpoint (w.endpoints w.transaction.endpoint) t → Shaped high q (plan_of high packet w) w
next-seen high packet w {u} {t} {j} {q} h e1 e2 e3 k e4 =
    let held : state_at w.slot w.transaction ≡ w.transaction = ap (λ (s : Slot). state_at s w.transaction) (plain-holds w.slot w.transaction.style h) in
    let x = w.transaction.endpoint in
    subst (λ (a : Shape). Shaped high a (plan_of high packet w) w) (sym (e4 ∙ ap (next_shape j.status x (w.endpoints x)) e3))
    (next_shaped high packet j w h (ap (λ (a : Transaction). is_kept high a (w.endpoints x) a.last) (sym e3) ∙ k) (sym (e2 ∙ ap (λ (a : Transaction). transaction_status high a packet) (e1 ∙ held))))
