-- 01's starred cases hold (specs/Starred.antt).
use Prim.Native.Nat.{ℕ}
use mathlib.Core.Path.{◌≡◌, refl, ap, ◌∙◌}
use mathlib.Core.Bool.{Bool, true, false, ◌&&◌, ◌||◌}
use mathlib.Core.List.{List, [], ◌∷◌}
use borrow.Author.Tests.{eqb-true}
use lib.Dec.{eqb}
use lib.ListN.{length}
use Rattle.crc.specs.Crc as crc
use Rattle.usb.specs.Bits.{after}
use Rattle.usb.specs.Pid.{IN, OUT, SETUP, DATA0}
use Rattle.usb.specs.Types.{Isochronous, Bulk}
use Rattle.usb.specs.Packet.{format_of, format_ok, format_reason, reason_of, checked_of}
use Rattle.std.specs.Prelude.{Ok}
use Rattle.details.specs.Kind.{Unknown}
use Rattle.endpoints.specs.declared.Endpoint.{Endpoint}
use Rattle.transaction.specs.Table.{pick}
use Rattle.transaction.specs.Simple.{simple_status_in}
use Rattle.transaction.specs.High.{simple_status, is_high}
use Rattle.transaction.proofs.HighLaws.{status-in}
use Rattle.transaction.specs.declared.Status.TheVariants.{Done}
use Rattle.transaction.specs.Status.{transaction_status}
use Rattle.transaction.specs.declared.Transaction.{Transaction}
use Rattle.group.specs.Data.{repeat_group, other_group}
use Rattle.group.specs.Group.{group_status}
use Rattle.group.specs.Step.{payload_of, is_short}
use Rattle.rules.specs.declared.Slot.TheVariants.{Empty, Current, Suspended}
use Rattle.call.specs.State.{State}
use Rattle.starred.specs.Cases.{Began, Brings, Goes, any_split, any_keepalive, any_packet, ◌answers◌, ◌leaves◌}
use Rattle.starred.specs.Starred.{Starred}
use Rattle.starred.proofs.Calls.{Good, good-fresh, empty-fresh, split-short, plain-answer, dropped-answer, keepalive-answer, after_split, after-keepalive}

-- ---- DATA0

-- a DATA0 is the same in both modes
same_mode : (high : Bool) (pid kind len : ℕ) → simple_status_in high pid pid DATA0 kind len ≡ simple_status pid pid DATA0 kind len
same_mode high pid kind len = status-in high pid pid DATA0 kind len ∙ ap (λ (b : Bool). pick b Done (simple_status pid pid DATA0 kind len)) (off high)
  where
    off : (h : Bool) → (h && is_high pid DATA0 kind) ≡ false
    off true = by (eqb pid IN) (eqb pid OUT)
      where
        by : (i o : Bool) → (((i && false) || (o && false)) && eqb kind Isochronous) ≡ false
        by true true = refl
        by true false = refl
        by false true = refl
        by false false = refl
    off false = refl

-- the status of a DATA0 after one token
mode-is : (high : Bool) (pid : ℕ) (t : Transaction) (q : List ℕ) → Began pid t → checked_of q ≡ Ok DATA0 → (transaction_status high t q).status ≡ simple_status_in high pid pid DATA0 t.kind (length q)
unfolding transaction_status
mode-is high pid t q b v = rw (v, b.style, b.last)

data0-is : (high : Bool) (pid : ℕ) (t : Transaction) (q : List ℕ) → Began pid t → checked_of q ≡ Ok DATA0 → (transaction_status high t q).status ≡ simple_status pid pid DATA0 t.kind (length q)
data0-is high pid t q b v = mode-is high pid t q b v ∙ same_mode high pid t.kind (length q)

setup-data0 : (high : Bool) (n : ℕ) (t : Transaction) (q : List ℕ) → Began SETUP t → checked_of q ≡ Ok DATA0 → length q ≡ n → (transaction_status high t q).status ≡ simple_status SETUP SETUP DATA0 t.kind n
setup-data0 high n t q b v e = data0-is high SETUP t q b v ∙ ap (simple_status SETUP SETUP DATA0 t.kind) e

out-data0 : (high : Bool) (type : ℕ) (t : Transaction) (q : List ℕ) → Began OUT t → t.kind ≡ type → checked_of q ≡ Ok DATA0 → (transaction_status high t q).status ≡ simple_status OUT OUT DATA0 type (length q)
out-data0 high type t q b e v = data0-is high OUT t q b v ∙ ap (λ (k : ℕ). simple_status OUT OUT DATA0 k (length q)) e

-- ---- calls

three-calls : (s : State) → Good s → s.decoder.slot ≡ Empty → Goes (any_split answers 0 ∷ any_keepalive answers 0 ∷ any_packet answers 8 ∷ []) s
three-calls s g e p t h a s1 h1 v x = (
  plain-answer s g p t h (split-short p v) x e,
  λ y. (
    tt,
    let w1 = after_split p t s h v x y g e in
        λ code t2 a2 s2 x2. (
          keepalive-answer code t2 s1 x2 w1.good,
          λ y2. (
            tt,
            let w2 = after-keepalive code t2 Current s1 x2 y2 w1 in
                λ q t3 h2 a3 s3 h3 short x3. (dropped-answer s2 w2.good q t3 h2 short x3 w2.slot w2.tokenless, λ y3. (tt, tt)),
          ),
        ),
  ),
)

two_keepalives : (s : State) → Good s → s.decoder.slot ≡ Empty
    → Goes (any_split leaves Current ∷ any_keepalive leaves Suspended ∷ any_keepalive leaves Empty ∷ any_packet answers 0 ∷ []) s
two_keepalives s g e p t h a s1 h1 v x = (
  plain-answer s g p t h (split-short p v) x e,
  λ y.
      let w1 = after_split p t s h v x y g e in (
        w1.slot,
        λ code t2 a2 s2 x2. (
          keepalive-answer code t2 s1 x2 w1.good,
          λ y2.
              let w2 = after-keepalive code t2 Current s1 x2 y2 w1 in (
                w2.slot,
                λ code3 t3 a3 s3 x3. (
                  keepalive-answer code3 t3 s2 x3 w2.good,
                  λ y3.
                      let w3 = after-keepalive code3 t3 Suspended s2 x3 y3 w2 in
                      (w3.slot, λ q t4 h3 a4 s4 h4 short x4. (plain-answer s3 w3.good q t4 h3 short x4 w3.slot, λ y4. (tt, tt))),
                ),
              ),
        ),
      ),
)

-- ---- payloads

short-is : (len max : ℕ) (e : Endpoint) (t : Transaction) → Brings len t → is_short (payload_of e t).known (payload_of e t).len max ≡ is_short true len max
short-is len max e t b = rw (b.filled, b.payload)

-- ---- the table

infixr 60 ◌and◌
abbrev ◌and◌ : {A B : Type 0} → A → B → A × B
a and b = (a, b)

pub starred : Starred
unfolding crc.step crc.bits crc.bytes crc.crc5_of crc.crc16_of after format_of format_ok format_reason reason_of checked_of repeat_group other_group group_status
starred =
    refl
    and refl
    and refl
    and refl
    and refl
    and refl
    and refl
    and refl
    and refl
    and ((refl, refl), λ h t q b k v l. setup-data0 h 11 t q b v (eqb-true _ _ l))
    and ((refl, refl), λ h t q b k v l. setup-data0 h 10 t q b v (eqb-true _ _ l))
    and ((refl, refl), λ h t q b k v l. out-data0 h Unknown t q b (eqb-true _ _ k) v)
    and ((refl, refl), λ h t q b k v l. out-data0 h Isochronous t q b (eqb-true _ _ k) v)
    and ((refl, refl), λ h t q b k v l. out-data0 h Bulk t q b (eqb-true _ _ k) v)
    and (λ e t type success complete b. short-is 63 64 e t b)
    and (λ e t type success complete b. short-is 64 64 e t b)
    and (λ e t type success complete b. short-is 0 0 e t b)
    and refl
    and refl
    and refl
    and refl
    and (λ high v t l s hv ht m. three-calls s (good-fresh hv ht m) (empty-fresh hv ht m))
    and (λ high v t l s hv ht m. two_keepalives s (good-fresh hv ht m) (empty-fresh hv ht m))
    and tt
