-- The values that plan_by computes one after the other are those of plan_by, in words.
use Rattle.std.proofs.Common.{◌≡◌, ℕ, suc, ◌+◌, ◌%◌, ◌^◌, ◌<◌, ◌≤◌, Bool, true, false, not, ◌&&◌, eqb, List, length, sym, refl, ap, ◌∙◌, mod-eq_of_lt, arith}
use Rattle.rows.specs.One.{one}
use Rattle.usb.specs.Fields.{setup_data_of}
use Rattle.endpoints.specs.declared.Endpoint.{Endpoint}
use Rattle.transaction.specs.Payload.{start_pid, extract_payload}
use Rattle.transaction.specs.Table.{pick}
use Rattle.transaction.specs.declared.Judged.{Judged}
use Rattle.transaction.specs.declared.Transaction.{Transaction}
use Rattle.rules.specs.World.{World, with_id}
use Rattle.rules.specs.Endpoints.{detail_of}
use Rattle.rules.specs.declared.Slot.{Slot}
use Rattle.rules.specs.declared.Slot.TheVariants.{Empty, Current, Suspended}
use Rattle.update.specs.Entry.{counted, link_words, words_after}
use Rattle.update.specs.Update.{decide_resume}
use Rattle.plan.specs.Step.{end_of}
use Rattle.plan.specs.Packet.{resumes, entry_then, going, middle_of, is_new, is_last, succeeds, completes_by, slot_after, close_of, entry_ended, last_ended, end_if, plan_by}
use Rattle.plan.specs.Words.{in_words, end_words, middle_words, plan_words, close_words}
use Rattle.plan.proofs.Words.{word-entry, if-words, ended-words, close-words, middle-words}
use Rattle.plan.specs.declared.Begin.{Begin}
use Rattle.plan.specs.declared.End.{End}
use Rattle.plan.specs.declared.Middle.{Middle}
use Rattle.plan.specs.declared.Plan.{Plan}

-- an end that is not taken is not asked for
entry-taken : (c : Bool) (s : End) (pid : ℕ) (e : Endpoint) → entry_ended c (end_if c s e) pid e ≡ entry_ended c s pid e
entry-taken true s pid e = refl
entry-taken false s pid e = refl

last_taken : (c : Bool) (s : End) (e : Endpoint) (x last : ℕ) → last_ended c (end_if c s e) x last ≡ last_ended c s x last
last_taken true s e x last = refl
last_taken false s e x last = refl

-- the entry of the old endpoint once its transaction is resumed, and an end that is taken or not
pub then-words : (s : Slot) (e : Endpoint) → e.transactions < 2 ^ 64 → e.groups < 2 ^ 64 → link_words (resumes s) e ≡ in_words (entry_then s e)
then-words Empty e h g = sym (word-entry h g)
then-words Current e h g = sym (word-entry h g)
then-words Suspended e h g = let p : e.transactions + 1 ≡ suc e.transactions = omega arith in λ i. counted (p i % 2 ^ 64) (sym (mod-eq_of_lt g) i) e

taken-words : (c : Bool) (m : Middle) (last : ℕ) (success complete : Bool)
    → end_if c (close_words (middle_words m) last success complete) (in_words m.entry) ≡ end_words (end_if c (close_of m last success complete) m.entry)
taken-words true m last success complete = close-words m last success complete
taken-words false m last success complete = refl

-- e is the old endpoint's entry, resumed; the entries of the world are in words
module _ (high : Bool) (j : Judged) (x0 : ℕ) (e : Endpoint) (t : Transaction) (packet : List ℕ) (w : World) (special : 3 ≤ w.count) (entries : (i : ℕ) → i < w.count → in_words (w.endpoints i) ≡ w.endpoints i) (there : x0 < w.count) where
  abbrev brought : Transaction
  brought = extract_payload high t j.pid (length packet) (setup_data_of packet)

  abbrev old : End
  old = end_of x0 e brought (detail_of x0 w) w.last_item false false

  abbrev ends : Bool
  ends = is_new j.status && not (eqb x0 0)

  abbrev token' : ℕ
  token' = start_pid brought.style

  abbrev middle : Middle
  middle = middle_of j.status x0 (entry_ended ends old token' e) j.pid packet (w.transactions + one (resumes w.slot)) brought w

  abbrev closes : Bool
  closes = is_last j.status && not (eqb middle.begin.transaction.endpoint 0)

  pub planned : {eh : Endpoint} {setup : ℕ} {b : Transaction} {end : End} {new : Bool} {token : ℕ} {e0 : Endpoint} {last n : ℕ} {m : Middle}
      {suspended : Bool} {resume : Begin} {over success complete : Bool} {close : End} {slot : Slot}
      → eh ≡ in_words e
      → setup ≡ setup_data_of packet
      → b ≡ extract_payload high t j.pid (length packet) setup
      → new ≡ is_new j.status
      → end ≡ end_if (new && not (eqb x0 0)) (end_of x0 eh b (detail_of x0 w) w.last_item false false) eh
      → token ≡ start_pid b.style
      → e0 ≡ pick (new && not (eqb x0 0)) (words_after end.update token end.entry) eh
      → last ≡ last_ended (new && not (eqb x0 0)) end x0 w.last_item
      → n ≡ (w.transactions + one (resumes w.slot)) % 2 ^ 64
      → m ≡ middle_of j.status x0 e0 j.pid packet n b w
      → suspended ≡ resumes w.slot
      → resume ≡ going true (with_id w.transactions w.transaction) decide_resume
      → over ≡ is_last j.status
      → success ≡ succeeds j.status
      → complete ≡ completes_by j.status t.style
      → close ≡ end_if (over && not (eqb m.begin.transaction.endpoint 0)) (close_words m last success complete) m.entry
      → slot ≡ slot_after j.status w.slot
      → ◌≡◌ {A = Plan}
      (record { resumes = suspended; resume = resume; ends = new && not (eqb x0 0); old = x0; brought = b; end = end; begin = m.begin; closes = over && not (eqb m.begin.transaction.endpoint 0); close = close; slot = slot; reason = j.reason })
      (plan_words (plan_by high j x0 e t packet w))
  unfolding plan_by plan_words
  planned {eh} {setup} {b} {end} {new} {token} {e0} {last} {n} {m} {suspended} {resume} {over} {success} {complete} {close} {slot} p0 p1 p2 p3 p4 p5 p6 p7 p8 p9 p10 p11 p12 p13 p14 p15 p16 =
      λ i. record { resumes = p10 i; resume = p11 i; ends = new_is i; old = x0; brought = brought-is i; end = end_is i; begin = (middle-is i).begin; closes = closes-is i; close = close-is i; slot = p16 i; reason = j.reason }
    where
      brought-is : b ≡ brought
      brought-is = p2 ∙ ap (extract_payload high t j.pid (length packet)) p1

      new_is : (new && not (eqb x0 0)) ≡ ends
      new_is = ap (λ (c : Bool). c && not (eqb x0 0)) p3

      end_is : end ≡ end_words (end_if ends old e)
      end_is = p4 ∙ ((λ i. end_if (new_is i) (end_of x0 (p0 i) (brought-is i) (detail_of x0 w) w.last_item false false) (p0 i)) ∙ if-words ends x0 e brought (detail_of x0 w) w.last_item)

      token-is : token ≡ token'
      token-is = p5 ∙ ap (λ (z : Transaction). start_pid z.style) brought-is

      entry-is : e0 ≡ in_words (entry_ended ends old token' e)
      entry-is =
          p6
          ∙ ((λ i. pick (new_is i) (words_after (end_is i).update (token-is i) (end_is i).entry) (p0 i))
          ∙ (ended-words ends (end_if ends old e) token' e ∙ ap in_words (entry-taken ends old token' e)))

      last-is : last ≡ last_ended ends old x0 w.last_item
      last-is = p7 ∙ ((λ i. last_ended (new_is i) (end_is i) x0 w.last_item) ∙ last_taken ends old e x0 w.last_item)

      middle-is : m ≡ middle_words middle
      middle-is =
          p9
          ∙ ((λ i. middle_of j.status x0 (entry-is i) j.pid packet (p8 i) (brought-is i) w)
          ∙ middle-words w special entries x0 (entry_ended ends old token' e) there j.status j.pid packet (w.transactions + one (resumes w.slot)) brought)

      closes-is : (over && not (eqb m.begin.transaction.endpoint 0)) ≡ closes
      closes-is = λ i. p12 i && not (eqb (middle-is i).begin.transaction.endpoint 0)

      close-is : close ≡ end_words (end_if closes (close_of middle (last_ended ends old x0 w.last_item) (succeeds j.status) (completes_by j.status t.style)) middle.entry)
      close-is =
          p15
          ∙ ((λ i. end_if (closes-is i) (close_words (middle-is i) (last-is i) (p13 i) (p14 i)) (middle-is i).entry)
          ∙ taken-words closes middle (last_ended ends old x0 w.last_item) (succeeds j.status) (completes_by j.status t.style))
