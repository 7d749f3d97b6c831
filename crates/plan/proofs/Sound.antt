-- What is decided from a world whose numbers are in their ranges asks nothing of carrying it out that is not so (specs, Sound).
use mathlib.Core.Path.{◌≡◌, refl, sym, ap, subst, ◌∙◌}
use mathlib.Core.Bool.{Bool, true, false, ◌&&◌, not}
use mathlib.Core.List.{List}
use Prim.Native.Nat.{ℕ, ◌+◌, ◌^◌, ◌<◌, ◌≤◌}
use native.Mathlib.Omega.{arith}
use lib.Dec.{eqb}
use lib.ListN.{length, get_or}
use Rattle.rows.specs.One.{one}
use Rattle.usb.specs.Fields.{setup_data_of}
use Rattle.usb.proofs.Laws.{valid}
use Rattle.usb.specs.Packet.{checked_of}
use Rattle.std.specs.Prelude.{Result, Ok, Err}
use Rattle.usb.specs.declared.reason.Reason.{Reason}
use Rattle.transaction.specs.Payload.{start_pid, extract_payload}
use Rattle.transaction.specs.Status.{judged_of, transaction_status}
use Rattle.transaction.specs.declared.Judged.{Judged}
use Rattle.transaction.specs.declared.Status.{Status}
use Rattle.transaction.specs.declared.Style.{Style}
use Rattle.transaction.specs.declared.Transaction.{Transaction}
use Rattle.transaction.proofs.Laws.{extract-keeps}
use Rattle.details.specs.Details.{details_of}
use Rattle.endpoints.proofs.TableLaws.{Fits}
use Rattle.details.specs.declared.Detail.{Detail}
use Rattle.endpoints.specs.declared.Endpoint.{Endpoint}
use Rattle.group.specs.declared.Effect.{Effect}
use Rattle.rules.specs.World.{World, with_transaction}
use Rattle.rules.specs.Endpoints.{detail_of}
use Rattle.rules.specs.Transactions.{state_at}
use Rattle.rules.specs.declared.Slot.{Slot}
use Rattle.rules.specs.declared.Slot.TheVariants.{Empty, Current, Suspended}
use Rattle.update.specs.Effect.{passes}
use Rattle.update.specs.Entry.{entry_after, transaction_after}
use Rattle.update.specs.Update.{when}
use Rattle.plan.specs.Step.{opened, begun, ended, end_of}
use Rattle.plan.specs.Packet.{resumes, slot_then, old_endpoint, transaction_then, entry_then, middle_of, is_new, is_last, succeeds, completes_by, close_of, entry_ended, last_ended, plan_by, plan_of, played, end_if}
use Rattle.plan.specs.declared.Middle.{Middle}
use Rattle.plan.specs.Ending.{current_endpoint, ending_of}
use Rattle.plan.specs.Sound.{BeginFits, EndFits, world1, world2, world3, world4, PlanFits, linked, started, plan_links, plan_starts}
use Rattle.plan.specs.Words.{in_words, plan_words}
use Rattle.plan.specs.declared.Begin.{Begin}
use Rattle.plan.specs.declared.End.{End}
use Rattle.plan.specs.declared.Plan.{Plan}
use Rattle.plan.proofs.Frame.{Rest, act-rest}
use Rattle.plan.proofs.Quiet.{no_effect, no-transaction}
use Rattle.plan.proofs.Words.{word-entry, Worded, same-words}
use Rattle.plan.proofs.Small.{Small, FewAll, few-more, small-more, after_small, linked_small, group_small, opened_few, begun_few, opened-count, begun-count, ended_few, ended-count}
use Rattle.plan.proofs.Bounded.{Bounded, on_going, middle_bounded, never}

-- the world before a packet
pub record Sane (high : Bool) (packet : List ℕ) (w : World) : Type 0 where
  -- the special endpoints stand, and there is room for a new one where the packet has one
  pub special : 3 ≤ w.count
  pub room : w.count + one (plan_of high packet w).begin.endpoint ≤ 128
  pub devices : w.device_count ≤ 64
  -- no endpoint has more T rows or G rows than there are links, and there are numbers for the links and the transaction rows of the packet
  pub links : ℕ
  pub few : FewAll links links w
  pub linked : links + plan_links (plan_of high packet w) < 2 ^ 64
  pub started : links + plan_starts (plan_of high packet w) < 2 ^ 64
  pub rows : w.transactions + one (resumes w.slot) + one (plan_of high packet w).begin.row ≤ 2 ^ 64
  pub fits : (j : ℕ) → j < w.count → Fits (w.endpoints j)
  -- the old transaction's endpoint is one of them, and its token a byte
  pub old : old_endpoint w.slot w.transaction < w.count
  pub token : start_pid w.transaction.style < 256
  -- and so is the packet's first
  pub first : get_or packet 0 0 < 256

-- ---- one step

begin-fits : {a b : ℕ} (id : ℕ) (s : Begin) (v : World) (n : ℕ) → v.count ≡ n → n + one s.endpoint ≤ 128 → FewAll a b v → a + one s.update.link < 2 ^ 64 → b + one s.update.start < 2 ^ 64
    → s.transaction.endpoint < n + one s.endpoint → s.number < 256 → start_pid s.transaction.style < 256 → (s.endpoint ≡ true → s.place < 2 ^ 64) → BeginFits id s v
begin-fits id s v n c room few links starts there number token place =
    let o = opened-count id s v in
    let h : s.transaction.endpoint < (opened id s v).count = omega arith in
    let f = opened_few id s v few s.transaction.endpoint h in
    record { few = omega arith; there = h; transactions = omega (arith, f.transactions, links); groups = omega (arith, f.groups, starts); number = number; token = token; place = place }

end_fits : {a b : ℕ} (x : ℕ) (s : End) (v : World) → v.count ≤ 128 → x < v.count → Small a b s.entry → a + one s.update.link < 2 ^ 64 → b + one s.update.start < 2 ^ 64
    → start_pid v.transaction.style < 256 → passes s.effect s.entry.total ≡ false → EndFits x s v
end_fits x s v few there small links starts token total =
    record { few = few; there = there; transactions = omega (arith, small.few.transactions, links); groups = omega (arith, small.few.groups, starts); bytes = small.fits; token = token; total = total }

-- the end of what has just begun
begun-style : (id : ℕ) (s : Begin) (w : World) → (begun id s w).transaction.style ≡ s.transaction.style
unfolding begun
begun-style id s w = ap (λ (r : Rest). r.style) (act-rest s.update s.transaction.endpoint (with_transaction s.transaction (opened id s w)))

close_small : {a b : ℕ} (m : Middle) (last : ℕ) (success complete : Bool) → start_pid m.begin.transaction.style < 256 → Small a b m.entry
    → Small (a + one m.begin.update.link) (b + one m.begin.update.start) (close_of m last success complete).entry
unfolding close_of end_of
close_small m last success complete token small =
    let s = m.begin in
    let t = s.transaction in
    group_small (entry_after s.update (start_pid t.style) m.entry) (transaction_after s.update m.entry.transactions t) m.detail success complete (after_small s.update (start_pid t.style) token m.entry small)

-- what is small enough is in words already, and so is an end that is taken or not
small-words : {x : Endpoint} {k l : ℕ} → k < 2 ^ 64 → l < 2 ^ 64 → Small k l x → in_words x ≡ x
small-words h g a = word-entry (omega (arith, h, a.few.transactions)) (omega (arith, g, a.few.groups))

if_small : (c : Bool) (s : End) (x : Endpoint) {k l : ℕ} → Small k l s.entry → Small k l x → Small k l (end_if c s x).entry
if_small true s x p q = p
if_small false s x p q = q

-- the PID of a packet is a byte
pid_byte : (high : Bool) (t : Transaction) (packet : List ℕ) → get_or packet 0 0 < 256 → (transaction_status high t packet).pid < 256
unfolding transaction_status
pid_byte high t packet h = by (checked_of packet) refl
  where
    by : (c : Result ℕ Reason) → checked_of packet ≡ c → (judged_of high t c (length packet)).pid < 256
    by (Err reason) q = omega arith
    by (Ok next) q = omega (arith, (valid packet next q).first)

-- ---- the steps of a plan

-- no endpoint has more than L T rows and L G rows before; e is the old endpoint's entry, once its transaction is resumed
module _ (high : Bool) (packet : List ℕ) (time : ℕ) (w : World) (special : 3 ≤ w.count) (devices : w.device_count ≤ 64) (L : ℕ) (entries : (j : ℕ) → j < w.count → Small L L (w.endpoints j))
    (s : Status) (pid reason : ℕ) (byte : pid < 256) (x0 : ℕ) (old : x0 < w.count) (e : Endpoint) (small : Small (L + one (resumes w.slot)) L e) (t : Transaction) (on : on_going s ≡ true → t.endpoint < w.count) (token : start_pid t.style < 256)
    (resumed : resumes w.slot ≡ true → (w.transaction.endpoint < w.count) × (start_pid w.transaction.style < 256)) where
  abbrev plan : Plan
  plan = plan_by high (record { pid = pid; status = s; reason = reason }) x0 e t packet w

  abbrev b : Transaction
  b = extract_payload high t pid (length packet) (setup_data_of packet)

  abbrev detail : Detail
  detail = detail_of x0 w

  abbrev end : End
  end = end_of x0 e b detail w.last_item false false

  -- whether the old transaction ends
  abbrev ends : Bool
  ends = is_new s && not (eqb x0 0)

  -- the most T rows and G rows after the resume, and after the end
  abbrev ts1 : ℕ
  ts1 = L + one (resumes w.slot)

  abbrev ts2 : Bool → ℕ
  ts2 c = ts1 + linked c (end_if c end e).update

  abbrev gs2 : Bool → ℕ
  gs2 c = L + started c (end_if c end e).update

  brought-token : start_pid b.style < 256
  brought-token = subst (λ (z : Style). start_pid z < 256) (sym (extract-keeps high t pid (length packet) (setup_data_of packet)).style) token

  end_small : Small ts1 L end.entry
  unfolding end_of
  end_small = group_small e b detail false false small

  end_quiet : passes end.effect end.entry.total ≡ false
  unfolding end_of
  end_quiet = ap (λ (f : Effect). passes f end.entry.total) (no_effect e b detail false)

  ended_small : (c : Bool) → Small (ts2 c) (gs2 c) (entry_ended c end (start_pid b.style) e)
  ended_small true = after_small end.update (start_pid b.style) brought-token end.entry end_small
  ended_small false = small-more (omega arith) (omega arith) small

  more2 : (c : Bool) → (L ≤ ts2 c) × (L ≤ gs2 c)
  more2 c = (omega arith, omega arith)

  abbrev middle : Middle
  middle = middle_of s x0 (entry_ended ends end (start_pid b.style) e) pid packet (w.transactions + one (resumes w.slot)) b w

  bounded : Bounded w.count (ts2 ends) (gs2 ends) (w.transactions + one (resumes w.slot)) middle
  bounded =
      middle_bounded w special devices (ts2 ends) (gs2 ends) x0 (entry_ended ends end (start_pid b.style) e) old (ended_small ends) (λ j h. small-more (more2 ends).0 (more2 ends).1 (entries j h)) s pid (w.transactions + one (resumes w.slot)) byte packet b
      (λ q. subst (λ (x : ℕ). x < w.count) (sym (extract-keeps high t pid (length packet) (setup_data_of packet)).endpoint) (on q)) brought-token

  -- the worlds between
  few1 : FewAll L L (world1 packet time w)
  few1 j h = (entries j h).few

  few2 : FewAll ts1 L (world2 plan packet time w)
  unfolding plan_by
  few2 = by (resumes w.slot)
    where
      by : (c : Bool) → FewAll (L + one c) L (when c (begun w.packets plan.resume) (world1 packet time w))
      by true = λ j h. few-more (omega arith) (omega arith) (begun_few w.packets plan.resume (world1 packet time w) few1 j h)
      by false = λ j h. few-more (omega arith) (omega arith) (few1 j h)

  count2 : (world2 plan packet time w).count ≡ w.count
  unfolding plan_by
  count2 = by (resumes w.slot)
    where
      by : (c : Bool) → (when c (begun w.packets plan.resume) (world1 packet time w)).count ≡ w.count
      by true = omega (arith, begun-count w.packets plan.resume (world1 packet time w))
      by false = refl

  few3 : FewAll (ts2 ends) (gs2 ends) (world3 plan packet time w)
  unfolding plan_by
  few3 = by ends
    where
      by : (c : Bool) → FewAll (ts2 c) (gs2 c) (when c (λ v. ended x0 (end_if c end e) (with_transaction b v)) (world2 plan packet time w))
      by true = ended_few x0 end (with_transaction b (world2 plan packet time w)) end_small.few few2
      by false = λ j h. few-more (omega arith) (omega arith) (few2 j h)

  count3 : (world3 plan packet time w).count ≡ w.count
  unfolding plan_by
  count3 = by ends ∙ count2
    where
      by : (c : Bool) → (when c (λ v. ended x0 (end_if c end e) (with_transaction b v)) (world2 plan packet time w)).count ≡ (world2 plan packet time w).count
      by true = ended-count x0 end (with_transaction b (world2 plan packet time w))
      by false = refl

  abbrev close : End
  close = close_of middle (last_ended ends end x0 w.last_item) (succeeds s) (completes_by s t.style)

  abbrev closes : Bool
  closes = is_last s && not (eqb middle.begin.transaction.endpoint 0)

  close-entry : Small (ts2 ends + one middle.begin.update.link) (gs2 ends + one middle.begin.update.start) close.entry
  close-entry = close_small middle (last_ended ends end x0 w.last_item) (succeeds s) (completes_by s t.style) bounded.token bounded.entry

  -- there are numbers for all rows
  module _ (links : L + plan_links plan < 2 ^ 64) (starts : L + plan_starts plan < 2 ^ 64) where
    all-links : ts2 ends + one middle.begin.update.link + linked closes (end_if closes close middle.entry).update < 2 ^ 64
    unfolding plan_links plan_by
    all-links = by (resumes w.slot) links
      where
        by : (c : Bool) → L + (linked c plan.resume.update + linked ends (end_if ends end e).update + one middle.begin.update.link + linked closes (end_if closes close middle.entry).update) < 2 ^ 64
            → L + one c + linked ends (end_if ends end e).update + one middle.begin.update.link + linked closes (end_if closes close middle.entry).update < 2 ^ 64
        by true h = omega (arith, h)
        by false h = omega (arith, h)

    all-starts : gs2 ends + one middle.begin.update.start + started closes (end_if closes close middle.entry).update < 2 ^ 64
    unfolding plan_starts plan_by
    all-starts = omega (arith, starts)

    module _ (room : w.count + one middle.begin.endpoint ≤ 128) where
      resume-fits : plan.resumes ≡ true → BeginFits w.packets plan.resume (world1 packet time w)
      unfolding plan_by
      resume-fits q =
          let o : one (resumes w.slot) ≡ 1 = ap one q in
          begin-fits w.packets plan.resume (world1 packet time w) w.count refl (omega arith) few1 (omega (arith, all-links, o)) (omega (arith, all-starts)) (omega (arith, (resumed q).0)) (omega arith) (resumed q).1 never

      old-fits : plan.ends ≡ true → EndFits plan.old plan.end (with_transaction plan.brought (world2 plan packet time w))
      unfolding plan_by
      old-fits q =
          let v = with_transaction b (world2 plan packet time w) in
          let l : linked ends (end_if ends end e).update ≡ one end.update.link = ap (λ (c : Bool). linked c (end_if c end e).update) q in
          let g : started ends (end_if ends end e).update ≡ one end.update.start = ap (λ (c : Bool). started c (end_if c end e).update) q in
          subst (λ (c : Bool). EndFits x0 (end_if c end e) v) (sym q) (end_fits x0 end v (omega (arith, count2)) (omega (arith, count2)) end_small (omega (arith, all-links, l)) (omega (arith, all-starts, g)) brought-token end_quiet)

      new-fits : BeginFits w.packets plan.begin (world3 plan packet time w)
      unfolding plan_by
      new-fits =
          begin-fits w.packets middle.begin (world3 plan packet time w) w.count count3 room few3 (omega (arith, all-links)) (omega (arith, all-starts)) bounded.there bounded.number bounded.token bounded.place

      close-fits : closes ≡ true → passes close.effect close.entry.total ≡ false → EndFits middle.begin.transaction.endpoint close (world4 plan packet time w)
      unfolding plan_by
      close-fits q total =
          let c = begun-count w.packets middle.begin (world3 plan packet time w) in
          let l : linked closes (end_if closes close middle.entry).update ≡ one close.update.link = ap (λ (c : Bool). linked c (end_if c close middle.entry).update) q in
          let g : started closes (end_if closes close middle.entry).update ≡ one close.update.start = ap (λ (c : Bool). started c (end_if c close middle.entry).update) q in
          end_fits middle.begin.transaction.endpoint close (world4 plan packet time w) (omega (arith, count3)) (omega (arith, count3, bounded.there)) close-entry (omega (arith, all-links, l)) (omega (arith, all-starts, g))
          (subst (λ (z : Style). start_pid z < 256) (sym (begun-style w.packets middle.begin (world3 plan packet time w))) bounded.token) total

      last_fits : (plan.closes ≡ true → passes plan.close.effect plan.close.entry.total ≡ false) → plan.closes ≡ true → EndFits plan.begin.transaction.endpoint plan.close (world4 plan packet time w)
      unfolding plan_by
      last_fits total q =
          subst (λ (c : Bool). passes (end_if c close middle.entry).effect (end_if c close middle.entry).entry.total ≡ false → EndFits middle.begin.transaction.endpoint (end_if c close middle.entry) (world4 plan packet time w)) (sym q) (close-fits q) (total q)

      plan-fits : (plan.closes ≡ true → passes plan.close.effect plan.close.entry.total ≡ false) → PlanFits plan packet time w
      plan-fits total = record { resume = resume-fits; end = old-fits; begin = new-fits; close = last_fits total }

    -- so its numbers are words
    plan_worded : w.transactions + one (resumes w.slot) + one plan.begin.row ≤ 2 ^ 64 → Worded plan
    unfolding plan_by
    plan_worded rows =
        record {
          end = small-words (omega (arith, all-links)) (omega (arith, all-starts)) (if_small ends end e end_small small);
          row = λ q. let r = bounded.row q in let o : one middle.begin.row ≡ 1 = ap one q in omega (arith, r, o, rows);
          close = small-words (omega (arith, all-links)) (omega (arith, all-starts)) (if_small closes close middle.entry close-entry (small-more (omega arith) (omega arith) bounded.entry));
        }

-- ---- a packet

then_small : {k : ℕ} (s : Slot) (e : Endpoint) → Small k k e → Small (k + one (resumes s)) k (entry_then s e)
then_small Empty e h = small-more (omega arith) (omega arith) h
then_small Current e h = small-more (omega arith) (omega arith) h
then_small Suspended e h = linked_small e h

then-style : (s : Slot) (id : ℕ) (e : Endpoint) (t : Transaction) → (transaction_then s id e t).style ≡ t.style
then-style Empty id e t = refl
then-style Current id e t = refl
then-style Suspended id e t = refl

-- where there is no transaction, none goes on
then_on : (high : Bool) (s : Slot) (id n : ℕ) (e : Endpoint) (t : Transaction) (packet : List ℕ) → old_endpoint s t < n
    → (let v = transaction_then s id e t in on_going (transaction_status high (state_at (slot_then s) v) packet).status ≡ true → v.endpoint < n)
then_on high Empty id n e t packet h = no-transaction high (λ s. on_going s ≡ true → t.endpoint < n) never never (state_at Empty t) refl packet
then_on high Current id n e t packet h = λ q. h
then_on high Suspended id n e t packet h = λ q. h

pub then-resumed : (s : Slot) (n : ℕ) (t : Transaction) → old_endpoint s t < n → resumes s ≡ true → t.endpoint < n
then-resumed Empty n t h = never
then-resumed Current n t h = never
then-resumed Suspended n t h = λ q. h

module _ (high : Bool) (packet : List ℕ) (w : World) (a : Sane high packet w) where
  abbrev held : ℕ
  held = old_endpoint w.slot w.transaction

  abbrev resumed_by : Transaction
  resumed_by = transaction_then w.slot w.transactions (w.endpoints held) w.transaction

  abbrev judged : Judged
  judged = transaction_status high (state_at (slot_then w.slot) resumed_by) packet

  entries_small : (j : ℕ) → j < w.count → Small a.links a.links (w.endpoints j)
  entries_small j h = record { few = a.few j h; fits = a.fits j h }

  pub fits-packet : (time : ℕ) → ((plan_of high packet w).closes ≡ true → passes (plan_of high packet w).close.effect (plan_of high packet w).close.entry.total ≡ false)
      → PlanFits (plan_of high packet w) packet time w
  unfolding plan_of plan_by
  fits-packet time total =
      plan-fits high packet time w a.special a.devices a.links entries_small judged.status judged.pid judged.reason (pid_byte high (state_at (slot_then w.slot) resumed_by) packet a.first) held a.old (entry_then w.slot (w.endpoints held))
      (then_small w.slot (w.endpoints held) (entries_small held a.old))
      resumed_by
      (then_on high w.slot w.transactions w.count (w.endpoints held) w.transaction packet a.old)
      (subst (λ (z : Style). start_pid z < 256) (sym (then-style w.slot w.transactions (w.endpoints held) w.transaction)) a.token)
      (λ q. (then-resumed w.slot w.count w.transaction a.old q, a.token))
      a.linked a.started a.room total

  -- the plan that is made in words is this one
  pub words-packet : plan_words (plan_of high packet w) ≡ plan_of high packet w
  unfolding plan_of
  words-packet =
      same-words (plan_of high packet w)
      (plan_worded high packet 0 w a.special a.devices a.links entries_small judged.status judged.pid judged.reason (pid_byte high (state_at (slot_then w.slot) resumed_by) packet a.first) held a.old (entry_then w.slot (w.endpoints held))
      (then_small w.slot (w.endpoints held) (entries_small held a.old))
      resumed_by
      (then_on high w.slot w.transactions w.count (w.endpoints held) w.transaction packet a.old)
      (subst (λ (z : Style). start_pid z < 256) (sym (then-style w.slot w.transactions (w.endpoints held) w.transaction)) a.token)
      (λ q. (then-resumed w.slot w.count w.transaction a.old q, a.token))
      a.linked a.started a.rows)

-- how many endpoints there are after it, so that `room` says that they are not too many
pub played-count : (high : Bool) (packet : List ℕ) (time : ℕ) (w : World) → (played (plan_of high packet w) packet time w).count ≡ w.count + one (plan_of high packet w).begin.endpoint
unfolding plan_of plan_by played
played-count high packet time w = closed p.closes ∙ (begun-count w.packets p.begin (world3 p packet time w) ∙ ap (λ (n : ℕ). n + one p.begin.endpoint) (old-ended p.ends ∙ resumed p.resumes))
  where
    p : Plan
    p = plan_of high packet w

    closed : (c : Bool) → (when c (ended (plan_of high packet w).begin.transaction.endpoint (plan_of high packet w).close) (world4 (plan_of high packet w) packet time w)).count ≡ (world4 (plan_of high packet w) packet time w).count
    closed true = ended-count (plan_of high packet w).begin.transaction.endpoint (plan_of high packet w).close (world4 (plan_of high packet w) packet time w)
    closed false = refl

    old-ended : (c : Bool) → (when c (λ v. ended (plan_of high packet w).old (plan_of high packet w).end (with_transaction (plan_of high packet w).brought v)) (world2 (plan_of high packet w) packet time w)).count ≡ (world2 (plan_of high packet w) packet time w).count
    old-ended true = ended-count (plan_of high packet w).old (plan_of high packet w).end (with_transaction (plan_of high packet w).brought (world2 (plan_of high packet w) packet time w))
    old-ended false = refl

    resumed : (c : Bool) → (when c (begun w.packets (plan_of high packet w).resume) (world1 packet time w)).count ≡ w.count
    resumed true = omega (arith, begun-count w.packets (plan_of high packet w).resume (world1 packet time w))
    resumed false = refl

-- ---- an event or finish

pub record SaneEnding (w : World) : Type 0 where
  pub few : w.count ≤ 128
  pub there : current_endpoint w.slot w.transaction < w.count
  -- the endpoint's counts have room for the rows that it gets
  pub transactions : (w.endpoints (current_endpoint w.slot w.transaction)).transactions + one (ending_of w).end.update.link < 2 ^ 64
  pub groups : (w.endpoints (current_endpoint w.slot w.transaction)).groups + one (ending_of w).end.update.start < 2 ^ 64
  pub fits : Fits (w.endpoints (current_endpoint w.slot w.transaction))
  pub token : start_pid w.transaction.style < 256

pub fits_ending : (w : World) → SaneEnding w → EndFits (ending_of w).old (ending_of w).end w
unfolding ending_of end_of
fits_ending w a =
    let x = current_endpoint w.slot w.transaction in
    let e = w.endpoints x in
    let d = details_of (w.devices e.device) e.address in
    let small : Small e.transactions e.groups e = record { few = record { transactions = omega arith; groups = omega arith }; fits = a.fits } in
    end_fits x (ending_of w).end w a.few a.there (group_small e w.transaction d false false small) a.transactions a.groups a.token
    (ap (λ (f : Effect). passes f (ending_of w).end.entry.total) (no_effect e w.transaction d false))
