-- The packets that are of one of the two shapes, by their tests.
use mathlib.Core.Path.{◌≡◌, refl, sym, ap, subst, ◌∙◌}
use mathlib.Core.Bool.{Bool, true, false, ◌&&◌, ◌||◌, not, false≢true}
use mathlib.Core.List.{List}
use mathlib.Core.Logic.{◌⊎◌, inl, inr}
use Prim.Native.Nat.{ℕ, ◌+◌, ◌<◌}
use native.Mathlib.Omega.{arith}
use lib.Dec.{eqb}
use lib.ListN.{length}
use Rattle.usb.specs.Packet.{no_reason}
use Rattle.usb.specs.Fields.{token_of, setup_data_of}
use Rattle.usb.specs.Pid.{SPLIT, MALFORMED, SOF}
use Rattle.details.specs.Kind.{Unknown, Framing}
use Rattle.endpoints.specs.declared.Endpoint.{Endpoint}
use Rattle.endpoints.specs.declared.Phase.TheVariants.{Active}
use Rattle.transaction.specs.Payload.{start_pid, extract_payload}
use Rattle.transaction.specs.Status.{judged, transaction_status}
use Rattle.transaction.proofs.StatusLaws.{Taken, judged-is}
use Rattle.transaction.specs.Table.{pick}
use Rattle.transaction.specs.declared.Judged.{Judged}
use Rattle.transaction.specs.declared.Status.{Status}
use Rattle.transaction.specs.declared.Status.TheVariants.{New, Continue, Retry, Done, Fail, Ambiguous, Invalid}
use Rattle.transaction.specs.declared.Style.{Style}
use Rattle.transaction.specs.declared.Style.TheVariants.{Nothing, Simple, Split, Token as Tokened}
use Rattle.transaction.specs.declared.Transaction.{Transaction}
use Rattle.transaction.proofs.Laws.{extract-keeps}
use Rattle.rules.specs.Endpoints.{detail_of}
use Rattle.rules.specs.Groups.{starts_early, undecided}
use Rattle.rules.specs.Transactions.{completes, is_dropped, is_kept}
use Rattle.rules.specs.World.{World, with_slot, with_pid, new_transaction, invalid_ep, framing_ep}
use Rattle.rules.specs.declared.Slot.{Slot}
use Rattle.rules.specs.declared.Slot.TheVariants.{Empty, Current, Suspended}
use Rattle.update.specs.Entry.{entry_after}
use Rattle.update.specs.Update.{links, early, decide_early_append}
use Rattle.update.specs.declared.Then.TheVariants.{Keep}
use Rattle.plan.specs.Packet.{going, none, standing, place_of, start_by, type_by, start_on, start_split, start_plain, starting, appending_at, appending, update_for, succeeds, completes_by, close_of, entry_ended, end_if, keeps, plan_by, plan_of}
use Rattle.plan.specs.Step.{end_of}
use Rattle.plan.specs.declared.Begin.{Begin}
use Rattle.plan.specs.declared.End.{End}
use Rattle.plan.specs.declared.Middle.{Middle}
use Rattle.plan.specs.declared.Place.{Place}
use Rattle.plan.specs.declared.Plan.{Plan}
use Rattle.quick.specs.Begin.{BeginOnly, BeginRest, rest_end}
use Rattle.quick.proofs.Rest.{sof-end, sof-entry}
use Rattle.quick.specs.Close.{CloseOnly}
use Rattle.quick.specs.Shaped.{no_shape, begin_shape, close_shape, next_shape, brought_to, is_simple, is_plain, Begun, held_end, Closed, Shaped}
use Rattle.quick.specs.declared.shape.Shape.{Shape}

pick_same : {A : Type 0} (b : Bool) (a : A) → pick b a a ≡ a
pick_same true a = refl
pick_same false a = refl

-- neither
pub not_shaped : (high : Bool) (t : Transaction) (p : Plan) (w : World) → Shaped high (no_shape t) p w
not_shaped high t p w = record { begins = λ h. absurd (false≢true h); closes = λ h. absurd (false≢true h) }

-- one that begins does not close
pub begun_shaped : (high : Bool) (row l : Bool) (t : Transaction) {p : Plan} {w : World} → Begun high (begin_shape row l t) p w → Shaped high (begin_shape row l t) p w
begun_shaped high row l t b = record { begins = λ h. b; closes = λ h. absurd (false≢true h) }

-- a step with a row of its own lays nothing by
rowed-kept : (high : Bool) (p : Plan) → p.begin.row ≡ true → keeps high p ≡ false
rowed-kept high p h = ap (λ (r : Bool). not r && is_kept high p.brought p.end.entry p.begin.transaction.last) h

begun-only : (high : Bool) (p : Plan) (w : World) (t : Transaction) (l : Bool) → is_dropped w.slot w.transaction ≡ false → BeginOnly p true t l Current → Begun high (begin_shape true l t) p w
begun-only high p w t l live o = record { live = live; plan = inl o; kept = rowed-kept high p o.begins }

begun-rest : (high : Bool) (p : Plan) (w : World) (t : Transaction) (l : Bool) → is_dropped w.slot w.transaction ≡ false → BeginRest p w true t l → Begun high (begin_shape true l t) p w
begun-rest high p w t l live r = record { live = live; plan = inr r; kept = rowed-kept high p r.begins.begins }

-- ---- a token on an endpoint that is there and where no group starts early

-- p is the packet's endpoint; x0 is that of the old transaction, and e0 its entry by then
pub record Token (packet : List ℕ) (pid x0 : ℕ) (e0 : Endpoint) (p : Place) (w : World) : Type 0 where
  pub valid : eqb pid MALFORMED ≡ false
  pub plain : eqb pid SPLIT ≡ false
  pub place : p ≡ place_of x0 e0 pid packet w
  pub there : p.new ≡ false
  pub known : p.device ≡ false
  pub goes : starts_early pid p.entry.phase ≡ false

-- the transaction that it begins, in row n
abbrev pub token_on : ℕ → ℕ → Place → Transaction
token_on pid n p = new_transaction (Simple pid) n pid p.x (type_by p.detail.kind)

abbrev token_shape : ℕ → ℕ → Place → Shape
token_shape pid n p = begin_shape true (decide_early_append (token_on pid n p) p.entry).link (token_on pid n p)

starting_at : (packet : List ℕ) (pid n x0 : ℕ) (e0 : Endpoint) (p : Place) (w : World) → Token packet pid x0 e0 p w → starting New x0 e0 pid packet n w ≡ start_plain New p pid packet n
unfolding starting
starting_at packet pid n x0 e0 p w h =
    λ k. pick (h.valid k) (start_on New (standing x0 e0 invalid_ep w) Unknown 0 pid n) (pick (h.plain k) (start_split packet pid n (standing x0 e0 invalid_ep w)) (start_plain New (sym h.place k) pid packet n))

update-at : (pid : ℕ) (t : Transaction) (e : Endpoint) → starts_early pid e.phase ≡ false → update_for New pid t e ≡ links (decide_early_append t e).link Keep
update-at pid t e h = ap (λ (b : Bool). start_by (pick b (early e.phase false) none) t e) h

token_by : (q : Plan) (m : Middle) (packet : List ℕ) (pid n x0 : ℕ) (e0 : Endpoint) (p : Place) (w : World) → Token packet pid x0 e0 p w → m ≡ starting New x0 e0 pid packet (n + 0) w
    → q.resumes ≡ false → q.ends ≡ false → q.begin ≡ m.begin → q.closes ≡ false → q.slot ≡ Current → q.reason ≡ no_reason
    → BeginOnly q true (token_on pid n p) (decide_early_append (token_on pid n p) p.entry).link Current
token_by q m packet pid n x0 e0 p w h e p1 p2 p3 p4 p5 p6 =
    let more : n + 0 ≡ n = omega arith in
    let g = p3 ∙ ap (λ (y : Middle). y.begin) (e ∙ (starting_at packet pid (n + 0) x0 e0 p w h ∙ ap (start_plain New p pid packet) more)) in
    record {
      resumes = p1;
      ends = p2;
      begins = ap (λ (y : Begin). y.row) g;
      device = ap (λ (y : Begin). y.device) g ∙ h.known;
      endpoint = ap (λ (y : Begin). y.endpoint) g ∙ h.there;
      types = ap (λ (y : Begin). y.types) g;
      transaction = ap (λ (y : Begin). y.transaction) g;
      update = ap (λ (y : Begin). y.update) g ∙ update-at pid (token_on pid n p) p.entry h.goes;
      closes = p4;
      slot = p5;
      reason = p6;
    }

-- with an empty slot
token-on : (high : Bool) (packet : List ℕ) (pid : ℕ) (p : Place) (w : World) → (let v = with_slot Empty w in transaction_status high (new_transaction Nothing 0 0 0 Unknown) packet ≡ judged pid New → Token packet pid 0 (v.endpoints 0) p v
    → Begun high (token_shape pid v.transactions p) (plan_of high packet v) v)
unfolding plan_of plan_by
token-on high packet pid p w new h =
    let v = with_slot Empty w in
    subst (λ (j : Judged). Begun high (token_shape pid v.transactions p) (plan_by high j 0 (v.endpoints 0) v.transaction packet v) v) (sym new)
    (begun-only high _ _ _ _ refl (token_by _ _ packet pid v.transactions 0 (v.endpoints 0) p v h refl refl refl refl refl refl refl))

pub token_begins : (high : Bool) (packet : List ℕ) (pid : ℕ) (p : Place) (w : World) → w.slot ≡ Empty → transaction_status high (new_transaction Nothing 0 0 0 Unknown) packet ≡ judged pid New → Token packet pid 0 (w.endpoints 0) p w
    → Begun high (token_shape pid w.transactions p) (plan_of high packet w) w
token_begins high packet pid p w e =
    subst (λ (v : World). transaction_status high (new_transaction Nothing 0 0 0 Unknown) packet ≡ judged pid New → Token packet pid 0 (v.endpoints 0) p v → Begun high (token_shape pid v.transactions p) (plan_of high packet v) v) (λ k. with_slot (sym e k) w) (token-on high packet pid p w)

-- behind a SOF at rest

pub record Resting (w : World) : Type 0 where
  pub at : w.transaction.endpoint ≡ framing_ep
  pub there : w.transaction.endpoint < w.count
  pub token : start_pid w.transaction.style ≡ SOF
  pub linked : w.transaction.linked ≡ true
  pub active : (w.endpoints w.transaction.endpoint).phase ≡ Active
  pub done : (w.endpoints w.transaction.endpoint).done ≡ true
  pub last : (w.endpoints w.transaction.endpoint).last ≡ SOF
  pub idle : (w.endpoints w.transaction.endpoint).pending ≡ false
  pub kind : (detail_of w.transaction.endpoint w).kind ≡ Framing

abbrev RestClaim : Bool → List ℕ → ℕ → Place → World → Type 0
RestClaim high packet pid p v =
    transaction_status high v.transaction packet ≡ judged pid New → Resting v → Token packet pid v.transaction.endpoint (v.endpoints v.transaction.endpoint) p v → Begun high (token_shape pid v.transactions p) (plan_of high packet v) v

rest_on : (high : Bool) (packet : List ℕ) (pid : ℕ) (p : Place) (w : World) → RestClaim high packet pid p (with_slot Current w)
unfolding plan_of plan_by
rest_on high packet pid p w new r h =
    let v = with_slot Current w in
    let x = v.transaction.endpoint in
    let e = v.endpoints x in
    let b = extract_payload high v.transaction pid (length packet) (setup_data_of packet) in
    let kept = extract-keeps high v.transaction pid (length packet) (setup_data_of packet) in
    let token : start_pid b.style ≡ SOF = ap start_pid kept.style ∙ r.token in
    let end : end_of x e b (detail_of x v) v.last_item false false ≡ rest_end e = sof-end x e b (detail_of x v) v.last_item r.active r.idle r.kind token (kept.linked ∙ r.linked) in
    let ends : not (eqb x 0) ≡ true = ap (λ (y : ℕ). not (eqb y 0)) r.at in
    let entry : entry_ended (not (eqb x 0)) (end_of x e b (detail_of x v) v.last_item false false) (start_pid b.style) e ≡ e =
    (λ i. entry_ended (ends i) (end i) (start_pid b.style) e) ∙ sof-entry (start_pid b.style) e r.done (r.last ∙ sym token) in
    let h0 : Token packet pid x (entry_ended (not (eqb x 0)) (end_of x e b (detail_of x v) v.last_item false false) (start_pid b.style) e) p v = subst (λ (y : Endpoint). Token packet pid x y p v) (sym entry) h in
    subst (λ (j : Judged). Begun high (token_shape pid v.transactions p) (plan_by high j x e v.transaction packet v) v) (sym new)
    (begun-rest high _ _ _ _ refl
    (record {
      begins = token_by _ _ packet pid v.transactions x _ p v h0 refl refl refl refl refl refl refl;
      ends = ends;
      there = r.there;
      end = λ i. end_if (ends i) (end i) e;
      done = r.done;
      last = r.last ∙ sym token;
    }))

pub rest-begins : (high : Bool) (packet : List ℕ) (pid : ℕ) (p : Place) (w : World) → w.slot ≡ Current → RestClaim high packet pid p w
rest-begins high packet pid p w e = subst (RestClaim high packet pid p) (λ k. with_slot (sym e k) w) (rest_on high packet pid p w)

-- ---- a packet behind others of a plain transaction

-- w is the world with the slot Current
module _ (high : Bool) (packet : List ℕ) (pid first : ℕ) (w : World) (style : w.transaction.style ≡ Simple first) where
  abbrev x : ℕ
  x = w.transaction.endpoint

  -- with what the packet brings, and then with its PID
  abbrev b : Transaction
  b = extract_payload high w.transaction pid (length packet) (setup_data_of packet)

  abbrev t : Transaction
  t = brought_to high w.transaction pid packet

  abbrev middle : Status → Middle
  middle s = record { begin = going false t (update_for s pid t (w.endpoints x)); entry = w.endpoints x; detail = detail_of x w }

  appending-at : (s : Status) → appending s x (w.endpoints x) pid packet b w ≡ middle s
  unfolding appending
  appending-at s =
      ap (λ (y : Style). appending_at y s x (w.endpoints x) pid packet b w) ((extract-keeps high w.transaction pid (length packet) (setup_data_of packet)).style ∙ style)
      ∙ ap (λ (e : Endpoint). record { begin = going false t (update_for s pid t e); entry = e; detail = detail_of x w }) (pick_same (eqb x x) (w.endpoints x))

  same-endpoint : t.endpoint ≡ x
  same-endpoint = (extract-keeps high w.transaction pid (length packet) (setup_data_of packet)).endpoint

  -- it goes on
  begin_by : (p : Plan) (s : Status) (l : Bool) (m : Middle) → m ≡ middle s → update_for s pid t (w.endpoints x) ≡ links l Keep
      → p.resumes ≡ false → p.ends ≡ false → p.begin ≡ m.begin → p.closes ≡ false → p.slot ≡ Current → p.reason ≡ no_reason
      → BeginOnly p false t l Current
  begin_by p s l m e u p1 p2 p3 p4 p5 p6 =
      let g = p3 ∙ ap (λ (y : Middle). y.begin) e in
      record {
        resumes = p1;
        ends = p2;
        begins = ap (λ y. y.row) g;
        device = ap (λ y. y.device) g;
        endpoint = ap (λ y. y.endpoint) g;
        types = ap (λ y. y.types) g;
        transaction = ap (λ y. y.transaction) g;
        update = ap (λ y. y.update) g ∙ u;
        closes = p4;
        slot = p5;
        reason = p6;
      }

  -- it lays nothing by
  next-kept : (p : Plan) (s : Status) (m : Middle) → m ≡ middle s → is_kept high t (w.endpoints x) t.last ≡ false → p.begin ≡ m.begin → p.brought ≡ b → p.end.entry ≡ w.endpoints x → keeps high p ≡ false
  next-kept p s m e k p1 p2 p3 =
      let g = p1 ∙ ap (λ (y : Middle). y.begin) e in
      (λ i. not (g i).row && is_kept high (p2 i) (p3 i) (g i).transaction.last) ∙ k

  abbrev close_in : Status → Middle → End
  close_in s m = close_of m w.last_item (succeeds s) (completes_by s w.transaction.style)

  abbrev seated : Middle → Bool
  seated m = not (eqb m.begin.transaction.endpoint 0)

  -- a status that does nothing to the endpoint before it ends the transaction
  close-is : (s : Status) → update_for s pid t (w.endpoints x) ≡ none → completes_by s (Simple first) ≡ true
      → close_in s (middle s) ≡ end_of x (w.endpoints x) t (detail_of x w) w.last_item (succeeds s) true
  unfolding close_of entry_after
  close-is s u c =
      ap (λ (y : Style). close_of (middle s) w.last_item (succeeds s) (completes_by s y)) style
      ∙ (λ k. close_of (record { begin = going false t (u k); entry = w.endpoints x; detail = detail_of x w }) w.last_item (succeeds s) (c k))
      ∙ ap (λ (y : ℕ). end_of y (w.endpoints x) t (detail_of x w) w.last_item (succeeds s) true) same-endpoint

  close_by : (p : Plan) (s : Status) (m : Middle) → m ≡ middle s → update_for s pid t (w.endpoints x) ≡ none → completes_by s (Simple first) ≡ true → not (eqb x 0) ≡ true
      → p.resumes ≡ false → p.ends ≡ false → p.begin ≡ m.begin → p.closes ≡ seated m → p.close ≡ end_if (seated m) (close_in s m) m.entry → p.slot ≡ Empty → p.reason ≡ no_reason
      → CloseOnly p t (end_of x (w.endpoints x) t (detail_of x w) w.last_item (succeeds s) true) Empty
  close_by p s m e u c h p1 p2 p3 p4 p5 p6 p7 =
      let on : seated (middle s) ≡ true = ap (λ (y : ℕ). not (eqb y 0)) same-endpoint ∙ h in
      record {
        resumes = p1;
        ends = p2;
        begin = p3 ∙ (ap (λ (y : Middle). y.begin) e ∙ ap (going false t) u);
        closes = p4 ∙ (ap seated e ∙ on);
        close = p5 ∙ (ap (λ (y : Middle). end_if (seated y) (close_in s y) y.entry) e ∙ (ap (λ (a : Bool). end_if a (close_in s (middle s)) (w.endpoints x)) on ∙ close-is s u c));
        slot = p6;
        reason = p7;
      }

-- by its status
module _ (high : Bool) (packet : List ℕ) (pid first : ℕ) (v : World) where
  abbrev w : World
  w = with_slot Current v

  abbrev plan_at : Status → Plan
  plan_at s = plan_by high (judged pid s) w.transaction.endpoint (w.endpoints w.transaction.endpoint) w.transaction packet w

  abbrev NextShaped : Status → Type 0
  NextShaped s = Shaped high (next_shape s w.transaction.endpoint (w.endpoints w.transaction.endpoint) (brought_to high w.transaction pid packet)) (plan_at s) w

  -- the payload that the packet brings is not laid by
  abbrev Unkept : Type 0
  Unkept = is_kept high (brought_to high w.transaction pid packet) (w.endpoints w.transaction.endpoint) pid ≡ false

  next_by : (s : Status) → w.transaction.style ≡ Simple first → Unkept → NextShaped s
  unfolding plan_by
  next_by New h k = not_shaped high _ _ _
  next_by Continue h k =
      let m = appending-at high packet pid first w h Continue in
      record { begins = λ q. record { live = refl; plan = inl (begin_by high packet pid first w h _ Continue _ _ m refl refl refl refl refl refl refl); kept = next-kept high packet pid first w h (plan_at Continue) Continue _ m k refl refl refl }; closes = λ q. absurd (false≢true q) }
  next_by Retry h k =
      let m = appending-at high packet pid first w h Retry in
      record { begins = λ q. absurd (false≢true q); closes = λ q. record { live = refl; plan = close_by high packet pid first w h _ Retry _ m refl refl q refl refl refl refl refl refl refl; kept = next-kept high packet pid first w h (plan_at Retry) Retry _ m k refl refl refl } }
  next_by Done h k =
      let m = appending-at high packet pid first w h Done in
      record { begins = λ q. absurd (false≢true q); closes = λ q. record { live = refl; plan = close_by high packet pid first w h _ Done _ m refl refl q refl refl refl refl refl refl refl; kept = next-kept high packet pid first w h (plan_at Done) Done _ m k refl refl refl } }
  next_by Fail h k =
      let m = appending-at high packet pid first w h Fail in
      record { begins = λ q. absurd (false≢true q); closes = λ q. record { live = refl; plan = close_by high packet pid first w h _ Fail _ m refl refl q refl refl refl refl refl refl refl; kept = next-kept high packet pid first w h (plan_at Fail) Fail _ m k refl refl refl } }
  next_by Ambiguous h k =
      let m = appending-at high packet pid first w h Ambiguous in
      record { begins = λ q. record { live = refl; plan = inl (begin_by high packet pid first w h _ Ambiguous _ _ m refl refl refl refl refl refl refl); kept = next-kept high packet pid first w h (plan_at Ambiguous) Ambiguous _ m k refl refl refl }; closes = λ q. absurd (false≢true q) }
  next_by Invalid h k = not_shaped high _ _ _

  next_on : (s : Status) → w.transaction.style ≡ Simple first → Unkept → transaction_status high w.transaction packet ≡ judged pid s
      → Shaped high (next_shape s w.transaction.endpoint (w.endpoints w.transaction.endpoint) (brought_to high w.transaction pid packet)) (plan_of high packet w) w
  unfolding plan_of
  next_on s h k e =
      subst (λ (j : Judged). Shaped high (next_shape s w.transaction.endpoint (w.endpoints w.transaction.endpoint) (brought_to high w.transaction pid packet)) (plan_by high j w.transaction.endpoint (w.endpoints w.transaction.endpoint) w.transaction packet w) w) (sym e)
      (next_by s h k)

pub next_shaped : (high : Bool) (packet : List ℕ) (j : Judged) (w : World) → is_plain w.slot w.transaction.style ≡ true → is_kept high (brought_to high w.transaction j.pid packet) (w.endpoints w.transaction.endpoint) j.pid ≡ false → transaction_status high w.transaction packet ≡ j
    → Shaped high (next_shape j.status w.transaction.endpoint (w.endpoints w.transaction.endpoint) (brought_to high w.transaction j.pid packet)) (plan_of high packet w) w
next_shaped high packet j w h k e = by w.slot refl w.transaction.style refl h
  where
    Claim : World → Type 0
    Claim u = transaction_status high u.transaction packet ≡ j → Shaped high (next_shape j.status u.transaction.endpoint (u.endpoints u.transaction.endpoint) (brought_to high u.transaction j.pid packet)) (plan_of high packet u) u

    -- a malformed packet is Invalid, which has no shape
    kinds : (s : Status) → j.status ≡ s → (Taken j.status → Shaped high (next_shape j.status w.transaction.endpoint (w.endpoints w.transaction.endpoint) (brought_to high w.transaction j.pid packet)) (plan_of high packet (with_slot Current w)) (with_slot Current w))
        → Shaped high (next_shape j.status w.transaction.endpoint (w.endpoints w.transaction.endpoint) (brought_to high w.transaction j.pid packet)) (plan_of high packet (with_slot Current w)) (with_slot Current w)
    kinds New s g = g (subst Taken (sym s) tt)
    kinds Continue s g = g (subst Taken (sym s) tt)
    kinds Retry s g = g (subst Taken (sym s) tt)
    kinds Done s g = g (subst Taken (sym s) tt)
    kinds Fail s g = g (subst Taken (sym s) tt)
    kinds Ambiguous s g = g (subst Taken (sym s) tt)
    kinds Invalid s g = subst (λ (x : Status). Shaped high (next_shape x w.transaction.endpoint (w.endpoints w.transaction.endpoint) (brought_to high w.transaction j.pid packet)) (plan_of high packet (with_slot Current w)) (with_slot Current w)) (sym s) (not_shaped high _ _ _)

    by : (a : Slot) → w.slot ≡ a → (y : Style) → w.transaction.style ≡ y → is_plain a y ≡ true
        → Shaped high (next_shape j.status w.transaction.endpoint (w.endpoints w.transaction.endpoint) (brought_to high w.transaction j.pid packet)) (plan_of high packet w) w
    by Current p (Simple first) q r = subst Claim (λ i. with_slot (sym p i) w) (λ f. kinds j.status refl (λ g. next_on high packet j.pid first w j.status q k (f ∙ judged-is high w.transaction packet (sym f) g))) e
    by Current p Nothing q r = absurd (false≢true r)
    by Current p (Split sc kind) q r = absurd (false≢true r)
    by Current p (Tokened sc kind token) q r = absurd (false≢true r)
    by Empty p y q r = absurd (false≢true r)
    by Suspended p y q r = absurd (false≢true r)
