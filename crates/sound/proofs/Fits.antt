-- Every call keeps Fit: the functions of Transactions, Events and Decoder (rules).
use Prim.Native.Nat.{ℕ, zero, suc, pred, ◌<◌, ◌≤◌}
use native.Mathlib.Nat.{le_refl}
use native.Mathlib.Omega.{arith}
use mathlib.Core.Bool.{Bool, true, false, true≢false}
use mathlib.Core.List.{List}
use mathlib.Core.Path.{◌≡◌, refl, sym, ap, ◌∙◌}
use borrow.Author.Tests.{eqb-false}
use lib.Dec.{eqb}
use lib.ListN.{length}
use Rattle.usb.specs.Packet.{reason_of}
use Rattle.usb.specs.Fields.{setup_data_of}
use Rattle.usb.specs.Pid.{OUT, SPLIT, MALFORMED}
use Rattle.transaction.proofs.Laws.{extract-keeps}
use Rattle.transaction.specs.Status.{transaction_status}
use Rattle.transaction.specs.Table.{pick}
use Rattle.transaction.specs.declared.Judged.{Judged}
use Rattle.transaction.specs.declared.Status.{Status}
use Rattle.transaction.specs.declared.Status.TheVariants.{New, Continue, Retry, Done, Fail, Ambiguous, Invalid}
use Rattle.transaction.specs.declared.Style.{Style}
use Rattle.transaction.specs.declared.Style.TheVariants.{Nothing as NoStyle, Simple, Split, Token}
use Rattle.transaction.specs.declared.Transaction.{Transaction}
use Rattle.details.proofs.DetailsLaws.{type-kept, detail-kept}
use Rattle.details.specs.Kind.{Unknown}
use Rattle.endpoints.specs.declared.Endpoint.{Endpoint}
use Rattle.std.specs.Prelude.{Option, Some, None as Absent}
use Rattle.endpoints.specs.declared.Phase.{Phase}
use Rattle.endpoints.specs.declared.Phase.TheVariants.{None, Early, Active, Ended}
use Rattle.rules.proofs.Linked.{token-slot, resume-links, extract-links}
use Rattle.rules.proofs.Seen.{Seen, append-seen}
use Rattle.rules.proofs.Tokened.{resumes}
use Rattle.rules.specs.Rows.{Row, EventRow}
use Rattle.rules.specs.World.{with_shelf, World, stamped, push, with_slot, with_transaction, with_event_state, with_keepalive, with_id, with_pid, more_transactions, new_transaction, last_stamped}
use Rattle.rules.specs.Endpoints.{device_for, packet_endpoint, endpoint_of, typed, detailed, set_endpoint_type, set_detail_on}
use Rattle.rules.specs.Groups.{add_group_entry, push_group, link, group_update, group_early_append}
use Rattle.rules.specs.Transactions.{brought, transaction_end_at, transaction_end, append_token, transaction_append, push_transaction, begin, type_of, begin_on, begin_split, begin_plain, transaction_start, resume_at, state_at, completes, extracted, update_at, update_from, is_dropped, transaction_update}
use Rattle.rules.specs.Events.{event_add_subgroup, event_link, event_subgroup_start, event_add_group, Act, nothing, single, group, subgroup, keepalive, turn_of, event_act, event_update}
use Rattle.rules.specs.Decoder.{append_bytes, push_packet, handle_raw_packet, suspend_at, suspend, end_phase, over_row, over_rows, end_all_active, end_all, handle_event, finish, handle_detail}
use Rattle.rules.specs.Demand.{Call, packet, event, detail, finishing, call}
use Rattle.rules.specs.Linked.{linked_at, Linked}
use Rattle.rules.specs.Tokened.{TokenedIn, Tokened}
use Rattle.rules.specs.declared.EventState.TheVariants.{Idle}
use Rattle.rules.specs.declared.Slot.{Slot}
use Rattle.rules.specs.declared.Slot.TheVariants.{Empty, Current, Suspended}
use Rattle.record.specs.Formed.{standing, holds}
use Rattle.sound.specs.Fit.{link_rows, HeldFit, Fit}
use Rattle.sound.proofs.FitsTame.{StandsIn, begun, done, spread, one-changed, phased, more-transactions, longer, carries, held_as}
use Rattle.sound.proofs.FitsGroups.{item_stands, entry_stands, group_stands, link_stands, group_early_start_stands}
use Rattle.sound.proofs.FitsPlaces.{Placed, placing}
use Rattle.sound.proofs.FitsUpdate.{changed-device, Prompt, update_stands, append_stands}
use Rattle.sound.proofs.FitsWaits.{closing, split_on}

-- between two functions
abbrev Fits : ℕ → World → Type 0
Fits n w = StandsIn n (holds w.slot) w.transaction.endpoint w

-- it counts where the slot holds it
settled : (n : ℕ) (b : Bool) (y : ℕ) (w : World) → (holds w.slot ≡ true → b ≡ true) → StandsIn n b y w → Fits n w
settled n b y w h s = carries (λ q. s.held (h q)) refl s

module _ (n : ℕ) where
  -- ---- transaction_end

  -- the transaction is dropped
  dropped : (b : Bool) (y : ℕ) (w : World) → StandsIn n b y w → Fits n (with_slot Empty w)
  dropped b y w s = settled n b y (with_slot Empty w) (λ q. absurd (true≢false (sym q))) s

  end_at-fits : (z : Slot) (s k : Bool) (w : World) → w.slot ≡ z → (z ≡ Current → Prompt s w) → Fits n w → Fits n (transaction_end_at z s k w)
  end_at-fits Empty s k w q p f = f
  end_at-fits Current s k w q p f = by (eqb w.transaction.endpoint 0) refl
    where
      by : (b : Bool) → eqb w.transaction.endpoint 0 ≡ b → Fits n (with_slot Empty (pick b w (group_update w.transaction.endpoint s k w)))
      by true h = dropped (holds w.slot) w.transaction.endpoint w f
      by false h = dropped true w.transaction.endpoint (group_update w.transaction.endpoint s k w) (update_stands n w.transaction.endpoint (eqb-false w.transaction.endpoint 0 h) s k w (p refl) (carries (λ z. f.held (ap holds q)) refl f))
  end_at-fits Suspended s k w q p f = f

  end_fits : (s k : Bool) (w : World) → (w.slot ≡ Current → Prompt s w) → Fits n w → Fits n (transaction_end s k w)
  end_fits s k w p f = end_at-fits w.slot s k w refl p f

  -- without success nothing comes to wait
  fail-fits : (k : Bool) (w : World) → Fits n w → Fits n (transaction_end false k w)
  fail-fits k w f = end_fits false k w (λ q h. absurd (true≢false (sym h))) f

  -- ---- transaction_append

  split-none : (z : Slot) (sc kind x : ℕ) → holds z ≡ true → TokenedIn z (Split sc kind) x → x ≡ 0
  split-none Empty sc kind x h t = absurd (true≢false (sym h))
  split-none Current sc kind x h t = t
  split-none Suspended sc kind x h t = t

  token-fits : (st : Style) (pid : ℕ) (p : List ℕ) (w : World) → TokenedIn w.slot st w.transaction.endpoint → Fits n w → StandsIn n (holds w.slot) (append_token st pid p w).transaction.endpoint (append_token st pid p w)
  token-fits NoStyle pid p w t f = f
  token-fits (Simple first) pid p w t f = f
  token-fits (Split sc kind) pid p w t f = carries now refl stored
    where
      x : ℕ
      x = endpoint_of pid p w

      u : World
      u = packet_endpoint pid p w

      v : World
      v = set_endpoint_type x kind u

      i : Placed n (holds w.slot) w.transaction.endpoint x w u
      i = placing n (holds w.slot) w.transaction.endpoint pid p w f

      stored : StandsIn n (holds w.slot) w.transaction.endpoint v
      stored = changed-device n (holds w.slot) w.transaction.endpoint (u.endpoints x).device (typed (u.endpoints x).address kind) u (λ e. (type-kept e (u.endpoints x).address kind).address) i.stands

      now : holds w.slot ≡ true → HeldFit (append_token (Split sc kind) pid p w).transaction v.endpoints v.count v.transactions
      now q = record { endpoint = i.there; id = omega (arith, (f.held q).id, i.rows); link = λ z. (let h = ((f.held q).link z).0 in let o = split-none w.slot sc kind w.transaction.endpoint q t in absurd (omega arith)) }
  token-fits (Token sc kind first) pid p w t f = f

  append-fits : (pid : ℕ) (p : List ℕ) (w : World) → Tokened w → Fits n w → Fits n (transaction_append pid p w)
  append-fits pid p w t f =
      let s = token-fits w.transaction.style pid p w t f in
      let z = sym (ap holds (token-slot w.transaction.style pid p w)) in
      carries (λ q. held_as refl (s.held (z ∙ q)).id refl refl (s.held (z ∙ q))) refl s

  -- ---- transaction_start

  new-held : (st : Style) (m pid x kind : ℕ) (f : ℕ → Endpoint) (c r : ℕ) → x < c → m < r → HeldFit (new_transaction st m pid x kind) f c r
  new-held st m pid x kind f c r h g = record { endpoint = h; id = g; link = λ z. absurd (true≢false (sym z)) }

  on_fits : (b : Bool) (y x kind pid m : ℕ) (w : World) → x < w.count → ¬ (x ≡ 0) → m < w.transactions → StandsIn n b y w → Fits n (begin_on x kind pid m w)
  on_fits b y x kind pid m w there real h s =
      settled n true x (begin_on x kind pid m w) (λ q. refl) (group_early_start_stands n x real pid (begin (new_transaction (Simple pid) m pid x kind) w) (carries (λ q. new-held (Simple pid) m pid x kind w.endpoints w.count w.transactions there h) refl s))

  -- a transaction row
  row_fits : (b : Bool) (y id : ℕ) (w : World) → StandsIn n b y w → StandsIn n b y (push_transaction id w)
  row_fits b y id w s = carries (λ q. held_as refl (omega (arith, (s.held q).id)) refl refl (s.held q)) s.target (longer (omega arith) s)

  start_fits : (id pid : ℕ) (p : List ℕ) (w : World) → Fits n w → Fits n (transaction_start id pid p w)
  start_fits id pid p w f = by (eqb pid MALFORMED) (eqb pid SPLIT)
    where
      b : Bool
      b = holds w.slot

      y : ℕ
      y = w.transaction.endpoint

      v : World
      v = push_transaction id w

      s : StandsIn n b y v
      s = row_fits b y id w f

      x : ℕ
      x = endpoint_of pid p v

      u : World
      u = packet_endpoint pid p v

      i : Placed n b y x v u
      i = placing n b y pid p v s

      by : (c d : Bool) → Fits n (pick c (begin_on 1 Unknown pid w.transactions v) (pick d (begin_split p pid w.transactions v) (begin_plain pid p w.transactions v)))
      by true d = on_fits b y 1 Unknown pid w.transactions v (omega (arith, f.three)) (λ z. omega arith) (omega arith) s
      by false true = carries (λ q. new-held _ w.transactions pid 0 _ v.endpoints v.count v.transactions (omega (arith, f.three)) (omega arith)) refl s
      by false false = on_fits b y x (type_of x u) pid w.transactions u i.there i.real (omega (arith, i.rows)) i.stands

  -- ---- transaction_update

  early-fits : (w : World) → Fits n w → Fits n (group_early_append w)
  early-fits w f =
      settled n (holds w.slot) w.transaction.endpoint (group_early_append w) (λ q. sym (ap (λ (s : Seen). holds s.slot) (append-seen w)) ∙ q) (append_stands n (holds w.slot) w f)

  resume-fits : (z : Slot) (id : ℕ) (w : World) → w.slot ≡ z → is_dropped z w.transaction ≡ false → Fits n w → Fits n (resume_at z id w)
  resume-fits Empty id w q d f = f
  resume-fits Current id w q d f = f
  resume-fits Suspended id w q d f = link_stands n true y v (eqb-false y 0 d) (carries (λ z. held_as refl (omega arith) refl refl (f.held (ap holds q))) refl (longer (omega arith) f))
    where
      y : ℕ
      y = w.transaction.endpoint

      v : World
      v = begin (with_id w.transactions w.transaction) (push_transaction id w)

  module _ (high : Bool) (pid : ℕ) (p : List ℕ) where
    extract-fits : (w : World) → Fits n w → Fits n (extracted high pid p w)
    extract-fits w f =
        let k = extract-keeps high w.transaction pid (length p) (setup_data_of p) in
        carries (λ q. held_as k.endpoint (omega (arith, (f.held q).id)) k.linked k.link (f.held q)) refl f

    extract_tokened : (w : World) → Tokened w → Tokened (extracted high pid p w)
    extract_tokened w t = let k = extract-keeps high w.transaction pid (length p) (setup_data_of p) in rw (k.style, k.endpoint) t

    appended-fits : (w : World) → Tokened w → Fits n w → Fits n (transaction_append pid p (extracted high pid p w))
    appended-fits w t f = append-fits pid p (extracted high pid p w) (extract_tokened w t) (extract-fits w f)

    -- a token that comes here is not OUT
    prompt-token : (st : Style) (w : World) → linked_at w.transaction w.endpoints ≡ true → ((sc kind : ℕ) → st ≡ Split sc kind → ¬ (pid ≡ OUT)) → Prompt true (with_transaction (with_pid pid (append_token st pid p w).transaction) (append_token st pid p w))
    prompt-token NoStyle w l d = λ s o. l
    prompt-token (Simple first) w l d = λ s o. l
    prompt-token (Split sc kind) w l d = λ s o. absurd (d sc kind refl o)
    prompt-token (Token sc kind first) w l d = λ s o. l

    abbrev NotOut : World → Type 0
    NotOut w = w.slot ≡ Current → (sc kind : ℕ) → w.transaction.style ≡ Split sc kind → ¬ (pid ≡ OUT)

    closed-fits : (k : Bool) (w : World) → Tokened w → Linked w → NotOut w → Fits n w → Fits n (transaction_end true k (transaction_append pid p (extracted high pid p w)))
    closed-fits k w t l d f = end_fits true k (transaction_append pid p e) prompt (appended-fits w t f)
      where
        e : World
        e = extracted high pid p w

        prompt : (transaction_append pid p e).slot ≡ Current → Prompt true (transaction_append pid p e)
        prompt q =
            let h : w.slot ≡ Current = sym (token-slot e.transaction.style pid p e) ∙ q in
            prompt-token e.transaction.style e (rw h at (extract-links high pid p w.slot w.transaction w.endpoints l)) (λ sc kind g. d h sc kind (sym (extract-keeps high w.transaction pid (length p) (setup_data_of p)).style ∙ g))

    updates : (s : Status) (id : ℕ) (k : Bool) (w : World) → Tokened w → Linked w → (closing s ≡ true → NotOut w) → Fits n w → Fits n (update_at high s id pid p k w)
    updates New id k w t l d f = early-fits (transaction_start id pid p v) (start_fits id pid p v (fail-fits false (brought high pid p w) (extract-fits w f)))
      where
        v : World
        v = transaction_end false false (brought high pid p w)
    updates Continue id k w t l d f = early-fits (transaction_append pid p (extracted high pid p w)) (appended-fits w t f)
    updates Retry id k w t l d f = closed-fits k w t l (d refl) f
    updates Done id k w t l d f = closed-fits k w t l (d refl) f
    updates Fail id k w t l d f = fail-fits k (transaction_append pid p (extracted high pid p w)) (appended-fits w t f)
    updates Ambiguous id k w t l d f = appended-fits w t f
    updates Invalid id k w t l d f = fail-fits false (transaction_start id pid p w) (start_fits id pid p w f)

  not-out : (high : Bool) (z : Slot) (t : Transaction) (p : List ℕ) → closing (transaction_status high (state_at z t) p).status ≡ true → z ≡ Current → (sc kind : ℕ) → t.style ≡ Split sc kind → ¬ ((transaction_status high (state_at z t) p).pid ≡ OUT)
  not-out high Empty t p h q = let o : ◌≡◌ {A = ℕ} 0 1 = cc in absurd (omega arith)
  not-out high Current t p h q = λ sc kind g. split_on high t sc kind p g h
  not-out high Suspended t p h q = let o : ◌≡◌ {A = ℕ} 0 1 = cc in absurd (omega arith)

  packet-fits : (high : Bool) (p : List ℕ) (time : ℕ) (w : World) → Tokened w → Linked w → Fits n w → Fits n (handle_raw_packet high p time w)
  unfolding handle_raw_packet transaction_update
  packet-fits high p time w t l f = by (is_dropped w.slot w.transaction) refl
    where
      v : World
      v = push_packet w.bytes time (append_bytes p (with_event_state Idle (stamped time (reason_of p) w)))

      g : Fits n v
      g = longer (omega arith) f

      u : World
      u = resume_at w.slot w.packets v

      j : Judged
      j = transaction_status high (state_at u.slot u.transaction) p

      by : (b : Bool) → is_dropped w.slot w.transaction ≡ b → Fits n (pick b (with_slot Empty v) (update_from high w.packets p u))
      by true q = dropped (holds w.slot) w.transaction.endpoint v g
      by false q =
          updates high j.pid p j.status w.packets (completes (state_at u.slot u.transaction).style j.status) u (resumes w.slot w.packets v refl t) (resume-links w.slot w.packets v refl l) (not-out high u.slot u.transaction p) (resume-fits w.slot w.packets v refl q g)

  -- ---- events

  link_fits : (w : World) → Fits n w → Fits n (event_link w)
  link_fits w f = longer (omega arith) (spread (one-changed 0 more_transactions w.endpoints (omega arith) (more-transactions (w.endpoints 0))) f)

  subgroup-fits : (id : ℕ) (w : World) → Fits n w → Fits n (event_subgroup_start id w)
  subgroup-fits id w f = link_fits (event_add_subgroup id w) (row_fits (holds v.slot) v.transaction.endpoint id v (fail-fits false w f))
    where
      v : World
      v = transaction_end false false w

  group-fits : (id : ℕ) (start : Bool) (w : World) → Fits n w → Fits n (event_add_group id start w)
  group-fits id start w f = item_stands n b y 0 (add_group_entry 0 start v) (omega (arith, s.three)) (entry_stands n b y 0 start v s)
    where
      u : World
      u = event_subgroup_start id w

      b : Bool
      b = holds u.slot

      y : ℕ
      y = u.transaction.endpoint

      v : World
      v = push_group 0 (pred (u.endpoints 0).transactions) u

      s : Fits n v
      s = group_stands n b y 0 (pred (u.endpoints 0).transactions) u (subgroup-fits id w f)

  act-fits : (a : Act) (id : ℕ) (w : World) → Fits n w → Fits n (event_act a id w)
  act-fits nothing id w f = f
  act-fits single id w f = group-fits id false w f
  act-fits group id w f = group-fits id true w f
  act-fits subgroup id w f = subgroup-fits id w f
  act-fits keepalive id w f = by w.keepalive
    where
      by : (b : Bool) → Fits n (pick b (event_subgroup_start id w) (with_keepalive true (event_add_group id true w)))
      by true = subgroup-fits id w f
      by false = group-fits id true w f

  over_le : (p : Phase) (x k : ℕ) (js : List Row) → link_rows js ≤ link_rows (over_row p x k js)
  over_le None x k js = le_refl _
  over_le Early x k js = le_refl _
  over_le Active x k js = omega arith
  over_le Ended x k js = le_refl _

  overs_le : (c : ℕ) (f : ℕ → Endpoint) (js : List Row) → link_rows js ≤ link_rows (over_rows c f js)
  overs_le zero f js = le_refl _
  overs_le (suc c) f js = omega (arith, over_le (f c).phase c (pred (f c).groups) (over_rows c f js), overs_le c f js)

  end-phase : (p : Phase) → standing (end_phase p) ≡ standing p
  end-phase None = refl
  end-phase Early = refl
  end-phase Active = refl
  end-phase Ended = refl

  active-fits : (w : World) → Fits n w → Fits n (end_all_active w)
  active-fits w f =
      let m = overs_le w.count w.endpoints w.journal in
      spread (λ j. phased (w.endpoints j) (end_phase (w.endpoints j).phase) (λ z q. end-phase (w.endpoints j).phase ∙ q) (λ e q. e.group (sym (end-phase (w.endpoints j).phase) ∙ q))) (longer (omega (arith, m)) f)

  suspend-holds : (z : Slot) → holds (suspend_at z) ≡ true → holds z ≡ true
  suspend-holds Empty h = h
  suspend-holds Current h = refl
  suspend-holds Suspended h = refl

  suspend-fits : (w : World) → Fits n w → Fits n (suspend w)
  suspend-fits w f = settled n (holds w.slot) w.transaction.endpoint (suspend w) (suspend-holds w.slot) f

  event-fits : (kind code time : ℕ) (w : World) → Fits n w → Fits n (handle_event kind code time w)
  unfolding handle_event event_update
  event-fits kind code time w f = by (eqb kind 0)
    where
      go : (u : World) → Fits n u → Fits n (event_update w.packets kind (push (EventRow w.packets code) (push_packet w.bytes time u)))
      go u g = act-fits (turn_of u.event_state kind).act w.packets (push (EventRow w.packets code) (push_packet w.bytes time u)) (longer (omega arith) g)

      by : (b : Bool) → Fits n (event_update w.packets kind (push (EventRow w.packets code) (push_packet w.bytes time (pick b (suspend (stamped time 0 w)) (end_all (stamped time 0 w))))))
      by true = go (suspend (stamped time 0 w)) (suspend-fits (stamped time 0 w) f)
      by false = go (end_all (stamped time 0 w)) (active-fits (transaction_end false false (stamped time 0 w)) (fail-fits false (stamped time 0 w) f))

  -- ---- every call

  detail-fits : (g : Option ℕ) (number direction kind max : ℕ) (w : World) → Fits n w → Fits n (set_detail_on g number direction kind max w)
  detail-fits (Some i) number direction kind max w f = changed-device n (holds w.slot) w.transaction.endpoint i (detailed number direction kind max) w (λ e. (detail-kept e number direction kind max).address) f
  detail-fits Absent number direction kind max w f = f

  call_fits : (high : Bool) (k : Call) (w : World) → Tokened w → Linked w → Fits n w → Fits n (call high k w)
  unfolding handle_detail finish
  call_fits high (packet p time shelf) w t l f = packet-fits high p time (with_shelf shelf w) t l f
  call_fits high (event kind code time) w t l f = event-fits kind code time w f
  call_fits high (detail a number r kind m) w t l f = detail-fits (device_for a w) number r kind m w f
  call_fits high finishing w t l f = fail-fits false (last_stamped w) f

pub fit-after : (high : Bool) (k : Call) (n : ℕ) (w : World) → Fit n w → Tokened w → Linked w → Fit n (call high k w)
fit-after high k n w f t l = done n (holds (call high k w).slot) (call high k w).transaction.endpoint (call high k w) (λ q. q) (call_fits n high k w t l (begun n w f))
