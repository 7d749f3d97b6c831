-- No decision looks at an entry's counts, or at the number of a transaction's row or link. So a plan that is made in words is the plan with its numbers in
-- words.
use mathlib.Core.Path.{◌≡◌, refl, sym, ap, ◌∙◌}
use mathlib.Core.Bool.{Bool, true, false, ◌&&◌}
use mathlib.Core.List.{List, [], ◌∷◌}
use Prim.Native.Nat.{ℕ, ◌+◌, ◌%◌, ◌^◌, ◌<◌, ◌≤◌}
use native.Mathlib.Nat.{mod-eq_of_lt}
use native.Mathlib.Omega.{arith}
use lib.Dec.{eqb}
use Rattle.rows.specs.One.{one}
use Rattle.usb.specs.Fields.{token_of}
use Rattle.usb.specs.Pid.{SPLIT, MALFORMED}
use Rattle.usb.specs.Types.{Complete}
use Rattle.transaction.specs.Payload.{start_pid}
use Rattle.transaction.specs.Table.{pick, Row, fits, look}
use Rattle.transaction.specs.declared.Status as verdict
use Rattle.transaction.specs.declared.Status.TheVariants as status
use Rattle.transaction.specs.declared.Style.{Style}
use Rattle.transaction.specs.declared.Style.TheVariants.{Nothing, Simple, Split, Token}
use Rattle.transaction.specs.declared.Transaction.{Transaction}
use Rattle.details.specs.Kind.{Unknown}
use Rattle.details.specs.declared.Detail.{Detail}
use Rattle.std.specs.Prelude.{Option, Some, None}
use Rattle.endpoints.specs.declared.Endpoint.{Endpoint}
use Rattle.group.specs.declared.Effect.TheVariants.{NoEffect}
use Rattle.group.specs.declared.Grouped.{Grouped}
use Rattle.group.specs.declared.GroupStatus.TheVariants.{New, Continue, Retry, Done, Invalid}
use Rattle.group.specs.declared.control.Stage.{Stage}
use Rattle.group.specs.declared.control.Stage.TheVariants.{Data, Status, Ping, Wrong}
use Rattle.group.specs.declared.step.Step.{Step}
use Rattle.group.specs.Step.{grouped, taken, step_of, is_active, data_effect, effect_of, closes_of}
use Rattle.group.specs.Control.{with_setup, with_payload, stage_of, at_stage, counted_of, outcome_of, control_group, setup_group}
use Rattle.group.specs.Setup.{direction, with_data}
use Rattle.group.specs.Data.{with_success, begin_status, repeat_status, begin_group, repeat_group, other_rows, other_group}
use Rattle.group.specs.Group.{group_rows, group_at, group_status}
use Rattle.group.proofs.Laws.{group-keeps}
use Rattle.rules.specs.World.{World, invalid_ep, with_id, with_link, with_pid}
use Rattle.rules.specs.Endpoints.{device_for, address_for, found}
use Rattle.update.specs.Update.{when}
use Rattle.update.specs.Entry.{entry_after, counted, more, words_after, transaction_after, item_after}
use Rattle.update.specs.declared.Update.{Update}
use Rattle.update.proofs.Words.{after-counted}
use Rattle.plan.specs.Packet.{going, entry_by, standing, new_on, place_at, place_of, update_for, start_on, start_split, start_plain, starting, with_token_on, appending_at, appending, middle_of, close_of, entry_ended, end_if}
use Rattle.plan.specs.Step.{end_by, end_of}
use Rattle.plan.specs.Words.{in_words, end_words, begin_words, middle_words, plan_words, close_words}
use Rattle.plan.specs.declared.End.{End}
use Rattle.plan.specs.declared.Middle.{Middle}
use Rattle.plan.specs.declared.Place.{Place}
use Rattle.plan.specs.declared.Plan.{Plan}
use Rattle.plan.proofs.Bounded.{Within, found_within}
use Rattle.plan.proofs.Frame.{no, own-adds, transactions_added, groups_added}

-- ---- group_status: the same, but for the counts that the entry came with; the transaction may have another row and another link

abbrev renamed : ℕ → ℕ → Transaction → Transaction
renamed i l t = record { style = t.style; id = i; last = t.last; endpoint = t.endpoint; kind = t.kind; linked = t.linked; link = l; ready = t.ready; setup = t.setup; filled = t.filled; payload = t.payload }

module _ (a b : ℕ) where
  abbrev with : Grouped → Grouped
  with g = grouped g.status g.effect (counted a b g.endpoint)

  either-with : (c : Bool) (x y : Grouped) → pick c (with x) (with y) ≡ with (pick c x y)
  either-with true x y = refl
  either-with false x y = refl

  -- tables whose answers differ in the counts alone
  abbrev Same : List (Row Grouped) → List (Row Grouped) → Type 0
  Same [] [] = Unit {0}
  Same [] (q ∷ qs) = ⊥
  Same (r ∷ rs) [] = ⊥
  Same (r ∷ rs) (q ∷ qs) = (r.tests ≡ q.tests) × ((r.guard ≡ q.guard) × ((r.answer ≡ with q.answer) × Same rs qs))

  look-with : (rs qs : List (Row Grouped)) (m n : Grouped) (xs : List ℕ) → Same rs qs → m ≡ with n → look rs m xs ≡ with (look qs n xs)
  look-with [] [] m n xs h e = e
  look-with [] (q ∷ qs) m n xs h e = absurd h
  look-with (r ∷ rs) [] m n xs h e = absurd h
  look-with (r ∷ rs) (q ∷ qs) m n xs h e =
      (λ i. pick (fits (h.0 i) xs && h.1.0 i) (h.1.1.0 i) (look-with rs qs m n xs h.1.1.1 e i)) ∙ either-with (fits q.tests xs && q.guard) q.answer (look qs n xs)

  stage-with : (g : Stage) (e : Endpoint) (s : Step) → at_stage g (counted a b e) s ≡ with (at_stage g e s)
  stage-with Data e s =
      either-with s.success (grouped Continue (data_effect s true) (with_payload e ((e.payload + counted_of (data_effect s true)) % 2 ^ 64))) (grouped Retry NoEffect e)
  stage-with Status e s = either-with (s.success && s.complete) (grouped Done (outcome_of e) e) (grouped Retry NoEffect e)
  stage-with Ping e s = refl
  stage-with Wrong e s = refl

  control-with : (e : Endpoint) (s : Step) → control_group (counted a b e) s ≡ with (control_group e s)
  unfolding control_group
  control-with e s =
      let g = stage_of (direction e.setup) (with_data e.setup) e.last s.next in
      (λ i. pick e.ready (stage-with g e s i) (grouped Invalid NoEffect (counted a b e))) ∙ either-with e.ready (at_stage g e s) (grouped Invalid NoEffect e)

  setup-with : (i l : ℕ) (e : Endpoint) (t : Transaction) (s : Step) → setup_group (counted a b e) (renamed i l t) s ≡ with (setup_group e t s)
  unfolding setup_group
  setup-with i l e t s = either-with (eqb s.sc Complete) (grouped Continue NoEffect e) (grouped New NoEffect (with_setup e t.ready t.setup))

  begin-with : (e : Endpoint) (s : Step) → begin_group (counted a b e) s ≡ with (begin_group e s)
  unfolding begin_group
  begin-with e s = either-with s.complete (grouped (begin_status (closes_of s) s.success) (effect_of s true) (with_success e s.success)) (grouped New (effect_of s true) e)

  repeat-with : (e : Endpoint) (s : Step) → repeat_group (counted a b e) s ≡ with (repeat_group e s)
  unfolding repeat_group
  repeat-with e s =
      either-with s.complete (grouped (repeat_status (closes_of s) s.success e.success) (effect_of s s.complete) (with_success e s.success)) (grouped Retry (effect_of s s.complete) e)

  other-with : (active : Bool) (e : Endpoint) (s : Step) → other_group active (counted a b e) s ≡ with (other_group active e s)
  unfolding other_group
  other-with active e s =
      look-with (other_rows active (counted a b e) s) (other_rows active e s) (grouped Invalid NoEffect (counted a b e)) (grouped Invalid NoEffect e) (s.kind ∷ s.next ∷ [])
      (refl, (refl, (begin-with e s, (refl, (refl, (repeat-with e s, (refl, (refl, (repeat-with e s, (refl, (refl, (refl, (refl, (refl, (refl, (refl, (refl, (refl, tt)))))))))))))))))) refl

  group-with : (i l : ℕ) (e : Endpoint) (t : Transaction) (d : Detail) (success complete : Bool) → group_status (counted a b e) (renamed i l t) d success complete ≡ with (group_status e t d success complete)
  unfolding group_status
  group-with i l e t d success complete =
      let s = step_of e t d success complete in
      let active = is_active e.phase in
      look-with (group_rows active (counted a b (taken e)) (renamed i l t) s) (group_rows active (taken e) t s) (other_group active (counted a b (taken e)) s) (other_group active (taken e) s) (s.kind ∷ s.next ∷ [])
      (refl, (refl, (setup-with i l (taken e) t s, (refl, (refl, (control-with (taken e) s, tt)))))) (other-with active (taken e) s)

-- ---- an end

end-words : (i l x : ℕ) (e : Endpoint) (t : Transaction) (d : Detail) (last : ℕ) (success complete : Bool)
    → end_of x (in_words e) (renamed i l t) d last success complete ≡ end_words (end_of x e t d last success complete)
unfolding end_of
end-words i l x e t d last success complete =
    let g = group_status e t d success complete in
    let k = group-keeps e t d success complete in
    ap (end_by x t last) (group-with (e.transactions % 2 ^ 64) (e.groups % 2 ^ 64) i l e t d success complete)
    ∙ (λ j. end_by x t last (grouped g.status g.effect (counted (sym k.transactions j % 2 ^ 64) (sym k.groups j % 2 ^ 64) g.endpoint)))

pub if-words : (c : Bool) (x : ℕ) (e : Endpoint) (t : Transaction) (d : Detail) (last : ℕ) → end_if c (end_of x (in_words e) t d last false false) (in_words e) ≡ end_words (end_if c (end_of x e t d last false false) e)
if-words true x e t d last = end-words t.id t.link x e t d last false false
if-words false x e t d last = refl

-- ---- an update

pub more-words : (b : Bool) (n : ℕ) → more b (n % 2 ^ 64) ≡ (n + one b) % 2 ^ 64
more-words true n = omega arith
more-words false n = omega arith

after-words : (u : Update) (pid : ℕ) (e : Endpoint) → words_after u pid (in_words e) ≡ in_words (entry_after u pid e)
after-words u pid e =
    let a = more u.link (e.transactions % 2 ^ 64) in
    let b = more u.start (e.groups % 2 ^ 64) in
    ap (counted a b) (after-counted u pid (e.transactions % 2 ^ 64) (e.groups % 2 ^ 64) e)
    ∙ (λ i. counted ((more-words u.link e.transactions ∙ ap (λ (n : ℕ). n % 2 ^ 64) links) i) ((more-words u.start e.groups ∙ ap (λ (n : ℕ). n % 2 ^ 64) starts) i) (entry_after u pid e))
  where
    links : e.transactions + one u.link ≡ (entry_after u pid e).transactions
    links = let p = own-adds (λ x. x.transactions) one no transactions_added u pid e in omega (arith, p)

    starts : e.groups + one u.start ≡ (entry_after u pid e).groups
    starts = let p = own-adds (λ x. x.groups) no one groups_added u pid e in omega (arith, p)

pub ended-words : (c : Bool) (s : End) (pid : ℕ) (e : Endpoint) → pick c (words_after s.update pid (in_words s.entry)) (in_words e) ≡ in_words (entry_ended c s pid e)
ended-words true s pid e = after-words s.update pid s.entry
ended-words false s pid e = refl

pub close-words : (m : Middle) (last : ℕ) (success complete : Bool) → close_words (middle_words m) last success complete ≡ end_words (close_of m last success complete)
unfolding close_of
close-words m last success complete =
    (λ i. end_of x (after-words u (start_pid t.style) m.entry i) (transaction_after u (m.entry.transactions % 2 ^ 64) named) m.detail (item_after u x last) success complete)
    ∙ by u.link
  where
    t : Transaction
    t = m.begin.transaction

    u : Update
    u = m.begin.update

    x : ℕ
    x = t.endpoint

    named : Transaction
    named = (begin_words m.begin).transaction

    e : Endpoint
    e = entry_after u (start_pid t.style) m.entry

    by : (on : Bool) → end_of x (in_words e) (when on (with_link (m.entry.transactions % 2 ^ 64)) named) m.detail (item_after u x last) success complete
        ≡ end_words (end_of x e (when on (with_link m.entry.transactions) t) m.detail (item_after u x last) success complete)
    by true = end-words named.id (m.entry.transactions % 2 ^ 64) x e (with_link m.entry.transactions t) m.detail (item_after u x last) success complete
    by false = end-words named.id t.link x e t m.detail (item_after u x last) success complete

-- ---- the step that begins, where the entries of the world are in words

abbrev place_words : Place → Place
place_words p = record { x = p.x; new = p.new; device = p.device; place = p.place; number = p.number; detail = p.detail; entry = in_words p.entry }

on-words : (s : verdict.Status) (p : Place) (kind owner pid n : ℕ) → start_on s (place_words p) kind owner pid (n % 2 ^ 64) ≡ middle_words (start_on s p kind owner pid n)
on-words status.New p kind owner pid n = refl
on-words status.Continue p kind owner pid n = refl
on-words status.Retry p kind owner pid n = refl
on-words status.Done p kind owner pid n = refl
on-words status.Fail p kind owner pid n = refl
on-words status.Ambiguous p kind owner pid n = refl
on-words status.Invalid p kind owner pid n = refl

token-words : (s : verdict.Status) (p : Place) (sc kind owner pid : ℕ) (b : Transaction) → with_token_on s (place_words p) sc kind owner pid b ≡ middle_words (with_token_on s p sc kind owner pid b)
token-words status.New p sc kind owner pid b = refl
token-words status.Continue p sc kind owner pid b = refl
token-words status.Retry p sc kind owner pid b = refl
token-words status.Done p sc kind owner pid b = refl
token-words status.Fail p sc kind owner pid b = refl
token-words status.Ambiguous p sc kind owner pid b = refl
token-words status.Invalid p sc kind owner pid b = refl

-- going_on, on the endpoint p
abbrev going_at : verdict.Status → Place → ℕ → Transaction → Middle
going_at s p pid b = record { begin = going false (with_pid pid b) (update_for s pid (with_pid pid b) p.entry); entry = p.entry; detail = p.detail }

going-words : (s : verdict.Status) (p : Place) (pid : ℕ) (b : Transaction) → going_at s (place_words p) pid b ≡ middle_words (going_at s p pid b)
going-words status.New p pid b = refl
going-words status.Continue p pid b = refl
going-words status.Retry p pid b = refl
going-words status.Done p pid b = refl
going-words status.Fail p pid b = refl
going-words status.Ambiguous p pid b = refl
going-words status.Invalid p pid b = refl

-- an entry whose counts are words
pub word-entry : {e : Endpoint} → e.transactions < 2 ^ 64 → e.groups < 2 ^ 64 → in_words e ≡ e
word-entry {e} h g = λ i. counted (mod-eq_of_lt h i) (mod-eq_of_lt g i) e

module _ (w : World) (special : 3 ≤ w.count) (entries : (j : ℕ) → j < w.count → in_words (w.endpoints j) ≡ w.endpoints j) (x0 : ℕ) (e0 : Endpoint) where
  standing-words : (i : ℕ) → i < w.count → standing x0 (in_words e0) i w ≡ place_words (standing x0 e0 i w)
  standing-words i h = ap (λ (e : Endpoint). record { x = i; new = false; device = false; place = (w.endpoints i).device; number = (w.endpoints i).address; detail = (standing x0 e0 i w).detail; entry = e }) (by (eqb i x0))
    where
      by : (c : Bool) → pick c (in_words e0) (w.endpoints i) ≡ in_words (pick c e0 (w.endpoints i))
      by true = refl
      by false = sym (entries i h)

  new-words : (f : Option ℕ) (owner address : ℕ) → new_on f owner address w ≡ place_words (new_on f owner address w)
  new-words (Some d) owner address = refl
  new-words None owner address = refl

  place-words : (pid : ℕ) (packet : List ℕ) → place_of x0 (in_words e0) pid packet w ≡ place_words (place_of x0 e0 pid packet w)
  unfolding place_of
  place-words pid packet = by (found pid packet w) (found_within pid packet w special)
    where
      by : (f : Option ℕ) → Within w.count f → place_at f x0 (in_words e0) pid packet w ≡ place_words (place_at f x0 e0 pid packet w)
      by (Some i) h = standing-words i h
      by None h = new-words (device_for (token_of packet).address w) (token_of packet).address (address_for pid (token_of packet).number)

  starting-words : (s : verdict.Status) (pid : ℕ) (packet : List ℕ) (n : ℕ) → starting s x0 (in_words e0) pid packet (n % 2 ^ 64) w ≡ middle_words (starting s x0 e0 pid packet n w)
  unfolding starting
  starting-words s pid packet n =
      (λ i. pick (eqb pid MALFORMED) (start_on s (first i) Unknown 0 pid (n % 2 ^ 64)) (pick (eqb pid SPLIT) (start_split packet pid (n % 2 ^ 64) (first i)) (start_plain s (place-words pid packet i) pid packet (n % 2 ^ 64))))
      ∙ by (eqb pid MALFORMED) (eqb pid SPLIT)
    where
      first : standing x0 (in_words e0) invalid_ep w ≡ place_words (standing x0 e0 invalid_ep w)
      first = standing-words invalid_ep (omega (arith, special))

      by : (c d : Bool) → pick c (start_on s (place_words (standing x0 e0 invalid_ep w)) Unknown 0 pid (n % 2 ^ 64)) (pick d (start_split packet pid (n % 2 ^ 64) (place_words (standing x0 e0 invalid_ep w))) (start_plain s (place_words (place_of x0 e0 pid packet w)) pid packet (n % 2 ^ 64)))
          ≡ middle_words (pick c (start_on s (standing x0 e0 invalid_ep w) Unknown 0 pid n) (pick d (start_split packet pid n (standing x0 e0 invalid_ep w)) (start_plain s (place_of x0 e0 pid packet w) pid packet n)))
      by true d = on-words s (standing x0 e0 invalid_ep w) Unknown 0 pid n
      by false true = refl
      by false false = on-words s (place_of x0 e0 pid packet w) _ (token_of packet).address pid n

  appending-words : x0 < w.count → (s : verdict.Status) (pid : ℕ) (packet : List ℕ) (b : Transaction) → appending s x0 (in_words e0) pid packet b w ≡ middle_words (appending s x0 e0 pid packet b w)
  unfolding appending
  appending-words old s pid packet b = by b.style
    where
      goes : going_at s (standing x0 (in_words e0) x0 w) pid b ≡ middle_words (going_at s (standing x0 e0 x0 w) pid b)
      goes = ap (λ (p : Place). going_at s p pid b) (standing-words x0 old) ∙ going-words s (standing x0 e0 x0 w) pid b

      by : (y : Style) → appending_at y s x0 (in_words e0) pid packet b w ≡ middle_words (appending_at y s x0 e0 pid packet b w)
      by Nothing = goes
      by (Simple pid) = goes
      by (Split sc kind) =
          ap (λ (p : Place). with_token_on s p sc kind (token_of packet).address pid b) (place-words pid packet) ∙ token-words s (place_of x0 e0 pid packet w) sc kind (token_of packet).address pid b
      by (Token sc kind token) = goes

  pub middle-words : x0 < w.count → (s : verdict.Status) (pid : ℕ) (packet : List ℕ) (n : ℕ) (b : Transaction)
      → middle_of s x0 (in_words e0) pid packet (n % 2 ^ 64) b w ≡ middle_words (middle_of s x0 e0 pid packet n b w)
  middle-words old status.New pid packet n b = starting-words status.New pid packet n
  middle-words old status.Continue pid packet n b = appending-words old status.Continue pid packet b
  middle-words old status.Retry pid packet n b = appending-words old status.Retry pid packet b
  middle-words old status.Done pid packet n b = appending-words old status.Done pid packet b
  middle-words old status.Fail pid packet n b = appending-words old status.Fail pid packet b
  middle-words old status.Ambiguous pid packet n b = appending-words old status.Ambiguous pid packet b
  middle-words old status.Invalid pid packet n b = starting-words status.Invalid pid packet n

-- ---- a plan whose numbers are words

pub record Worded (p : Plan) : Type 0 where
  pub end : in_words p.end.entry ≡ p.end.entry
  pub row : p.begin.row ≡ true → p.begin.transaction.id < 2 ^ 64
  pub close : in_words p.close.entry ≡ p.close.entry

pub same-words : (p : Plan) → Worded p → plan_words p ≡ p
unfolding plan_words
same-words p h = λ i. record {
  resumes = p.resumes;
  resume = p.resume;
  ends = p.ends;
  old = p.old;
  brought = p.brought;
  end = record { entry = h.end i; update = p.end.update; effect = p.end.effect };
  begin = record {
    row = p.begin.row;
    device = p.begin.device;
    endpoint = p.begin.endpoint;
    types = p.begin.types;
    owner = p.begin.owner;
    place = p.begin.place;
    number = p.begin.number;
    kind = p.begin.kind;
    transaction = with_id (by p.begin.row h.row i) p.begin.transaction;
    update = p.begin.update;
  };
  closes = p.closes;
  close = record { entry = h.close i; update = p.close.update; effect = p.close.effect };
  slot = p.slot;
  reason = p.reason;
}
  where
    by : (c : Bool) → (c ≡ true → p.begin.transaction.id < 2 ^ 64) → pick c (p.begin.transaction.id % 2 ^ 64) p.begin.transaction.id ≡ p.begin.transaction.id
    by true g = mod-eq_of_lt (g refl)
    by false g = refl
