-- Laws (proved): each step on memory carries what it holds to the world after the rules' step of the same name.
use Rattle.std.specs.Prelude.{ℕ, zero, suc, pred, ◌+◌, ◌*◌, ◌<◌, ◌≤◌, Bool, cond, List, [], ◌∷◌, ◌++◌, ◌≡◌, refl, length}
use Rattle.std.proofs.Common.{arith, append-nil, append_assoc, sym, ◌∙◌, length-append}
use Rattle.std.proofs.Math.Bool.{true, false}
use Rattle.std.proofs.Math.Path.{ap}
use borrow.Author.Tests.{eqb-true, eqb-false}
use Rattle.std.proofs.Math.Dec.{eqb}
use Rattle.std.proofs.lemmas.List.Edits.{sets}
use Rattle.std.proofs.Math.Seq.{length-sets}
use Rattle.rows.specs.Widths.{group_width, link_width}
use Rattle.rows.specs.One.{one}
use Rattle.rows.specs.Sets.{sets_then}
use Rattle.endpoints.specs.Link as kind
use Rattle.endpoints.specs.Phases.{in_phase, waiting}
use Rattle.endpoints.specs.Each.{closed, closing, next_states, state_bytes}
use Rattle.endpoints.proofs.PhasesLaws.{length-closing, length-cleared, entry-cleared, phase-entry, after_item}
use Rattle.endpoints.specs.States.{next_state}
use Rattle.endpoints.proofs.StatesLaws.{length-states, length-next, entry_next}
use Rattle.endpoints.specs.Word as word
use Rattle.endpoints.specs.Table.{words, entry_at, store_at, with_phase, with_state, phase_word}
use Rattle.endpoints.proofs.TableLaws.{Fits, load_store_same, load_store-other, fits-entry}
use Rattle.endpoints.specs.declared.Endpoint.{Endpoint}
use Rattle.endpoints.specs.declared.Phase.{Phase}
use Rattle.endpoints.specs.declared.Phase.TheVariants.{None, Early, Active, Ended}
use Rattle.transaction.specs.Payload.{start_pid}
use Rattle.transaction.specs.Table.{pick}
use Rattle.rules.specs.Rows.{Row, GroupRow, grouping, StateRow, StateBytes, ItemRow, T, G, E, Over, written, log, group_words}
use Rattle.rules.specs.World.{World, push, change, last_group, with_transaction, with_link, more_transactions, more_groups, cleared}
use Rattle.rules.specs.Groups.{add_group_entry, add_item, link, push_group, over, close_phase, close_row, close_rows, states_from}
use Rattle.write.specs.Memory.{Memory, Room, group_row, item_row, link_row, altered, alter, with_written, tied, entry_row, end_row, link_step, start_group}
use Rattle.write.proofs.Holds.{Appended, Holds, Space, Worded}

-- ---- one log

module _ {k from to : ℕ} {first words : List ℕ} {js : List Row} (a : Appended k first from js words to) where
  -- ws behind what is there
  pub append : (js' : List Row) (ws : List ℕ) {words' : List ℕ} {to' : ℕ} → log k js' ≡ log k js ++ ws → words' ≡ sets words to ws → to' ≡ to + length ws
      → Appended k first from js' words' to'
  append js' ws {words'} {to'} e f g =
      record {
        written = sets_then first words words' from to (log k js) ws a.written a.filled f ∙ ap (sets first from) (sym e);
        filled = g ∙ rw (e, length-append (log k js) ws) (omega (arith, a.filled));
      }

  -- rows of other logs
  pub keep : (js' : List Row) → log k js' ≡ log k js → Appended k first from js' words to
  keep js' e = record { written = a.written ∙ ap (sets first from) (sym e); filled = a.filled ∙ ap (λ (l : List ℕ). from + length l) (sym e) }

  -- a log keeps its length, so what fits behind the old rows fits
  pub appended-length : length words ≡ length first
  appended-length = ap length a.written ∙ length-sets first from (log k js)

  pub appended-fits : from + length (log k js) ≤ length first → to ≤ length words
  appended-fits h = omega (arith, a.filled, appended-length)

-- nothing is appended yet
none : (k : ℕ) (words : List ℕ) (to : ℕ) (js : List Row) → js ≡ [] → Appended k words to js words to
none k words to js e = rw e (record { written = refl; filled = omega arith })

-- where a call begins
pub holds-start : (n id pid : ℕ) (w : World) (m : Memory) → w.journal ≡ [] → length m.table ≡ word.table → w.context ≡ m.written.stamp → w.count ≡ n
    → ((j : ℕ) → j < n → entry_at m.table j ≡ w.endpoints j) → w.transaction.id ≡ id → start_pid w.transaction.style ≡ pid
    → m.written.linked ≡ w.transaction.linked → m.written.link ≡ w.transaction.link → m.written.last ≡ w.last_item
    → m.written.firsts.groups + m.written.groups ≡ w.groups → m.written.firsts.statebytes + m.written.statebytes ≡ w.state_bytes
    → m.written.firsts.items + m.written.items ≡ w.items → Holds n id pid m w m
holds-start n id pid w m e sized context count endpoints row began linked link last_item groups statebytes items =
    record {
      sized = sized;
      stamp = refl;
      context = context;
      count = count;
      endpoints = endpoints;
      row = row;
      began = began;
      linked = linked;
      link = link;
      last_item = last_item;
      group_count = groups;
      state_byte_count = statebytes;
      item_count = items;
      groups = none 6 m.groups (m.written.groups * group_width) w.journal e;
      statebytes = none 7 m.statebytes m.written.statebytes w.journal e;
      states = none 8 m.states m.written.states w.journal e;
      items = none 9 m.items m.written.items w.journal e;
      links = none 10 m.links (m.written.links * link_width) w.journal e;
    }

-- room is what the journal's rows need
pub holds-room : {n id pid : ℕ} {m₀ m : Memory} {w : World} → Holds n id pid m₀ w m → Space m₀ w.journal → Worded w → Room m
holds-room h r s =
    record {
      groups = appended-fits h.groups r.groups;
      states = appended-fits h.states r.states;
      statebytes = appended-fits h.statebytes r.statebytes;
      items = appended-fits h.items r.items;
      links = appended-fits h.links r.links;
      numbers = record { groups = omega (arith, h.group_count, s.groups); statebytes = omega (arith, h.state_byte_count, s.statebytes); items = omega (arith, h.item_count, s.items) };
    }

-- ---- an entry changed

module _ {n id pid : ℕ} {m₀ m : Memory} {w : World} (h : Holds n id pid m₀ w m) where
  pub holds-altered : (x : ℕ) (f : Endpoint → Endpoint) → x < n → n ≤ 128 → ((e : Endpoint) → Fits e → Fits (f e)) → Holds n id pid m₀ (change x f w) (altered x f m)
  unfolding store_at
  holds-altered x f hx few fits =
      record {
        sized = length-sets m.table (x * word.width) (words (f (entry_at m.table x))) ∙ h.sized;
        stamp = h.stamp;
        context = h.context;
        count = h.count;
        endpoints = λ j hj. at j hj (eqb j x) refl;
        row = h.row;
        began = h.began;
        linked = h.linked;
        link = h.link;
        last_item = h.last_item;
        group_count = h.group_count;
        state_byte_count = h.state_byte_count;
        item_count = h.item_count;
        groups = h.groups;
        statebytes = h.statebytes;
        states = h.states;
        items = h.items;
        links = h.links;
      }
    where
      at : (j : ℕ) → j < n → (b : Bool) → eqb j x ≡ b → entry_at (alter x f m.table) j ≡ pick b (f (w.endpoints j)) (w.endpoints j)
      at j hj true e =
          let q = eqb-true j x e in
          rw q (load_store_same m.table x (f (entry_at m.table x)) h.sized (omega arith) (fits _ (fits-entry m.table x)) ∙ ap f (h.endpoints x hx))
      at j hj false e = load_store-other m.table x j (f (entry_at m.table x)) (eqb-false j x e) ∙ h.endpoints j hj

  -- ---- a row that goes to no log

  pub holds-over-row : (x g : ℕ) → Holds n id pid m₀ (push (Over x g) w) m
  holds-over-row x g =
      record {
        sized = h.sized;
        stamp = h.stamp;
        context = h.context;
        count = h.count;
        endpoints = h.endpoints;
        row = h.row;
        began = h.began;
        linked = h.linked;
        link = h.link;
        last_item = h.last_item;
        group_count = h.group_count;
        state_byte_count = h.state_byte_count;
        item_count = h.item_count;
        groups = keep h.groups _ (append-nil _);
        statebytes = keep h.statebytes _ (append-nil _);
        states = keep h.states _ (append-nil _);
        items = keep h.items _ (append-nil _);
        links = keep h.links _ (append-nil _);
      }

  -- ---- a link row

  pub holds-link-row : (r : Row) (k x a b : ℕ) → written r ≡ (10, k ∷ x ∷ a ∷ b ∷ []) → Holds n id pid m₀ (push r w) (link_row k x a b m)
  holds-link-row r k x a b e =
      record {
        sized = h.sized;
        stamp = h.stamp;
        context = h.context;
        count = h.count;
        endpoints = h.endpoints;
        row = h.row;
        began = h.began;
        linked = h.linked;
        link = h.link;
        last_item = h.last_item;
        group_count = h.group_count;
        state_byte_count = h.state_byte_count;
        item_count = h.item_count;
        groups = keep h.groups _ (rw e (append-nil _));
        statebytes = keep h.statebytes _ (rw e (append-nil _));
        states = keep h.states _ (rw e (append-nil _));
        items = keep h.items _ (rw e (append-nil _));
        links = append h.links _ (k ∷ x ∷ a ∷ b ∷ []) (rw e refl) refl (omega arith);
      }

  -- the transaction's T row
  pub holds-tied : (i i' : ℕ) → i ≡ i' → Holds n id pid m₀ (with_transaction (with_link i' w.transaction) w) (with_written (tied i) m)
  holds-tied i i' e =
      record {
        sized = h.sized;
        stamp = h.stamp;
        context = h.context;
        count = h.count;
        endpoints = h.endpoints;
        row = h.row;
        began = h.began;
        linked = refl;
        link = e;
        last_item = h.last_item;
        group_count = h.group_count;
        state_byte_count = h.state_byte_count;
        item_count = h.item_count;
        groups = h.groups;
        statebytes = h.statebytes;
        states = h.states;
        items = h.items;
        links = h.links;
      }

-- ---- a group row

-- the state bytes of a row are the states of the world's endpoints
states-from : (t : List ℕ) (f : ℕ → Endpoint) (n i : ℕ) → ((j : ℕ) → i ≤ j → j < i + n → (entry_at t j).state ≡ (f j).state) → state_bytes t i n ≡ states_from f i n
unfolding entry_at
states-from t f zero i h = refl
states-from t f (suc n) i h = rw (h i (omega arith) (omega arith), states-from t f n (suc i) (λ j u v. h j (omega arith) (omega arith))) refl

-- an endpoint after the row
abbrev after : World → ℕ → Bool → ℕ → Endpoint
after w x start j = with_state (next_state (eqb j x) (eqb x 0) start (w.endpoints j).state) (w.endpoints j)

module _ {n id pid : ℕ} {m₀ m : Memory} {w : World} (h : Holds n id pid m₀ w m) (few : n ≤ 128) where
  stated : (x : ℕ) (start : Bool) (j : ℕ) → j < n → entry_at (next_states m.table n x start) j ≡ after w x start j
  stated x start j hj = entry_next m.table n x start j (omega (arith, h.sized)) hj ∙ rw (h.endpoints j hj) refl

  pub holds-group-row : (x : ℕ) (start : Bool) (nth : ℕ) → nth ≡ last_group x w → Holds n id pid m₀ (add_group_entry x start w) (group_row n x nth start m)
  holds-group-row x start nth e =
      record {
        sized = length-next m.table n x start ∙ h.sized;
        stamp = h.stamp;
        context = h.context;
        count = h.count;
        endpoints = stated x start;
        row = h.row;
        began = h.began;
        linked = h.linked;
        link = h.link;
        last_item = h.last_item;
        group_count = omega (arith, h.group_count);
        state_byte_count = omega (arith, h.state_byte_count, h.count);
        item_count = h.item_count;
        groups = append h.groups _ (group_words (grouping x nth start m.written.stamp)) words refl (omega arith);
        statebytes = append h.statebytes _ (state_bytes (next_states m.table n x start) 0 n) (simp (append-nil, bytes)) refl (omega (arith, length-states (next_states m.table n x start) 0 n));
        states = append h.states _ ((m.written.firsts.statebytes + m.written.statebytes) ∷ []) (simp (append-nil, h.state_byte_count)) refl (omega arith);
        items = keep h.items _ (simp append-nil);
        links = keep h.links _ (simp append-nil);
      }
    where
      bare : log 6 (add_group_entry x start w).journal ≡ log 6 w.journal ++ group_words (grouping x (last_group x w) start w.context)
      bare = simp append-nil

      words : log 6 (add_group_entry x start w).journal ≡ log 6 w.journal ++ group_words (grouping x nth start m.written.stamp)
      words = bare ∙ λ i. log 6 w.journal ++ group_words (grouping x (sym e i) start ((h.context ∙ sym h.stamp) i))

      bytes : state_bytes (next_states m.table n x start) 0 n ≡ states_from (after w x start) 0 w.count
      bytes =
          states-from (next_states m.table n x start) (after w x start) n 0 (λ j u v. ap (λ (a : Endpoint). a.state) (stated x start j (omega arith)))
          ∙ ap (λ (c : ℕ). states_from (after w x start) 0 c) (sym h.count)

-- ---- an item

-- the rows that close n + 1 endpoints are those of n, and the last one's
closing-more : (t : List ℕ) (item n a : ℕ) → closing t item a (suc n) ≡ closing t item a n ++ closing t item (a + n) 1
closing-more t item zero a = let e : a + 0 ≡ a = omega arith in rw e refl
closing-more t item (suc n) a = let e : a + suc n ≡ suc a + n = omega arith in rw e (next (in_phase 3 t a) _ _ _ (closing-more t item n (suc a)))
  where
    next : (b : Bool) (xs ys zs : List ℕ) → xs ≡ ys ++ zs → cond b (closed a item xs) xs ≡ cond b (closed a item ys) ys ++ zs
    next true xs ys zs e = rw e refl
    next false xs ys zs e = e

-- the row that closes one endpoint
close-one : (p : Phase) (x i : ℕ) (js : List Row) → log 10 (close_row p x i js) ≡ log 10 js ++ cond (eqb (phase_word p) 3) (closed x i []) []
close-one None x i js = sym (append-nil _)
close-one Early x i js = sym (append-nil _)
close-one Active x i js = sym (append-nil _)
close-one Ended x i js = refl

-- those of all
close-links : (t : List ℕ) (f : ℕ → Endpoint) (i n : ℕ) (js : List Row) → ((j : ℕ) → j < n → entry_at t j ≡ f j) → log 10 (close_rows n i f js) ≡ log 10 js ++ closing t i 0 n
close-links t f i zero js h = sym (append-nil _)
close-links t f i (suc n) js h =
    close-one (f n).phase n i (close_rows n i f js)
    ∙ ap (λ (l : List ℕ). l ++ cond (eqb (phase_word (f n).phase) 3) (closed n i []) []) (close-links t f i n js (λ j u. h j (omega arith)))
    ∙ append_assoc (log 10 js) (closing t i 0 n) (cond (eqb (phase_word (f n).phase) 3) (closed n i []) [])
    ∙ ap (λ (l : List ℕ). log 10 js ++ l) (sym (closing-more t i n 0 ∙ ap (λ (l : List ℕ). closing t i 0 n ++ l) last))
  where
    last : closing t i (0 + n) 1 ≡ cond (eqb (phase_word (f n).phase) 3) (closed n i []) []
    last =
        let z : 0 + n ≡ n = omega arith in
        rw z (ap (λ (b : Bool). cond b (closed n i []) []) (phase-entry t n 3 (omega arith) (omega arith) ∙ ap (λ (e : Endpoint). eqb (phase_word e.phase) 3) (h n (omega arith))))

-- no other log has them
pub close_else : (k : ℕ) → eqb 10 k ≡ false → (f : ℕ → Endpoint) (i n : ℕ) (js : List Row) → log k (close_rows n i f js) ≡ log k js
close_else k e f i zero js = refl
close_else k e f i (suc n) js = one_else (f n).phase ∙ close_else k e f i n js
  where
    one_else : (p : Phase) → log k (close_row p n i (close_rows n i f js)) ≡ log k (close_rows n i f js)
    one_else None = refl
    one_else Early = refl
    one_else Active = refl
    one_else Ended = rw e (append-nil _)

same-close : (p : Phase) → after_item p ≡ close_phase p
same-close None = refl
same-close Early = refl
same-close Active = refl
same-close Ended = refl

module _ {n id pid : ℕ} {m₀ m : Memory} {w : World} (h : Holds n id pid m₀ w m) (few : n ≤ 128) where
  pub holds-item : (x : ℕ) → Holds n id pid m₀ (add_item x w) (item_row n x m)
  holds-item x =
      record {
        sized = length-cleared m.table n ∙ h.sized;
        stamp = h.stamp;
        context = h.context;
        count = h.count;
        endpoints = λ j hj. entry-cleared m.table n j (omega (arith, h.sized)) hj ∙ rw (h.endpoints j hj, same-close (w.endpoints j).phase) refl;
        row = h.row;
        began = h.began;
        linked = h.linked;
        link = h.link;
        last_item = refl;
        group_count = h.group_count;
        state_byte_count = h.state_byte_count;
        item_count = omega (arith, h.item_count);
        groups = keep h.groups _ (close_else 6 refl w.endpoints w.items w.count _ ∙ append-nil _);
        statebytes = keep h.statebytes _ (close_else 7 refl w.endpoints w.items w.count _ ∙ append-nil _);
        states = keep h.states _ (close_else 8 refl w.endpoints w.items w.count _ ∙ append-nil _);
        items = append h.items _ (pred (m.written.firsts.groups + m.written.groups) ∷ []) (close_else 9 refl w.endpoints w.items w.count _ ∙ rw h.group_count refl) refl (omega arith);
        links = append h.links _ (closing m.table (m.written.firsts.items + m.written.items) 0 n) closes refl (omega (arith, length-closing m.table (m.written.firsts.items + m.written.items) 0 n));
      }
    where
      closes : log 10 (add_item x w).journal ≡ log 10 w.journal ++ closing m.table (m.written.firsts.items + m.written.items) 0 n
      closes =
          close-links m.table w.endpoints w.items w.count (ItemRow (pred w.groups) ∷ w.journal) (λ j u. h.endpoints j (omega (arith, h.count)))
          ∙ ap (λ (l : List ℕ). l ++ closing m.table w.items 0 w.count) (append-nil (log 10 w.journal))
          ∙ ap (λ (i : ℕ). log 10 w.journal ++ closing m.table i 0 w.count) (sym h.item_count)
          ∙ ap (λ (c : ℕ). log 10 w.journal ++ closing m.table (m.written.firsts.items + m.written.items) 0 c) h.count

-- ---- the steps of several

module _ {n id pid : ℕ} {m₀ m : Memory} {w : World} (h : Holds n id pid m₀ w m) (few : n ≤ 128) (x : ℕ) (hx : x < n) where
  pub holds-over : Holds n id pid m₀ (over x w) (altered x (with_phase Ended) m)
  holds-over = holds-altered (holds-over-row h x (last_group x w)) x (with_phase Ended) hx few (λ e f. record { address = f.address; state = f.state; first = f.first; last = f.last })

  -- a row of the endpoint's last group
  pub holds-entry-row : (start : Bool) → Holds n id pid m₀ (add_group_entry x start w) (entry_row n x start m)
  holds-entry-row start = holds-group-row h few x start _ (ap (λ (e : Endpoint). pred e.groups) (h.endpoints x hx))

  pub holds-link : Holds n id pid m₀ (link x w) (link_step x id m)
  holds-link =
      holds-altered
      (holds-tied (holds-link-row h (T x w.transaction.id) kind.T x id 0 (rw h.row refl)) _ _ (ap (λ (e : Endpoint). e.transactions) (h.endpoints x hx)))
      x more_transactions hx few (λ e f. record { address = f.address; state = f.state; first = f.first; last = f.last })

  pub holds-push-group : Holds n id pid m₀ (push_group x w.transaction.link w) (altered x more_groups (link_row kind.G x m.written.link 0 m))
  holds-push-group =
      holds-altered
      (holds-link-row h (G x w.transaction.link) kind.G x m.written.link 0 (rw h.link refl))
      x more_groups hx few (λ e f. record { address = f.address; state = f.state; first = f.first; last = f.last })

module _ {n id pid : ℕ} {m₀ m : Memory} {w : World} (h : Holds n id pid m₀ w m) (few : n ≤ 128) (x : ℕ) (hx : x < n) where
  pub holds-end-row : Holds n id pid m₀ (add_group_entry x false (over x w)) (end_row n x m)
  holds-end-row = holds-entry-row (holds-over h few x hx) few x hx false

  pub holds-start-group : Holds n id pid m₀ (add_item x (add_group_entry x true (push_group x w.transaction.link w))) (start_group n x m)
  holds-start-group = holds-item (holds-entry-row (holds-push-group h few x hx) few x hx true) few x
