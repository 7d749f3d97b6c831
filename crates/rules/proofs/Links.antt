-- Demand 3 on the link log: an endpoint's G rows and E rows there are what its marks say.
use mathlib.Core.Path.{◌≡◌, refl, sym, ap, ◌∙◌}
use mathlib.Core.Bool.{Bool, true, false, ◌&&◌}
use mathlib.Core.List.{List, [], ◌∷◌, ◌++◌, append-nil, append_assoc}
use Prim.Native.Nat.{ℕ, ◌+◌}
use native.Mathlib.Omega.{arith}
use lib.Dec.{eqb}
use lib.ListN.{length, length-append}
use Rattle.transaction.specs.Table.{pick}
use Rattle.endpoints.specs.declared.Phase.{Phase}
use Rattle.endpoints.specs.declared.Phase.TheVariants.{None}
use Rattle.rules.specs.Rows.{Row, BytesRow, DeviceRow, EndpointRow, PacketRow, EventRow, TransactionRow, GroupRow, StateRow, StateBytes, ItemRow, T, G, D, E, RequestRow, Over, written, log}
use Rattle.rules.specs.World.{World, phase, with_journal}
use Rattle.rules.specs.Marks.{Mark, other, started, ended, closed, mark, marks, starts, closings, items}
use Rattle.rules.proofs.Reach.{Reach, OnMarks, OnLinks}
use Rattle.rules.specs.Demand.{links_of, Quiet}
use Rattle.rules.proofs.Facts.{Facts, extra}
use Rattle.rules.proofs.Loops.{open_of, wait_of}
use Rattle.rules.proofs.Keeps.{Keeps}
use Rattle.rules.proofs.Demand.{Sound, always, on-marks}

-- a row's words in the link log
abbrev words : Row → List ℕ
words r = pick (eqb (written r).0 10) (written r).1 []

module _ (k e : ℕ) where
  abbrev linked : List ℕ → List ℕ
  linked ws = links_of k e ws

  four : (b : Bool) (c : ℕ) (ws : List ℕ) → pick b (c ∷ linked ws) (linked ws) ≡ pick b (c ∷ []) [] ++ linked ws
  four true c ws = refl
  four false c ws = refl

  row-links : (r : Row) (ws : List ℕ) → linked (words r ++ ws) ≡ linked (words r) ++ linked ws
  row-links (BytesRow bs) ws = refl
  row-links (DeviceRow a) ws = refl
  row-links (EndpointRow d n r) ws = refl
  row-links (PacketRow s t) ws = refl
  row-links (EventRow p c) ws = refl
  row-links (TransactionRow r) ws = refl
  row-links (GroupRow r) ws = refl
  row-links (StateRow s) ws = refl
  row-links (StateBytes ss) ws = refl
  row-links (ItemRow g) ws = refl
  row-links (T x t) ws = four (eqb 0 k && eqb e x) t ws
  row-links (G x t) ws = four (eqb 1 k && eqb e x) t ws
  row-links (D x t n) ws = four (eqb 2 k && eqb e x) t ws
  row-links (E x i) ws = four (eqb 3 k && eqb e x) i ws
  row-links (RequestRow r) ws = refl
  row-links (Over x j) ws = refl

  -- the rows of a log come before those appended to it
  links-append : (js : List Row) (ws : List ℕ) → linked (log 10 js ++ ws) ≡ linked (log 10 js) ++ linked ws
  links-append [] ws = refl
  links-append (r ∷ js) ws =
      ap linked (append_assoc (log 10 js) (words r) ws)
      ∙ (links-append js (words r ++ ws)
      ∙ (ap (λ (l : List ℕ). linked (log 10 js) ++ l) (row-links r ws)
      ∙ (sym (append_assoc (linked (log 10 js)) (linked (words r)) (linked ws))
      ∙ ap (λ (l : List ℕ). l ++ linked ws) (sym (links-append js (words r))))))

module _ (e : ℕ) where
  -- ---- the E rows of e

  closed_by : (b : Bool) (i : ℕ) (ms : List Mark) → closings ms ++ pick b (i ∷ []) [] ≡ closings (pick b (closed i) other ∷ ms)
  closed_by true i ms = refl
  closed_by false i ms = append-nil (closings ms)

  unclosed_by : (b : Bool) (m : Mark) (ms : List Mark) → closings (m ∷ ms) ≡ closings ms → closings ms ++ [] ≡ closings (pick b m other ∷ ms)
  unclosed_by true m ms h = append-nil (closings ms) ∙ sym h
  unclosed_by false m ms h = append-nil (closings ms)

  closing-row : (r : Row) (ms : List Mark) → closings ms ++ links_of 3 e (words r) ≡ closings (mark e r ∷ ms)
  closing-row (BytesRow bs) ms = append-nil (closings ms)
  closing-row (DeviceRow a) ms = append-nil (closings ms)
  closing-row (EndpointRow d n r) ms = append-nil (closings ms)
  closing-row (PacketRow s t) ms = append-nil (closings ms)
  closing-row (EventRow p c) ms = append-nil (closings ms)
  closing-row (TransactionRow r) ms = append-nil (closings ms)
  closing-row (GroupRow r) ms = append-nil (closings ms)
  closing-row (StateRow s) ms = append-nil (closings ms)
  closing-row (StateBytes ss) ms = append-nil (closings ms)
  closing-row (ItemRow g) ms = append-nil (closings ms)
  closing-row (T x t) ms = append-nil (closings ms)
  closing-row (G x t) ms = unclosed_by (eqb e x) started ms refl
  closing-row (D x t n) ms = append-nil (closings ms)
  closing-row (E x i) ms = closed_by (eqb e x) i ms
  closing-row (RequestRow r) ms = append-nil (closings ms)
  closing-row (Over x j) ms = unclosed_by (eqb e x) (ended j) ms refl

  pub closing-rows : (js : List Row) → links_of 3 e (log 10 js) ≡ closings (marks e js)
  closing-rows [] = refl
  closing-rows (r ∷ js) =
      links-append 3 e js (words r) ∙ (ap (λ (l : List ℕ). l ++ links_of 3 e (words r)) (closing-rows js) ∙ closing-row r (marks e js))

  -- ---- the G rows of e

  started_by : (b : Bool) (t : ℕ) (ms : List Mark) → starts ms + length (pick b (t ∷ []) []) ≡ starts (pick b started other ∷ ms)
  started_by true t ms = omega arith
  started_by false t ms = omega arith

  unstarted_by : (b : Bool) (m : Mark) (ms : List Mark) → starts (m ∷ ms) ≡ starts ms → starts ms + 0 ≡ starts (pick b m other ∷ ms)
  unstarted_by true m ms h = omega arith
  unstarted_by false m ms h = omega arith

  start-row : (r : Row) (ms : List Mark) → starts ms + length (links_of 1 e (words r)) ≡ starts (mark e r ∷ ms)
  start-row (BytesRow bs) ms = omega arith
  start-row (DeviceRow a) ms = omega arith
  start-row (EndpointRow d n r) ms = omega arith
  start-row (PacketRow s t) ms = omega arith
  start-row (EventRow p c) ms = omega arith
  start-row (TransactionRow r) ms = omega arith
  start-row (GroupRow r) ms = omega arith
  start-row (StateRow s) ms = omega arith
  start-row (StateBytes ss) ms = omega arith
  start-row (ItemRow g) ms = omega arith
  start-row (T x t) ms = omega arith
  start-row (G x t) ms = started_by (eqb e x) t ms
  start-row (D x t n) ms = omega arith
  start-row (E x i) ms = unstarted_by (eqb e x) (closed i) ms refl
  start-row (RequestRow r) ms = omega arith
  start-row (Over x j) ms = unstarted_by (eqb e x) (ended j) ms refl

  pub start-rows : (js : List Row) → length (links_of 1 e (log 10 js)) ≡ starts (marks e js)
  start-rows [] = refl
  start-rows (r ∷ js) =
      ap length (links-append 1 e js (words r))
      ∙ (length-append (links_of 1 e (log 10 js)) (links_of 1 e (words r))
      ∙ (ap (λ (n : ℕ). n + length (links_of 1 e (words r))) (start-rows js) ∙ start-row r (marks e js)))

  -- ---- items: the item that a closing row names is a row of the item log

  no-item_by : (b : Bool) (m : Mark) (ms : List Mark) → items (m ∷ ms) ≡ items ms → items ms + 0 ≡ items (pick b m other ∷ ms)
  no-item_by true m ms h = omega arith
  no-item_by false m ms h = omega arith

  item-row : (r : Row) (ms : List Mark) → items ms + length (pick (eqb (written r).0 9) (written r).1 []) ≡ items (mark e r ∷ ms)
  item-row (BytesRow bs) ms = omega arith
  item-row (DeviceRow a) ms = omega arith
  item-row (EndpointRow d n r) ms = omega arith
  item-row (PacketRow s t) ms = omega arith
  item-row (EventRow p c) ms = omega arith
  item-row (TransactionRow r) ms = omega arith
  item-row (GroupRow r) ms = omega arith
  item-row (StateRow s) ms = omega arith
  item-row (StateBytes ss) ms = omega arith
  item-row (ItemRow g) ms = omega arith
  item-row (T x t) ms = omega arith
  item-row (G x t) ms = no-item_by (eqb e x) started ms refl
  item-row (D x t n) ms = omega arith
  item-row (E x i) ms = no-item_by (eqb e x) (closed i) ms refl
  item-row (RequestRow r) ms = omega arith
  item-row (Over x j) ms = no-item_by (eqb e x) (ended j) ms refl

  pub item-rows : (js : List Row) → length (log 9 js) ≡ items (marks e js)
  item-rows [] = refl
  item-rows (r ∷ js) =
      length-append (log 9 js) (pick (eqb (written r).0 9) (written r).1 [])
      ∙ (ap (λ (n : ℕ). n + length (pick (eqb (written r).0 9) (written r).1 [])) (item-rows js) ∙ item-row r (marks e js))

-- of what every call keeps
module _ {js : List Row} {w : World} (s : Sound js w) where
  pub links-of : (e : ℕ) → ¬ (e ≡ 0) → OnLinks e js
  links-of e d =
      let h : OnMarks e js = on-marks s e d in
      record { standing = rw (start-rows e js, closing-rows e js) h.standing; ended = h.ended; closing = rw (closing-rows e js) h.closing; asserted = h.asserted; turned = h.turned }

  pub event-of : Quiet js w
  event-of = record { phases = l.quiet refl; endless = f.finished 0 (none (phase 0 w) (l.quiet refl)); unclosed = closing-rows 0 js ∙ f.unclosed refl }
    where
      l : Keeps js 0 s.c s.y (with_journal [] w)
      l = s.keeps 0

      f : Facts 0 (open_of (phase 0 w)) (wait_of (phase 0 w)) (w.endpoints 0).groups w.items (marks 0 js)
      f = l.facts

      none : (p : Phase) → p ≡ None → 0 ≡ length (closings (marks 0 js)) + extra (wait_of p)
      none p q = let h : closings (marks 0 js) ≡ [] = f.unclosed refl in rw (q, h)

-- ---- after every sequence of calls

pub on-links : {high : Bool} {js : List Row} {w : World} → Reach high js w → (e : ℕ) → ¬ (e ≡ 0) → OnLinks e js
on-links r = links-of (always r)

pub event-endpoint : {high : Bool} {js : List Row} {w : World} → Reach high js w → Quiet js w
event-endpoint r = event-of (always r)
