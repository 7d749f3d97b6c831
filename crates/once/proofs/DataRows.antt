-- An endpoint's D rows in the link log are those of the history.
use Prim.Native.Nat.{ℕ}
use mathlib.Core.Bool.{Bool, true, false}
use mathlib.Core.List.{List, [], ◌∷◌, ◌++◌, append-nil, append_assoc}
use mathlib.Core.Path.{◌≡◌, refl, sym, ap, ◌∙◌}
use lib.Dec.{eqb}
use Rattle.transaction.specs.Table.{pick}
use Rattle.rules.specs.Rows.{Row, BytesRow, DeviceRow, EndpointRow, PacketRow, EventRow, TransactionRow, GroupRow, StateRow, StateBytes, ItemRow, T, G, D, E, RequestRow, Over, written, log}
use Rattle.ledger.proofs.Account.{with_row, data_rows}
use Rattle.once.specs.Once.{totals_before}

-- a row's words in the link log
abbrev words : Row → List ℕ
words r = pick (eqb (written r).0 10) (written r).1 []

module _ (e : ℕ) where
  four : (b : Bool) (d : ℕ) (ws : List ℕ) → pick b (d ∷ totals_before e ws) (totals_before e ws) ≡ pick b (d ∷ []) [] ++ totals_before e ws
  four true d ws = refl
  four false d ws = refl

  row-totals : (r : Row) (ws : List ℕ) → totals_before e (words r ++ ws) ≡ totals_before e (words r) ++ totals_before e ws
  row-totals (BytesRow bs) ws = refl
  row-totals (DeviceRow a) ws = refl
  row-totals (EndpointRow d n r) ws = refl
  row-totals (PacketRow s t) ws = refl
  row-totals (EventRow p c) ws = refl
  row-totals (TransactionRow r) ws = refl
  row-totals (GroupRow r) ws = refl
  row-totals (StateRow s) ws = refl
  row-totals (StateBytes ss) ws = refl
  row-totals (ItemRow g) ws = refl
  row-totals (T x t) ws = refl
  row-totals (G x t) ws = refl
  row-totals (D x t n) ws = four (eqb e x) n ws
  row-totals (E x i) ws = refl
  row-totals (RequestRow r) ws = refl
  row-totals (Over x j) ws = refl

  totals-append : (js : List Row) (ws : List ℕ) → totals_before e (log 10 js ++ ws) ≡ totals_before e (log 10 js) ++ totals_before e ws
  totals-append [] ws = refl
  totals-append (r ∷ js) ws =
      ap (totals_before e) (append_assoc (log 10 js) (words r) ws)
      ∙ (totals-append js (words r ++ ws)
      ∙ (ap (λ (l : List ℕ). totals_before e (log 10 js) ++ l) (row-totals r ws)
      ∙ (sym (append_assoc (totals_before e (log 10 js)) (totals_before e (words r)) (totals_before e ws))
      ∙ ap (λ (l : List ℕ). l ++ totals_before e ws) (sym (totals-append js (words r))))))

  added : (b : Bool) (n : ℕ) (ns : List ℕ) → ns ++ pick b (n ∷ []) [] ≡ pick b (ns ++ (n ∷ [])) ns
  added true n ns = refl
  added false n ns = append-nil ns

  row_is : (r : Row) (ns : List ℕ) → ns ++ totals_before e (words r) ≡ with_row e r ns
  row_is (BytesRow bs) ns = append-nil ns
  row_is (DeviceRow a) ns = append-nil ns
  row_is (EndpointRow d n r) ns = append-nil ns
  row_is (PacketRow s t) ns = append-nil ns
  row_is (EventRow p c) ns = append-nil ns
  row_is (TransactionRow r) ns = append-nil ns
  row_is (GroupRow r) ns = append-nil ns
  row_is (StateRow s) ns = append-nil ns
  row_is (StateBytes ss) ns = append-nil ns
  row_is (ItemRow g) ns = append-nil ns
  row_is (T x t) ns = append-nil ns
  row_is (G x t) ns = append-nil ns
  row_is (D x t n) ns = added (eqb e x) n ns
  row_is (E x i) ns = append-nil ns
  row_is (RequestRow r) ns = append-nil ns
  row_is (Over x j) ns = append-nil ns

  pub data-rows : (js : List Row) → totals_before e (log 10 js) ≡ data_rows e js
  data-rows [] = refl
  data-rows (r ∷ js) = totals-append js (words r) ∙ (ap (λ (l : List ℕ). l ++ totals_before e (words r)) (data-rows js) ∙ row_is r (data_rows e js))
