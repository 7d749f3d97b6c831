-- Laws (proved): the end of all active groups (rules, end_all_active) on memory; and who waits, in the world and in the table that holds it.
use Rattle.std.specs.Prelude.{ℕ, zero, suc, pred, ◌+◌, ◌<◌, ◌≤◌, Bool, true, false, List, [], ◌++◌, ◌≡◌, refl, eqb}
use Rattle.std.proofs.Common.{arith, append-nil, sym, ap, ◌∙◌}
use Rattle.transaction.specs.Table.{pick}
use Rattle.endpoints.specs.Phases as phases
use Rattle.endpoints.specs.Phases.{in_phase, waiting}
use Rattle.endpoints.specs.Each.{ended}
use Rattle.endpoints.proofs.PhasesLaws.{count_ext, phase-entry, length-ended, entry-ended, after_event}
use Rattle.endpoints.specs.Table.{entry_at}
use Rattle.endpoints.specs.declared.Endpoint.{Endpoint}
use Rattle.endpoints.specs.declared.Phase.{Phase}
use Rattle.endpoints.specs.declared.Phase.TheVariants.{None, Early, Active, Ended}
use Rattle.rules.specs.Rows.{Row, log}
use Rattle.rules.specs.World.{World, is_ended, ended_in, waiting_of}
use Rattle.rules.specs.Decoder.{end_phase, over_row, over_rows, end_all_active}
use Rattle.write.proofs.Holds.{Holds}
use Rattle.write.proofs.HoldsLaws.{keep}
use Rattle.write.specs.Memory.{Memory}
use Rattle.write_event.specs.Rows.{all_ended}

-- ---- what is ended goes to no log

no_words : (b : Bool) (ws : List ℕ) → ws ++ pick b [] [] ≡ ws
no_words true ws = append-nil ws
no_words false ws = append-nil ws

pub over-log : (k n : ℕ) (f : ℕ → Endpoint) (js : List Row) → log k (over_rows n f js) ≡ log k js
over-log k zero f js = refl
over-log k (suc n) f js = by (f n).phase ∙ over-log k n f js
  where
    by : (p : Phase) → log k (over_row p n (pred (f n).groups) (over_rows n f js)) ≡ log k (over_rows n f js)
    by None = refl
    by Early = refl
    by Active = no_words (eqb 12 k) _
    by Ended = refl

same_end : (p : Phase) → after_event p ≡ end_phase p
same_end None = refl
same_end Early = refl
same_end Active = refl
same_end Ended = refl

pub ended-holds : {n id pid : ℕ} {m₀ m : Memory} {w : World} → Holds n id pid m₀ w m → n ≤ 128 → Holds n id pid m₀ (end_all_active w) (all_ended n m)
ended-holds {n} {id} {pid} {m₀} {m} {w} h few =
    record {
      sized = length-ended m.table n ∙ h.sized;
      stamp = h.stamp;
      context = h.context;
      count = h.count;
      endpoints = λ j hj. entry-ended m.table n j (omega (arith, h.sized)) hj ∙ rw (h.endpoints j hj, same_end (w.endpoints j).phase) refl;
      row = h.row;
      began = h.began;
      linked = h.linked;
      link = h.link;
      last_item = h.last_item;
      group_count = h.group_count;
      state_byte_count = h.state_byte_count;
      item_count = h.item_count;
      groups = keep h.groups _ (over-log 6 w.count w.endpoints w.journal);
      statebytes = keep h.statebytes _ (over-log 7 w.count w.endpoints w.journal);
      states = keep h.states _ (over-log 8 w.count w.endpoints w.journal);
      items = keep h.items _ (over-log 9 w.count w.endpoints w.journal);
      links = keep h.links _ (over-log 10 w.count w.endpoints w.journal);
    }

-- ---- who waits

-- a table that has the world's entries has as many that wait
pub waiting-entries : (t : List ℕ) (n : ℕ) (w : World) → w.count ≡ n → ((j : ℕ) → j < n → entry_at t j ≡ w.endpoints j) → waiting t n ≡ waiting_of w
waiting-entries t n w c h =
    count_ext n (ended_in w.endpoints) (in_phase 3 t) 0 (λ j u v. phase-entry t j 3 (omega arith) (omega arith) ∙ ap (λ (e : Endpoint). is_ended e.phase) (h j (omega arith)))
    ∙ ap (λ (k : ℕ). phases.count (ended_in w.endpoints) 0 k) (sym c)

pub waiting-held : {n id pid : ℕ} {m₀ m : Memory} {w : World} → Holds n id pid m₀ w m → waiting m.table n ≡ waiting_of w
waiting-held {n} {m = m} {w = w} h = waiting-entries m.table n w h.count h.endpoints

-- after the end of all active groups
pub waiting-all-ended : {n id pid : ℕ} {m₀ m : Memory} {w : World} → Holds n id pid m₀ w m → n ≤ 128 → waiting (ended m.table n) n ≡ waiting_of (end_all_active w)
waiting-all-ended h few = waiting-held (ended-holds h few)
