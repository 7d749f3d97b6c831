-- What is decided suits the phase that it was decided from; so its tally is right.
use mathlib.Core.Path.{◌≡◌, refl, subst, sym}
use mathlib.Core.Bool.{Bool, true, false, ◌||◌, not}
use Prim.Native.Nat.{ℕ, ◌<◌}
use lib.Dec.{eqb}
use Rattle.transaction.specs.Table.{pick}
use Rattle.endpoints.specs.declared.Phase.{Phase}
use Rattle.endpoints.specs.declared.Phase.TheVariants.{None, Early, Active, Ended}
use Rattle.group.specs.declared.GroupStatus.{GroupStatus}
use Rattle.group.specs.declared.GroupStatus.TheVariants.{Single, New, Continue, Retry, Done, Invalid}
use Rattle.rules.specs.World.{World, phase}
use Rattle.rules.specs.Groups.{group_step, group_early_start, group_early_append, starts_early}
use Rattle.update.specs.Update.{links, starts, appends, ends, decide_update, early, decide_early_start, decide_early_append, act}
use Rattle.tally.specs.Tally.{tally_update, Adds, Suits}
use Rattle.update.specs.declared.Update.{Update}
use Rattle.update.specs.declared.Then.{Then}
use Rattle.update.specs.declared.Then.TheVariants.{Keep, Begin, BeginFailed, Last}
use Rattle.tally.specs.declared.add.Tally.{Tally}
use Rattle.update.proofs.Decided.{update-is, early-start-is, early-append-is}
use Rattle.tally.proofs.Added.{act-adds}

-- a link alone
pub suits-links : (l : Bool) (p : Phase) → Suits (links l Keep) p
suits-links l None = record { over = refl; cut = refl; group = refl; end = refl }
suits-links l Early = record { over = refl; cut = refl; group = refl; end = refl }
suits-links l Active = record { over = refl; cut = refl; group = refl; end = refl }
suits-links l Ended = record { over = refl; cut = refl; group = refl; end = refl }

suits-early : (p : Phase) (l : Bool) → Suits (early p l) p
suits-early None l = record { over = refl; cut = refl; group = refl; end = refl }
suits-early Early l = record { over = refl; cut = refl; group = refl; end = refl }
suits-early Active l = record { over = refl; cut = refl; group = refl; end = refl }
suits-early Ended l = record { over = refl; cut = refl; group = refl; end = refl }

pub suits_update : (s : GroupStatus) (p : Phase) (l same : Bool) → Suits (decide_update s p l same) p
suits_update Single None l same = record { over = refl; cut = refl; group = refl; end = refl }
suits_update Single Early l same = record { over = refl; cut = refl; group = refl; end = refl }
suits_update Single Active l same = record { over = refl; cut = refl; group = refl; end = refl }
suits_update Single Ended l same = record { over = refl; cut = refl; group = refl; end = refl }
suits_update New None l same = record { over = refl; cut = refl; group = refl; end = refl }
suits_update New Early l same = record { over = refl; cut = refl; group = refl; end = refl }
suits_update New Active l same = record { over = refl; cut = refl; group = refl; end = refl }
suits_update New Ended l same = record { over = refl; cut = refl; group = refl; end = refl }
suits_update Continue None l same = record { over = refl; cut = refl; group = refl; end = refl }
suits_update Continue Early l same = record { over = refl; cut = refl; group = refl; end = refl }
suits_update Continue Active l same = record { over = refl; cut = refl; group = refl; end = refl }
suits_update Continue Ended l same = record { over = refl; cut = refl; group = refl; end = refl }
suits_update Retry None l same = record { over = refl; cut = refl; group = refl; end = refl }
suits_update Retry Early l same = record { over = refl; cut = refl; group = refl; end = refl }
suits_update Retry Active l same = record { over = refl; cut = refl; group = refl; end = refl }
suits_update Retry Ended l same = record { over = refl; cut = refl; group = refl; end = refl }
suits_update Done None l same = record { over = refl; cut = refl; group = refl; end = refl }
suits_update Done Early l same = record { over = refl; cut = refl; group = refl; end = refl }
suits_update Done Active l same = record { over = refl; cut = refl; group = refl; end = refl }
suits_update Done Ended l same = record { over = refl; cut = refl; group = refl; end = refl }
suits_update Invalid None l same = record { over = refl; cut = refl; group = refl; end = refl }
suits_update Invalid Early l same = record { over = refl; cut = refl; group = refl; end = refl }
suits_update Invalid Active l same = record { over = refl; cut = refl; group = refl; end = refl }
suits_update Invalid Ended l same = record { over = refl; cut = refl; group = refl; end = refl }

pub suits-early-start : (pid : ℕ) (p : Phase) (l : Bool) → Suits (decide_early_start pid p l) p
suits-early-start pid p l = by (starts_early pid p)
  where
    by : (b : Bool) → Suits (pick b (early p l) (links false Keep)) p
    by true = suits-early p l
    by false = suits-links false p

-- group_update, group_early_start and group_early_append add the rows of what is decided
module _ {t : Tally} {w₀ w : World} (a : Adds t w₀ w) where
  pub update-adds : (s : GroupStatus) (x : ℕ) → x < w.count
      → Adds (tally_update (decide_update s (phase x w) w.transaction.linked (eqb w.last_item x)) w.count t) w₀ (group_step s x w)
  update-adds s x h = rw (update-is s x w) (act-adds _ x h (suits_update s (phase x w) w.transaction.linked (eqb w.last_item x)) a)

  pub early-start-adds : (pid x : ℕ) → x < w.count
      → Adds (tally_update (decide_early_start pid (phase x w) w.transaction.linked) w.count t) w₀ (group_early_start pid x w)
  early-start-adds pid x h = rw (early-start-is pid x w) (act-adds _ x h (suits-early-start pid (phase x w) w.transaction.linked) a)

  pub early-append-adds : w.transaction.endpoint < w.count
      → Adds (tally_update (decide_early_append w.transaction (w.endpoints w.transaction.endpoint)) w.count t) w₀ (group_early_append w)
  early-append-adds h = rw (early-append-is w) (act-adds _ w.transaction.endpoint h (suits-links _ (phase w.transaction.endpoint w)) a)
