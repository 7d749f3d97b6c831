-- Inner (cited by private contracts alone): what a call does to the groups of one endpoint, decided from few values; and what is meant by it, as the rules'
-- own steps.
use Rattle.std.specs.Prelude.{ℕ, Bool, true, false, not, ◌&&◌, ◌||◌, ◌==◌}
use Rattle.transaction.specs.Table.{pick}
use Rattle.transaction.specs.Payload.{start_pid}
use Rattle.transaction.specs.declared.Transaction.{Transaction}
use Rattle.endpoints.specs.Table.{with_phase}
use Rattle.endpoints.specs.declared.Endpoint.{Endpoint}
use Rattle.endpoints.specs.declared.Phase.{Phase}
use Rattle.endpoints.specs.declared.Phase.TheVariants.{None, Early, Active, Ended}
use Rattle.group.specs.declared.GroupStatus.{GroupStatus}
use Rattle.group.specs.declared.GroupStatus.TheVariants.{Single, New, Continue, Retry, Done, Invalid}
use Rattle.rules.specs.World.{World, ◌▷◌, change, with_last, cleared}
use Rattle.rules.specs.Groups.{over, add_group_entry, link, push_group, add_item, activate, starts_early, undecided}
use Rattle.update.specs.declared.Update.{Update}
use Rattle.update.specs.declared.Then.{Then}
use Rattle.update.specs.declared.Then.TheVariants.{Keep, Begin, BeginFailed, Last, BeginEarly}

-- ---- decided, as the functions of decoder.rs go

-- no row but perhaps a T row
abbrev pub links : Bool → Then → Update
links l g = record { over = false; cut = false; link = l; start = false; group = g; end = false; item = false }

-- add_group, after the end of an early group or of an active one
abbrev pub adds : Bool → Bool → Bool → Then → Update
adds o c linked g = record { over = o; cut = c; link = not linked; start = true; group = g; end = false; item = false }

-- group_start
abbrev pub starts : Then → Phase → Bool → Update
starts g None linked = adds false false linked g
starts g Early linked = links false g
starts g Active linked = adds false true linked g
starts g Ended linked = adds false false linked g

-- group_append: `onward` where a group is active
abbrev pub appends : Then → Then → Phase → Bool → Update
appends g onward None linked = starts g None linked
appends g onward Early linked = starts g Early linked
appends g onward Active linked = links (not linked) onward
appends g onward Ended linked = starts g Ended linked

-- group_end: an item only where the last one was another endpoint's; a group that starts now has its own
abbrev pub ends : Bool → Update → Update
ends same u = record { over = u.over; cut = u.cut; link = u.link; start = u.start; group = u.group; end = true; item = not u.start && not same }

-- group_update: by what group_status says, the endpoint's phase, whether the transaction has its T row, whether the last item was this endpoint's
abbrev pub decide_update : GroupStatus → Phase → Bool → Bool → Update
decide_update Single p linked same = ends same (starts Begin p linked)
decide_update New p linked same = starts Begin p linked
decide_update Continue p linked same = appends Begin Last p linked
decide_update Retry p linked same = appends BeginFailed Keep p linked
decide_update Done p linked same = ends same (appends Begin Last p linked)
decide_update Invalid p linked same = ends same (starts BeginFailed p linked)

-- group_early_start, where a group starts early
abbrev pub early : Phase → Bool → Update
early None linked = adds false false linked BeginEarly
early Early linked = adds true false linked BeginEarly
early Active linked = adds false true linked BeginEarly
early Ended linked = adds false false linked BeginEarly

abbrev pub decide_early_start : ℕ → Phase → Bool → Update
decide_early_start pid p linked = pick (starts_early pid p) (early p linked) (links false Keep)

-- group_early_append, of the transaction and its endpoint's entry
abbrev pub decide_early_append : Transaction → Endpoint → Update
decide_early_append t e = links (pick (t.endpoint == 0 || undecided e) false (not t.linked)) Keep

-- transaction_update, where a suspended transaction is resumed
abbrev pub decide_resume : Update
decide_resume = links true Keep

-- ---- done

abbrev pub when : {A : Type 0} → Bool → (A → A) → A → A
when true f a = f a
when false f a = a

-- a group's end, and its end row
abbrev pub end_row : ℕ → World → World
end_row x w = w ▷ over x ▷ add_group_entry x false

-- group_end's own: the payload is cleared
abbrev pub end_group : ℕ → World → World
end_group x w = w ▷ change x cleared ▷ end_row x

-- a G row, a start row and an item
abbrev pub start_group : ℕ → World → World
start_group x w = w ▷ (λ v. push_group x v.transaction.link v) ▷ add_group_entry x true ▷ add_item x

abbrev pub become : Then → ℕ → World → World
become Keep x w = w
become Begin x w = activate true x w
become BeginFailed x w = activate false x w
become Last x w = change x (with_last (start_pid w.transaction.style)) w
become BeginEarly x w = change x (with_phase Early) w

abbrev pub act : Update → ℕ → World → World
act u x w =
    w ▷ when u.over (over x)
    ▷ when u.cut (end_row x)
    ▷ when u.link (link x)
    ▷ when u.start (start_group x)
    ▷ become u.group x
    ▷ when u.end (end_group x)
    ▷ when u.item (add_item x)
