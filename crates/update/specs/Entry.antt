-- Inner (cited by private contracts alone): what an update leaves of the endpoint's own entry, of the others and of the transaction; proved to be what `act`
-- leaves of them (proofs/After.antt).
use Rattle.std.specs.Prelude.{ℕ, ◌+◌, ◌%◌, ◌^◌, Bool, true, false, ◌||◌, ◌==◌}
use Rattle.transaction.specs.declared.Transaction.{Transaction}
use Rattle.endpoints.specs.States.{next_state}
use Rattle.endpoints.specs.Table.{with_phase, with_state, make_endpoint}
use Rattle.endpoints.specs.Word as word
use Rattle.endpoints.specs.declared.Endpoint.{Endpoint}
use Rattle.endpoints.specs.declared.Phase.TheVariants.{Early, Ended}
use Rattle.rules.specs.World.{◌▷◌, event_ep, more_transactions, more_groups, with_last, cleared, with_link}
use Rattle.rules.specs.Groups.{close_phase, activated}
use Rattle.update.specs.Update.{when}
use Rattle.update.specs.declared.Update.{Update}
use Rattle.update.specs.declared.Then.{Then}
use Rattle.update.specs.declared.Then.TheVariants.{Keep, Begin, BeginFailed, Last, BeginEarly}

-- ---- the endpoint itself

abbrev pub over_entry : Endpoint → Endpoint
over_entry e = with_phase Ended e

abbrev pub end_entry : Endpoint → Endpoint
end_entry e = e ▷ with_phase Ended ▷ with_state word.Ending

abbrev pub ended_entry : Endpoint → Endpoint
ended_entry e = e ▷ cleared ▷ end_entry

abbrev pub close_entry : Endpoint → Endpoint
close_entry e = with_phase (close_phase e.phase) e

abbrev pub start_entry : Endpoint → Endpoint
start_entry e = e ▷ more_groups ▷ with_state word.Starting ▷ close_entry

abbrev pub become_entry : Then → ℕ → Endpoint → Endpoint
become_entry Keep pid e = e
become_entry Begin pid e = activated true pid e
become_entry BeginFailed pid e = activated false pid e
become_entry Last pid e = with_last pid e
become_entry BeginEarly pid e = with_phase Early e

-- by a transaction with the token pid
unfoldable pub entry_after : Update → ℕ → Endpoint → Endpoint
entry_after u pid e =
    e ▷ when u.over over_entry
    ▷ when u.cut end_entry
    ▷ when u.link more_transactions
    ▷ when u.start start_entry
    ▷ become_entry u.group pid
    ▷ when u.end ended_entry
    ▷ when u.item close_entry

-- ---- the same in words: it is decided before its room is known, so a count that would pass 2^64 - 1 goes on at 0 there

-- the entry with these counts
abbrev pub counted : ℕ → ℕ → Endpoint → Endpoint
counted a b e = make_endpoint e.device e.address e.phase e.state a b e.total e.first e.done e.last e.success e.ready e.setup
    e.payload e.pending e.pendinglength e.pendinglink

-- a count, one more where `on`
abbrev pub more : Bool → ℕ → ℕ
more on n = when on (λ k. (k + 1) % 2 ^ 64) n

abbrev pub link_words : Bool → Endpoint → Endpoint
link_words on e = counted (more on e.transactions) e.groups (when on more_transactions e)

abbrev pub start_words : Bool → Endpoint → Endpoint
start_words on e = counted e.transactions (more on e.groups) (when on start_entry e)

abbrev pub words_after : Update → ℕ → Endpoint → Endpoint
words_after u pid e = counted (more u.link e.transactions) (more u.start e.groups) (entry_after u pid e)

-- ---- another endpoint: its state in each row of endpoint x, and its group, if it waits, closed by an item

abbrev pub row_entry : ℕ → Bool → Endpoint → Endpoint
row_entry x start e = with_state (next_state false (x == event_ep) start e.state) e

abbrev pub start_other : ℕ → Endpoint → Endpoint
start_other x e = e ▷ row_entry x true ▷ close_entry

unfoldable pub other_after : Update → ℕ → Endpoint → Endpoint
other_after u x e =
    e ▷ when u.cut (row_entry x false)
    ▷ when u.start (start_other x)
    ▷ when u.end (row_entry x false)
    ▷ when u.item close_entry

-- ---- the transaction, whose endpoint has `next` T rows, and the endpoint of the last item

abbrev pub transaction_after : Update → ℕ → Transaction → Transaction
transaction_after u next t = when u.link (with_link next) t

abbrev pub item_after : Update → ℕ → ℕ → ℕ
item_after u x last = last ▷ when u.start (λ y. x) ▷ when u.item (λ y. x)
