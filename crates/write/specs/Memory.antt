-- Inner (cited by private contracts alone): what a call writes on: how many rows there are, the endpoint table and the five logs of groups; and what each step
-- of the rules does to them.
-- `sets l i vs` (lib.Seq) is the list l with vs stored from place i on, so each log is said byte for byte.
use Rattle.std.specs.Prelude.{ℕ, pred, ◌+◌, ◌*◌, ◌^◌, ◌<◌, ◌≤◌, Bool, true, false, List, [], ◌∷◌, ◌≡◌, length}
use Rattle.std.proofs.lemmas.List.Edits.{sets}
use Rattle.rows.specs.Widths.{group_width, link_width}
use Rattle.endpoints.specs.Link as kind
use Rattle.endpoints.specs.Phases.{waiting}
use Rattle.endpoints.specs.Each.{closing, cleared as unwaited, next_states, state_bytes}
use Rattle.endpoints.specs.Table.{entry_at, store_at, with_phase}
use Rattle.endpoints.specs.declared.Endpoint.{Endpoint}
use Rattle.endpoints.specs.declared.Phase.TheVariants.{Ended}
use Rattle.rules.specs.Rows.{grouping, group_words}
use Rattle.rules.specs.World.{◌▷◌, more_transactions, more_groups, cleared}
use Rattle.write.specs.declared.Written.{Written}

pub record Memory : Type 0 where
  pub written : Written
  pub table : List ℕ
  pub groups : List ℕ
  pub statebytes : List ℕ
  pub states : List ℕ
  pub items : List ℕ
  pub links : List ℕ

abbrev pub memory : Written → List ℕ → List ℕ → List ℕ → List ℕ → List ℕ → List ℕ → Memory
memory d t g m s i l = record { written = d; table = t; groups = g; statebytes = m; states = s; items = i; links = l }

-- ---- the tally

-- a group row, its state row and n state bytes
abbrev pub group_written : ℕ → Written → Written
group_written n d = record { stamp = d.stamp; firsts = d.firsts; groups = d.groups + 1; statebytes = d.statebytes + n; states = d.states + 1; items = d.items; links = d.links; last = d.last; linked = d.linked; link = d.link }

-- an item of endpoint x, which closes k groups
abbrev pub item_written : ℕ → ℕ → Written → Written
item_written k x d = record { stamp = d.stamp; firsts = d.firsts; groups = d.groups; statebytes = d.statebytes; states = d.states; items = d.items + 1; links = d.links + k; last = x; linked = d.linked; link = d.link }

abbrev pub link_written : Written → Written
link_written d = record { stamp = d.stamp; firsts = d.firsts; groups = d.groups; statebytes = d.statebytes; states = d.states; items = d.items; links = d.links + 1; last = d.last; linked = d.linked; link = d.link }

-- ep_transaction_id = Some(i)
abbrev pub tied : ℕ → Written → Written
tied i d = record { stamp = d.stamp; firsts = d.firsts; groups = d.groups; statebytes = d.statebytes; states = d.states; items = d.items; links = d.links; last = d.last; linked = true; link = i }

-- ---- rows

-- add_group_entry with add_endpoint_state, of endpoint x and its group nth
abbrev pub group_row : ℕ → ℕ → ℕ → Bool → Memory → Memory
group_row n x nth start m =
    record {
      written = group_written n m.written;
      table = next_states m.table n x start;
      groups = sets m.groups (m.written.groups * group_width) (group_words (grouping x nth start m.written.stamp));
      statebytes = sets m.statebytes m.written.statebytes (state_bytes (next_states m.table n x start) 0 n);
      states = sets m.states m.written.states ((m.written.firsts.statebytes + m.written.statebytes) ∷ []);
      items = m.items;
      links = m.links;
    }

-- add_item: the last group row's item, and an E row for each endpoint that waits
abbrev pub item_row : ℕ → ℕ → Memory → Memory
item_row n x m =
    record {
      written = item_written (waiting m.table n) x m.written;
      table = unwaited m.table n;
      groups = m.groups;
      statebytes = m.statebytes;
      states = m.states;
      items = sets m.items m.written.items (pred (m.written.firsts.groups + m.written.groups) ∷ []);
      links = sets m.links (m.written.links * link_width) (closing m.table (m.written.firsts.items + m.written.items) 0 n);
    }

-- a T, G or D row
abbrev pub link_row : ℕ → ℕ → ℕ → ℕ → Memory → Memory
link_row k x a b m =
    record {
      written = link_written m.written;
      table = m.table;
      groups = m.groups;
      statebytes = m.statebytes;
      states = m.states;
      items = m.items;
      links = sets m.links (m.written.links * link_width) (k ∷ x ∷ a ∷ b ∷ []);
    }

-- ---- one endpoint's entry

abbrev pub alter : ℕ → (Endpoint → Endpoint) → List ℕ → List ℕ
alter x f t = store_at t x (f (entry_at t x))

abbrev pub altered : ℕ → (Endpoint → Endpoint) → Memory → Memory
altered x f m = record { written = m.written; table = alter x f m.table; groups = m.groups; statebytes = m.statebytes; states = m.states; items = m.items; links = m.links }

-- ---- steps of several, as in rules (Groups) and update

abbrev pub with_written : (Written → Written) → Memory → Memory
with_written f m = record { written = f m.written; table = m.table; groups = m.groups; statebytes = m.statebytes; states = m.states; items = m.items; links = m.links }

-- the number of an endpoint's last group
abbrev pub last_number : ℕ → List ℕ → ℕ
last_number x t = pred (entry_at t x).groups

-- a row of the endpoint's last group
abbrev pub entry_row : ℕ → ℕ → Bool → Memory → Memory
entry_row n x start m = group_row n x (last_number x m.table) start m

-- a group's end, and its end row
abbrev pub end_row : ℕ → ℕ → Memory → Memory
end_row n x m = m ▷ altered x (with_phase Ended) ▷ entry_row n x false

-- the T row of transaction id
abbrev pub link_step : ℕ → ℕ → Memory → Memory
link_step x id m =
    m ▷ link_row kind.T x id 0
    ▷ with_written (tied (entry_at m.table x).transactions)
    ▷ altered x more_transactions

-- a G row, a start row and an item
abbrev pub start_group : ℕ → ℕ → Memory → Memory
start_group n x m =
    m ▷ link_row kind.G x m.written.link 0
    ▷ altered x more_groups
    ▷ entry_row n x true
    ▷ item_row n x

-- ---- room

-- the numbers of the next rows are words
pub record Numbers (d : Written) : Type 0 where
  pub groups : d.firsts.groups + d.groups < 2 ^ 64
  pub statebytes : d.firsts.statebytes + d.statebytes < 2 ^ 64
  pub items : d.firsts.items + d.items < 2 ^ 64

-- the rows fit their logs
pub record Room (m : Memory) : Type 0 where
  pub groups : m.written.groups * group_width ≤ length m.groups
  pub statebytes : m.written.statebytes ≤ length m.statebytes
  pub states : m.written.states ≤ length m.states
  pub items : m.written.items ≤ length m.items
  pub links : m.written.links * link_width ≤ length m.links
  pub numbers : Numbers m.written

-- ---- a step f over some of the logs, whatever the others hold: what stands after it is f of what stood before

abbrev pub OnGroups : (Memory → Memory) → Written → List ℕ → List ℕ → List ℕ → List ℕ → Written → List ℕ → List ℕ → List ℕ → List ℕ → Type 0
OnGroups f d t g m s d' t' g' m' s' = (i l : List ℕ) → memory d' t' g' m' s' i l ≡ f (memory d t g m s i l)

abbrev pub OnItems : (Memory → Memory) → Written → List ℕ → List ℕ → List ℕ → Written → List ℕ → List ℕ → List ℕ → Type 0
OnItems f d t i l d' t' i' l' = (g m s : List ℕ) → memory d' t' g m s i' l' ≡ f (memory d t g m s i l)

abbrev pub OnLinks : (Memory → Memory) → Written → List ℕ → List ℕ → Written → List ℕ → List ℕ → Type 0
OnLinks f d t l d' t' l' = (g m s i : List ℕ) → memory d' t' g m s i l' ≡ f (memory d t g m s i l)

abbrev pub OnTable : (Memory → Memory) → List ℕ → List ℕ → Type 0
OnTable f t t' = (d : Written) (g m s i l : List ℕ) → memory d t' g m s i l ≡ f (memory d t g m s i l)
