-- What the steps' functions lean on: memories that agree in each part are one, and the room that a step's parts have.
use Prim.Native.Nat.{ℕ, pred, ◌+◌, ◌*◌, ◌≤◌}
use native.Mathlib.Omega.{arith}
use mathlib.Core.Bool.{Bool, true, false}
use mathlib.Core.List.{List, [], ◌∷◌}
use mathlib.Core.Path.{◌≡◌, refl, ◌∙◌}
use lib.ListN.{length}
use lib.Seq.{sets, length-sets}
use Rattle.rules.specs.Rows.{grouping, group_words}
use Rattle.rows.specs.Widths.{group_width, link_width}
use Rattle.rows.specs.One.{one}
use Rattle.endpoints.specs.Link as kind
use Rattle.endpoints.specs.Phases.{waiting}
use Rattle.endpoints.specs.Each.{closing, cleared, next_states, state_bytes}
use Rattle.rules.specs.World.{more_groups}
use Rattle.update.specs.Update.{when}
use Rattle.write.specs.Memory.{Memory, Room, Numbers, memory, link_written, group_written, item_written, alter, start_group, last_number}
use Rattle.write.specs.declared.Written.{Written}

pub parts : {d d' : Written} {t t' g g' s s' m m' i i' l l' : List ℕ}
    → d ≡ d' → t ≡ t' → g ≡ g' → m ≡ m' → s ≡ s' → i ≡ i' → l ≡ l' → memory d t g m s i l ≡ memory d' t' g' m' s' i' l'
parts d t g m s i l = rw (d, t, g, s, m, i, l) refl

-- the table that an item after a start row sees
abbrev pub started : ℕ → ℕ → List ℕ → List ℕ
started n x t = next_states (alter x more_groups t) n x true

-- the room of a start's parts
module _ (n x : ℕ) (m : Memory) (r : Room (start_group n x m)) where
  pub room-groups : (m.written.groups + 1) * group_width ≤ length m.groups
  room-groups = omega (arith, r.groups, length-sets m.groups (m.written.groups * group_width) (group_words (grouping x (last_number x (alter x more_groups m.table)) true m.written.stamp)))

  pub room-states : m.written.states + 1 ≤ length m.states
  room-states = omega (arith, r.states, length-sets m.states m.written.states ((m.written.firsts.statebytes + m.written.statebytes) ∷ []))

  pub room-statebytes : m.written.statebytes + n ≤ length m.statebytes
  room-statebytes = omega (arith, r.statebytes, length-sets m.statebytes m.written.statebytes (state_bytes (started n x m.table) 0 n))

  pub room-items : m.written.items + 1 ≤ length m.items
  room-items = omega (arith, r.items, length-sets m.items m.written.items (pred (m.written.firsts.groups + (m.written.groups + 1)) ∷ []))

  -- the numbers before the start row, and behind it
  pub room-numbers : Numbers (link_written m.written)
  room-numbers = record { groups = omega (arith, r.numbers.groups); statebytes = omega (arith, r.numbers.statebytes); items = omega (arith, r.numbers.items) }

  room_row : Numbers (group_written n (link_written m.written))
  room_row = record { groups = r.numbers.groups; statebytes = r.numbers.statebytes; items = omega (arith, r.numbers.items) }

  abbrev linked : List ℕ
  linked = sets m.links (m.written.links * link_width) (kind.G ∷ x ∷ m.written.link ∷ 0 ∷ [])

  pub room-closing : (m.written.links + 1 + waiting (started n x m.table) n) * 4 ≤ length linked
  room-closing = rw (length-sets linked ((m.written.links + 1) * link_width) (closing (started n x m.table) (m.written.firsts.items + m.written.items) 0 n)) at r.links

  pub room-link : (m.written.links + 1) * link_width ≤ length m.links
  room-link = omega (arith, room-closing, length-sets m.links (m.written.links * link_width) (kind.G ∷ x ∷ m.written.link ∷ 0 ∷ []))

  -- the room of its item, over what the rows before it left
  pub room-item : {d₁ d₂ : Written} {t₁ t₂ l₁ : List ℕ} → d₁ ≡ link_written m.written → l₁ ≡ linked → t₁ ≡ alter x more_groups m.table → d₂ ≡ group_written n d₁ → t₂ ≡ next_states t₁ n x true
      → (d₂.items + 1 ≤ length m.items) × (((d₂.links + waiting t₂ n) * link_width ≤ length l₁) × Numbers d₂)
  room-item link-d link-l more row-d row-t = rw (row-d, row-t, more, link-d, link-l) (room-items, (room-closing, room_row))

-- a start by what each row left: the G row, the endpoint, the start row and the item
pub start_is : (n x : ℕ) (on : Bool) (a : Memory) {d₁ d₂ d₃ : Written} {t₁ t₂ t₃ g₂ s₂ m₂ i₃ l₁ l₃ : List ℕ} {nth : ℕ}
    → on ≡ true
    → d₁ ≡ link_written a.written
    → l₁ ≡ sets a.links (a.written.links * link_width) (kind.G ∷ x ∷ a.written.link ∷ 0 ∷ [])
    → t₁ ≡ alter x more_groups a.table
    → nth ≡ last_number x t₁
    → d₂ ≡ group_written n d₁
    → t₂ ≡ next_states t₁ n x true
    → g₂ ≡ sets a.groups (d₁.groups * group_width) (group_words (grouping x nth true d₁.stamp))
    → m₂ ≡ sets a.statebytes d₁.statebytes (state_bytes (next_states t₁ n x true) 0 n)
    → s₂ ≡ sets a.states d₁.states ((d₁.firsts.statebytes + d₁.statebytes) ∷ [])
    → d₃ ≡ item_written (waiting t₂ n) x d₂
    → t₃ ≡ cleared t₂ n
    → i₃ ≡ sets a.items d₂.items (pred (d₂.firsts.groups + d₂.groups) ∷ [])
    → l₃ ≡ sets l₁ (d₂.links * link_width) (closing t₂ (d₂.firsts.items + d₂.items) 0 n)
    → memory d₃ t₃ g₂ m₂ s₂ i₃ l₃ ≡ when on (start_group n x) a
start_is n x on a taken link-d link-l more nth row-d row-t row-g row-m row-s item-d item-t item-i item-l =
    rw taken
    (parts (item-d ∙ rw (row-t, row-d, more, link-d) refl)
    (item-t ∙ rw (row-t, more) refl)
    (row-g ∙ rw (link-d, nth, more) refl)
    (row-m ∙ rw (link-d, more) refl)
    (row-s ∙ rw link-d refl)
    (item-i ∙ rw (row-d, link-d) refl)
    (item-l ∙ rw (row-d, row-t, link-d, link-l, more) refl))
