-- What the end of a transaction asks of its parts and what they make of memory, over plain variables.
use Prim.Native.Nat.{ℕ, ◌+◌, ◌^◌, ◌<◌, ◌≤◌}
use native.Mathlib.Omega.{arith}
use mathlib.Core.Bool.{Bool, true, false}
use mathlib.Core.List.{List}
use mathlib.Core.Path.{◌≡◌, sym, ap, ◌∙◌, subst}
use Rattle.rows.specs.One.{one}
use Rattle.endpoints.specs.Each.{ended}
use Rattle.endpoints.specs.Table.{entry_at, store_at}
use Rattle.endpoints.proofs.TableLaws.{load_store_same}
use Rattle.endpoints.specs.declared.Endpoint.{Endpoint}
use Rattle.update.specs.Update.{when}
use Rattle.write.specs.Memory.{Memory, Room, memory}
use Rattle.write_update.specs.Carried.{carried}
use Rattle.plan.specs.Sound.{linked, started}
use Rattle.plan.specs.declared.Ending.{Ending}
use Rattle.write_event.specs.Rows.{all_ended}
use Rattle.events.specs.Ended.{closed_on, ended_memory, all_settled, settled_memory, Endable}

when_on : (b : Bool) (f : Memory → Memory) (m : Memory) → b ≡ true → when b f m ≡ f m
when_on b f m e = rw e

-- memory with another table
abbrev pub on_table : List ℕ → Memory → Memory
on_table t m = memory m.written t m.groups m.statebytes m.states m.items m.links

module _ (e : Ending) (n id pid : ℕ) (m : Memory) (a : Endable e n id pid m) (on : e.ends ≡ true) where
  pub store_asks : e.old < 128
  store_asks = omega (arith, a.there, a.few)

  ends : ended_memory e n id pid m ≡ closed_on e.old e.end n id pid m
  unfolding ended_memory
  ends = when_on e.ends (closed_on e.old e.end n id pid) m on

  module _ (t : List ℕ) (s : t ≡ store_at m.table e.old e.end.entry) where
    entry-is : entry_at t e.old ≡ e.end.entry
    entry-is = ap (λ (l : List ℕ). entry_at l e.old) s ∙ load_store_same m.table e.old e.end.entry a.sized store_asks a.bytes

    pub carry-asks : (n ≤ 128) × ((e.old < n) × (((entry_at t e.old).transactions + one e.end.update.link < 2 ^ 64) × (((entry_at t e.old).groups + one e.end.update.start < 2 ^ 64) × Room (carried e.end.update n e.old id pid (on_table t m)))))
    carry-asks = (
      a.few,
      (
        a.there,
        (
          subst (λ (x : Endpoint). x.transactions + one e.end.update.link < 2 ^ 64) (sym entry-is)
              (subst (λ (b : Bool). e.end.entry.transactions + linked b e.end.update < 2 ^ 64) on a.transactions),
          (
            subst (λ (x : Endpoint). x.groups + one e.end.update.start < 2 ^ 64) (sym entry-is)
                (subst (λ (b : Bool). e.end.entry.groups + started b e.end.update < 2 ^ 64) on a.groups),
            subst (λ (l : List ℕ). Room (carried e.end.update n e.old id pid (on_table l m))) (sym s) (subst Room ends a.room),
          ),
        ),
      ),
    )

    pub closes : (m₁ : Memory) → m₁ ≡ carried e.end.update n e.old id pid (on_table t m) → m₁ ≡ ended_memory e n id pid m
    closes m₁ g = g ∙ ap (λ (l : List ℕ). carried e.end.update n e.old id pid (on_table l m)) s ∙ sym ends

pub stays : (e : Ending) (n id pid : ℕ) (m : Memory) → e.ends ≡ false → m ≡ ended_memory e n id pid m
unfolding ended_memory
stays e n id pid m off = rw off

-- ---- an event that resets

pub settles : (resets : Bool) (e : Ending) (n id pid : ℕ) (m : Memory) → resets ≡ true → (m₁ : Memory) → m₁ ≡ ended_memory e n id pid m → (t : List ℕ) → t ≡ ended m₁.table n
    → on_table t m₁ ≡ settled_memory resets e n id pid m
unfolding settled_memory
settles resets e n id pid m on m₁ g t h = ap (λ (l : List ℕ). on_table l m₁) h ∙ ap (all_ended n) g ∙ sym (when_on resets (all_settled e n id pid) m on)

pub unsettled : (resets : Bool) (e : Ending) (n id pid : ℕ) (m : Memory) → resets ≡ false → m ≡ settled_memory resets e n id pid m
unfolding settled_memory
unsettled resets e n id pid m off = rw off
