-- Laws (proved): the table's rows stay as `store` writes them, and the words behind them as they were (record, Tabled), through the steps of write and through
-- a carried update.
use Rattle.std.specs.Prelude.{ℕ, ◌<◌, ◌≤◌, Bool, List, ◌≡◌, refl}
use Rattle.std.proofs.Math.Bool.{true, false}
use Rattle.endpoints.specs.Each.{cleared as unwaited, next_states}
use Rattle.endpoints.specs.Table.{with_phase}
use Rattle.endpoints.specs.declared.Endpoint.{Endpoint}
use Rattle.endpoints.specs.declared.Phase.TheVariants.{Early, Ended}
use Rattle.rules.specs.World.{with_last, more_transactions, more_groups, cleared}
use Rattle.rules.specs.Groups.{activated}
use Rattle.update.specs.Update.{when}
use Rattle.update.specs.declared.Update.{Update}
use Rattle.update.specs.declared.Then.{Then}
use Rattle.update.specs.declared.Then.TheVariants.{Keep, Begin, BeginFailed, Last, BeginEarly}
use Rattle.write.specs.Memory.{Memory, alter, altered, item_row, end_row, link_step, start_group}
use Rattle.record.proofs.TabledLaws.{Tabled, tabled-alter, tabled-next, tabled-cleared}
use Rattle.write_update.specs.Carried.{become, end_group, opened, closed, carried}

-- a memory whose table is so: the memory itself is what the steps change
pub record On (n : ℕ) (t₀ : List ℕ) (m : Memory) : Type 0 where
  pub tabled : Tabled n t₀ m.table

module _ {n : ℕ} {t₀ : List ℕ} where
  -- a step that may be absent
  pub when_on : (b : Bool) (g : Memory → Memory) → ((m : Memory) → On n t₀ m → On n t₀ (g m)) → {m : Memory} → On n t₀ m → On n t₀ (when b g m)
  when_on true g step {m} h = step m h
  when_on false g step h = h

-- ---- the steps of write, on endpoint x of n

module _ {n : ℕ} {t₀ : List ℕ} (few : n ≤ 128) (x : ℕ) (hx : x < n) where
  module _ {t : List ℕ} (h : Tabled n t₀ t) where
    -- the entry's bytes stay
    plain : (f : Endpoint → Endpoint) → ((e : Endpoint) → ((f e).address ≡ e.address) × (((f e).state ≡ e.state) × (((f e).first ≡ e.first) × ((f e).last ≡ e.last)))) → Tabled n t₀ (alter x f t)
    plain f same = tabled-alter h few x f hx (λ e a. let s = same e in record { address = rw s.0 a.address; state = rw s.1.0 a.state; first = rw s.1.1.0 a.first; last = rw s.1.1.1 a.last })

    ends : Tabled n t₀ (alter x (with_phase Ended) t)
    ends = plain (with_phase Ended) (λ e. (refl, (refl, (refl, refl))))

    pub links : Tabled n t₀ (alter x more_transactions t)
    links = plain more_transactions (λ e. (refl, (refl, (refl, refl))))

    clears : Tabled n t₀ (alter x cleared t)
    clears = plain cleared (λ e. (refl, (refl, (refl, refl))))

    -- one more group, a start or an end row, and an item
    pub groups : (start : Bool) → Tabled n t₀ (unwaited (next_states (alter x more_groups t) n x start) n)
    groups start = tabled-cleared (tabled-next (plain more_groups (λ e. (refl, (refl, (refl, refl))))) few x start) few

-- ---- a carried update

module _ {n pid : ℕ} {t₀ : List ℕ} (few : n ≤ 128) (byte : pid < 256) (x : ℕ) (hx : x < n) where
  become_on : (g : Then) {m : Memory} → On n t₀ m → On n t₀ (become g x pid m)
  become_on Keep h = h
  become_on Begin h = record { tabled = tabled-alter h.tabled few x (activated true pid) hx (λ e f. record { address = f.address; state = f.state; first = byte; last = byte }) }
  become_on BeginFailed h = record { tabled = tabled-alter h.tabled few x (activated false pid) hx (λ e f. record { address = f.address; state = f.state; first = byte; last = byte }) }
  become_on Last h = record { tabled = tabled-alter h.tabled few x (with_last pid) hx (λ e f. record { address = f.address; state = f.state; first = f.first; last = byte }) }
  become_on BeginEarly h = record { tabled = plain few x hx h.tabled (with_phase Early) (λ e. (refl, (refl, (refl, refl)))) }

  pub carried_tabled : (u : Update) (id : ℕ) (m : Memory) → Tabled n t₀ m.table → Tabled n t₀ (carried u n x id pid m).table
  unfolding opened closed
  carried_tabled u id m h =
      (when_on u.item (item_row n x) (λ v a. record { tabled = tabled-cleared a.tabled few })
      (when_on u.end (end_group n x) (λ v a. record { tabled = tabled-next (ends few x hx (clears few x hx a.tabled)) few x false })
      (become_on u.group
      (when_on u.start (start_group n x) (λ v a. record { tabled = groups few x hx a.tabled true })
      (when_on u.link (link_step x id) (λ v a. record { tabled = links few x hx a.tabled })
      (when_on u.cut (end_row n x) (λ v a. record { tabled = tabled-next (ends few x hx a.tabled) few x false })
      (when_on u.over (altered x (with_phase Ended)) (λ v a. record { tabled = ends few x hx a.tabled })
      {m = m} (record { tabled = h })))))))).tabled
