-- Laws (proved): memory that holds a world holds, once an update is carried out, the world that `act` (update) makes of it.
use Rattle.std.specs.Prelude.{ℕ, ◌<◌, ◌≤◌, Bool, true, false, ◌≡◌, refl}
use Rattle.std.proofs.Common.{sym, ap}
use Rattle.transaction.specs.Payload.{start_pid}
use Rattle.endpoints.proofs.TableLaws.{Fits}
use Rattle.endpoints.specs.Table.{with_phase}
use Rattle.endpoints.specs.declared.Endpoint.{Endpoint}
use Rattle.endpoints.specs.declared.Phase.TheVariants.{Early, Ended}
use Rattle.rules.specs.World.{World, change, with_last, cleared}
use Rattle.rules.specs.Groups.{activated, link, over, add_item}
use Rattle.update.specs.Update as update
use Rattle.update.specs.declared.Update.{Update}
use Rattle.update.specs.declared.Then.{Then}
use Rattle.update.specs.declared.Then.TheVariants.{Keep, Begin, BeginFailed, Last, BeginEarly}
use Rattle.write.proofs.Holds.{Holds}
use Rattle.write.proofs.HoldsLaws.{holds-altered, holds-over, holds-end-row, holds-link, holds-start-group, holds-item}
use Rattle.write.specs.Memory.{Memory, altered, end_row, link_step, start_group, item_row}
use Rattle.write_update.specs.Carried.{become, end_group, opened, closed, carried}

module _ {n id pid : ℕ} {m₀ : Memory} where
  -- a step that may be absent
  when-holds : (b : Bool) (f : World → World) (g : Memory → Memory) → ((w : World) (m : Memory) → Holds n id pid m₀ w m → Holds n id pid m₀ (f w) (g m))
      → {w : World} {m : Memory} → Holds n id pid m₀ w m → Holds n id pid m₀ (update.when b f w) (update.when b g m)
  when-holds true f g step {w} {m} h = step w m h
  when-holds false f g step h = h

module _ {n id pid : ℕ} {m₀ : Memory} (few : n ≤ 128) (byte : pid < 256) (x : ℕ) (hx : x < n) where
  become-holds : (t : Then) {w : World} {m : Memory} → Holds n id pid m₀ w m → Holds n id pid m₀ (update.become t x w) (become t x pid m)
  become-holds Keep h = h
  become-holds Begin h = rw h.began (holds-altered h x (activated true pid) hx few (λ e f. record { address = f.address; state = f.state; first = byte; last = byte }))
  become-holds BeginFailed h = rw h.began (holds-altered h x (activated false pid) hx few (λ e f. record { address = f.address; state = f.state; first = byte; last = byte }))
  become-holds Last h = rw h.began (holds-altered h x (with_last pid) hx few (λ e f. record { address = f.address; state = f.state; first = f.first; last = byte }))
  become-holds BeginEarly h = holds-altered h x (with_phase Early) hx few (λ e f. record { address = f.address; state = f.state; first = f.first; last = f.last })

  end-group-holds : {w : World} {m : Memory} → Holds n id pid m₀ w m → Holds n id pid m₀ (update.end_group x w) (end_group n x m)
  end-group-holds h = holds-end-row (holds-altered h x cleared hx few (λ e f. record { address = f.address; state = f.state; first = f.first; last = f.last })) few x hx

  pub holds-carried : (u : Update) {w : World} {m : Memory} → Holds n id pid m₀ w m → Holds n id pid m₀ (update.act u x w) (carried u n x id pid m)
  unfolding opened closed
  holds-carried u h =
      when-holds u.item (add_item x) (item_row n x) (λ w m a. holds-item a few x)
      (when-holds u.end (update.end_group x) (end_group n x) (λ w m a. end-group-holds a)
      (become-holds u.group
      (when-holds u.start (update.start_group x) (start_group n x) (λ w m a. holds-start-group a few x hx)
      (when-holds u.link (link x) (link_step x id) (λ w m a. holds-link a few x hx)
      (when-holds u.cut (update.end_row x) (end_row n x) (λ w m a. holds-end-row a few x hx)
      (when-holds u.over (over x) (altered x (with_phase Ended)) (λ w m a. holds-over a few x hx) h))))))
