-- Laws (proved): what a step on memory does not touch: the logs of devices, endpoints and transactions, and the counts.
use Rattle.std.specs.Prelude.{ℕ, false, ◌≡◌, refl, eqb}
use Rattle.std.proofs.Common.{ap}
use Rattle.endpoints.specs.declared.Endpoint.{Endpoint}
use Rattle.rules.specs.Rows.{Row, written, log}
use Rattle.rules.specs.World.{World, push, change}
use Rattle.update.specs.Update.{act}
use Rattle.update.specs.declared.Update.{Update}
use Rattle.plan.proofs.Frame.{Rest, act-rest, act-log, row-log}

pub record Beside (w v : World) : Type 0 where
  pub devices : log 1 v.journal ≡ log 1 w.journal
  pub endpoints : log 2 v.journal ≡ log 2 w.journal
  pub transactions : log 5 v.journal ≡ log 5 w.journal
  pub count : v.count ≡ w.count
  pub device_count : v.device_count ≡ w.device_count

-- a change of endpoints alone
pub beside-change : (x : ℕ) (f : Endpoint → Endpoint) (w : World) → Beside w (change x f w)
beside-change x f w = record { devices = refl; endpoints = refl; transactions = refl; count = refl; device_count = refl }

-- a row of another log
pub beside-push : (r : Row) → eqb (written r).0 1 ≡ false → eqb (written r).0 2 ≡ false → eqb (written r).0 5 ≡ false → (w : World) → Beside w (push r w)
beside-push r a b c w =
    record {
      devices = row-log 1 r w.journal a;
      endpoints = row-log 2 r w.journal b;
      transactions = row-log 5 r w.journal c;
      count = refl;
      device_count = refl;
    }

-- an update
pub beside-act : (x : ℕ) (u : Update) (w : World) → Beside w (act u x w)
beside-act x u w =
    let rest = act-rest u x w in
    record {
      devices = act-log 1 refl refl refl refl refl u x w;
      endpoints = act-log 2 refl refl refl refl refl u x w;
      transactions = act-log 5 refl refl refl refl refl u x w;
      count = ap (λ (r : Rest). r.count) rest;
      device_count = ap (λ (r : Rest). r.device_count) rest;
    }
