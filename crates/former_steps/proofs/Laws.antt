-- Laws (proved), of usb: four formats asked one behind the other, for validity and for the reason.
-- Assumes nothing.
use Rattle.std.specs.Prelude.{◌≡◌, refl, Bool, false, Err, is_ok}
use Rattle.std.proofs.Math.Bool.{true}
use Rattle.usb.specs.Packet.{pick, both, first_wrong}
use Rattle.usb.specs.declared.reason.Reason.TheVariants.{Pid}

first-wrong : (a b : Bool) → is_ok (first_wrong a b) ≡ both a b
first-wrong true true = refl
first-wrong true false = refl
first-wrong false b = refl

pub asked_by : (a b c d x y z v x' y' z' v' : Bool)
    → is_ok (pick a (first_wrong x x') (pick b (first_wrong y y') (pick c (first_wrong z z') (pick d (first_wrong v v') (Err Pid)))))
    ≡ pick a (both x x') (pick b (both y y') (pick c (both z z') (pick d (both v v') false)))
asked_by true b c d x y z v x' y' z' v' = first-wrong x x'
asked_by false true c d x y z v x' y' z' v' = first-wrong y y'
asked_by false false true d x y z v x' y' z' v' = first-wrong z z'
asked_by false false false true x y z v x' y' z' v' = first-wrong v v'
asked_by false false false false x y z v x' y' z' v' = refl
