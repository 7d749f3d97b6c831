-- Law (proved): what u64::from and usize::from make of a flag is `one`.
use Rattle.std.specs.Prelude.{Bool, true, false, ◌≡◌, refl}
use Rattle.std.specs.Int.{from_bool}
use Rattle.rows.specs.One.{one}

pub from-one : (b : Bool) → from_bool b ≡ one b
from-one true = refl
from-one false = refl
