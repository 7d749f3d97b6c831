-- Inner (cited by private contracts alone): the numbers of a record fit their words, as those of every value of the code do; so what is stored is loaded again.
use Rattle.std.specs.Prelude.{ℕ, ◌<◌, List, ◌≡◌, length, get_or}
use Rattle.details.specs.Details.{bare}
use Rattle.details.specs.Search.{blank}
use Rattle.details.specs.declared.Detail.{Detail}
use Rattle.details.specs.declared.Device.{Device}
use Rattle.transaction.specs.declared.Transaction.{Transaction}
use Rattle.handle.specs.Words.{style_words}
use Rattle.handle.specs.declared.variant.Numbers.{Numbers}

pub record StyleFits (n : Numbers) : Type 0 where
  pub sc : n.sc < 256
  pub kind : n.kind < 256
  pub pid : n.pid < 256

pub record TransactionFits (t : Transaction) : Type 0 where
  pub style : StyleFits (style_words t.style)
  pub last : t.last < 256
  pub kind : t.kind < 256

pub record DetailFits (x : Detail) : Type 0 where
  pub kind : x.kind < 256
  pub max : x.max < 65536

pub record DetailsFit (xs : List Detail) : Type 0 where
  pub many : length xs ≡ 32
  pub each : (j : ℕ) → j < length xs → DetailFits (get_or xs j (bare 0))

pub record DeviceFits (v : Device) : Type 0 where
  pub address : v.address < 256
  pub chosen : v.chosen < 65536
  pub kept : v.kept < 65536
  pub details : DetailsFit v.details

pub record DevicesFit (vs : List Device) : Type 0 where
  pub each : (j : ℕ) → j < length vs → DeviceFits (get_or vs j blank)
