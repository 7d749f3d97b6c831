-- Inner (cited by private contracts alone): 01, trace and listing: the kinds of link, in the order in which it names them.
use Rattle.std.specs.Prelude.{ℕ}

abbrev pub T : ℕ
T = 0

abbrev pub G : ℕ
G = 1

abbrev pub D : ℕ
D = 2

abbrev pub E : ℕ
E = 3
