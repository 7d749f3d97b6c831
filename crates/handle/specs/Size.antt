-- Inner (cited by private contracts alone): how many words a record has, and how many of them, from the first on, belong to fields of Decoder.
use Rattle.std.specs.Prelude.{ℕ}

abbrev pub words : ℕ
words = 2368

abbrev pub head : ℕ
head = 34
