-- The measure is the number.
-- Assumes nothing.
use Rattle.text.proofs.number.+decimal.Given as goal

abbrev pub decreases-decimal : goal.decreases-decimal
decreases-decimal l = l.n
