-- Causes: what pairs that differ have in common. A name is a list of bytes.
use Rattle.std.specs.Prelude.{ℕ, List}
use Rattle.report_text.specs.declared.cause.PairName.{PairName}

-- A cause: an inner signal with the line of its gate in each text, and the pairs of which it is the first inner signal
-- that differs.
pub record Caused : Type 0 where
  pub signal : List ℕ
  pub first_line : ℕ
  pub second_line : ℕ
  pub pairs : List PairName
