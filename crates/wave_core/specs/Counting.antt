-- The sizes of a core's lists, by which the events are counted that it has done.
use Rattle.std.specs.Prelude.{ℕ, ◌+◌, length}
use Rattle.wave_core.specs.Measure.{sum_below}
use Rattle.wave_core.specs.Step.{State}

-- the sum over n rows of m columns each
abbrev pub sum_over : ℕ → ℕ → (ℕ → ℕ → ℕ) → ℕ
sum_over n m f = sum_below n (λ s. sum_below m (f s))

-- the number of items that were sent and taken, of records, and of levels that were passed
abbrev pub noted : ℕ → ℕ → State → ℕ
noted workers levels c =
    sum_over workers workers (λ s k. length (c.sent s k)) + sum_below workers (λ k. length (c.taken k))
    + sum_over workers levels (λ k v. length (c.rows k v)) + sum_below workers c.at
