-- The counts of Ends as contracts see them.
use Rattle.std.specs.Prelude.{◌≡◌, ℕ, ◌<◌, List, All}

-- the number of levels, and how many of them each sender has ended
pub record Counts : Type 0 where
  pub levels : ℕ
  pub ended : List ℕ

-- every sender has ended more levels than v, and so the level v itself
abbrev pub HaveAllEndedLevel : ℕ → List ℕ → Type 0
HaveAllEndedLevel v counts = All (λ c. v < c) counts

-- every sender has ended all n levels
abbrev pub HaveAllEnded : ℕ → List ℕ → Type 0
HaveAllEnded n counts = All (λ c. c ≡ n) counts
