-- The bound that a monitor sets for its waves.
use Rattle.std.specs.Prelude.{◌≡◌, ℕ, ◌≤◌, ◌-◌, ◌^◌, Bool, true, List, length, Contains, Option, None, Some}
use Rattle.slot_table.specs.Lists.{IsOnce}
use Rattle.dd_store.specs.Nodes.{Nodes}
use Rattle.req_table.specs.declared.Key.{Key}
use Rattle.req_table.specs.Keys.{wave_of}
use Rattle.req_table.specs.Reached.{IsReached}

-- The most requests that a wave may have, if they are bounded, and whether a wave may be stopped before its end.
pub record WaveBound : Type 0 where
  pub requests : Option ℕ
  pub stops : Bool

-- a wave may be stopped before its end, and so may an attempt that it is part of
abbrev pub MayStop : WaveBound → Type 0
MayStop bound = bound.stops ≡ true

-- the number that says how many requests there may be: the greatest one if there is no bound
abbrev pub most_of : Option ℕ → ℕ
most_of None = 2 ^ 64 - 1
most_of (Some n) = n

-- at most n requests are reached from the roots: no list of distinct ones is longer than n
abbrev pub AreFew : Nodes → ℕ → List Key → ℕ → Type 0
AreFew S workers roots n =
    (requests : List Key) → IsOnce requests → ((x : Key) → Contains requests x → IsReached (wave_of S workers) roots x) → length requests ≤ n
