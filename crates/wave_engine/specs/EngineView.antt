-- An engine between two waves, and what a wave adds to its counts.
use Rattle.std.specs.Prelude.{◌≡◌, ℕ, ◌+◌, ◌-◌, ◌%◌, ◌^◌, ◌<◌, ◌≤◌, ◌⊎◌, List, [], ◌∷◌, length, Contains, Result, IfOk}
use Rattle.std.specs.declared.vec.Vec.{Vec}
use Rattle.std.specs.declared.alloc.Global.{Global}
use Rattle.slot_table.specs.Lists.{IsOnce}
use Rattle.dd_store.specs.declared.reference.Ref.{Ref}
use Rattle.dd_store.specs.Nodes.{Nodes}
use Rattle.expand_work.specs.Bounds.{WaveBound, most_of}
use Rattle.expand_work.specs.declared.fault.WaveFault.{WaveFault}
use Rattle.wave_engine.specs.CacheProbe.{unknown, IsKeptWave}
use Rattle.reduce_up.specs.Waves.{Entry, AnswersWave}
use Rattle.req_table.specs.declared.Key.{Key}
use Rattle.req_table.specs.ComputedTables.{ComputedView}
use Rattle.req_table.specs.Keys.{IsKey, level_of, wave_of}
use Rattle.req_table.specs.Reached.{IsReached}

-- the answers that it holds, the bound that its monitor sets, how many requests were expanded in the waves that were
-- done, how many of them by workers, and how many the caller's thread has reduced, all three modulo 2^64; and how many
-- requests `wave_counting_all` has expanded since nothing was held
pub record EngineView : Type 0 where
  pub held : ComputedView
  pub bound : WaveBound
  pub expanded : ℕ
  pub by_workers : ℕ
  pub reduced : ℕ
  pub since : ℕ

-- Between two counts modulo 2^64 exactly the requests above level v that the roots reach were reduced, each once.
pub record HaveReduced (S : Nodes) (roots : List Key) (v : ℕ) (before after : ℕ) : Type 0 where
  pub requests : List Key
  pub once : IsOnce requests
  pub reached : (k : Key) → Contains requests k → IsReached (wave_of S 1) roots k
  pub above : (k : Key) → Contains requests k → level_of S k < v
  pub all : (k : Key) → IsReached (wave_of S 1) roots k → level_of S k < v → Contains requests k
  pub count : after % 2 ^ 64 ≡ (before + length requests) % 2 ^ 64

-- Between two counts modulo 2^64 exactly the requests from level v on that the roots reach were expanded, each once.
pub record HaveShared (S : Nodes) (roots : List Key) (v : ℕ) (before after : ℕ) : Type 0 where
  pub requests : List Key
  pub once : IsOnce requests
  pub reached : (k : Key) → Contains requests k → IsReached (wave_of S 1) roots k
  pub below : (k : Key) → Contains requests k → v ≤ level_of S k
  pub all : (k : Key) → IsReached (wave_of S 1) roots k → v ≤ level_of S k → Contains requests k
  pub count : after % 2 ^ 64 ≡ (before + length requests) % 2 ^ 64

-- The requests that the roots reach are divided at some level: by the first two counts the caller's thread has reduced
-- those above it, and by the other two the workers have expanded those from it on. If the workers' count has not grown,
-- all are above it.
pub record AreDivided (S : Nodes) (roots : List Key) (reduced reduced' shared shared' : ℕ) : Type 0 where
  pub level : ℕ
  pub above : HaveReduced S roots level reduced reduced'
  pub below : HaveShared S roots level shared shared'

-- An engine holds answers of requests of the store. Each request that is reached from one of them is in a list no longer
-- than the engine's number of requests since it held nothing, and that number is within its bound.
pub record AreHeldCounted (S : Nodes) (e : EngineView) : Type 0 where
  pub requests : List Key
  pub few : length requests ≤ e.since
  pub within : e.since ≤ most_of e.bound.requests
  pub keys : (k : Key) (r : Ref) → Contains e.held.pairs (k, r) → IsKey S k
  pub reached : (k : Key) (r : Ref) (x : Key) → Contains e.held.pairs (k, r) → IsReached (wave_of S 1) (k ∷ []) x → Contains requests x

-- If the engine's requests are bounded, those of its held answers are counted, so that a wave can count all its
-- requests.
abbrev pub CountsAll : Nodes → EngineView → Type 0
CountsAll S e = most_of e.bound.requests < 2 ^ 64 - 1 → AreHeldCounted S e

-- A wave was done with what an engine held before it, or with nothing; after it the answers of its requests are held.
pub record AnswersByHeld (S : Nodes) (entries : List Entry) (result : Result (Vec Ref Global) WaveFault) (new : Nodes) (before after : ComputedView) : Type 0 where
  pub held : ComputedView
  pub known : (held ≡ before) ⊎ (held.pairs ≡ [])
  pub wave : AnswersWave S entries (unknown held entries) result new
  pub kept : IfOk result (λ answers. IsKeptWave held entries answers.items after)
