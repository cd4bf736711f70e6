-- The records of a driven core are exactly those of the requests that its roots reach.
use Rattle.std.proofs.Common.{◌≡◌, ℕ, List, length, ◌∙◌, ap, subst}
use Rattle.std.specs.Prelude.{Result, Ok, Err, IfOk}
use Rattle.dd_store.specs.Nodes.{Nodes}
use Rattle.req_table.specs.declared.Key.{Key}
use Rattle.req_table.specs.declared.Record.{Record}
use Rattle.req_table.specs.Keys.{wave_of}
use Rattle.req_table.specs.Settled.{IsClosure}
use Rattle.req_table.specs.Tables.{row_at}
use Rattle.wave_core.specs.Cores.{CoreView, core_wave, IsNew, IsSameWave}
use Rattle.reduce_up.specs.Waves.{IsClosureOf}

pub driven_closure : (S : Nodes) (workers : ℕ) (roots : List Key) (new driven : CoreView) → IsNew S workers roots new → IsSameWave new driven →
    {E : Type 0} (result : Result (List (List Record)) E) → IfOk result (λ rows. length rows ≡ driven.store.levels) → IfOk result (λ rows. IsClosure (core_wave driven) driven.roots (row_at rows)) →
    IfOk result (λ rows. IsClosureOf S workers roots rows)
driven_closure S workers roots new driven n m (Ok rows) levels closed =
    let store : driven.store ≡ S = m.store ∙ n.store in
    let same : driven.machine.workers ≡ workers = m.workers ∙ n.workers in
    let is : driven.roots ≡ roots = m.roots ∙ n.roots in
    record {
      levels = levels ∙ ap (λ s. s.levels) store;
      closure = subst (λ k. IsClosure (wave_of S workers) k (row_at rows)) is
          (subst (λ w. IsClosure (wave_of S w) driven.roots (row_at rows)) same
          (subst (λ s. IsClosure (wave_of s driven.machine.workers) driven.roots (row_at rows)) store closed));
    }
driven_closure S workers roots new driven n m (Err e) levels closed = levels
