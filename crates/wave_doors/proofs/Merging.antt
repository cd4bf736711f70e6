-- From the parts of all workers to their records, level by level.
use Rattle.std.proofs.Common.{◌≡◌, ℕ, suc, ◌+◌, ◌<◌, List, [], ◌∷◌, ◌++◌, map, length, All, refl, sym, ap, ◌∙◌, subst, arith}
use Rattle.std.proofs.lemmas.List.{get_or-map, length-map}
use Rattle.std.proofs.lemmas.List.Elements.{All-contains}
use Rattle.dd_store.specs.Nodes.{Nodes, IsSound}
use Rattle.req_table.specs.declared.Key.{Key}
use Rattle.req_table.specs.declared.Record.{Record}
use Rattle.req_table.specs.Keys.{IsKey, wave_of}
use Rattle.req_table.specs.Reached.{IsReached}
use Rattle.req_table.specs.Settled.{IsSplit, level_of_rows, key_of}
use Rattle.expand_work.specs.WavePorts.{row_of}
use Rattle.expand_work.specs.WaveParts.{PartsView, AreParts}
use Rattle.expand_work.specs.OwnerRows.{records_of}
use Rattle.expand_work.proofs.Teams.{first_of}
use Rattle.reduce_up.proofs.Closed.{reached_key}
use Rattle.reduce_up.proofs.Numbering.{in_team}
use Rattle.reduce_up.proofs.Rooted.{all_of}
use Rattle.wave_doors.specs.Merging.{MayMerge}

-- records of keys that are made again are the same
again : (S : Nodes) (n : ℕ) (rs : List Record) → All (IsSplit (wave_of S n)) rs → records_of S (map key_of rs) ≡ rs
again S n [] h = refl
again S n (r ∷ rs) h =
    let s : IsSplit (wave_of S n) r = h 0 r (omega arith) in
    λ j. record { key = r.key; low = sym s.0 j; high = sym s.1 j } ∷ again S n rs (λ i d b. h (suc i) d (omega (arith, b))) j

-- what holds of records' keys holds of their keys as a list
of_keys : (P : Key → Type 0) (rs : List Record) → All (λ (r : Record). P r.key) rs → All P (map key_of rs)
of_keys P rs h = λ i d b.
    let long : i < length rs = (let e = length-map rs key_of in omega (arith, b, e)) in
    let e = first_of rs (omega (arith, long)) in
    subst P (sym (get_or-map key_of rs i e d long)) (h i e long)

pub may_merge : (S : Nodes) → IsSound S → (workers : ℕ) → (roots : List Key) → All (IsKey S) roots → (p : PartsView) → AreParts S workers roots p → MayMerge S workers p
may_merge S sound n roots good p parts = record {
  many = parts.many_rows;
  levels = parts.levels;
  keys = λ k v kb vb. of_keys (IsKey S) (row_of p.rows k v) (all_of (λ (r : Record). IsKey S r.key) (row_of p.rows k v) (λ r c.
      reached_key S sound n roots good r.key (All-contains (λ (q : Record). IsReached (wave_of S n) roots q.key) (level_of_rows n (row_of p.rows) v) r (parts.closure.reached v vb) (in_team n p v k r kb c))));
  records = λ k v kb vb. again S n (row_of p.rows k v) (all_of (IsSplit (wave_of S n)) (row_of p.rows k v) (λ r c.
      All-contains (IsSplit (wave_of S n)) (level_of_rows n (row_of p.rows) v) r (parts.closure.split v vb) (in_team n p v k r kb c)));
}

-- one more worker's records of a level
pub level_more : (rows : List (List (List Record))) (i v : ℕ) (rs qs more : List Record) → rs ≡ level_of_rows i (row_of rows) v → qs ≡ rs ++ more → more ≡ row_of rows i v → qs ≡ level_of_rows (i + 1) (row_of rows) v
level_more rows i v rs qs more e g here =
    let up : suc i ≡ i + 1 = omega arith in
    g ∙ (λ j. e j ++ here j) ∙ ap (λ n. level_of_rows n (row_of rows) v) up
