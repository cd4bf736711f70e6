-- The shards of a store, as the code has them and as contracts see them.
use Rattle.std.proofs.Common.{◌≡◌, ℕ, List, length, get_or, set, sym, ◌∙◌, ap, refl, zero, suc, [], ◌∷◌}
use Rattle.std.proofs.lemmas.List.{map-set, length-map}
use Rattle.dd_store.specs.declared.level.ShardState.{ShardState}
use Rattle.dd_store.specs.Levels.{pairs_of}

get_or-shards : (shards : List ShardState) (i : ℕ) (d : ShardState) → get_or (pairs_of shards) i d.nodes ≡ (get_or shards i d).nodes
get_or-shards [] i d = refl
get_or-shards (c ∷ cs) zero d = refl
get_or-shards (c ∷ cs) (suc i) d = get_or-shards cs i d

pub pairs_of-read : (shards : List ShardState) (i : ℕ) (c : ShardState) → c ≡ get_or shards i c → c.nodes ≡ get_or (pairs_of shards) i c.nodes
pairs_of-read shards i c e = ap (λ (z : ShardState). z.nodes) e ∙ sym (get_or-shards shards i c)

pub pairs_of-set : (shards : List ShardState) (i : ℕ) (c : ShardState) → pairs_of (set shards i c) ≡ set (pairs_of shards) i c.nodes
pairs_of-set shards i c = map-set (λ (z : ShardState). z.nodes) shards i c

pub length-pairs_of : (shards : List ShardState) → length (pairs_of shards) ≡ length shards
length-pairs_of shards = length-map shards (λ (z : ShardState). z.nodes)
