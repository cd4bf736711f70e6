-- What the functions of a worker do.
use Rattle.std.specs.Prelude.{◌≡◌, ◌≢◌, ℕ, ◌+◌, ◌-◌, ◌<◌, ◌≤◌, Bool, ◌==◌, cond, List, [], ◌∷◌, ◌++◌, length, map, slice_index}
use Rattle.std.specs.Prelude.{slice_set, All}
use Rattle.dd_store.specs.Nodes.{Nodes}
-- the list at a number, in a list of lists
pub use Rattle.req_table.specs.Places.{row as at}
use Rattle.req_table.specs.declared.Key.{Key}
use Rattle.req_table.specs.declared.Item.{Item}
use Rattle.req_table.specs.declared.Item.TheVariants.{Ask}
use Rattle.req_table.specs.Wave.{Scope, Wave}
use Rattle.req_table.specs.Sizes.{sizes_of, scope_of}
use Rattle.req_table.specs.Keys.{level_of, child_of, owner}
use Rattle.req_table.specs.Lanes.{sent_by, ends, asks_at, IsFair, HasSenders, MayFollow, IsClosed}
use Rattle.req_table.specs.Settled.{Admits, IsDistinctOf}
use Rattle.expand_work.specs.Parts.{bundles}
use Rattle.expand_work.specs.Counts.{Counts}
use Rattle.lane_queue.specs.Loads.{ask_of}
use Rattle.lane_queue.specs.PortView.{LanesView, PortView, sent_to, put_to, lanes_scope}

-- The wave over a store as its lanes know it: whether a key is of the store follows from the store's sizes.
abbrev pub lanes_wave : Nodes → ℕ → Wave
lanes_wave S workers = record { scope = scope_of workers (sizes_of S); child = child_of S; owner = owner workers }

-- The item by which worker s asks for a key.
abbrev pub item_of : Nodes → ℕ → Key → Item
item_of S s x = Ask s (level_of S x) x

-- worker k, of `workers`, owns the key
abbrev pub owned_by : ℕ → ℕ → Key → Bool
owned_by workers k x = owner workers x == k

-- The port has the same number, lanes and sizes.
abbrev pub IsSamePort : PortView → PortView → Type 0
IsSamePort p q = (q.number ≡ p.number) × (q.lanes ≡ p.lanes) × (q.sizes ≡ p.sizes)

-- The port has sent these items to this worker, in this number of loads, and nothing to another.
pub record SentTo (p q : PortView) (to : ℕ) (items : List Item) (loads : ℕ) : Type 0 where
  pub port : IsSamePort p q
  pub taken : q.taken ≡ p.taken
  pub sent : sent_to q to ≡ sent_to p to ++ items
  pub others : (k : ℕ) → k ≢ to → sent_to q k ≡ sent_to p k
  pub put : put_to q to ≡ put_to p to + loads
  pub others_put : (k : ℕ) → k ≢ to → put_to q k ≡ put_to p k

-- The port has sent `items k` to each worker k below n, in `loads k` loads.
pub record SentToAll (p q : PortView) (n : ℕ) (items : ℕ → List Item) (loads : ℕ → ℕ) : Type 0 where
  pub port : IsSamePort p q
  pub taken : q.taken ≡ p.taken
  pub sent : (k : ℕ) → k < n → sent_to q k ≡ sent_to p k ++ items k
  pub rest : (k : ℕ) → n ≤ k → sent_to q k ≡ sent_to p k
  pub put : (k : ℕ) → k < n → put_to q k ≡ put_to p k + loads k
  pub rest_put : (k : ℕ) → n ≤ k → put_to q k ≡ put_to p k

-- The requests as a bundle has them: each with its level.
abbrev pub with_levels : Nodes → List Key → List (ℕ × Key)
with_levels S keys = map (λ x. (level_of S x, x)) keys

-- The keys that requests ask for.
abbrev pub keys_in : List (ℕ × Key) → List Key
keys_in asks = map (λ a. a.1) asks

-- What worker s puts on the lane of k if these requests are due from k, and in how many loads: it puts none on its own
-- lane.
abbrev pub put_items : ℕ → (ℕ → List (ℕ × Key)) → ℕ → List Item
put_items s due k = cond (s == k) [] (map (ask_of s) (due k))

abbrev pub put_loads : ℕ → (ℕ → List (ℕ × Key)) → ℕ → ℕ
put_loads s due k = cond (s == k) 0 (bundles (length (due k)))

-- The port has kept these items: it has sent them to itself and taken them.
pub record HasKept (p q : PortView) (items : List Item) : Type 0 where
  pub port : IsSamePort p q
  pub put : q.put ≡ p.put
  pub own : sent_to q p.number ≡ sent_to p p.number ++ items
  pub others : (k : ℕ) → k ≢ p.number → sent_to q k ≡ sent_to p k
  pub taken : q.taken ≡ p.taken ++ items

-- The requests were offered to the tables of their levels, one after the other.
abbrev pub Offered : List (ℕ × Key) → List (List Key) → List (List Key) → Type 0
Offered [] ts us = us ≡ ts
Offered (a ∷ more) ts us =
    (keys : List Key) × Admits (at ts a.0) (a.1 ∷ []) keys × Offered more (slice_set ts a.0 keys) us

-- The port may send these requests on the lane of `to`.
pub record MaySend (l : LanesView) (p : PortView) (to : ℕ) (asks : List (ℕ × Key)) : Type 0 where
  pub follow : All (λ a. MayFollow (lanes_scope l) (ends (sent_to p to)) (ask_of p.number a)) asks
  pub leave : 0 < ends (sent_to p to) → IsClosed (lanes_scope l) (ends (sent_to p to) - 1) p.taken

-- What a worker knows of what it has taken: it is fair from each sender, its Ends are counted, and its requests are in
-- the tables.
pub record IsReceived (c : Scope) (taken : List Item) (clock : Counts) (tables : List (List Key)) : Type 0 where
  pub fair : (t : ℕ) → t < c.workers → IsFair c (sent_by t taken)
  pub senders : HasSenders c taken
  pub long : length clock.ended ≡ c.workers
  pub levels : clock.levels ≡ c.levels
  pub many : length tables ≡ c.levels
  pub counted : (t : ℕ) → t < c.workers → slice_index clock.ended t ≡ ends (sent_by t taken)
  pub tables_match : (u : ℕ) → u < c.levels → IsDistinctOf (asks_at u taken) (at tables u)

-- Closed levels stay closed, and their tables stay as they are.
pub record StaysClosed (c : Scope) (taken taken' : List Item) (tables tables' : List (List Key)) : Type 0 where
  pub closed : (u : ℕ) → IsClosed c u taken → IsClosed c u taken'
  pub same : (u : ℕ) → IsClosed c u taken → at tables' u ≡ at tables u
