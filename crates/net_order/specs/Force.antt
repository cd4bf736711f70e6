-- Variables by FORCE, after Aloul, Markov and Sakallah, "FORCE: a fast and easy-to-implement variable-ordering
-- heuristic", GLSVLSI 2003. All numbers are natural numbers, with the roundings and bounds of the code's 64-bit
-- numbers.
use Rattle.std.specs.Prelude.{ℕ, zero, suc, ◌+◌, ◌-◌, ◌*◌, ◌/◌, ◌^◌, ◌==◌, min, max, nat_lt, if◌then◌else◌, List, [], ◌∷◌, ◌++◌, map, fold}
use Rattle.std.specs.Prelude.{filter, reverse, length, slice_index, slice_set, replicate}
use Rattle.std.specs.List.{slice_index_or}
use Rattle.net_bench.specs.declared.netlist.GateLine.{GateLine}
use Rattle.net_bench.specs.Circuit.{Circuit, variables_of}
use Rattle.net_order.specs.Index.{rising}

-- The numbers from 0 to n - 1.
unfoldable pub numbers_below : ℕ → List ℕ
numbers_below zero = []
numbers_below (suc n) = numbers_below n ++ n ∷ []

-- The table with consecutive numbers, from k on, at these places.
abbrev pub counted_from : ℕ → List ℕ → List ℕ → List ℕ
counted_from k table [] = table
counted_from k table (p ∷ ps) = counted_from (k + 1) (slice_set table p k) ps

-- ---- the graph: variables and gates are its vertices, and a gate with its operands is an edge

-- For each signal of a netlist its vertex: the function gives those of variables, and the gates are numbered from k on,
-- as they are written.
unfoldable pub vertices : Circuit → (ℕ → ℕ) → ℕ → List ℕ
vertices c variable k = counted_from k (fold (λ t s. slice_set t s (variable s)) (replicate (length c.names) 0) (variables_of c))
    (map (λ g. g.out) c.gates)

-- The edge of a gate: the vertices of its operands, and last its own.
abbrev pub edge_of : List ℕ → GateLine → List ℕ
edge_of table g = map (slice_index table) g.operands ++ slice_index table g.out ∷ []

-- A hypergraph: an edge for each gate, and the rank of each vertex.
pub record Hypergraph : Type 0 where
  pub edges : List (List ℕ)
  pub ranks : List ℕ

-- The graph of so many variables, without gates.
abbrev pub graph_without_gates : ℕ → Hypergraph
graph_without_gates count = record { edges = []; ranks = replicate count 0 }

-- The graph with the gates of one more netlist.
abbrev pub with_gates : Circuit → (rank variable : ℕ → ℕ) → Hypergraph → Hypergraph
with_gates c rank variable graph = record {
  edges = graph.edges ++ map (edge_of (vertices c variable (length graph.ranks))) c.gates;
  ranks = graph.ranks ++ map (λ g. rank g.out) c.gates;
}

-- ---- the order in which the vertices begin

-- The greatest number at these places of a table.
abbrev pub greatest_at : List ℕ → List ℕ → ℕ
greatest_at table ps = fold (λ m p. max m (slice_index table p)) 0 ps

-- The last variable below a vertex, by number. Below a variable is only itself.
abbrev pub last_below : ℕ → List (List ℕ) → List ℕ → ℕ → ℕ
last_below variables edges table v = if nat_lt v variables then v else greatest_at table (slice_index_or edges (v - variables) [])

-- The same for each vertex. By rising rank operands come before gates, so the table has what a gate needs.
unfoldable pub last_variables : ℕ → List (List ℕ) → List ℕ → List ℕ
last_variables variables edges by_rank = fold (λ t v. slice_set t v (last_below variables edges t v)) (replicate (length by_rank) 0) by_rank

-- Each gate is right after the last variable below it, those after the same variable by rising rank.
unfoldable pub initial_order : ℕ → List (List ℕ) → List ℕ → List ℕ
initial_order variables edges by_rank = rising (slice_index (last_variables variables edges by_rank)) by_rank

-- ---- one step

-- The greatest sum: a greater one counts as this.
abbrev pub u64_max : ℕ
u64_max = 2 ^ 64 - 1

-- Places are fixed-point numbers: so many parts are the distance of two neighbours.
abbrev pub place_unit : ℕ
place_unit = 65536

-- Shares are fixed-point numbers: so many parts are 1.
abbrev pub share_unit : ℕ
share_unit = 16777216

-- The share of one number in the mean of so many: 1 / count, rounded down, and 0 if there are none.
abbrev pub share_of : ℕ → ℕ
share_of count = if count == 0 then 0 else share_unit / count

-- The mean of numbers that have this sum, if each has this share in it.
abbrev pub mean_of : (sum share : ℕ) → ℕ
mean_of sum share = min (sum * share) u64_max / share_unit

-- For each vertex its place in the order, as a fixed-point number.
unfoldable pub places_of : List ℕ → List ℕ
places_of order = map (λ place. min (place * place_unit) u64_max) (counted_from 0 (replicate (length order) 0) order)

-- The centre of an edge: the mean of the places of its vertices.
unfoldable pub centre_of : List ℕ → List ℕ → ℕ
centre_of places edge = mean_of (fold (λ sum v. min (sum + slice_index places v) u64_max) 0 edge) (share_of (length edge))

-- The table with an amount added for each vertex of an edge.
abbrev pub with_added : ℕ → List ℕ → List ℕ → List ℕ
with_added amount table edge = fold (λ t v. slice_set t v (min (slice_index t v + amount) u64_max)) table edge

-- For each vertex the sum of the centres of its edges.
unfoldable pub totals_of : List ℕ → List (List ℕ) → List ℕ
totals_of places edges = fold (λ t edge. with_added (centre_of places edge) t edge) (replicate (length places) 0) edges

-- For each vertex the number of its edges.
unfoldable pub degrees_of : ℕ → List (List ℕ) → List ℕ
degrees_of count edges = fold (with_added 1) (replicate count 0) edges

-- For each vertex the share of one of its edges in the mean of all of them.
unfoldable pub shares_of : ℕ → List (List ℕ) → List ℕ
shares_of count edges = map share_of (degrees_of count edges)

-- The place to which a vertex is moved: the mean of the centres of its edges, or its own place if it has none.
abbrev pub new_place : (total share place : ℕ) → ℕ
new_place total share place = if share == 0 then place else mean_of total share

-- The places after one step.
unfoldable pub step : List (List ℕ) → List ℕ → List ℕ → List ℕ
step edges shares places = map (λ v. new_place (slice_index (totals_of places edges) v) (slice_index shares v) (slice_index places v))
    (numbers_below (length places))

-- The places after so many steps.
unfoldable pub steps_of : List (List ℕ) → List ℕ → ℕ → List ℕ → List ℕ
steps_of edges shares zero places = places
steps_of edges shares (suc k) places = steps_of edges shares k (step edges shares places)

-- The number of steps of a round: 40, fewer for more than 13,100 vertices, and 10 from 47,700 on.
unfoldable pub steps_for : ℕ → ℕ
steps_for count = max 10 (min (524288 / (count + 1)) 40)

-- The order after one round: by rising place after its steps, and vertices at the same place as before.
unfoldable pub round : List (List ℕ) → List ℕ → List ℕ → List ℕ
round edges shares order = rising (slice_index (steps_of edges shares (steps_for (length order)) (places_of order))) order

-- The order after two rounds.
unfoldable pub force_order : ℕ → Hypergraph → List ℕ
force_order variables graph =
    let shares = shares_of (length graph.ranks) graph.edges in
    round graph.edges shares (round graph.edges shares (initial_order variables graph.edges
    (rising (slice_index graph.ranks) (numbers_below (length graph.ranks)))))

-- Those vertices that are variables, from the last to the first.
abbrev pub variables_reversed : ℕ → List ℕ → List ℕ
variables_reversed variables order = filter (λ v. nat_lt v variables) (reverse order)
