-- FORCE without selectors, which are on no edge: after Aloul, Markov and Sakallah, "FORCE: a fast and easy-to-implement
-- variable-ordering heuristic", GLSVLSI 2003.
use Rattle.std.specs.Prelude.{ℕ, List, ◌++◌, Bool, false, not, map, fold, filter, length, replicate, slice_index, slice_index_or}
use Rattle.std.specs.Prelude.{Option, Some, None}
use Rattle.net_bench.specs.declared.netlist.GateLine.{GateLine}
use Rattle.net_bench.specs.Circuit.{circuit}
use Rattle.net_order.specs.Force.{Hypergraph, counted_from, edge_of, force_order, graph_without_gates, variables_reversed, vertices}
use Rattle.group_order.specs.Sides.{IndexedNetlistModel, completed, gate_ranks}

-- The vertex of a variable: its place in the order with which FORCE begins.
abbrev pub vertex_of : List ℕ → Option ℕ → ℕ
vertex_of places None = 0
vertex_of places (Some v) = slice_index places v

-- Whether a vertex is no selector. A gate is none.
abbrev pub is_free : List Bool → ℕ → Bool
is_free chosen v = not (slice_index_or chosen v false)

-- The edge of a gate without selectors: the vertices of its operands, and last its own.
abbrev pub free_edge : List Bool → List ℕ → GateLine → List ℕ
free_edge chosen table g = filter (is_free chosen) (edge_of table g)

-- For each signal of a netlist its vertex: that of a variable is its place, and the gates are numbered from k on.
abbrev pub vertices_on : List ℕ → IndexedNetlistModel → ℕ → List ℕ
vertices_on places side k = vertices (circuit side.net) (λ s. vertex_of places (slice_index_or side.variables s None)) k

-- The graph with the gates of one more netlist.
abbrev pub with_side : List Bool → List ℕ → Hypergraph → IndexedNetlistModel → Hypergraph
with_side chosen places graph side = record {
  edges = graph.edges ++ map (free_edge chosen (vertices_on places side (length graph.ranks))) side.net.gates;
  ranks = graph.ranks ++ gate_ranks side.net;
}

-- The graph of all netlists. Its first vertices are the variables, by their places.
unfoldable pub free_graph : List Bool → List ℕ → List IndexedNetlistModel → Hypergraph
free_graph chosen places sides = fold (with_side chosen places) (graph_without_gates (length places)) sides

-- For each variable its place in an order.
unfoldable pub places_in : List ℕ → List ℕ
places_in order = counted_from 0 (replicate (length order) 0) order

-- The selectors, in the order of all variables.
abbrev pub chosen_of : List Bool → List ℕ → List ℕ
chosen_of chosen order = filter (λ v. slice_index_or chosen v false) order

-- For each place of an order whether the variable there is a selector.
abbrev pub chosen_along : List Bool → List ℕ → List Bool
chosen_along chosen order = map (λ v. slice_index_or chosen v false) order

-- The variables in the order of FORCE without selectors, from the last to the first. FORCE begins with the order that is given.
unfoldable pub free_order : List Bool → List ℕ → List IndexedNetlistModel → List ℕ
free_order chosen order sides =
    map (slice_index order) (variables_reversed (length order) (force_order (length order) (free_graph (chosen_along chosen order) (places_in order) sides)))

-- The selectors in the order with which FORCE begins, then the other variables in the order of FORCE.
unfoldable pub free_numbers : List Bool → List ℕ → List IndexedNetlistModel → List ℕ
free_numbers chosen order sides = completed (length order) (chosen_of chosen order ++ free_order chosen order sides)
