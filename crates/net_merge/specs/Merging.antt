-- Nodes that are merged with older ones.
use Rattle.std.specs.Prelude.{◌≡◌, ℕ, ◌<◌, ◌≤◌, All, List, length, slice_get, unwrap_or, Some}
use Rattle.pair_graph.specs.declared.node.Node.{Node}
use Rattle.pair_graph.specs.Literals.{Parts, complemented_if, node_literal}
use Rattle.pair_graph.specs.Graphs.{AreEquivalent, HasNode}
use Rattle.cut_window.specs.Windows.{Holds}
use Rattle.net_merge.specs.declared.batches.ProbeBatch.{ProbeBatch}
use Rattle.net_merge.specs.declared.pair_job.PairJob.{PairJob}
use Rattle.net_merge.specs.declared.shown.ShownPair.{ShownPair}
use Rattle.net_merge.specs.SignalLiterals.{literal_at}

-- each node of the list has a representative: an equivalent literal of the node itself or of an older one
pub record AreRepresentatives (g : List Node) (representatives : List Parts) : Type 0 where
  pub few : length representatives ≤ length g
  pub below : (n : ℕ) (l : Parts) → slice_get representatives n ≡ Some l → l.node ≤ n
  pub equivalent : (n : ℕ) (l : Parts) → slice_get representatives n ≡ Some l → AreEquivalent g (node_literal n) l

-- the representative of a literal: that of its node, complemented if the literal is; a node beyond the end of the list is its own
abbrev pub representative_of : List Parts → Parts → Parts
representative_of representatives l = complemented_if l.complemented (unwrap_or (slice_get representatives l.node) (node_literal l.node))

-- a literal that takes another's place: it is equivalent, and of the graph if the other one is
abbrev pub IsSettled : List Node → Parts → Parts → Type 0
IsSettled g l m = AreEquivalent g l m × (HasNode g l → HasNode g m)

-- each of these literals takes the place of one of those
pub record AreSettled (g : List Node) (old new : List Parts) : Type 0 where
  pub each : length new ≡ length old
  pub settled : (s : ℕ) → s < length old → IsSettled g (literal_at old s) (literal_at new s)

-- ---- pairs that are judged

-- what is found of a pair holds at every assignment
abbrev pub IsJudged : List Node → PairJob → Type 0
IsJudged g job = Holds g job.newer job.older job.finding

-- what is found of the pairs of batches holds
abbrev pub AreJudged : List Node → List ProbeBatch → Type 0
AreJudged g batches = All (λ (b : ProbeBatch). All (IsJudged g) b.jobs.items) batches

-- two literals are shown equal only if they are equivalent
abbrev pub IsShown : List Node → ShownPair → Type 0
IsShown g pair = AreEquivalent g pair.first pair.second
