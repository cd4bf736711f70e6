-- The order of references: False, True, then nodes by level, shard and place, first without a complement bit.
use Rattle.std.specs.Prelude.{Bool, true, false, not, nat_lt, ◌==◌, ◌&&◌, ◌||◌}
use Rattle.std.specs.declared.cmp.Ordering.{Ordering}
use Rattle.dd_store.specs.declared.reference.Ref.{Ref}
use Rattle.dd_store.specs.declared.reference.Reference.TheVariants.{False, True, Node}
use Rattle.dd_store.specs.declared.reference.NodeId.{NodeId}
use Rattle.dd_store.specs.contracts.reference.ReferenceOrd.TheImpl as ref_ord
use Rattle.dd_store.specs.contracts.reference.NodeIdOrd.TheImpl as node_ord

-- a node comes before another by level, then by shard, then by index
abbrev pub node_lt : NodeId → NodeId → Bool
node_lt a b = nat_lt a.level b.level || ((a.level == b.level) &&
    (nat_lt a.shard b.shard || ((a.shard == b.shard) && nat_lt a.index b.index)))

-- two names are equal
abbrev pub node_eq : NodeId → NodeId → Bool
node_eq a b = (a.level == b.level) && ((a.shard == b.shard) && (a.index == b.index))

-- a reference comes before another: False, True, then nodes, and of one node the reference without a complement bit
abbrev pub ref_lt : Ref → Ref → Bool
ref_lt False False = false
ref_lt False True = true
ref_lt False (Node l b) = true
ref_lt True False = false
ref_lt True True = false
ref_lt True (Node l b) = true
ref_lt (Node l b) (Node m c) = node_lt l m || (node_eq l m && (not b && c))
ref_lt (Node l b) _ = false

-- the order of references, as it is derived
abbrev pub ref_cmp : Ref → Ref → Ordering
ref_cmp = (ref_ord.ghosts).cmp

-- the order of nodes: by level, shard and index
abbrev pub node_cmp : NodeId → NodeId → Ordering
node_cmp = (node_ord.ghosts).cmp
