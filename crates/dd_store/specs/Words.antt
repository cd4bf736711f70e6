-- The eight bytes of a reference as a number. Nearly each has a number below 2 ^ 31, so that four bytes hold it: that of a near node,
-- whose level is below 255 and whose place is below 2 ^ 17, and that of a far one, of another level below 4,095, whose place is below
-- 2 ^ 13. Of these the order of the numbers is the order of the references.
use Rattle.std.specs.Prelude.{◌≡◌, ℕ, ◌+◌, ◌-◌, ◌*◌, ◌/◌, ◌%◌, ◌^◌, ◌<◌, ◌≤◌, ◌⊎◌, ◌==◌, ◌&&◌, not, nat_lt, Bool, true, false, if◌then◌else◌}
use Rattle.dd_store.specs.declared.reference.NodeId.{NodeId}
use Rattle.dd_store.specs.declared.reference.Reference.{Reference}
use Rattle.dd_store.specs.declared.reference.Reference.TheVariants.{False, True, Node}

-- a node is near: both its level and its place are low
unfoldable pub is_near : NodeId → Bool
is_near m = nat_lt m.level 255 && (nat_lt m.shard 16 && nat_lt m.index (2 ^ 17))

-- a node is far: its level is deeper, and its place lower
unfoldable pub is_far : NodeId → Bool
is_far m = not (nat_lt m.level 255) && (nat_lt m.level 4095 && (nat_lt m.shard 16 && nat_lt m.index (2 ^ 13)))

-- the level plus 1, and below it the shard
abbrev pub name_of : NodeId → ℕ
name_of m = (m.level + 1) * 16 + m.shard

-- The word of a node without a complement bit. Near: the name from bit 18 on, the place from bit 1 on. Far: the same
-- with the name from bit 14 on, and bit 30 set. Any other: the level plus 1 from bit 41 on, the shard from bit 33 on,
-- the place from bit 1 on.
abbrev pub near_word : NodeId → ℕ
near_word m = name_of m * 2 ^ 18 + m.index * 2

abbrev pub far_word : NodeId → ℕ
far_word m = 2 ^ 30 + name_of m * 2 ^ 14 + m.index * 2

abbrev pub long_word : NodeId → ℕ
long_word m = (m.level + 1) * 2 ^ 41 + m.shard * 2 ^ 33 + m.index * 2

-- the word of the reference to a node without a complement bit
unfoldable pub node_word : NodeId → ℕ
node_word m = if is_near m then near_word m else (if is_far m then far_word m else long_word m)

-- the word of a reference; that of a node has its complement bit in bit 0
abbrev pub word_of : Reference → ℕ
word_of False = 0
word_of True = 1
word_of (Node m b) = node_word m + (if b then 1 else 0)

-- the name of a near node, of a far one and of any other by its word
abbrev pub near_node : ℕ → NodeId
near_node w = record { level = w / 2 ^ 22 - 1; shard = w / 2 ^ 18 % 16; index = w / 2 % 2 ^ 17 }

abbrev pub far_node : ℕ → NodeId
far_node w = record { level = w / 2 ^ 18 - 4097; shard = w / 2 ^ 14 % 16; index = w / 2 % 2 ^ 13 }

abbrev pub long_node : ℕ → NodeId
long_node w = record { level = w / 2 ^ 41 - 1; shard = w / 2 ^ 33 % 256; index = w / 2 % 2 ^ 32 }

-- the name of a node by its word
unfoldable pub node_of : ℕ → NodeId
node_of w = if nat_lt w (2 ^ 30) then near_node w else (if nat_lt w (2 ^ 31) then far_node w else long_node w)

-- what a word refers to
abbrev pub reference_of : ℕ → Reference
reference_of w = if w == 0 then False else (if w == 1 then True else Node (node_of w) (w % 2 == 1))

-- the words of nodes that are neither near nor far; they cannot be shorter, and the level has 16 bits
unfoldable pub IsLongWord : ℕ → Type 0
IsLongWord w = (2 ^ 41 ≤ w) × (w < 2 ^ 41 * (2 ^ 16 + 1)) × (is_near (long_node w) ≡ false) × (is_far (long_node w) ≡ false)

-- the words of near nodes, of far nodes and of all others
unfoldable pub IsNodeWord : ℕ → Type 0
IsNodeWord w = ((2 ^ 22 ≤ w) × (w < 2 ^ 30)) ⊎ (((2 ^ 30 + 2 ^ 26 ≤ w) × (w < 2 ^ 31)) ⊎ IsLongWord w)

-- the words of the terminals, and of nodes
abbrev pub IsWord : ℕ → Type 0
IsWord w = (w < 2) ⊎ IsNodeWord w

-- the reference is a terminal
abbrev pub is_terminal : Reference → Bool
is_terminal False = true
is_terminal True = true
is_terminal (Node m b) = false
