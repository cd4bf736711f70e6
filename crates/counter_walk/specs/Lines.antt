-- The diagram of the exclusive or of two functions, as a list of lines in which those of cofactors are before their
-- own.
use Rattle.std.specs.Prelude.{◌≡◌, ℕ, ◌<◌, ◌≤◌, Bool, true, false, not, cond, ◌||◌, List, length, Option, Some, None}
use Rattle.std.specs.Prelude.{slice_index_or, slice_get, slice_set}
use Rattle.std.specs.HashMap.{get}
use Rattle.dd_store.specs.declared.reference.Ref.{Ref}
use Rattle.dd_store.specs.Functions.{Agree}
use Rattle.dd_store.specs.Nodes.{Nodes, den}
use Rattle.dd_store.specs.View.{Has, top}
use Rattle.counter_walk.specs.declared.least.DiffLine.{DiffLine}
use Rattle.counter_walk.specs.declared.least.DiffLine.TheVariants.{Terminal, Branch}
use Rattle.counter_walk.specs.declared.least.DiffPair.{DiffPair}
use Rattle.counter_walk.specs.declared.least.DiffTable.{DiffTable}
use Rattle.counter_walk.specs.contracts.least.DiffPairPartialEq.TheImpl.{eq-value as pair_eq}
use Rattle.counter_walk.specs.DeclaredOrder.{assignment_by_level}

-- whether two values differ
abbrev pub unlike : Bool → Bool → Bool
unlike a b = cond a (not b) b

-- the exclusive or of two references' functions, at an assignment in declared order
abbrev pub differs : Nodes → List ℕ → Ref → Ref → List Bool → Bool
differs S order f g x = unlike (den S f (assignment_by_level order x)) (den S g (assignment_by_level order x))

-- a pair of references differs exactly where f and g do, and is at no higher level
pub record IsDiffPairOf (S : Nodes) (f g : Ref) (p : DiffPair) : Type 0 where
  pub first : Has S p.first
  pub second : Has S p.second
  pub level : (v : ℕ) → v ≤ top S f → v ≤ top S g → (v ≤ top S p.first) × (v ≤ top S p.second)
  pub alike : (x : List Bool) → unlike (den S p.first x) (den S p.second x) ≡ unlike (den S f x) (den S g x)

-- a function of n bits does not depend on bit d
abbrev pub IsIndependentOf : ℕ → ℕ → (List Bool → Bool) → Type 0
IsIndependentOf n d h = (b : Bool) (x : List Bool) → length x ≡ n → h (slice_set x d b) ≡ h x

-- the line at a place has a function of n bits: it is a constant, or chooses by the bit of its variable between the
-- functions of two lines, which do not depend on this variable
pub data LineDenotes (n : ℕ) (lines : List DiffLine) : ℕ → (List Bool → Bool) → Type 0 where
  terminal : (p : ℕ) (h : List Bool → Bool) (b : Bool) → slice_get lines p ≡ Some (Terminal b) → Agree n h (λ x. b) → LineDenotes n lines p h
  branch : (p : ℕ) (h : List Bool → Bool) (d low high : ℕ) (lo hi : List Bool → Bool) → slice_get lines p ≡ Some (Branch d low high)
      → LineDenotes n lines low lo → LineDenotes n lines high hi → IsIndependentOf n d lo → IsIndependentOf n d hi
      → Agree n h (λ x. cond (slice_index_or x d false) (hi x) (lo x)) → LineDenotes n lines p h

-- the places in a line are of lines before it
abbrev pub AreInOrder : List DiffLine → Type 0
AreInOrder lines = (p d low high : ℕ) → slice_get lines p ≡ Some (Branch d low high) → (low < p) × (high < p)

-- the variables in lines are below n
abbrev pub ReadVariablesBelow : ℕ → List DiffLine → Type 0
ReadVariablesBelow n lines = (p d low high : ℕ) → slice_get lines p ≡ Some (Branch d low high) → d < n

-- a table of lines over a store, which finds the line of each pair that it has
pub record IsDiffTable (S : Nodes) (order : List ℕ) (t : DiffTable) : Type 0 where
  pub in_order : AreInOrder t.lines.items
  pub variables : ReadVariablesBelow S.levels t.lines.items
  pub found : (k : DiffPair) (p : ℕ) → get pair_eq.it t.places k ≡ Some p
      → LineDenotes S.levels t.lines.items p (differs S order k.first k.second)

-- of two values the one that a fixed bit chooses, or the Or of both if the bit is not fixed
abbrev pub either : Option Bool → Bool → Bool → Bool
either (Some b) low high = cond b high low
either None low high = low || high

-- whether a line's function can be 1 with the first variables fixed, by whether those of its places can
abbrev pub line_satisfiable : List Bool → List Bool → DiffLine → Bool
line_satisfiable bits can (Terminal b) = b
line_satisfiable bits can (Branch d low high) = either (slice_get bits d) (slice_index_or can low false) (slice_index_or can high false)

-- for each line, whether its function can be 1 with the first variables fixed
abbrev pub AreSatisfiable : List DiffLine → List Bool → List Bool → Type 0
AreSatisfiable lines bits can = (p : ℕ) (l : DiffLine) → slice_get lines p ≡ Some l → slice_index_or can p false ≡ line_satisfiable bits can l

-- the variables in lines are read
abbrev pub AreRead : List DiffLine → List Bool → Type 0
AreRead lines reads = (p d low high : ℕ) → slice_get lines p ≡ Some (Branch d low high) → slice_index_or reads d false ≡ true
