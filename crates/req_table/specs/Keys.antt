-- The keys of a store: their levels, their children, their functions, and the wave that they make.
use Rattle.std.specs.Prelude.{◌≡◌, ℕ, ◌<◌, Bool, true, false, min, List, Option, Some, None}
use Rattle.dd_store.specs.declared.reference.Ref.{Ref}
use Rattle.dd_store.specs.Graph.{top, bit}
use Rattle.dd_store.specs.Nodes.{Nodes, cofactor_of, den}
use Rattle.dd_store.specs.View.{Has}
use Rattle.req_table.specs.declared.Op.{Op}
use Rattle.req_table.specs.declared.Key.{Key}
use Rattle.req_table.specs.declared.Child.{Child}
use Rattle.req_table.specs.declared.Child.TheVariants.{Done, Ask}
use Rattle.req_table.specs.declared.Record.{Record}
use Rattle.dd_store.specs.Complements.{complemented}
use Rattle.req_table.specs.TerminalCase.{terminal_of, owner_of, op_value}
pub use Rattle.req_table.specs.TerminalCase.{key, normal_of}
use Rattle.req_table.specs.Wave.{Wave}

-- the smaller level of the operands, in a store of n levels
abbrev pub level_at : ℕ → Key → ℕ
level_at n k = min (top n k.f) (top n k.g)

-- the level of a key in a store
abbrev pub level_of : Nodes → Key → ℕ
level_of S k = level_at S.levels k

-- a key of the store: a request whose operands are of the store
pub record IsKey (S : Nodes) (k : Key) : Type 0 where
  pub first : Has S k.f
  pub second : Has S k.g
  pub long : terminal_of k.op k.f k.g ≡ None
  pub ordered : normal_of k.op k.f k.g ≡ (k, false)

-- the function of a key: its operation on the functions of its operands
abbrev pub meaning : Nodes → Key → List Bool → Bool
meaning S k x = op_value k.op (den S k.f x) (den S k.g x)

-- r denotes the operation on the functions of f and g
abbrev pub Denotes : Nodes → Op → Ref → Ref → Ref → Type 0
Denotes S op f g r = (x : List Bool) → den S r x ≡ op_value op (den S f x) (den S g x)

-- a request at its level, and whether the answer of what asks for it is the complement
abbrev pub ask_of : Nodes → Key × Bool → Child
ask_of S n = Ask (level_of S n.0) n.0 n.1

-- the answer of an operation that has a terminal case, or else its request
abbrev pub answer_of : Nodes → Op → Ref → Ref → Option Ref → Child
answer_of S op f g None = ask_of S (normal_of op f g)
answer_of S op f g (Some r) = Done r

-- what an operation comes to: its answer, or a request
abbrev pub child : Nodes → Op → Ref → Ref → Child
child S op f g = answer_of S op f g (terminal_of op f g)

-- the child of a key for the bit of its level
abbrev pub child_of : Nodes → Key → Bool → Child
child_of S k b = child S k.op (cofactor_of S k.f (level_of S k) b) (cofactor_of S k.g (level_of S k) b)

-- the worker, of so many, that owns a key
abbrev pub owner : ℕ → Key → ℕ
owner workers k = owner_of k.op k.f k.g workers

-- a key with its children
abbrev pub record_of : Nodes → Key → Record
record_of S k = record { key = k; low = child_of S k false; high = child_of S k true }

-- the value of a child: that of the answer, or of the request's function, complemented if the child is
abbrev pub child_value : Nodes → Child → List Bool → Bool
child_value S (Done r) x = den S r x
child_value S (Ask l k m) x = complemented m (meaning S k x)

-- a child of the store: an answer is one of its references, and a request one of its keys, at its own level
abbrev pub IsChildIn : Nodes → Child → Type 0
IsChildIn S (Done r) = Has S r
IsChildIn S (Ask l k m) = IsKey S k × (l ≡ level_of S k)

-- a child is deeper than a level
abbrev pub IsDeeper : Nodes → ℕ → Child → Type 0
IsDeeper S v (Done r) = v < top S.levels r
IsDeeper S v (Ask l k m) = v < l

-- a child has the value of the key whenever the bit of the key's level is b
abbrev pub IsCofactorChild : Nodes → Key → Bool → Child → Type 0
IsCofactorChild S k b c = (x : List Bool) → bit x (level_of S k) ≡ b → child_value S c x ≡ meaning S k x

-- the wave over a store, with this number of levels and of workers
abbrev pub wave_at : Nodes → ℕ → ℕ → Wave
wave_at S levels workers = record {
  scope = record { levels = levels; workers = workers; HasKey = IsKey S; level = level_of S };
  child = child_of S;
  owner = owner workers;
}

-- the wave over a store, with this number of workers
abbrev pub wave_of : Nodes → ℕ → Wave
wave_of S workers = wave_at S S.levels workers
