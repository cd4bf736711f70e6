-- What requests come to if a held answer counts as known.
use Rattle.std.specs.Prelude.{◌≡◌, Bool, true, false, List, length}
use Rattle.dd_store.specs.declared.reference.Ref.{Ref}
use Rattle.dd_store.specs.Graph.{bit}
use Rattle.dd_store.specs.Nodes.{Nodes, cofactor_of}
use Rattle.req_table.specs.declared.Op.{Op}
use Rattle.req_table.specs.declared.Key.{Key}
use Rattle.req_table.specs.declared.Child.{Child}
use Rattle.req_table.specs.declared.Record.{Record}
use Rattle.req_table.specs.Keys.{level_of, meaning, answer_of, child_value}
use Rattle.req_table.specs.ComputedTables.{ComputedView, terminal_or_computed_of}

-- what an operation comes to if a held answer counts as known
abbrev pub child_with_computed : Nodes → ComputedView → Op → Ref → Ref → Child
child_with_computed S m op f g = answer_of S op f g (terminal_or_computed_of m op f g)

-- the child of a key for the bit of its level, in the same way
abbrev pub child_with_computed_of : Nodes → ComputedView → Key → Bool → Child
child_with_computed_of S m k b = child_with_computed S m k.op (cofactor_of S k.f (level_of S k) b) (cofactor_of S k.g (level_of S k) b)

-- a key with these children
abbrev pub record_with_computed : Nodes → ComputedView → Key → Record
record_with_computed S m k = record { key = k; low = child_with_computed_of S m k false; high = child_with_computed_of S m k true }

-- a child has the value of the key at each assignment in which the bit of the key's level is b
abbrev pub IsCofactorChildOf : Nodes → Key → Bool → Child → Type 0
IsCofactorChildOf S k b c = (x : List Bool) → length x ≡ S.levels → bit x (level_of S k) ≡ b → child_value S c x ≡ meaning S k x
