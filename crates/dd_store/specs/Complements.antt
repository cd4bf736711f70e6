-- Complement edges (Brace, Rudell and Bryant, 1990): a reference with a complement bit denotes the complement of what
-- it denotes without.
use Rattle.std.specs.Prelude.{Bool, true, false, cond, not}
use Rattle.dd_store.specs.declared.reference.Ref.{Ref}
use Rattle.dd_store.specs.declared.reference.Reference.TheVariants.{False, True, Node}

-- a reference has a complement bit; False is the one terminal, True, with this bit
abbrev pub is_complement : Ref → Bool
is_complement False = true
is_complement True = false
is_complement (Node m b) = b

-- the reference with its complement bit changed
abbrev pub negate_of : Ref → Ref
negate_of False = True
negate_of True = False
negate_of (Node m b) = Node m (not b)

-- the complement if b is true
abbrev pub complement_by : Bool → Ref → Ref
complement_by b r = cond b (negate_of r) r

-- both children, complemented if b is true
abbrev pub complement_both : Bool → Ref × Ref → Ref × Ref
complement_both b p = (complement_by b p.0, complement_by b p.1)

-- the two children as a node has them: both complemented if the second has a complement bit
abbrev pub regular_pair : Ref → Ref → Ref × Ref
regular_pair lo hi = complement_both (is_complement hi) (lo, hi)

-- a value, complemented if b is true
abbrev pub complemented : Bool → Bool → Bool
complemented b v = cond b (not v) v
