-- Support bits: on which variables the functions of a difference depend.
use Rattle.std.specs.Prelude.{Bool, List, [], Option, Some, None}

-- a bit for each variable; none if support is not asked for
abbrev pub support_bits_of : Option (List Bool) → List Bool
support_bits_of None = []
support_bits_of (Some support_bits) = support_bits
