-- The bytes of a request as numbers. The first eight are the word of its first operand, with bit 63 set for Xor.
use Rattle.std.specs.Prelude.{ℕ, ◌+◌, ◌*◌, ◌%◌, ◌^◌, ◌<◌, nat_lt, if◌then◌else◌}
use Rattle.dd_store.specs.declared.reference.Ref.{Ref}
use Rattle.dd_store.specs.Words.{word_of, reference_of, IsWord}
use Rattle.req_table.specs.declared.Op.{Op}
use Rattle.req_table.specs.declared.Op.TheVariants.{And, Or, Xor, Nand, Nor, Xnor}
use Rattle.req_table.specs.declared.Operation.{Operation}

-- bit 63, which is set for Xor
abbrev pub xor_bit : Op → ℕ
xor_bit And = 0
xor_bit Or = 0
xor_bit Xor = 2 ^ 63
xor_bit Nand = 0
xor_bit Nor = 0
xor_bit Xnor = 0

-- the operation of a first word
abbrev pub op_in : ℕ → Op
op_in w = if nat_lt w (2 ^ 63) then And else Xor

abbrev pub first_word : Op → Ref → ℕ
first_word op f = xor_bit op + word_of f

-- all sixteen bytes as a number: the word of the second operand above the first word
abbrev pub key_word : Operation → ℕ
key_word k = word_of k.g * 2 ^ 64 + first_word k.op k.f

-- the operation that a first word and a second operand are
abbrev pub operation_of : ℕ → Ref → Operation
operation_of w g = record { op = op_in w; f = reference_of (w % 2 ^ 63); g = g }

-- the first words of And and Xor
abbrev pub IsFirstWord : ℕ → Type 0
IsFirstWord w = (w < 2 ^ 64) × IsWord (w % 2 ^ 63)
