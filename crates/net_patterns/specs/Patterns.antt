-- Patterns: numbered assignments that follow from the number of variables and how many blocks there are.
use Rattle.std.specs.Prelude.{ℕ, ◌+◌, ◌*◌, ◌/◌, ◌%◌, Bool, if◌then◌else◌, nat_lt, min, max, List, map}
use Rattle.std.specs.List.{range_with_len}
use Rattle.std.proofs.Math.Nat.{min-le_left}
use Rattle.net_simulate.specs.Columns.{bit_in}
use Rattle.net_patterns.specs.declared.patterns.Patterns.{Patterns}
use Rattle.net_patterns.specs.Drawing.{drawn_word, single_bit}

-- the number of blocks for so many gates: 4,096 patterns for a million gates, up to 32,768 for few
abbrev pub blocks_for : ℕ → ℕ
blocks_for gates = min 64 (max 8 (4000000 / max gates 1))

-- the patterns for so many variables and gates
abbrev pub patterns_for : (variables gates : ℕ) → Patterns
patterns_for variables gates = record {
  variables = variables;
  blocks = blocks_for gates;
  few = min-le_left 64 (max 8 (4000000 / max gates 1));
}

-- the number of patterns
abbrev pub pattern_count : Patterns → ℕ
pattern_count p = 512 * p.blocks

-- how many words have the patterns in which one variable differs from all others: at most half of all words
abbrev pub single_words : Patterns → ℕ
single_words p = min (p.variables / 32 + 1) (p.blocks * 4)

-- the bit of a level in a pattern
abbrev pub pattern_bit : Patterns → (number level : ℕ) → Bool
pattern_bit p number level =
    if nat_lt number (64 * single_words p) then single_bit number level else bit_in (number % 64) (drawn_word (number / 64) level)

-- the pattern of this number, by level
abbrev pub pattern : Patterns → (number : ℕ) → List Bool
pattern p number = map (pattern_bit p number) (range_with_len 0 p.variables)
