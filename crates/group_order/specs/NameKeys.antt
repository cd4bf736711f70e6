-- The number at the end of a name as a sort key.
use Rattle.std.specs.Prelude.{ℕ, ◌+◌, ◌-◌, min, List, [], map, length, slice_index, slice_index_or}
use Rattle.net_order.specs.declared.trailing_number.TrailingNumber.{TrailingNumber}
use Rattle.net_order.specs.declared.trailing_number.TrailingNumber.TheVariants.{Nothing, Digits, DigitsThenOther}
use Rattle.net_order.specs.Force.{numbers_below, u64_max}
use Rattle.net_order.specs.Index.{max_number, rising, trailing}

-- The key by which numbers rise: 0 for no number, and then the numbers.
abbrev pub rising_key_of : TrailingNumber → ℕ
rising_key_of Nothing = 0
rising_key_of (Digits n) = min (n + 1) u64_max
rising_key_of (DigitsThenOther n) = min (n + 1) u64_max

-- The key by which numbers fall: 0 for no number, and then the numbers from the greatest down to 0.
abbrev pub falling_key_of : TrailingNumber → ℕ
falling_key_of Nothing = 0
falling_key_of (Digits n) = max_number + 1 - n
falling_key_of (DigitsThenOther n) = max_number + 1 - n

-- The variables by rising number at the end of their names. Those without a number come first, and equal numbers are as declared.
unfoldable pub rising_numbers : List (List ℕ) → List ℕ
rising_numbers names = rising (slice_index (map (λ v. rising_key_of (trailing (slice_index_or names v []))) (numbers_below (length names)))) (numbers_below (length names))

-- The variables by falling number at the end of their names. Those without a number come first, and equal numbers are as declared.
unfoldable pub falling_numbers : List (List ℕ) → List ℕ
falling_numbers names = rising (slice_index (map (λ v. falling_key_of (trailing (slice_index_or names v []))) (numbers_below (length names)))) (numbers_below (length names))
