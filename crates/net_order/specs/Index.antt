-- The number at the end of a name, and a stable sort by a key.
use Rattle.std.specs.Prelude.{ℕ, ◌+◌, ◌-◌, ◌*◌, min, nat_le, if◌then◌else◌, List, [], ◌∷◌, fold}
use Rattle.std.specs.Char.{is_ascii_digit, is_ascii_alphabetic}
use Rattle.net_order.specs.declared.trailing_number.TrailingNumber.{TrailingNumber}
use Rattle.net_order.specs.declared.trailing_number.TrailingNumber.TheVariants.{Nothing, Digits, DigitsThenOther}

-- A greater number counts as this one.
abbrev pub max_number : ℕ
max_number = 1000000000000000000

-- The number with one more digit.
abbrev pub with_appended_digit : ℕ → ℕ → ℕ
with_appended_digit n digit = min (n * 10 + digit) max_number

-- A digit right after a digit lengthens the number; any other digit begins a new one.
abbrev pub with_digit : TrailingNumber → ℕ → TrailingNumber
with_digit Nothing digit = Digits digit
with_digit (Digits n) digit = Digits (with_appended_digit n digit)
with_digit (DigitsThenOther n) digit = Digits digit

-- A byte that is neither a letter nor a digit, such as a bracket, ends the number, but does not remove it.
abbrev pub with_other_byte : TrailingNumber → TrailingNumber
with_other_byte Nothing = Nothing
with_other_byte (Digits n) = DigitsThenOther n
with_other_byte (DigitsThenOther n) = DigitsThenOther n

-- What a name has at its end after one more byte of it: a letter removes the number.
abbrev pub with_byte : TrailingNumber → ℕ → TrailingNumber
with_byte t byte = if is_ascii_digit byte then with_digit t (byte - 48) else (if is_ascii_alphabetic byte then Nothing else with_other_byte t)

-- What a name has at its end: a number, a number with other bytes than letters after it, or no number.
abbrev pub trailing : List ℕ → TrailingNumber
trailing name = fold with_byte Nothing name

-- The key of an end: no number is less than every number.
abbrev pub key_of_end : TrailingNumber → ℕ
key_of_end Nothing = 0
key_of_end (Digits n) = n + 1
key_of_end (DigitsThenOther n) = n + 1

-- The key of a name: 0 if it has no number at its end, otherwise 1 more than the number.
abbrev pub index_key : List ℕ → ℕ
index_key name = key_of_end (trailing name)

-- The item inserted before the first one of the list whose key is not less.
abbrev pub put_by_key : {X : Type 0} → (X → ℕ) → X → List X → List X
put_by_key key x [] = x ∷ []
put_by_key key x (y ∷ ys) = if nat_le (key x) (key y) then x ∷ y ∷ ys else y ∷ put_by_key key x ys

-- The items by rising key, those of equal key from left to right.
abbrev pub rising : {X : Type 0} → (X → ℕ) → List X → List X
rising key [] = []
rising key (x ∷ xs) = put_by_key key x (rising key xs)
