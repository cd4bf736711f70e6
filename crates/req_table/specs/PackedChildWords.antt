-- The eight bytes of a child as a number. An answer is its word, which is below 2 ^ 31 or at least 2 ^ 41. Requests
-- that fit have words from 2 ^ 31 on and below 2 ^ 32, near ones of the first 256 levels and far ones of levels below
-- these; all other requests have words from 2 ^ 63 on. Each has the level, the complement bit and the number at the
-- level.
use Rattle.std.specs.Prelude.{ℕ, ◌+◌, ◌*◌, ◌/◌, ◌%◌, ◌^◌, ◌<◌, ◌≤◌, ◌⊎◌, ◌==◌, nat_lt, Bool, if◌then◌else◌}
use Rattle.dd_store.specs.Words.{word_of, reference_of, IsWord}
use Rattle.req_table.specs.declared.packed_child.PlacedChild.{PlacedChild}
use Rattle.req_table.specs.declared.packed_child.PlacedChild.TheVariants.{Done, Ask}

-- how many numbers of a level fit in a word of four bytes
abbrev pub short_numbers : ℕ → ℕ
short_numbers l = if nat_lt l 256 then 2 ^ 21 else (if nat_lt l 4096 then 2 ^ 17 else 0)

abbrev pub near_word : ℕ → ℕ → Bool → ℕ
near_word l n m = 2 ^ 31 + l * 2 ^ 22 + n * 2 + (if m then 1 else 0)

abbrev pub far_word : ℕ → ℕ → Bool → ℕ
far_word l n m = 2 ^ 31 + 2 ^ 30 + l * 2 ^ 18 + n * 2 + (if m then 1 else 0)

abbrev pub long_word : ℕ → ℕ → Bool → ℕ
long_word l n m = 2 ^ 63 + (if m then 2 ^ 62 else 0) + l * 2 ^ 32 + n

-- the word of a request
abbrev pub ask_word : ℕ → ℕ → Bool → ℕ
ask_word l n m =
    if nat_lt n (short_numbers l) then (if nat_lt l 256 then near_word l n m else far_word l n m) else long_word l n m

-- the word of a child
abbrev pub packed_child_word : PlacedChild → ℕ
packed_child_word (Done r) = word_of r
packed_child_word (Ask l n m) = ask_word l n m

-- the request that a word of four bytes is
abbrev pub short_of : ℕ → PlacedChild
short_of w =
    if nat_lt w (2 ^ 31 + 2 ^ 30) then Ask (w % 2 ^ 30 / 2 ^ 22) (w % 2 ^ 22 / 2) (w % 2 == 1)
    else Ask (w % 2 ^ 30 / 2 ^ 18) (w % 2 ^ 18 / 2) (w % 2 == 1)

-- the request that a word from 2 ^ 63 on is
abbrev pub long_of : ℕ → PlacedChild
long_of w = Ask (w % 2 ^ 62 / 2 ^ 32) (w % 2 ^ 32) (w / 2 ^ 62 == 3)

-- the child that a word is
abbrev pub packed_child_of : ℕ → PlacedChild
packed_child_of w =
    if nat_lt w (2 ^ 31) then Done (reference_of w)
    else (if nat_lt w (2 ^ 32) then short_of w else (if nat_lt w (2 ^ 63) then Done (reference_of w) else long_of w))

-- the words of near requests: each number between these bounds is one
abbrev pub IsNearWord : ℕ → Type 0
IsNearWord w = (2 ^ 31 ≤ w) × (w < 2 ^ 31 + 2 ^ 30)

-- the words of far requests, whose levels are at least 256
abbrev pub IsFarWord : ℕ → Type 0
IsFarWord w = (2 ^ 31 + 2 ^ 30 + 256 * 2 ^ 18 ≤ w) × (w < 2 ^ 32)

-- the words of requests that do not fit; the level has 16 bits
abbrev pub IsLongWord : ℕ → Type 0
IsLongWord w =
    (2 ^ 63 ≤ w) × (w < 2 ^ 64) × (w % 2 ^ 62 < 2 ^ 48) × (short_numbers (w % 2 ^ 62 / 2 ^ 32) ≤ w % 2 ^ 32)

-- the words of children
abbrev pub IsPackedChildWord : ℕ → Type 0
IsPackedChildWord w = IsWord w ⊎ (IsNearWord w ⊎ (IsFarWord w ⊎ IsLongWord w))
