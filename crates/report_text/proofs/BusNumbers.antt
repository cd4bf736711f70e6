-- The number of a bus, by its bits and by the digits of its text.
use Rattle.std.proofs.Common.{◌≡◌, ◌∙◌, ap, refl, sym, arith, ℕ, zero, suc, ◌+◌, ◌*◌, ◌/◌, ◌%◌, ◌<◌, ◌≤◌, Bool, true, false, List, ◌++◌, length, min}
use Rattle.std.specs.Prelude.{codes, slice_get}
use Rattle.std.specs.Int.{div_ceil}
use Rattle.std.proofs.lemmas.Grind.{div_ceil_times}
use Rattle.std.proofs.lemmas.Option.{slice_get_past}
use Rattle.report_text.specs.Buses.{Bus, bit_of, bit_there, bit_value, bits_from, bus_number, digit_value, hex_digit, hex_digits, hex_text, nibble, number_with}

-- ---- digits

-- a digit has the number whose digit it is
digit_is : (n : ℕ) → n < 16 → digit_value (hex_digit n) ≡ n
digit_is zero lt = refl
digit_is (suc zero) lt = refl
digit_is (suc (suc zero)) lt = refl
digit_is (suc (suc (suc zero))) lt = refl
digit_is (suc (suc (suc (suc zero)))) lt = refl
digit_is (suc (suc (suc (suc (suc zero))))) lt = refl
digit_is (suc (suc (suc (suc (suc (suc zero)))))) lt = refl
digit_is (suc (suc (suc (suc (suc (suc (suc zero))))))) lt = refl
digit_is (suc (suc (suc (suc (suc (suc (suc (suc zero)))))))) lt = refl
digit_is (suc (suc (suc (suc (suc (suc (suc (suc (suc zero))))))))) lt = refl
digit_is (suc (suc (suc (suc (suc (suc (suc (suc (suc (suc zero)))))))))) lt = refl
digit_is (suc (suc (suc (suc (suc (suc (suc (suc (suc (suc (suc zero))))))))))) lt = refl
digit_is (suc (suc (suc (suc (suc (suc (suc (suc (suc (suc (suc (suc zero)))))))))))) lt = refl
digit_is (suc (suc (suc (suc (suc (suc (suc (suc (suc (suc (suc (suc (suc zero))))))))))))) lt = refl
digit_is (suc (suc (suc (suc (suc (suc (suc (suc (suc (suc (suc (suc (suc (suc zero)))))))))))))) lt = refl
digit_is (suc (suc (suc (suc (suc (suc (suc (suc (suc (suc (suc (suc (suc (suc (suc zero))))))))))))))) lt = refl
digit_is (suc (suc (suc (suc (suc (suc (suc (suc (suc (suc (suc (suc (suc (suc (suc (suc n)))))))))))))))) lt = absurd (omega (arith, lt))

bit_small : (b : Bool) → bit_value b ≤ 1
bit_small true = omega arith
bit_small false = omega arith

module _ (bus : Bus) (at : List Bool) where
  small : (i : ℕ) → bit_of bus at i ≤ 1
  small i = bit_small (bit_there at (slice_get bus.places i))

  nibble_small : (k : ℕ) → nibble bus at k < 16
  nibble_small k =
      let a = small (4 * k) in
      let b = small (4 * k + 1) in
      let c = small (4 * k + 2) in
      let d = small (4 * k + 3) in
      omega (arith, a, b, c, d)

  -- ---- bits

  -- four bits, and those after them
  four : (m i : ℕ) → bits_from bus at (suc (suc (suc (suc m)))) i ≡ bit_of bus at i + 2 * bit_of bus at (i + 1) + 4 * bit_of bus at (i + 2) + 8 * bit_of bus at (i + 3) + 16 * bits_from bus at m (i + 4)
  four m i =
      let unfolded : bits_from bus at (suc (suc (suc (suc m)))) i ≡ bit_of bus at i + 2 * (bit_of bus at (i + 1) + 2 * (bit_of bus at (i + 1 + 1) + 2 * (bit_of bus at (i + 1 + 1 + 1) + 2 * bits_from bus at m (i + 1 + 1 + 1 + 1)))) = refl in
      let two : i + 1 + 1 ≡ i + 2 = omega arith in
      let three : i + 1 + 1 + 1 ≡ i + 3 = omega arith in
      let last : i + 1 + 1 + 1 + 1 ≡ i + 4 = omega arith in
      let b : bit_of bus at (i + 1 + 1) ≡ bit_of bus at (i + 2) = ap (λ j. bit_of bus at j) two in
      let c : bit_of bus at (i + 1 + 1 + 1) ≡ bit_of bus at (i + 3) = ap (λ j. bit_of bus at j) three in
      let d : bits_from bus at m (i + 1 + 1 + 1 + 1) ≡ bits_from bus at m (i + 4) = ap (λ j. bits_from bus at m j) last in
      omega (arith, unfolded, b, c, d)

  -- no bit beyond the last counts
  past : (m i : ℕ) → length bus.places ≤ i → bits_from bus at m i ≡ 0
  past zero i le = refl
  past (suc m) i le =
      let none : bit_of bus at i ≡ 0 = ap (λ o. bit_value (bit_there at o)) (slice_get_past bus.places i le) in
      let rest : bits_from bus at m (i + 1) ≡ 0 = past m (i + 1) (omega (arith, le)) in
      let unfolded : bits_from bus at (suc m) i ≡ bit_of bus at i + 2 * bits_from bus at m (i + 1) = refl in
      omega (arith, none, rest, unfolded)

  -- so any two numbers of bits that include the last give the same number
  enough : (n m i : ℕ) → length bus.places ≤ n + i → length bus.places ≤ m + i → bits_from bus at n i ≡ bits_from bus at m i
  enough zero zero i a b = refl
  enough zero (suc m) i a b = sym (past (suc m) i (omega (arith, a)))
  enough (suc n) zero i a b = past (suc n) i (omega (arith, b))
  enough (suc n) (suc m) i a b = ap (λ rest. bit_of bus at i + 2 * rest) (enough n m (i + 1) (omega (arith, a)) (omega (arith, b)))

  -- ---- the text

  -- the number of the bits after so many digits, continued by these digits, is that of all bits
  continued : (k m : ℕ) → number_with (bits_from bus at m (4 * k)) (hex_digits bus at k) ≡ bits_from bus at (4 * k + m) 0
  continued zero m =
      let first : 4 * 0 ≡ 0 = omega arith in
      let count : m ≡ 4 * 0 + m = omega arith in
      ap (λ i. bits_from bus at m i) first ∙ ap (λ n. bits_from bus at n 0) count
  continued (suc k) m =
      let here : bits_from bus at (suc (suc (suc (suc m)))) (4 * k)
      ≡ bit_of bus at (4 * k) + 2 * bit_of bus at (4 * k + 1) + 4 * bit_of bus at (4 * k + 2) + 8 * bit_of bus at (4 * k + 3) + 16 * bits_from bus at m (4 * k + 4) = four m (4 * k) in
      let digit : digit_value (hex_digit (nibble bus at k)) ≡ bit_of bus at (4 * k) + 2 * bit_of bus at (4 * k + 1) + 4 * bit_of bus at (4 * k + 2) + 8 * bit_of bus at (4 * k + 3) = digit_is (nibble bus at k) (nibble_small k) in
      let next : 4 * suc k ≡ 4 * k + 4 = omega arith in
      let above : bits_from bus at m (4 * suc k) ≡ bits_from bus at m (4 * k + 4) = ap (λ i. bits_from bus at m i) next in
      let joined : bits_from bus at m (4 * suc k) * 16 + digit_value (hex_digit (nibble bus at k)) ≡ bits_from bus at (suc (suc (suc (suc m)))) (4 * k) = omega (arith, here, digit, above) in
      let count : 4 * k + suc (suc (suc (suc m))) ≡ 4 * suc k + m = omega arith in
      ap (λ n. number_with n (hex_digits bus at k)) joined ∙ continued k (suc (suc (suc (suc m)))) ∙ ap (λ n. bits_from bus at n 0) count

  -- the text of a bus is that of its number
  pub text_number : (digits : List ℕ) × (hex_text bus at ≡ codes "0x" ++ digits) × (number_with 0 digits ≡ bus_number bus at)
  text_number =
      let times = div_ceil_times (length bus.places) 4 (omega arith) in
      let reach : length bus.places ≤ (length bus.places / 4 + min 1 (length bus.places % 4)) * 4 = times.0 in
      let ceil : div_ceil (length bus.places) 4 ≡ length bus.places / 4 + min 1 (length bus.places % 4) = refl in
      let all : length bus.places ≤ 4 * div_ceil (length bus.places) 4 + 0 + 0 = omega (arith, reach, ceil) in
      (hex_digits bus at (div_ceil (length bus.places) 4), refl, continued (div_ceil (length bus.places) 4) 0 ∙ enough (4 * div_ceil (length bus.places) 4 + 0) (length bus.places) 0 all (omega arith))
