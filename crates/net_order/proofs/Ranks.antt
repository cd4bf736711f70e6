-- No rank is greater than the number of gates.
use Rattle.std.proofs.Common.{◌≡◌, ℕ, zero, suc, ◌+◌, ◌<◌, ◌≤◌, inl, inr, List, [], ◌∷◌, true, false, refl, sym, ap, ◌∙◌, map, length, arith, add-one}
use Rattle.std.proofs.lemmas.Bool.{cases_lt}
use Rattle.std.proofs.lemmas.List.{length-map}
use Rattle.std.proofs.lemmas.Bool.Decides.{nat_tests}
use Rattle.std.specs.Prelude.{cond, nat_le, Contains, slice_index, slice_index_or}
use Rattle.net_bench.specs.declared.netlist.GateLine.{GateLine}
use Rattle.net_bench.specs.Circuit.{Net, IsNet, greatest}

-- how many of the numbers are at most k
abbrev at_most : ℕ → List ℕ → ℕ
at_most k [] = 0
at_most k (x ∷ xs) = cond (nat_le x k) 1 0 + at_most k xs

at_most_length : (k : ℕ) (xs : List ℕ) → at_most k xs ≤ length xs
at_most_length k [] = omega arith
at_most_length k (x ∷ xs) = let rest = at_most_length k xs in grind (arith, nat_tests)

one_more : (k x : ℕ) → cond (nat_le x k) 1 0 ≤ cond (nat_le x (k + 1)) 1 0
one_more k x = grind (arith, nat_tests)

one_here : (k : ℕ) → cond (nat_le (k + 1) k) 1 0 + 1 ≡ cond (nat_le (k + 1) (k + 1)) 1 0
one_here k = grind (arith, nat_tests)

at_most_grows : (k : ℕ) (xs : List ℕ) → at_most k xs ≤ at_most (k + 1) xs
at_most_grows k [] = omega arith
at_most_grows k (x ∷ xs) = omega (arith, at_most_grows k xs, one_more k x)

at_most_more : (k i : ℕ) (xs : List ℕ) → i < length xs → slice_index xs i ≡ k + 1 → at_most k xs + 1 ≤ at_most (k + 1) xs
at_most_more k i [] low at = absurd (omega arith)
at_most_more k zero (x ∷ xs) low at = let same : x ≡ k + 1 = at in rw same (omega (arith, at_most_grows k xs, one_here k))
at_most_more k (suc i) (x ∷ xs) low at = omega (arith, at_most_more k i xs (omega arith) at, one_more k x)

-- a list that has each number from 1 to r has at least r elements
filled : (xs : List ℕ) (r : ℕ) → ((k : ℕ) → 0 < k → k ≤ r → (i : ℕ) × (i < length xs) × (slice_index xs i ≡ k)) → r ≤ at_most r xs
filled xs zero h = omega arith
filled xs (suc r) h =
    let at = h (suc r) (omega arith) (omega arith) in
    let rest = filled xs r (λ k pos low. h k pos (omega arith)) in
    let more = at_most_more r at.0 xs at.1 (at.2 ∙ sym (add-one r)) in
    rw (← add-one) (omega arith)

-- ---- the ranks below a signal

at_gates : (ranks : List ℕ) (gates : List GateLine) (i : ℕ) (g : GateLine) → i < length gates → slice_index_or gates i g ≡ g →
    slice_index (map (λ h. slice_index ranks h.out) gates) i ≡ slice_index ranks g.out
at_gates ranks [] i g low at = absurd (omega arith)
at_gates ranks (h ∷ gates) zero g low at = ap (λ x. slice_index ranks x.out) at
at_gates ranks (h ∷ gates) (suc i) g low at = at_gates ranks gates i g (omega arith) at

-- the greatest of the numbers is one of them, if it is not 0
at_greatest : (f : ℕ → ℕ) (xs : List ℕ) (r : ℕ) → 0 < r → greatest (map f xs) ≡ r → (x : ℕ) × Contains xs x × (f x ≡ r)
at_greatest f [] r pos e = absurd (omega arith)
at_greatest f (x ∷ xs) r pos e =
    elim (nat_le (f x) (greatest (map f xs))) as (λ b. cond b (greatest (map f xs)) (f x) ≡ r → (y : ℕ) × Contains (x ∷ xs) y × (f y ≡ r)) [
      | true ↦ λ e. let rest = at_greatest f xs r pos e in (rest.0, (rest.1.0 + 1, omega (arith, rest.1.1), rw add-one rest.1.2), rest.2)
      | false ↦ λ e. (x, (0, omega arith, refl), e)
    ] e

beyond : (xs : List ℕ) (i : ℕ) → length xs ≤ i → slice_index xs i ≡ 0
beyond [] i h = refl
beyond (x ∷ xs) zero h = absurd (omega arith)
beyond (x ∷ xs) (suc i) h = beyond xs i (omega arith)

module _ (n : Net) (sound : IsNet n) where
  abbrev gate_ranks : List ℕ
  gate_ranks = map (λ g. slice_index n.ranks g.out) n.gates

  -- a signal whose rank is not 0 has a gate
  ranked_gate : (s r : ℕ) → slice_index n.ranks s ≡ suc r → (g : GateLine) × Contains n.gates g × (g.out ≡ s)
  ranked_gate s r e =
      elim (cases_lt s (length n.names)) [
        | inl low ↦ elim (sound.defined s low) [
          | inl among ↦
              let none : slice_index n.ranks s ≡ 0 = rw among.2 at (sound.ranks.variables among.0 s among.1) in
              absurd (omega arith)
          | inr gate ↦ gate
        ]
        | inr past ↦ let none : slice_index n.ranks s ≡ 0 = beyond n.ranks s (omega (arith, sound.ranks.each)) in absurd (omega arith)
      ]

  -- one more than the greatest rank of its operands
  pub gate_rank : (g : GateLine) → Contains n.gates g → slice_index n.ranks g.out ≡ greatest (map (slice_index n.ranks) g.operands) + 1
  gate_rank g among = rw among.2 at (sound.ranks.gates among.0 g among.1)

  -- below a signal of rank r there is a gate of each lower rank but 0, and at the signal one of rank r
  reached : (r s k : ℕ) → slice_index n.ranks s ≡ r → 0 < k → k ≤ r → (i : ℕ) × (i < length gate_ranks) × (slice_index gate_ranks i ≡ k)
  reached zero s k e pos low = absurd (omega arith)
  reached (suc r) s k e pos low =
      let gate = ranked_gate s r e in
      let here : slice_index n.ranks gate.0.out ≡ suc r = ap (slice_index n.ranks) gate.2 ∙ e in
      elim (cases_lt r k) [
        | inl top ↦
            let at : slice_index gate_ranks gate.1.0 ≡ slice_index n.ranks gate.0.out = at_gates n.ranks n.gates gate.1.0 gate.0 gate.1.1 gate.1.2 in
            let is_k : suc r ≡ k = omega arith in
            (gate.1.0, rw length-map gate.1.1, at ∙ here ∙ is_k)
        | inr under ↦
            let greatest_is : greatest (map (slice_index n.ranks) gate.0.operands) ≡ r = omega (arith, gate_rank gate.0 gate.1, here) in
            let operand = at_greatest (slice_index n.ranks) gate.0.operands r (omega arith) greatest_is in
            reached r operand.0 k operand.2 pos under
      ]

  -- no rank is greater than the number of gates
  pub deep : (s : ℕ) → slice_index n.ranks s ≤ length n.gates
  deep s =
      let gates = filled gate_ranks (slice_index n.ranks s) (λ k pos low. reached (slice_index n.ranks s) s k refl pos low) in
      omega (arith, gates, at_most_length (slice_index n.ranks s) gate_ranks, length-map n.gates (λ g. slice_index n.ranks g.out))
