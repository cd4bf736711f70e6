-- Identifiers, byte by byte.
use Rattle.std.proofs.Common.{◌≡◌, ℕ, zero, suc, ◌+◌, ◌-◌, ◌/◌, ◌%◌, ◌<◌, ◌≤◌, true, false, List, [], ◌∷◌, ◌++◌, refl, sym, ap, ◌∙◌, cond, append_assoc, arith}
use Rattle.std.specs.Prelude.{nat_lt}
use Rattle.std.proofs.lemmas.Bool.Decides.{nat_tests}
use Rattle.net_explain.specs.Vcd.{code, code_within}

pub not_less : (k : ℕ) → 94 ≤ k → nat_lt k 94 ≡ false
not_less k h = grind (arith, nat_tests)

pub less : (k : ℕ) → k < 94 → nat_lt k 94 ≡ true
less k h = grind (arith, nat_tests)

-- the last byte
pub last_byte : (most k : ℕ) → k < most → k < 94 → code_within most k ≡ (33 + k % 94) ∷ []
unfolding code_within
last_byte zero k low short = absurd (omega arith)
last_byte (suc most) k low short = ap (λ b. (33 + k % 94) ∷ cond b [] (code_within most (k / 94 - 1))) (less k short)

-- what remains of an identifier, of at most so many bytes
pub record IsLeft (whole text : List ℕ) (k : ℕ) : Type 0 where
  pub most : ℕ
  pub low : k < most
  pub rest : text ++ code_within most k ≡ whole

pub begun : (text : List ℕ) (k : ℕ) → IsLeft (text ++ code k) text k
unfolding code
begun text k = record { most = suc k; low = omega arith; rest = refl }

pub next_byte : (whole text more : List ℕ) (k : ℕ) → 94 ≤ k → more ≡ text ++ (33 + k % 94) ∷ [] → IsLeft whole text k → IsLeft whole more (k / 94 - 1)
unfolding code_within
next_byte whole text more k long added left = by left.most left.low left.rest
  where
    by : (most : ℕ) → k < most → text ++ code_within most k ≡ whole → IsLeft whole more (k / 94 - 1)
    by zero low rest = absurd (omega arith)
    by (suc most) low rest = record {
      most = most;
      low = omega arith;
      rest = ap (λ z. z ++ code_within most (k / 94 - 1)) added ∙ append_assoc text ((33 + k % 94) ∷ []) (code_within most (k / 94 - 1)) ∙
          ap (λ b. text ++ (33 + k % 94) ∷ cond b [] (code_within most (k / 94 - 1))) (sym (not_less k long)) ∙ rest;
    }

pub ended : (whole text more : List ℕ) (k : ℕ) → k < 94 → more ≡ text ++ (33 + k % 94) ∷ [] → IsLeft whole text k → more ≡ whole
ended whole text more k short added left = added ∙ ap (λ z. text ++ z) (sym (last_byte left.most k left.low short)) ∙ left.rest
