-- Different numbers have different identifiers.
use Rattle.std.proofs.Common.{◌≡◌, inl, inr, ℕ, zero, suc, ◌+◌, ◌-◌, ◌/◌, ◌%◌, ◌<◌, ◌≤◌, List, [], ◌∷◌, refl, sym, ap, ◌∙◌, cond, arith}
use Rattle.std.specs.Prelude.{nat_lt}
use Rattle.std.proofs.lemmas.Bool.{cases_lt}
use Rattle.net_explain.specs.Vcd.{code, code_within}
use Rattle.net_explain.proofs.Codes.{less, not_less}

-- the bytes after the first
abbrev outside : ℕ → ℕ → List ℕ
outside most k = cond (nat_lt k 94) [] (code_within most (k / 94 - 1))

gate_counts : (most k : ℕ) → code_within (suc most) k ≡ (33 + k % 94) ∷ outside most k
unfolding code_within
gate_counts most k = refl

outside_last : (most k : ℕ) → k < 94 → outside most k ≡ []
outside_last most k low = ap (λ b. cond b [] (code_within most (k / 94 - 1))) (less k low)

outside_more : (most k : ℕ) → 94 ≤ k → outside most k ≡ code_within most (k / 94 - 1)
outside_more most k high = ap (λ b. cond b [] (code_within most (k / 94 - 1))) (not_less k high)

some_bytes : (most k : ℕ) → k < most → [] ≡ code_within most k → ⊥
some_bytes zero k low e = omega arith
some_bytes (suc most) k low e = let f : [] ≡ (33 + k % 94) ∷ outside most k = e ∙ gate_counts most k in cc

one_within : (m n j k : ℕ) → j < m → k < n → code_within m j ≡ code_within n k → j ≡ k
one_within zero n j k low less e = absurd (omega arith)
one_within (suc m) zero j k low less e = absurd (omega arith)
one_within (suc m) (suc n) j k low small e =
    let both : (33 + j % 94) ∷ outside m j ≡ (33 + k % 94) ∷ outside n k = sym (gate_counts m j) ∙ e ∙ gate_counts n k in
    let head : 33 + j % 94 ≡ 33 + k % 94 = cc in
    let tail : outside m j ≡ outside n k = cc in
    elim (cases_lt j 94) [
      | inl short ↦ elim (cases_lt k 94) [
        | inl shorter ↦ omega arith
        | inr long ↦ absurd (some_bytes n (k / 94 - 1) (omega arith) (sym (outside_last m j short) ∙ tail ∙ outside_more n k long))
      ]
      | inr long ↦ elim (cases_lt k 94) [
        | inl short ↦ absurd (some_bytes m (j / 94 - 1) (omega arith) (sym (outside_last n k short) ∙ sym tail ∙ outside_more m j long))
        | inr longer ↦
            let rest : j / 94 - 1 ≡ k / 94 - 1 = one_within m n (j / 94 - 1) (k / 94 - 1) (omega arith) (omega arith) (sym (outside_more m j long) ∙ tail ∙ outside_more n k longer) in
            omega arith
      ]
    ]

pub one_code : (j k : ℕ) → code j ≡ code k → j ≡ k
unfolding code
one_code j k e = one_within (suc j) (suc k) j k (omega arith) (omega arith) e
