-- The budgets within which candidates are tried.
use Rattle.std.proofs.Common.{◌≡◌, ◌⊎◌, inl, inr, ◌∙◌, ap, sym, subst, arith, ℕ, suc, ◌*◌, ◌^◌, ◌<◌, ◌≤◌}
use Rattle.std.proofs.Math.Nat.{pow-suc, pow-le-pow_right}
use Rattle.std.proofs.lemmas.Bool.{cases_lt}
use Rattle.compare_built.specs.Attempts.{IsBudget, first_budget}

-- the next budget
pub next_budget : (k b : ℕ) → b ≡ 16384 * 32 ^ k → b * 32 ≡ 16384 * 32 ^ suc k
next_budget k b e = let s = pow-suc 32 k in omega (arith, s, e)

pub fewer : (j k : ℕ) → 32 ^ j < 32 ^ k → j < k
fewer j k lt = by (cases_lt j k)
  where
    by : (j < k) ⊎ (k ≤ j) → j < k
    by (inl less) = less
    by (inr le) = let more = pow-le-pow_right {n = 32} (omega arith) le in absurd (omega (arith, lt, more))

-- what holds of the budgets before this one, and of this one, holds of the budgets before the next
pub tried_next : (P : ℕ → Type 0) (k b : ℕ) → b ≡ 16384 * 32 ^ k → ((j : ℕ) → j < k → P (16384 * 32 ^ j)) → P b → (j : ℕ) → j < suc k → P (16384 * 32 ^ j)
tried_next P k b e before now j lt = by (cases_lt j k)
  where
    by : (j < k) ⊎ (k ≤ j) → P (16384 * 32 ^ j)
    by (inl less) = before j less
    by (inr le) = subst P (e ∙ ap (λ i. 16384 * 32 ^ i) (let same : k ≡ j = omega (arith, lt, le) in same)) now

-- what holds of the budgets before this one holds of each smaller budget
pub each_smaller : (P : ℕ → Type 0) (limit k top : ℕ) → ((j : ℕ) → j < k → P (16384 * 32 ^ j)) → top ≤ 16384 * 32 ^ k → top ≤ limit → (budget : ℕ) → IsBudget limit budget → budget < top → P budget
each_smaller P limit k top tried most within budget (inl (j, power, less)) lt =
    let few : 32 ^ j < 32 ^ k = omega (arith, power, lt, most) in
    subst P (sym power) (tried j (fewer j k few))
each_smaller P limit k top tried most within budget (inr same) lt = absurd (omega (arith, same, lt, within))

-- the first budget is a budget
pub first_is_one : (limit b : ℕ) → b ≡ first_budget limit → IsBudget limit b
first_is_one limit b e = by (cases_lt 16384 limit)
  where
    by : (16384 < limit) ⊎ (limit ≤ 16384) → IsBudget limit b
    by (inl lt) = inl (0, (let same : b ≡ 16384 = omega (arith, e, lt) in same), (let less : b < limit = omega (arith, e, lt) in less))
    by (inr le) = inr (omega (arith, e, le))

-- what holds of the budgets before this one, and of the limit, holds of each budget
pub each_budget : (P : ℕ → Type 0) (limit k : ℕ) → ((j : ℕ) → j < k → P (16384 * 32 ^ j)) → limit ≤ 16384 * 32 ^ k → P limit → (budget : ℕ) → IsBudget limit budget → P budget
each_budget P limit k tried most last budget (inl (j, power, less)) = each_smaller P limit k limit tried most (omega arith) budget (inl (j, power, less)) less
each_budget P limit k tried most last budget (inr same) = subst P (sym same) last
