-- Members of a list, from its front.
use Rattle.std.proofs.Common.{◌≡◌, zero, suc, ◌⊎◌, inl, inr, List, [], ◌∷◌, refl, arith, Contains}
use Rattle.std.proofs.Common.{true≢false}
use Rattle.std.specs.Prelude.{Result, Ok, Err, OnOk, false}
use Rattle.std.specs.Result.{is_err}

pub nothing : {X : Type 0} (x : X) → Contains [] x → ⊥
nothing x (i, lt, e) = omega arith

pub head_in : {X : Type 0} (x : X) (xs : List X) → Contains (x ∷ xs) x
head_in x xs = (0, omega arith, refl)

pub tail_in : {X : Type 0} (x y : X) (xs : List X) → Contains xs y → Contains (x ∷ xs) y
tail_in x y xs (i, lt, e) = (suc i, omega arith, e)

pub in_cases : {X : Type 0} (x y : X) (xs : List X) → Contains (x ∷ xs) y → (x ≡ y) ⊎ Contains xs y
in_cases x y xs (zero, lt, e) = inl e
in_cases x y xs (suc i, lt, e) = inr (i, omega arith, e)

-- if a result is no error, what holds of it if it is none holds
pub on_ok : {T E P : Type 0} (r : Result T E) → is_err r ≡ false → OnOk r P → P
on_ok (Ok x) none h = h
on_ok (Err e) none h = absurd (true≢false none)
