-- The first name for which a list is no order of the variables.
use Rattle.std.specs.Prelude.{ℕ, if◌then◌else◌, List, [], ◌∷◌, ◌++◌, Option, Some, None}
use Rattle.net_bench.specs.Circuit.{is_name_in}
use Rattle.net_order.specs.declared.unfit.Misfit.{Misfit}
use Rattle.net_order.specs.declared.unfit.Misfit.TheVariants.{Foreign, Repeated, Missing}

-- A name for which a list is no order, and why.
pub record Unfit : Type 0 where
  pub why : Misfit
  pub name : List ℕ

-- The first of the variables that is not among the names; None if all are.
abbrev pub first_missing : List (List ℕ) → List (List ℕ) → Option Unfit
first_missing [] names = None
first_missing (v ∷ variables) names = if is_name_in names v then first_missing variables names else Some
    (record { why = Missing; name = v })

-- The first name that is no variable or came before; if there is none, the first variable that the names lack.
abbrev pub unfit_from : (variables before names : List (List ℕ)) → Option Unfit
unfit_from variables before [] = first_missing variables before
unfit_from variables before (n ∷ names) =
    if is_name_in variables n then (if is_name_in before n then Some (record { why = Repeated; name = n }) else unfit_from variables
    (before ++ n ∷ []) names)
    else Some (record { why = Foreign; name = n })
