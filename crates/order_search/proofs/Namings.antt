-- Namings and pairings of a task's netlists: why there is none, and how many variables there are.
use Rattle.std.proofs.Common.{◌≡◌, ◌≢◌, ◌⊎◌, ◌<◌, ◌≤◌, inl, inr, sym, ◌∙◌, subst, length, Option}
use Rattle.net_bench.specs.Circuit.{Circuit}
use Rattle.net_names.specs.declared.order.Match.{Match}
use Rattle.net_names.specs.declared.order.Order.{Order}
use Rattle.net_names.specs.declared.order.OrderFault.{OrderFault}
use Rattle.net_names.specs.declared.order.OrderFault.TheVariants.{CountsDiffer, OutOfMemory, TooManyInputs}
use Rattle.net_order.specs.Order.{HaveEqualCounts, IsNaming, IsPairing, IsRefused, NamingModel, max_variables, variables_in}
use Rattle.net_order.proofs.InputLevels.{names_count}

module _ (f : OrderFault) (how : Match) (a b : Circuit) (given : Option Circuit) (order : Order) where
  -- a pairing is refused for its variables only if there are too many
  pub many_refused : (f ≡ OutOfMemory) ⊎ IsRefused how a b given order f → f ≡ TooManyInputs → max_variables < length (variables_in how a b given)
  many_refused (inl e) is = let never : OutOfMemory ≡ TooManyInputs = sym e ∙ is in cc
  many_refused (inr r) is = (subst (IsRefused how a b given order) is r).1

  -- a naming is refused as a pairing is
  pub naming_refused : (f ≡ OutOfMemory) ⊎ ((f ≡ CountsDiffer) × (HaveEqualCounts how a b → ⊥)) → (f ≡ OutOfMemory) ⊎ IsRefused how a b given order f
  naming_refused (inl e) = inl e
  naming_refused (inr (e, apart)) = inr (subst (IsRefused how a b given order) (sym e) apart)

  -- and not for its variables
  pub naming_whole : (f ≡ OutOfMemory) ⊎ ((f ≡ CountsDiffer) × (HaveEqualCounts how a b → ⊥)) → f ≢ TooManyInputs
  naming_whole (inl e) is = let never : OutOfMemory ≡ TooManyInputs = sym e ∙ is in cc
  naming_whole (inr (e, apart)) is = let never : CountsDiffer ≡ TooManyInputs = sym e ∙ is in cc

-- a naming of few variables is a pairing
pub as_pairing : (how : Match) (a b : Circuit) (given : Option Circuit) (order : Order) (p : NamingModel) → IsNaming how a b given order p → length p.names ≤ max_variables → IsPairing how a b given order p
as_pairing how a b given order p is few = record { naming = is; few = subst (λ n. n ≤ max_variables) (names_count how a b given order p is) few }
