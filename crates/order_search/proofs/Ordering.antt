-- Orders of attempts: how they are made, their pairings, and why there is none.
use Rattle.std.proofs.Common.{◌≡◌, ◌⊎◌, ◌∙◌, inl, inr, refl, sym, subst, [], Option, Some, None, Result, Ok, Err}
use Rattle.std.specs.Prelude.{IfOk, IfSome}
use Rattle.net_bench.specs.Circuit.{Circuit, IsNet, circuit}
use Rattle.net_names.specs.declared.order.Match.{Match}
use Rattle.net_names.specs.declared.order.Order.{Order}
use Rattle.net_names.specs.declared.order.Order.TheVariants as orders
use Rattle.net_names.specs.declared.order.OrderFault.{OrderFault}
use Rattle.net_names.specs.declared.order.OrderFault.TheVariants.{CountsDiffer, NotAPermutation, TooManyInputs, OutOfMemory, BadName, TooLong, Read}
use Rattle.net_order.specs.Order.{IsFit, IsPairing, IsRefused, NamingModel, bad_place, condition, variables_in}
use Rattle.group_order.specs.Orders.{IsOrderBy}
use Rattle.compare_built.specs.declared.strategy.AttemptOrder.{AttemptOrder}
use Rattle.compare_built.specs.declared.strategy.AttemptOrder.TheVariants.{Computed, Declared}
use Rattle.compare_built.specs.declared.strategy.Candidate.{Candidate}
use Rattle.compare_built.specs.declared.task.Task.{Task}
use Rattle.compare_built.specs.Candidates.{IsOrderOf, IsPairingBy, rule_of}

-- an order that a candidate's rule makes from a task's netlists is that of the candidate
pub made_order : {H : Type 0} (task : Task H) (c : Candidate) (r : Result Order OrderFault) → IsNet task.first.now → IsNet task.second.now → IfSome task.given (λ n. IsNet n.now) →
    IfOk r (IsOrderBy (rule_of c) task.settings.now.matching task.first.now task.second.now task.given) →
    IfOk r (IsOrderOf task.settings.now.matching (circuit task.first.now) (circuit task.second.now) (condition task.given) (Computed c))
made_order task c (Ok order) one two three by_rule = record {
  first = task.first.now;
  second = task.second.now;
  conditional = task.given;
  first_net = one;
  second_net = two;
  conditional_net = three;
  is_first = refl;
  is_second = refl;
  is_conditional = refl;
  by_rule = by_rule;
}
made_order task c (Err fault) one two three by_rule = tt

module _ (how : Match) (a b : Circuit) (given : Option Circuit) where
  -- a pairing in a list of names that fits is refused as one in declared order is
  pub refused_as_declared : (f : OrderFault) (order : Order) → IsFit (variables_in how a b given) order → (f ≡ OutOfMemory) ⊎ IsRefused how a b given order f → (f ≡ OutOfMemory) ⊎ IsRefused how a b given orders.Declared f
  refused_as_declared f order fit (inl memory) = inl memory
  refused_as_declared CountsDiffer order fit (inr apart) = inr apart
  refused_as_declared TooManyInputs order fit (inr many) = inr many
  refused_as_declared (NotAPermutation place) order fit (inr (counted, few, (names, is, bad))) =
      let fits : bad_place (variables_in how a b given) [] names 1 ≡ None = subst (IsFit (variables_in how a b given)) is fit in
      absurd (let never : None ≡ Some place = sym fits ∙ bad in cc)
  refused_as_declared OutOfMemory order fit (inr never) = absurd never
  refused_as_declared (BadName line) order fit (inr never) = absurd never
  refused_as_declared TooLong order fit (inr never) = absurd never
  refused_as_declared Read order fit (inr never) = absurd never

  -- if there is a pairing in the order of an attempt, there is one in declared order
  pub declared_pairing : (o : AttemptOrder) (p : NamingModel) → IsPairingBy how a b given o p → (q : NamingModel) × IsPairing how a b given orders.Declared q
  declared_pairing (Computed c) p (order, made, is) = (
    made.by_rule.0,
    subst (λ g. IsPairing how a b g orders.Declared made.by_rule.0) made.is_conditional
        (subst (λ y. IsPairing how a y (condition made.conditional) orders.Declared made.by_rule.0) made.is_second
        (subst (λ x. IsPairing how x (circuit made.second) (condition made.conditional) orders.Declared made.by_rule.0) made.is_first made.by_rule.1)),
  )
  declared_pairing Declared p (order, same, is) = (p, subst (λ k. IsPairing how a b given k p) same is)
