-- Choices of an order, and what the devices of a task gave.
use Rattle.std.proofs.Common.{◌≡◌, ℕ, List, Option, Some, None, Result, Ok, Err, IfErr, refl, ap, ap₂, sym, subst, ◌∙◌, Bool}
use Rattle.std.specs.Prelude.{IfSome, IsSomeAnd, is_some, option_map}
use Rattle.std.specs.Option.{option_copied}
use Rattle.std.specs.Borrow.{Bor}
use Rattle.expand_work.specs.Bounds.{WaveBound}
use Rattle.net_names.specs.declared.order.Match.{Match}
use Rattle.net_names.specs.declared.order.Order.{Order}
use Rattle.net_names.specs.declared.order.Order.TheVariants as orders
use Rattle.compare_built.specs.declared.strategy.AttemptOrder.{AttemptOrder}
use Rattle.compare_built.specs.declared.strategy.AttemptOrder.TheVariants as tried_orders
use Rattle.compare_built.specs.declared.strategy.Strategy.{Strategy}
use Rattle.compare_built.specs.declared.strategy.Strategy.TheVariants.{One, Computed, Best, Auto, Cones, ConesByList, Merge}
use Rattle.compare_built.specs.declared.fault.CheckFault.{CheckFault}
use Rattle.compare_built.specs.declared.fault.CheckFault.TheVariants.{First, Second, Given, GivenOutputs, Order as OrderRefused, Only, Explain, Wave, GivenUp, Write, OutOfMemory}
use Rattle.compare_built.specs.declared.strategy.Attempt.{Attempt}
use Rattle.compare_built.specs.Attempts.{IsAllowed, IsChosen, MayGoByCones}
use Rattle.compare_built.specs.Candidates.{IsOrderIn}
use Rattle.net_bench.specs.Circuit.{Circuit, Net, circuit}
use Rattle.net_order.specs.Order.{IsPairing, NamingModel, condition}
use Rattle.compare_built.specs.Devices.{DeviceTexts, device_text}
use Rattle.report_text.specs.declared.order_kind.OrderKind.{OrderKind}
use Rattle.report_text.specs.declared.outcome.Share.{Share}
use Rattle.report_text.specs.declared.assignment.Assignment.{Assignment}
use Rattle.report_text.specs.Causes.{Caused}
use Rattle.report_text.specs.Json.{form_text}
use Rattle.report_text.specs.Lines.{Found}
use Rattle.net_bench.specs.declared.fault.BenchFault.{BenchFault}
use Rattle.compare_built.specs.declared.settings.Settings.{Settings}
use Rattle.explain_report.specs.Deciding.{MayTakeCones, IsFoundBy}
use Rattle.explain_report.specs.Deciding.IsFoundBy.{by_cones, in_order}
use Rattle.compare_built.specs.Check.{AreAccepted, AreGiven, ArePaired, Gives, IsCondition, IsUnread, IsConditionFault, IsCheckFault}
use Rattle.compare_built.specs.Conditions.{HasOneOutput}
use Rattle.order_search.proofs.Reporting.{any_for, few_for}

-- each choice allows some order
pub some_order : (choice : Strategy) → (order : Order) × IsAllowed choice order
some_order (One o) = (o, refl)
some_order (Computed c) = (orders.Declared, refl)
some_order Best = (orders.Declared, refl)
some_order Auto = (orders.Declared, refl)
some_order Cones = (orders.Declared, refl)
some_order Merge = (orders.Declared, refl)
some_order (ConesByList names) = (orders.Declared, refl)

-- a fault for which no device had to fail
unread : (input : Option (List ℕ)) (failed : Type 0) (fault : BenchFault) → IsUnread input ⊥ fault → IsUnread input failed fault
unread input failed fault u = record { cause = u.cause; read = λ e. absurd (u.read e) }

uncondition : (given : Option (Option (List ℕ))) (failed : Type 0) (fault : BenchFault) → IsSomeAnd given (λ input. IsUnread input ⊥ fault) → IsSomeAnd given (λ input. IsUnread input failed fault)
uncondition None failed fault u = absurd u
uncondition (Some input) failed fault u = unread input failed fault u

pub none_failed : (input : DeviceTexts) (first second third : Type 0) (choice : Strategy) (how : Match) (order : Order) (fault : CheckFault) → IsCheckFault input ⊥ ⊥ ⊥ choice how order fault →
    IsCheckFault input first second third choice how order fault
none_failed input first second third choice how order (First fault) c = unread input.first first fault c
none_failed input first second third choice how order (Second fault) c = (c.0, c.1, unread input.second second fault c.2)
none_failed input first second third choice how order (Given fault) c = (c.0, c.1, c.2, c.3, uncondition input.given third fault c.4)
none_failed input first second third choice how order GivenOutputs c = c
none_failed input first second third choice how order (OrderRefused fault) c = c
none_failed input first second third choice how order Only c = c
none_failed input first second third choice how order Explain c = c
none_failed input first second third choice how order (Wave fault) c = c
none_failed input first second third choice how order GivenUp c = c
none_failed input first second third choice how order Write c = c
none_failed input first second third choice how order OutOfMemory c = c

module _ (input : DeviceTexts) (first second third : Type 0) (how : Match) (choice : Strategy) where
  pub none_failed_in : {T : Type 0} (r : Result T CheckFault) → IfErr r (λ fault. (order : Order) × IsAllowed choice order × IsCheckFault input ⊥ ⊥ ⊥ choice how order fault)
      → IfErr r (λ fault. (order : Order) × IsAllowed choice order × IsCheckFault input first second third choice how order fault)
  none_failed_in (Ok v) h = tt
  none_failed_in (Err fault) h = (h.0, h.1, none_failed input first second third choice how h.0 fault h.2)

-- why there is no condition, if both texts were accepted
pub condition_fault : (input : DeviceTexts) (a b : Circuit) (first second third : Type 0) (choice : Strategy) (how : Match) (order : Order) (fault : CheckFault) → Gives input.first a → Gives input.second b →
    IsConditionFault input.given third fault → IsCheckFault input first second third choice how order fault
condition_fault input a b first second third choice how order (First fault) ga gb f = absurd f
condition_fault input a b first second third choice how order (Second fault) ga gb f = absurd f
condition_fault input a b first second third choice how order (Given fault) ga gb f = (a, b, ga, gb, f)
condition_fault input a b first second third choice how order GivenOutputs ga gb f = (a, b, ga, gb, f)
condition_fault input a b first second third choice how order (OrderRefused fault) ga gb f = absurd f
condition_fault input a b first second third choice how order Only ga gb f = absurd f
condition_fault input a b first second third choice how order Explain ga gb f = absurd f
condition_fault input a b first second third choice how order (Wave fault) ga gb f = absurd f
condition_fault input a b first second third choice how order GivenUp ga gb f = absurd f
condition_fault input a b first second third choice how order Write ga gb f = absurd f
condition_fault input a b first second third choice how order OutOfMemory ga gb f = absurd f

-- a condition that is borrowed
pub as_condition : (o : Option Net) (r : Option (Bor Net)) → option_copied r ≡ o → option_map circuit o ≡ condition r
as_condition o None e = ap (option_map circuit) (sym e)
as_condition o (Some net) e = ap (option_map circuit) (sym e)

-- the texts of a task, whose condition is borrowed
pub given_as : (input : DeviceTexts) (a b : Circuit) (o : Option Net) (r : Option (Bor Net)) → option_copied r ≡ o → AreGiven input a b (option_map circuit o) → AreGiven input a b (condition r)
given_as input a b o r e h = subst (AreGiven input a b) (as_condition o r e) h

-- a condition that was read has one output
pub one_output_of : (input : Option (Option (List ℕ))) (c : Option Circuit) → IsCondition input c → IfSome c HasOneOutput
one_output_of input None h = tt
one_output_of None (Some c) h = absurd h
one_output_of (Some text) (Some c) h = h.1

-- there is a text exactly if there is a device
pub has_input : {R : Type 0} (text_of : R → Option (List ℕ)) (r : Option R) → is_some (device_text text_of r) ≡ is_some r
has_input text_of None = refl
has_input text_of (Some device) = refl

-- the bytes of a report, by whether there is a condition, and by its causes
pub form_as : (json : Bool) (which : Option Assignment) (how : Match) (kind : OrderKind) (share : Option Share) (stopped : Bool) (found : Found) (items : List ℕ) (h given : Bool) (list causes : Option (List Caused))
    → items ≡ form_text json which how kind h share stopped list found → h ≡ given → list ≡ causes → items ≡ form_text json which how kind given share stopped causes found
form_as json which how kind share stopped found items h given list causes e input same = e ∙ ap₂ (λ (z : Bool) (cs : Option (List Caused)). form_text json which how kind z share stopped cs found) input same

-- what has a pairing is accepted, for any choice of an order
pub accepted_in : (choice : Strategy) (input : DeviceTexts) (how : Match) (order : Order) (a b : Circuit) (c : Option Circuit) (p : NamingModel) → ArePaired input how order a b c p → AreAccepted input choice how order
accepted_in choice input how order a b c p paired =
    (a, b, c, p, record { netlists = paired.netlists; naming = paired.pairing.naming }, few_for choice how a b c paired.pairing.few)

module _ (choice : Strategy) (input : DeviceTexts) (how : Match) where
  -- if there is a pairing in the order of an attempt, declared order is accepted
  pub accepted_declared : (o : AttemptOrder) (order : Order) (a b : Circuit) (c : Option Circuit) (p : NamingModel) → IsOrderIn input how o order → ArePaired input how order a b c p → AreAccepted input choice how orders.Declared
  accepted_declared (tried_orders.Computed k) order a b c p (x, y, z, given, made) paired =
      let q = made.by_rule.0 in
      let declared : IsPairing how x y z orders.Declared q =
      subst (λ g. IsPairing how x y g orders.Declared q) made.is_conditional
      (subst (λ d. IsPairing how x d (condition made.conditional) orders.Declared q) made.is_second
      (subst (λ d. IsPairing how d (circuit made.second) (condition made.conditional) orders.Declared q) made.is_first made.by_rule.1)) in
      accepted_in choice input how orders.Declared x y z q (record { netlists = given; pairing = declared })
  accepted_declared tried_orders.Declared order a b c p (x, y, z, given, same) paired = accepted_in choice input how orders.Declared a b c p (subst (λ k. ArePaired input how k a b c p) same paired)

-- the order of a report is accepted as one in which faults have their causes
pub chosen_accepted : (input : DeviceTexts) (how : Match) (choice : Strategy) (limit : ℕ) (tried : Option Attempt) (order : Order) (a b : Circuit) (c : Option Circuit) (p : NamingModel) → ArePaired input how order a b c p →
    IsChosen input how choice limit tried order → (k : Order) × IsAllowed choice k × AreAccepted input choice how k
chosen_accepted input how (One o) limit None order a b c p paired is = (order, is.0, accepted_in (One o) input how order a b c p paired)
chosen_accepted input how (One o) limit (Some t) order a b c p paired is = absurd is
chosen_accepted input how (Computed k) limit None order a b c p paired is =
    (orders.Declared, refl, accepted_declared (Computed k) input how (tried_orders.Computed k) order a b c p is.0 paired)
chosen_accepted input how (Computed k) limit (Some t) order a b c p paired is = absurd is
chosen_accepted input how Best limit None order a b c p paired is = absurd is
chosen_accepted input how Best limit (Some t) order a b c p paired is = (orders.Declared, refl, accepted_declared Best input how t.order order a b c p is.0 paired)
chosen_accepted input how Auto limit None order a b c p paired is = absurd is
chosen_accepted input how Auto limit (Some t) order a b c p paired is = (order, is.0, accepted_in Auto input how order a b c p paired)
chosen_accepted input how Cones limit tried order a b c p paired is = absurd is
chosen_accepted input how Merge limit tried order a b c p paired is = absurd is
chosen_accepted input how (ConesByList names) limit tried order a b c p paired is = absurd is

-- what is found is accepted, in an order that is allowed
pub found_accepted : (input : DeviceTexts) (s : Settings) (bound : WaveBound) (found : Found) (tried : Option Attempt) → IsFoundBy input s bound found tried →
    (order : Order) × IsAllowed s.order order × AreAccepted input s.order s.matching order
found_accepted input s bound found tried (in_order order j chosen) = chosen_accepted input s.matching s.order s.limit tried order j.a j.b j.c j.p j.paired chosen
found_accepted input s bound found None (by_cones cause j last) = (orders.Declared, declared_allowed s.order cause, (j.a, j.b, j.c, j.p, j.named, any_for s.order s.matching j.a j.b j.c (may_go s.order cause)))
  where
    declared_allowed : (choice : Strategy) → MayTakeCones input s bound choice → IsAllowed choice orders.Declared
    declared_allowed (One o) cause = absurd cause
    declared_allowed (Computed c) cause = absurd cause
    declared_allowed Best cause = absurd cause
    declared_allowed Auto cause = refl
    declared_allowed Cones cause = refl
    declared_allowed Merge cause = refl
    declared_allowed (ConesByList names) cause = refl

    may_go : (choice : Strategy) → MayTakeCones input s bound choice → MayGoByCones choice
    may_go (One o) cause = absurd cause
    may_go (Computed c) cause = absurd cause
    may_go Best cause = absurd cause
    may_go Auto cause = tt
    may_go Cones cause = tt
    may_go Merge cause = tt
    may_go (ConesByList names) cause = tt
