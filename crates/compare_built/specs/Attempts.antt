-- Which orders are tried for a comparison, within which budgets of nodes, and which attempt decides it.
use Rattle.std.specs.Prelude.{◌≡◌, ℕ, min, ◌*◌, ◌^◌, ◌<◌, ◌⊎◌, List, ◌∷◌, map, Option, Some, None, ⊤}
use Rattle.expand_work.specs.Bounds.{MayStop, WaveBound, most_of}
use Rattle.net_names.specs.declared.order.Match.{Match}
use Rattle.net_names.specs.declared.order.Order.{Order}
use Rattle.net_names.specs.declared.order.Order.TheVariants as orders
use Rattle.net_names.specs.declared.order_name.OrderName.{OrderName}
use Rattle.net_names.specs.declared.order_name.OrderName.TheVariants as order_names
use Rattle.net_names.specs.OrderName.{word_of_order}
use Rattle.report_text.specs.declared.order_kind.OrderKind.{OrderKind}
use Rattle.report_text.specs.declared.order_kind.OrderKind.TheVariants as kinds
use Rattle.report_text.specs.Json.{kind_of}
use Rattle.compare_built.specs.Devices.{DeviceTexts}
use Rattle.compare_built.specs.declared.strategy.Strategy.{Strategy}
use Rattle.compare_built.specs.declared.strategy.Strategy.TheVariants.{One, Computed, Best, Auto, Cones, ConesByList, Merge}
use Rattle.compare_built.specs.declared.strategy.Candidate.{Candidate}
use Rattle.compare_built.specs.declared.strategy.Candidate.TheVariants.{MsbFirst, Weights, ForceGroups}
use Rattle.compare_built.specs.declared.strategy.AttemptOrder.{AttemptOrder}
use Rattle.compare_built.specs.declared.strategy.AttemptOrder.TheVariants as tried_orders
use Rattle.compare_built.specs.declared.strategy.Attempt.{Attempt}
use Rattle.compare_built.specs.Candidates.{InOrderOf, IsOrderIn}
use Rattle.compare_built.specs.Limits.{AreWithin, AreBeyond}
use Rattle.compare_built.specs.Widths.{AreTooWide}

-- A fault has its cause in this order: the one that the choice gives, or declared order, from which the order of each
-- candidate is made.
abbrev pub IsAllowed : Strategy → Order → Type 0
IsAllowed (One o) order = order ≡ o
IsAllowed (Computed c) order = order ≡ orders.Declared
IsAllowed Best order = order ≡ orders.Declared
IsAllowed Auto order = order ≡ orders.Declared
IsAllowed Cones order = order ≡ orders.Declared
IsAllowed Merge order = order ≡ orders.Declared
IsAllowed (ConesByList names) order = order ≡ orders.Declared

-- the choice names one order: no order is searched for, and no cones are judged
abbrev pub NamesOrder : Strategy → Type 0
NamesOrder (One o) = ⊤
NamesOrder (Computed c) = ⊤
NamesOrder Best = ⊥
NamesOrder Auto = ⊥
NamesOrder Cones = ⊥
NamesOrder Merge = ⊥
NamesOrder (ConesByList names) = ⊥

-- by this choice orders are tried, and nothing else is
abbrev pub AreTried : Strategy → Type 0
AreTried (One o) = ⊥
AreTried (Computed c) = ⊥
AreTried Best = ⊤
AreTried Auto = ⊥
AreTried Cones = ⊥
AreTried Merge = ⊥
AreTried (ConesByList names) = ⊥

-- by this choice pairs may be judged by their cones
abbrev pub MayGoByCones : Strategy → Type 0
MayGoByCones (One o) = ⊥
MayGoByCones (Computed c) = ⊥
MayGoByCones Best = ⊥
MayGoByCones Auto = ⊤
MayGoByCones Cones = ⊤
MayGoByCones Merge = ⊤
MayGoByCones (ConesByList names) = ⊤

-- the names that variables have in cones
abbrev pub cone_names : List (List ℕ) → List (List ℕ)
cone_names names = map (λ (name : List ℕ). 118 ∷ name) names

-- The order of cones that is tried before those of the candidates, if a choice gives one: first the names of a list
-- that are variables of the cones, in the sequence of the list, then their other variables in declared order.
abbrev pub cone_order : Strategy → Option Order
cone_order (One o) = None
cone_order (Computed c) = None
cone_order Best = None
cone_order Auto = None
cone_order Cones = None
cone_order (ConesByList names) = Some (orders.Extended (cone_names names))
cone_order Merge = None

-- this holds of each candidate that comes before this order in the sequence of the first budget
abbrev pub AllBefore : AttemptOrder → (Candidate → Type 0) → Type 0
AllBefore (tried_orders.Computed MsbFirst) P = ⊤
AllBefore (tried_orders.Computed Weights) P = P MsbFirst
AllBefore (tried_orders.Computed ForceGroups) P = P MsbFirst × P Weights
AllBefore tried_orders.Declared P = P MsbFirst × P Weights × P ForceGroups

-- the first budget: 2^14 nodes, or the limit if that is less
abbrev pub first_budget : (limit : ℕ) → ℕ
first_budget limit = min 16384 limit

-- the budgets within which candidates are tried: 2^14, 2^19, 2^24 .. nodes as long as these are below the limit, and
-- last the limit
abbrev pub IsBudget : (limit budget : ℕ) → Type 0
IsBudget limit budget = ((k : ℕ) × (budget ≡ 16384 * 32 ^ k) × (budget < limit)) ⊎ (budget ≡ limit)

-- Before equal signals are merged, the whole netlists are tried within 2^19 nodes at most.
abbrev pub first_whole_limit : (limit : ℕ) → ℕ
first_whole_limit limit = min 524288 limit

-- Then they are tried within 2^22 nodes at most and, after the pairs were judged by their cones, within the limit.
abbrev pub whole_limit : (limit : ℕ) → ℕ
whole_limit limit = min 4194304 limit

-- how many requests one wave of an attempt may have for each node of its budget
abbrev pub requests_per_node : ℕ
requests_per_node = 2

-- how many requests one wave of an attempt within a budget may have: this many for each node, or the monitor's bound if
-- that is less
abbrev pub requests_within : (budget : ℕ) → WaveBound → ℕ
requests_within budget bound = min (budget * requests_per_node) (most_of bound.requests)

-- An attempt in this order within the budget was given up for another cause than its nodes: one of its waves reaches
-- more requests than it may have, or the run may stop before the attempt has ended.
abbrev pub IsGivenUpOtherwise : DeviceTexts → Match → (budget : ℕ) → (bound : WaveBound) → Order → Type 0
IsGivenUpOtherwise input how budget bound order =
    AreTooWide input how order (requests_within budget bound) ⊎ MayStop bound

-- An attempt in this order within the budget was given up: the comparison needs more nodes, or there was another cause.
abbrev pub IsGivenUpWithin : DeviceTexts → Match → (budget : ℕ) → (bound : WaveBound) → Order → Type 0
IsGivenUpWithin input how budget bound order = AreBeyond input how order budget ⊎ IsGivenUpOtherwise input how budget bound order

-- An attempt within the budget was given up, in the order that it has for what the devices gave.
abbrev pub IsAttemptGivenUp : DeviceTexts → Match → (budget : ℕ) → (bound : WaveBound) → AttemptOrder → Type 0
IsAttemptGivenUp input how budget bound t = InOrderOf input how t (IsGivenUpWithin input how budget bound)

-- The attempt by which a comparison of what the devices gave is decided, and the order of its report. The needed nodes
-- are within the attempt's budget in the attempt's order, which is that of the report unless the report is in declared
-- order.
abbrev pub IsChosen : DeviceTexts → Match → Strategy → (limit : ℕ) → Option Attempt → Order → Type 0
IsChosen input how (One o) limit None order = (order ≡ o) × AreWithin input how order limit
IsChosen input how (One o) limit (Some t) order = ⊥
IsChosen input how (Computed c) limit None order = IsOrderIn input how (tried_orders.Computed c) order × AreWithin input how order limit
IsChosen input how (Computed c) limit (Some t) order = ⊥
IsChosen input how Best limit None order = ⊥
IsChosen input how Best limit (Some t) order = IsOrderIn input how t.order order × IsBudget limit t.budget × AreWithin input how order t.budget
IsChosen input how Auto limit None order = ⊥
IsChosen input how Auto limit (Some t) order = (order ≡ orders.Declared) × (IsBudget (whole_limit limit) t.budget ⊎ (t.budget ≡ limit))
    × InOrderOf input how t.order (λ k. AreWithin input how k t.budget)
IsChosen input how Cones limit tried order = ⊥
IsChosen input how Merge limit tried order = ⊥
IsChosen input how (ConesByList names) limit tried order = ⊥

-- The attempts before this one were given up: those of all candidates within smaller budgets, and within the first
-- budget those of the candidates before it. Within a later budget the candidates are tried by how far they came within
-- the budget before, of which this says nothing.
pub record AreGivenUp (input : DeviceTexts) (how : Match) (limit : ℕ) (bound : WaveBound) (t : Attempt) : Type 0 where
  pub smaller : (budget : ℕ) → IsBudget limit budget → budget < t.budget → (c : Candidate)
      → IsAttemptGivenUp input how budget bound (tried_orders.Computed c)
  pub first : t.budget ≡ first_budget limit → AllBefore t.order (λ c. IsAttemptGivenUp input how t.budget bound (tried_orders.Computed c))

-- the last budget of the attempts that a choice makes on the whole netlists
abbrev pub last_budget : Strategy → (limit : ℕ) → ℕ
last_budget (One o) limit = limit
last_budget (Computed c) limit = limit
last_budget Best limit = limit
last_budget Auto limit = whole_limit limit
last_budget Cones limit = limit
last_budget Merge limit = limit
last_budget (ConesByList names) limit = limit

-- the name of a candidate's order
abbrev pub candidate_name : Candidate → OrderName
candidate_name MsbFirst = order_names.MsbFirst
candidate_name Weights = order_names.Weights
candidate_name ForceGroups = order_names.ForceGroups

-- the orders of a candidate and of an attempt, as a report names them
abbrev pub candidate_kind : Candidate → OrderKind
candidate_kind c = kinds.Named (candidate_name c)

abbrev pub attempt_kind : AttemptOrder → OrderKind
attempt_kind (tried_orders.Computed c) = candidate_kind c
attempt_kind tried_orders.Declared = kinds.Named order_names.Declared

-- where the order comes from, as a report names it
abbrev pub reported_kind : Strategy → Option Attempt → OrderKind
reported_kind (One o) tried = kind_of o
reported_kind (Computed c) tried = candidate_kind c
reported_kind Best (Some t) = attempt_kind t.order
reported_kind Best None = kinds.Named order_names.Declared
reported_kind Auto tried = kinds.Auto
reported_kind Cones tried = kinds.Cones
reported_kind Merge tried = kinds.Merge
reported_kind (ConesByList names) tried = kinds.Cones

-- The same as IsChosen if only the order is asked for: nothing is built for an order that is given. By a choice whose
-- report is in declared order, that is the order.
abbrev pub IsFound : DeviceTexts → Match → Strategy → (limit : ℕ) → Option Attempt → Order → Type 0
IsFound input how (One o) limit tried order = (tried ≡ None) × (order ≡ o)
IsFound input how (Computed c) limit tried order = (tried ≡ None) × IsOrderIn input how (tried_orders.Computed c) order
IsFound input how Best limit tried order = IsChosen input how Best limit tried order
IsFound input how Auto limit tried order = (tried ≡ None) × (order ≡ orders.Declared)
IsFound input how Cones limit tried order = (tried ≡ None) × (order ≡ orders.Declared)
IsFound input how Merge limit tried order = (tried ≡ None) × (order ≡ orders.Declared)
IsFound input how (ConesByList names) limit tried order = (tried ≡ None) × (order ≡ orders.Declared)

-- the order that a choice names for what the devices gave; there is none if orders are tried or cones are judged
abbrev pub IsNamedIn : DeviceTexts → Match → Strategy → Order → Type 0
IsNamedIn input how (One o) order = order ≡ o
IsNamedIn input how (Computed c) order = IsOrderIn input how (tried_orders.Computed c) order
IsNamedIn input how Best order = ⊥
IsNamedIn input how Auto order = ⊥
IsNamedIn input how Cones order = ⊥
IsNamedIn input how Merge order = ⊥
IsNamedIn input how (ConesByList names) order = ⊥

-- This holds of the order that a choice names or, if orders are tried, of the order of each candidate.
abbrev pub InEachOrder : DeviceTexts → Match → Strategy → (Order → Type 0) → Type 0
InEachOrder input how (One o) P = P o
InEachOrder input how (Computed c) P = InOrderOf input how (tried_orders.Computed c) P
InEachOrder input how Best P = (c : Candidate) → InOrderOf input how (tried_orders.Computed c) P
InEachOrder input how Auto P = (c : Candidate) → InOrderOf input how (tried_orders.Computed c) P
InEachOrder input how Cones P = P orders.Declared
InEachOrder input how Merge P = P orders.Declared
InEachOrder input how (ConesByList names) P = P orders.Declared

-- This holds of the order that a choice names or, if orders are tried, of the order of one of the candidates.
abbrev pub InSomeOrder : DeviceTexts → Match → Strategy → (Order → Type 0) → Type 0
InSomeOrder input how (One o) P = P o
InSomeOrder input how (Computed c) P = InOrderOf input how (tried_orders.Computed c) P
InSomeOrder input how Best P = (c : Candidate) × InOrderOf input how (tried_orders.Computed c) P
InSomeOrder input how Auto P = (c : Candidate) × InOrderOf input how (tried_orders.Computed c) P
InSomeOrder input how Cones P = P orders.Declared
InSomeOrder input how Merge P = P orders.Declared
InSomeOrder input how (ConesByList names) P = P orders.Declared

-- By this choice orders are tried, and nothing else is. Each attempt within the limit was given up, and one of them for
-- another cause than its nodes.
abbrev pub IsSearchGivenUp : DeviceTexts → Match → Strategy → (limit : ℕ) → (bound : WaveBound) → Type 0
IsSearchGivenUp input how choice limit bound =
    AreTried choice × InEachOrder input how choice (IsGivenUpWithin input how limit bound)
    × InSomeOrder input how choice (IsGivenUpOtherwise input how limit bound)

-- the names of the orders of a candidate and of an attempt, as texts
abbrev pub candidate_text : Candidate → List ℕ
candidate_text c = word_of_order (candidate_name c)

abbrev pub attempt_text : AttemptOrder → List ℕ
attempt_text (tried_orders.Computed c) = candidate_text c
attempt_text tried_orders.Declared = word_of_order order_names.Declared
