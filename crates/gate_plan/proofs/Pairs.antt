-- The levels of a pairing's inputs and registers are levels of its variables.
use Rattle.std.proofs.Common.{◌≡◌, ◌<◌, ℕ, zero, suc, List, ◌∷◌, map, length, get_or, [], ap, ◌∙◌, refl, sym, subst, arith, Option, Some, None, IfSome}
use Rattle.std.specs.Prelude.{Contains}
use Rattle.dd_store.specs.declared.reference.Ref.{Ref}
use Rattle.dd_store.specs.Nodes.{Nodes}
use Rattle.net_bench.specs.Circuit.{Circuit, Net, circuit, variables_of}
use Rattle.net_names.specs.declared.order.Match.{Match}
use Rattle.net_names.specs.declared.order.Order.{Order}
use Rattle.net_order.specs.Order.{NamingModel, IsPairing, first_level, second_level, given_level}
use Rattle.net_order.proofs.InputLevels.{first_below, second_below, given_below}
use Rattle.net_order.specs.declared.netlist_role.NetlistRole.{NetlistRole}
use Rattle.net_order.specs.declared.netlist_role.NetlistRole.TheVariants.{First, Second, Given}
use Rattle.gate_plan.specs.Plans.{IsPlan}
use Rattle.gate_plan.specs.Building.{IsPaired, ArePlannedNets, PlannedNet, Levelled, levelled, levelled_given, levelled_of, input_level, AreDiagrams}
use Rattle.gate_plan.proofs.Together.{image}

module _ (how : Match) (a b : Circuit) (order : Order) (p : NamingModel) (n : ℕ) (count : n ≡ length p.names) where
  abbrev Fits : Levelled → Type 0
  Fits l = (s : ℕ) → Contains (variables_of l.netlist) s → l.level s < n

  given_fits : (given : Option Circuit) → IsPairing how a b given order p → (l : Levelled) → Contains (levelled_given given p) l → Fits l
  given_fits None h l (k, lt, at) = absurd (omega arith)
  given_fits (Some c) h l (zero, lt, at) = subst Fits at (λ s among. subst (λ z. given_level p s < z) (sym count) (given_below how a b (Some c) order p h.naming c refl s among))
  given_fits (Some c) h l (suc k, lt, at) = absurd (omega arith)

  each_fits : (given : Option Circuit) → IsPairing how a b given order p → (l : Levelled) → Contains (levelled a b given p) l → Fits l
  each_fits given h l (zero, lt, at) = subst Fits at (λ s among. subst (λ z. first_level p s < z) (sym count) (first_below how a b given order p h.naming s among))
  each_fits given h l (suc zero, lt, at) = subst Fits at (λ s among. subst (λ z. second_level p s < z) (sym count) (second_below how a b given order p h.naming s among))
  each_fits given h l (suc (suc k), lt, at) = given_fits given h l (k, omega (arith, lt), at)

-- the levels of each netlist that is built are those of variables
pub placed_fits : (a b : Circuit) (given : Option Circuit) (p : NamingModel) (n : ℕ) (sides : List PlannedNet) → IsPaired a b given p → n ≡ length p.names → map levelled_of sides ≡ levelled a b given p →
    (one : PlannedNet) → Contains sides one → (s : ℕ) → Contains (variables_of (circuit one.net)) s → input_level one s < n
placed_fits a b given p n sides (how, order, paired) count placed one c s among =
    each_fits how a b order p n count given paired (levelled_of one) (subst (λ z. Contains z (levelled_of one)) placed (image levelled_of sides one c)) s among

-- ---- the netlists with their plans

placed_is : (net : Net) (which : NetlistRole) (p : NamingModel) (one : PlannedNet) → one ≡ record { net = net; which = which; pairing = p; plan = one.plan } → IsPlan net one.plan → IsPlan one.net one.plan
placed_is net which p one is plan = subst (λ (n : Net). IsPlan n one.plan) (sym (ap (λ (z : PlannedNet). z.net) is)) plan

module _ (a b : Net) (p : NamingModel) (one two : PlannedNet) (is_one : one ≡ record { net = a; which = First; pairing = p; plan = one.plan }) (is_two : two ≡ record { net = b; which = Second; pairing = p; plan = two.plan })
    (plan_one : IsPlan a one.plan) (plan_two : IsPlan b two.plan) where
  pub placed_two : (sides : List PlannedNet) → sides ≡ one ∷ two ∷ [] → ArePlannedNets (circuit a) (circuit b) None p sides
  placed_two sides e = subst (ArePlannedNets (circuit a) (circuit b) None p) (sym e) (record {
    netlists = ap (λ x. x ∷ levelled_of two ∷ []) (ap levelled_of is_one) ∙ ap (λ x. record { netlist = circuit a; level = first_level p } ∷ x ∷ []) (ap levelled_of is_two);
    plans = plans;
  })
    where
      plans : (o : PlannedNet) → Contains (one ∷ two ∷ []) o → IsPlan o.net o.plan
      plans o (zero, lt, at) = subst (λ (z : PlannedNet). IsPlan z.net z.plan) at (placed_is a First p one is_one plan_one)
      plans o (suc zero, lt, at) = subst (λ (z : PlannedNet). IsPlan z.net z.plan) at (placed_is b Second p two is_two plan_two)
      plans o (suc (suc k), lt, at) = absurd (omega (arith, lt))

  pub placed_three : (c : Net) (three : PlannedNet) → three ≡ record { net = c; which = Given; pairing = p; plan = three.plan } → IsPlan c three.plan → (sides : List PlannedNet) → sides ≡ one ∷ two ∷ three ∷ [] →
      ArePlannedNets (circuit a) (circuit b) (Some (circuit c)) p sides
  placed_three c three is_three plan_three sides e = subst (ArePlannedNets (circuit a) (circuit b) (Some (circuit c)) p) (sym e) (record {
    netlists = ap (λ x. x ∷ levelled_of two ∷ levelled_of three ∷ []) (ap levelled_of is_one) ∙ ap (λ x. record { netlist = circuit a; level = first_level p } ∷ x ∷ levelled_of three ∷ []) (ap levelled_of is_two)
        ∙ ap (λ x. record { netlist = circuit a; level = first_level p } ∷ record { netlist = circuit b; level = second_level p } ∷ x ∷ []) (ap levelled_of is_three);
    plans = plans;
  })
    where
      plans : (o : PlannedNet) → Contains (one ∷ two ∷ three ∷ []) o → IsPlan o.net o.plan
      plans o (zero, lt, at) = subst (λ (z : PlannedNet). IsPlan z.net z.plan) at (placed_is a First p one is_one plan_one)
      plans o (suc zero, lt, at) = subst (λ (z : PlannedNet). IsPlan z.net z.plan) at (placed_is b Second p two is_two plan_two)
      plans o (suc (suc zero), lt, at) = subst (λ (z : PlannedNet). IsPlan z.net z.plan) at (placed_is c Given p three is_three plan_three)
      plans o (suc (suc (suc k)), lt, at) = absurd (omega (arith, lt))

-- the condition has its diagrams, if there is one
pub given_diagrams : (a b : Circuit) (given : Option Circuit) (p : NamingModel) (S : Nodes) (refs : List Ref) →
    ((l : Levelled) → 2 < length (levelled a b given p) → get_or (levelled a b given p) 2 l ≡ l → AreDiagrams l.netlist l.level S refs) → IfSome given (λ c. AreDiagrams c (given_level p) S refs)
given_diagrams a b None p S refs h = tt
given_diagrams a b (Some c) p S refs h = h (record { netlist = c; level = given_level p }) (omega arith) refl
