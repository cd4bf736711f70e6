-- Levels of variables: each is one of the levels.
use Rattle.std.proofs.Common.{Option, Some, IfSome, ◌≡◌, ℕ, ◌<◌, List, true, sym, ap, ◌∙◌, subst, length}
use Rattle.std.specs.Prelude.{Contains, slice_index}
use Rattle.net_bench.specs.Circuit.{Circuit, is_name_in, variables_of}
use Rattle.net_bench.proofs.Numbers.{in_distinct, number_low}
use Rattle.net_names.specs.declared.order.Match.{Match}
use Rattle.net_names.specs.declared.order.Order.{Order}
use Rattle.net_order.specs.Order.{HasLevels, IsNaming, NamingModel, NamedNetlistModel, all_names, both, given_side, level_of, named, names_by, own, variables_in}
use Rattle.net_order.specs.Tables.{IsKnown}
use Rattle.net_order.proofs.AllNames.{known_given, known_sides}
use Rattle.net_order.proofs.Orders.{ordered_all, ordered_count}
use Rattle.net_order.proofs.Members.{contains_member}

module _ (how : Match) (a b : Circuit) (given : Option Circuit) (order : Order) (p : NamingModel) (h : IsNaming how a b given order p) where
  -- there are as many levels as variables
  pub names_count : length p.names ≡ length (variables_in how a b given)
  names_count = ap length h.names ∙ ordered_count (both how a b) (given_side given) order h.fit

  -- the level of a side's variable is one of the levels
  level_below : (side : NamedNetlistModel) (levels : List ℕ) → IsKnown (all_names (both how a b) (given_side given)) side → HasLevels (names_by how a b given order) side levels →
      (s : ℕ) → Contains (variables_of side.net) s → slice_index levels s < length p.names
  level_below side levels known has s (i, low, at) =
      let is : slice_index levels s ≡ level_of (names_by how a b given order) (named side s) = rw at at (has i s low) in
      let there : is_name_in (names_by how a b given order) (named side s) ≡ true =
      ordered_all (both how a b) (given_side given) order h.fit (named side s)
      (in_distinct (all_names (both how a b) (given_side given)) (named side s) ∙ known s (contains_member (variables_of side.net) s (i, low, at))) in
      subst (λ k. slice_index levels s < k) (sym (ap length h.names)) (subst (λ k. k < length (names_by how a b given order)) (sym is) (number_low (names_by how a b given order) (named side s) there))

  pub first_below : (s : ℕ) → Contains (variables_of a) s → slice_index p.first s < length p.names
  first_below = level_below (own a) p.first (known_sides (both how a b) (given_side given)).0 h.first

  pub second_below : (s : ℕ) → Contains (variables_of b) s → slice_index p.second s < length p.names
  second_below = level_below (record { how = how; name_source = a; net = b }) p.second (known_sides (both how a b) (given_side given)).1.0 h.second

  pub given_below : (c : Circuit) → given ≡ Some c → (s : ℕ) → Contains (variables_of c) s → slice_index p.given s < length p.names
  given_below c e =
      let known : IsKnown (all_names (both how a b) (given_side given)) (own c) = subst (λ g. IsKnown (all_names (both how a b) (given_side g)) (own c)) (sym e) (known_given (both how a b) (given_side (Some c))).0 in
      level_below (own c) p.given known (subst (λ o. IfSome o (λ d. HasLevels (names_by how a b given order) (own d) p.given)) e h.conditional)
