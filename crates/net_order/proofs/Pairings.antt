-- The naming of two netlists, and their pairing, made of its parts.
use Rattle.std.proofs.Common.{Option, Some, None, IfSome, ◌≡◌, ℕ, ◌≤◌, List, [], ◌∷◌, ◌++◌, sym, ap, ◌∙◌, subst, length}
use Rattle.std.specs.Prelude.{slice_index_or}
use Rattle.std.specs.List.{AllZip}
use Rattle.net_bench.specs.Circuit.{Circuit}
use Rattle.net_names.specs.declared.order.Match.{Match}
use Rattle.net_names.specs.declared.order.Order.{Order}
use Rattle.net_order.specs.Order.{HaveEqualCounts, HasLevels, IsFit, IsNaming, NamingModel, NamedNetlistModel, both, correspondence, declared, given_side, names_by, ordered, own, registers_of, variables_in}
use Rattle.net_order.specs.Tables.{AreLevels}

module _ (how : Match) (a b : Circuit) (given : Option Circuit) where
  all_of : (front back : List NamedNetlistModel) → front ≡ both how a b → back ≡ given_side given → declared front back ≡ variables_in how a b given
  all_of front back is_front is_back = ap (λ f. declared f back) is_front ∙ ap (declared (both how a b)) is_back

  record HaveAll (names : List (List ℕ)) (p : NamingModel) : Type 0 where
    first : HasLevels names (own a) p.first
    second : HasLevels names (record { how = how; name_source = a; net = b }) p.second
    conditional : IfSome given (λ c. HasLevels names (own c) p.given)

  on_given : (names : List (List ℕ)) (g : Option Circuit) (levels : List ℕ) (rest : List (List ℕ)) → AllZip (HasLevels names) (given_side g) rest → levels ≡ slice_index_or rest 0 [] → IfSome g (λ c. HasLevels names (own c) levels)
  on_given names None levels rest h e = tt
  on_given names (Some c) levels [] h e = absurd h
  on_given names (Some c) levels (l ∷ rest) h e = subst (HasLevels names (own c)) (sym e) h.0

  on_each : (names : List (List ℕ)) (p : NamingModel) (levels : List (List ℕ)) → AllZip (HasLevels names) (both how a b ++ given_side given) levels →
      p.first ≡ slice_index_or levels 0 [] → p.second ≡ slice_index_or levels 1 [] → p.given ≡ slice_index_or levels 2 [] → HaveAll names p
  on_each names p [] h first second given_is = absurd h
  on_each names p (x ∷ []) h first second given_is = absurd h.1
  on_each names p (x ∷ y ∷ rest) h first second given_is = record {
    first = subst (HasLevels names (own a)) (sym first) h.0;
    second = subst (HasLevels names (record { how = how; name_source = a; net = b })) (sym second) h.1.0;
    conditional = on_given names given p.given rest h.1.1 given_is;
  }

  pub is_naming : (order : Order) (p : NamingModel) (sides front back : List NamedNetlistModel) (table : List (List ℕ)) → HaveEqualCounts how a b →
      sides ≡ both how a b ++ given_side given → front ≡ both how a b → back ≡ given_side given → IsFit (declared front back) order → table ≡ ordered front back order →
      p.names ≡ table → AreLevels table sides p → p.outputs ≡ correspondence how a b a.outputs b.outputs → p.registers ≡ correspondence how a b (registers_of a) (registers_of b) →
      IsNaming how a b given order p
  is_naming order p sides front back table counted is_sides is_front is_back fit is_table names levels outputs registers =
      let all : declared front back ≡ variables_in how a b given = all_of front back is_front is_back in
      let asked : table ≡ names_by how a b given order = is_table ∙ ap (λ f. ordered f back order) is_front ∙ ap (λ g. ordered (both how a b) g order) is_back in
      let each = on_each (names_by how a b given order) p levels.levels
      (subst (λ t. AllZip (HasLevels t) (both how a b ++ given_side given) levels.levels) asked (subst (λ ss. AllZip (HasLevels table) ss levels.levels) is_sides levels.each)) levels.first levels.second levels.given in
      record {
        counted = counted;
        fit = subst (λ t. IsFit t order) all fit;
        names = names ∙ asked;
        first = each.first;
        second = each.second;
        conditional = each.conditional;
        outputs = outputs;
        registers = registers;
      }

  -- if the variables are few, so are those of the two netlists and the condition
  pub are_few : (front back : List NamedNetlistModel) (variables : List (List ℕ)) → front ≡ both how a b → back ≡ given_side given → variables ≡ declared front back → length variables ≤ 4096 →
      length (variables_in how a b given) ≤ 4096
  are_few front back variables is_front is_back is_variables few = subst (λ t. length t ≤ 4096) (is_variables ∙ all_of front back is_front is_back) few
