-- Whether the first name of a pair is free in the second netlist.
use Rattle.std.proofs.Common.{◌≡◌, ◌∙◌, ℕ, List, Bool, true, false, refl, sym, ap}
use Rattle.std.specs.Prelude.{Option, Some, None, not, ◌||◌, ◌&&◌}
use Rattle.std.specs.Option.{is_some}
use Rattle.net_bench.specs.Circuit.{Circuit, find, is_name_in}
use Rattle.net_bench.proofs.Numbers.{or_left, or_right}
use Rattle.net_bench.proofs.Tables.{found_none, found_there}
use Rattle.net_rename.specs.declared.pair.NamePair.{NamePair}
use Rattle.net_rename.specs.Renaming.{firsts, is_free, is_port, seconds}

-- the netlist has a signal of the name, or none
known : (names : List (List ℕ)) (n : List ℕ) (found : Option ℕ) (none : Bool) → found ≡ find names n → is_some found ≡ not none → is_name_in names n ≡ not none
known names n None none at is = found_none names n (sym at) ∙ is
known names n (Some i) none at is = found_there names n i (sym at) ∙ is

not_not : (t : Bool) → not (not t) ≡ t
not_not true = refl
not_not false = refl

module _ (b : Circuit) (pairs : List NamePair) (p : NamePair) (n : List ℕ) (found : Option ℕ) (none : Bool)
    (first : n ≡ p.first.items) (at : found ≡ find b.names n) (is : is_some found ≡ not none) where
  -- no signal, or the second of a pair
  pub free_by_absence : none ≡ true → is_free b pairs p ≡ true
  free_by_absence absent =
      or_left (not (is_name_in b.names p.first.items)) (is_name_in (seconds pairs) p.first.items || (not (is_port b p.first.items) && not (is_name_in (firsts pairs) p.second.items)))
      (ap (λ m. not (is_name_in b.names m)) (sym first) ∙ ap not (known b.names n found none at is) ∙ not_not none ∙ absent)

  pub free_by_pair : (two : List (List ℕ)) → two ≡ seconds pairs → is_name_in two n ≡ true → is_free b pairs p ≡ true
  free_by_pair two second there =
      or_right (not (is_name_in b.names p.first.items)) (is_name_in (seconds pairs) p.first.items || (not (is_port b p.first.items) && not (is_name_in (firsts pairs) p.second.items)))
      (or_left (is_name_in (seconds pairs) p.first.items) (not (is_port b p.first.items) && not (is_name_in (firsts pairs) p.second.items))
      (sym (ap (λ ns. is_name_in ns n) second ∙ ap (λ m. is_name_in (seconds pairs) m) first) ∙ there))

  module _ (two : List (List ℕ)) (second : two ≡ seconds pairs) (present : none ≡ false) (single : is_name_in two n ≡ false) where
    -- else it must get the second name in exchange
    else_by_exchange : is_free b pairs p ≡ (not (is_port b n) && not (is_name_in (firsts pairs) p.second.items))
    else_by_exchange =
        ap (λ m. not (is_name_in b.names m) || (is_name_in (seconds pairs) m || (not (is_port b m) && not (is_name_in (firsts pairs) p.second.items)))) (sym first) ∙
        ap (λ t. not t || (is_name_in (seconds pairs) n || (not (is_port b n) && not (is_name_in (firsts pairs) p.second.items)))) (known b.names n found none at is ∙ ap not present) ∙
        ap (λ t. t || (not (is_port b n) && not (is_name_in (firsts pairs) p.second.items))) (sym (ap (λ ns. is_name_in ns n) second) ∙ single)

    pub taken_by_port : is_port b n ≡ true → is_free b pairs p ≡ false
    taken_by_port port = else_by_exchange ∙ ap (λ t. not t && not (is_name_in (firsts pairs) p.second.items)) port

    pub free_by_exchange : (one : List (List ℕ)) (m : List ℕ) → is_port b n ≡ false → one ≡ firsts pairs → m ≡ p.second.items → is_free b pairs p ≡ not (is_name_in one m)
    free_by_exchange one m gate column is_second =
        else_by_exchange ∙ ap (λ t. not t && not (is_name_in (firsts pairs) p.second.items)) gate ∙
        sym (ap (λ ns. not (is_name_in ns m)) column ∙ ap (λ k. not (is_name_in (firsts pairs) k)) is_second)
