-- Two orders of the variables of the same netlists: a function over the variables in one order is a function over them
-- in the other.
use Rattle.std.proofs.Common.{◌≡◌, ◌∙◌, ap, sym, refl, subst, arith, inl, inr, ℕ, ◌+◌, ◌<◌, ◌≤◌, Bool, true, false, List, [], ◌∷◌, ◌++◌}
use Rattle.std.proofs.Common.{map, length, get_or, take, Option, Some, None, All}
use Rattle.std.specs.Prelude.{bytes_eq, cond, nat_lt, slice_get, slice_index, unwrap_or, IfSome}
use Rattle.std.specs.List.{IsDistinct, position_or_len}
use Rattle.std.proofs.lemmas.Bool.{cases_lt, false_from_ne_true, ltb-true, true≢false}
use Rattle.std.proofs.lemmas.List.{length-map, length-take, get_or-map, get_or-take, map_more}
use Rattle.std.proofs.lemmas.List.Elements.{Contains-get_or}
use Rattle.std.proofs.lemmas.Map.Keys.{apart_from_distinct}
use Rattle.std.proofs.lemmas.Option.{get_or_from_slice_get}
use Rattle.counter_walk.specs.DeclaredOrder.{IsOrder, assignment_by_level, by_declared}
use Rattle.counter_walk.proofs.Arranging.{length-assignment_by_level, get_or-assignment_by_level}
use Rattle.dd_store.specs.declared.reference.Ref.{Ref}
use Rattle.dd_store.specs.Functions.{Agree}
use Rattle.dd_store.specs.Nodes.{Nodes}
use Rattle.gate_plan.specs.Building.{reference_of}
use Rattle.net_bench.specs.Circuit.{Circuit, is_name_in, variables_of, with_name}
use Rattle.net_bench.specs.Labels.{IsFunctionOf}
use Rattle.net_bench.proofs.Numbers.{contained_in, in_distinct, name_itself, number_at, number_low, numbers_differ}
use Rattle.net_names.specs.declared.order.Match.{Match}
use Rattle.net_order.specs.Order.{HasLevels, NamingModel, NamedNetlistModel, all_names, both, first_level, given_side, level_of, named, names_by, own, second_level}
use Rattle.net_order.specs.Tables.{IsKnown}
use Rattle.net_order.proofs.AllNames.{known_given, known_sides}
use Rattle.net_order.proofs.Different.{AmongNames}
use Rattle.net_order.proofs.Members.{at_place}
use Rattle.net_order.proofs.Orders.{ordered_all, ordered_count, ordered_different, ordered_known}
use Rattle.net_order.proofs.Steps.{taken_more}
use Rattle.compare_built.specs.declared.subject.Subject.{Subject}
use Rattle.compare_built.specs.Arrangement.{ArePairings, places_among}
use Rattle.compare_built.specs.Comparing.{AreCompared, DenoteCompared, AreSignals, DenotesWhere, IsInside, as_built, subject_at}
use Rattle.compare_built.specs.Conditions.{HoldsWhere, output_of}
use Rattle.compare_built.specs.Report.{next_subject, output_subject, subjects}

-- ---- functions

module _ (n : ℕ) (order : List ℕ) (full : length order ≡ n) where
  -- functions that agree by level agree in the other order
  pub agree_arranged : (f g : List Bool → Bool) → Agree n f g → Agree n (by_declared order f) (by_declared order g)
  agree_arranged f g same x len = same (assignment_by_level order x) (length-assignment_by_level order x ∙ full)

  -- the function of a signal whose variables have other levels: the same labelling is consistent
  pub function_arranged : (c : Circuit) (level other : ℕ → ℕ) (s : ℕ) (f : List Bool → Bool) → All (λ v. level v < n) (variables_of c) →
      All (λ v. get_or order (level v) 0 ≡ other v) (variables_of c) → IsFunctionOf c level n s f → IsFunctionOf c other n s (by_declared order f)
  function_arranged c level other s f low at is x len =
      let by = is (assignment_by_level order x) (length-assignment_by_level order x ∙ full) in (
        by.0,
        record {
          each = by.1.each;
          variables = λ i d lt.
              let v = get_or (variables_of c) i d in
              let in_range : level v < n = low i d lt in
              by.1.variables i d lt ∙ get_or-assignment_by_level order x (level v) (omega (arith, in_range, full)) ∙ ap (λ k. get_or x k false) (at i d lt);
          gates = by.1.gates;
        },
        by.2,
      )

  -- what a reference denotes
  denotes_arranged : (c : Circuit) (level other : ℕ → ℕ) (S : Nodes) (s : ℕ) (r : Ref) (holds : List Bool → Bool) → S.levels ≡ n →
      All (λ v. level v < n) (variables_of c) → All (λ v. get_or order (level v) 0 ≡ other v) (variables_of c) →
      DenotesWhere as_built holds c level S s r → DenotesWhere (by_declared order) (by_declared order holds) c other S s r
  denotes_arranged c level other S s r holds levels low at d = (
    d.0,
    (
      by_declared order d.1.0,
      subst (λ m. IsFunctionOf c other m s (by_declared order d.1.0)) (sym levels)
          (function_arranged c level other s d.1.0 low at (subst (λ m. IsFunctionOf c level m s d.1.0) levels d.1.1)),
      λ x len. d.1.2 (assignment_by_level order x) (length-assignment_by_level order x ∙ full ∙ sym levels),
    ),
  )

-- ---- places of names

-- a table of the first names gets one more, which it does not have yet
pub table_more : (names table new : List (List ℕ)) (i : ℕ) (n : List ℕ) → IsDistinct bytes_eq names → i < length names → slice_get names i ≡ Some n →
    table ≡ take i names → new ≡ with_name table n → new ≡ take (i + 1) names
table_more names table new i n apart lt at taken grown = taken_more [] table names i n at lt new absent grown taken
  where
    here : get_or names i [] ≡ n
    here = get_or_from_slice_get names i n [] at

    there : is_name_in table n ≡ true → ⊥
    there e =
        let k = level_of table n in
        let size : length table ≡ i = ap length taken ∙ length-take i names ∙ omega (arith, lt) in
        let low : k < i = subst (λ m. k < m) size (number_low table n e) in
        let same : get_or names k [] ≡ n = sym (get_or-take i names k [] low) ∙ ap (λ t. get_or t k []) (sym taken) ∙ number_at table n [] e in
        let other = apart_from_distinct bytes_eq names k i [] apart low lt in
        true≢false (sym (name_itself n) ∙ ap (λ m. bytes_eq m n) (sym same) ∙ ap (bytes_eq (get_or names k [])) (sym here) ∙ other)

    absent : is_name_in table n ≡ false
    absent = false_from_ne_true (is_name_in table n) there

low_or : (k m : ℕ) → unwrap_or (cond (nat_lt k m) (Some k) None) 0 ≤ m
low_or k m =
    elim (nat_lt k m) as (λ b. nat_lt k m ≡ b → unwrap_or (cond b (Some k) None) 0 ≤ m) [
      | true ↦ λ e. let lt = ltb-true k m e in omega (arith, lt)
      | false ↦ λ e. omega arith
    ] refl

-- the place of a name is at most the number of names
pub place_low : (names : List (List ℕ)) (n : List ℕ) → level_of names n ≤ length names
place_low names n = low_or (position_or_len (λ m. bytes_eq m n) names) (length names)

name_there : (names : List (List ℕ)) (i : ℕ) → i < length names → is_name_in names (get_or names i []) ≡ true
name_there names i lt = contained_in names (get_or names i []) (Contains-get_or names i [] lt)

place_at : (others names : List (List ℕ)) (i : ℕ) → i < length names → get_or (places_among others names) i 0 ≡ level_of others (get_or names i [])
place_at others names i lt = get_or-map (level_of others) names i [] 0 lt

-- the place of one more name
pub places_more : (others names : List (List ℕ)) (i k : ℕ) (n : List ℕ) (old new : List ℕ) → i < length names → slice_get names i ≡ Some n →
    old ≡ places_among others (take i names) → k ≡ level_of others n → new ≡ old ++ k ∷ [] → new ≡ places_among others (take (i + 1) names)
places_more others names i k n old new lt at done is grown =
    grown ∙ ap (λ ks. ks ++ k ∷ []) done ∙
    ap (λ m. places_among others (take i names) ++ m ∷ []) (is ∙ ap (level_of others) (sym (get_or_from_slice_get names i n [] at))) ∙
    sym (map_more (level_of others) names i [] lt)

-- the same names in another order
module _ (others names : List (List ℕ)) (apart : IsDistinct bytes_eq names) (many : length names ≡ length others) (among : AmongNames names others) where
  places_once : (u v : ℕ) → u < length names → v < length names →
      get_or (places_among others names) u 0 ≡ get_or (places_among others names) v 0 → get_or names u [] ≡ get_or names v []
  places_once u v low lower e =
      numbers_differ others (get_or names u []) (get_or names v []) (among (get_or names u []) (name_there names u low))
      (among (get_or names v []) (name_there names v lower))
      (sym (place_at others names u low) ∙ e ∙ place_at others names v lower)

  differ : (u v : ℕ) → u < v → v < length names → get_or names u [] ≡ get_or names v [] → ⊥
  differ u v lt low e =
      true≢false (sym (name_itself (get_or names u [])) ∙ ap (bytes_eq (get_or names u [])) e ∙ apart_from_distinct bytes_eq names u v [] apart lt low)

  pub places_order : IsOrder (length others) (places_among others names)
  places_order = record {
    each_level = length-map names (level_of others) ∙ many;
    declared = λ v lt.
        let low : v < length names = omega (arith, lt, many) in
        subst (λ k. k < length others) (sym (place_at others names v low))
        (number_low others (get_or names v []) (among (get_or names v []) (name_there names v low)));
    once = λ u v lt below e.
        let low : u < length names = omega (arith, lt, many) in
        let lower : v < length names = omega (arith, below, many) in
        let same = places_once u v low lower e in
        elim (cases_lt u v) [
          | inl less ↦ absurd (differ u v less lower same)
          | inr ge ↦ elim (cases_lt v u) [
            | inl more ↦ absurd (differ v u more low (sym same))
            | inr le ↦ omega (arith, ge, le)
          ]
        ];
  }

-- ---- two pairings

module _ (how : Match) (a b : Circuit) (given : Option Circuit) (q p : NamingModel) (h : ArePairings how a b given q p) where
  pub apart : IsDistinct bytes_eq p.names
  apart = subst (IsDistinct bytes_eq) (sym h.second.naming.names) (ordered_different (both how a b) (given_side given) h.second_order h.second.naming.fit)

  apart_first : IsDistinct bytes_eq q.names
  apart_first = subst (IsDistinct bytes_eq) (sym h.first.naming.names) (ordered_different (both how a b) (given_side given) h.first_order h.first.naming.fit)

  many : length q.names ≡ length p.names
  many =
      ap length h.first.naming.names ∙ ordered_count (both how a b) (given_side given) h.first_order h.first.naming.fit ∙
      sym (ap length h.second.naming.names ∙ ordered_count (both how a b) (given_side given) h.second_order h.second.naming.fit)

  -- a variable's name is one of the names
  all_first : AmongNames (all_names (both how a b) (given_side given)) q.names
  all_first n e =
      ap (λ ns. is_name_in ns n) h.first.naming.names ∙
      ordered_all (both how a b) (given_side given) h.first_order h.first.naming.fit n (in_distinct (all_names (both how a b) (given_side given)) n ∙ e)

  among : AmongNames q.names p.names
  among n e =
      ap (λ ns. is_name_in ns n) h.second.naming.names ∙
      ordered_all (both how a b) (given_side given) h.second_order h.second.naming.fit n
      (ordered_known (both how a b) (given_side given) h.first_order h.first.naming.fit n (ap (λ ns. is_name_in ns n) (sym h.first.naming.names) ∙ e))

  pub is_order : IsOrder (length p.names) (places_among p.names q.names)
  is_order = places_order p.names q.names apart_first many among

  -- the variables of one side
  module _ (side : NamedNetlistModel) (levels others : List ℕ) (known : IsKnown (all_names (both how a b) (given_side given)) side)
      (has : HasLevels (names_by how a b given h.first_order) side levels) (also : HasLevels (names_by how a b given h.second_order) side others) where
    side_there : (i d : ℕ) → i < length (variables_of side.net) → is_name_in q.names (named side (get_or (variables_of side.net) i d)) ≡ true
    side_there i d lt =
        let s = get_or (variables_of side.net) i d in
        all_first (named side s) (known s (at_place (variables_of side.net) i d lt))

    side_is : (i d : ℕ) → i < length (variables_of side.net) →
        get_or levels (get_or (variables_of side.net) i d) 0 ≡ level_of q.names (named side (get_or (variables_of side.net) i d))
    side_is i d lt = has i d lt ∙ ap (λ ns. level_of ns (named side (get_or (variables_of side.net) i d))) (sym h.first.naming.names)

    side_low : All (λ s. slice_index levels s < length p.names) (variables_of side.net)
    side_low i d lt =
        let n = named side (get_or (variables_of side.net) i d) in
        subst (λ k. k < length p.names) (sym (side_is i d lt)) (subst (λ m. level_of q.names n < m) many (number_low q.names n (side_there i d lt)))

    side_at : All (λ s. get_or (places_among p.names q.names) (slice_index levels s) 0 ≡ slice_index others s) (variables_of side.net)
    side_at i d lt =
        let n = named side (get_or (variables_of side.net) i d) in
        ap (λ k. get_or (places_among p.names q.names) k 0) (side_is i d lt) ∙
        place_at p.names q.names (level_of q.names n) (number_low q.names n (side_there i d lt)) ∙
        ap (level_of p.names) (number_at q.names n [] (side_there i d lt)) ∙ ap (λ ns. level_of ns n) h.second.naming.names ∙ sym (also i d lt)

  -- ---- pairs

  -- the same outputs and registers are compared in each order
  same_subjects : subjects a b q ≡ subjects a b p
  same_subjects =
      ap (λ c. map output_subject c.pairs ++ map (next_subject a b) q.registers.pairs) (h.first.naming.outputs ∙ sym h.second.naming.outputs) ∙
      ap (λ c. map output_subject p.outputs.pairs ++ map (next_subject a b) c.pairs) (h.first.naming.registers ∙ sym h.second.naming.registers)

  same_signals : AreSignals a b q → AreSignals a b p
  same_signals signals =
      let outputs : q.outputs ≡ p.outputs = h.first.naming.outputs ∙ sym h.second.naming.outputs in
      let registers : q.registers ≡ p.registers = h.first.naming.registers ∙ sym h.second.naming.registers in
      record {
        compared = subst (All (IsInside a b)) same_subjects signals.compared;
        only_first = subst (λ c. All (λ s. s < length a.names) c.only_first) outputs signals.only_first;
        only_second = subst (λ c. All (λ s. s < length b.names) c.only_second) outputs signals.only_second;
        only_first_next = subst (λ c. All (λ s. s < length a.names) c.only_first) registers signals.only_first_next;
        only_second_next = subst (λ c. All (λ s. s < length b.names) c.only_second) registers signals.only_second_next;
      }

  -- the condition
  holds_arranged : (g : Option Circuit) → g ≡ given → (holds : List Bool → Bool) → HoldsWhere g q holds →
      HoldsWhere g p (by_declared (places_among p.names q.names) holds)
  holds_arranged None e holds is = ap (by_declared (places_among p.names q.names)) is
  holds_arranged (Some c) e holds is =
      let known : IsKnown (all_names (both how a b) (given_side given)) (own c) =
      subst (λ g. IsKnown (all_names (both how a b) (given_side g)) (own c)) e (known_given (both how a b) (given_side (Some c))).0 in
      let has = subst (λ o. IfSome o (λ d. HasLevels (names_by how a b given h.first_order) (own d) q.given)) (sym e) h.first.naming.conditional in
      let also = subst (λ o. IfSome o (λ d. HasLevels (names_by how a b given h.second_order) (own d) p.given)) (sym e) h.second.naming.conditional in
      function_arranged (length p.names) (places_among p.names q.names) is_order.each_level c (slice_index q.given) (slice_index p.given) (output_of c) holds
      (side_low (own c) q.given p.given known has also) (side_at (own c) q.given p.given known has also)
      (subst (λ m. IsFunctionOf c (slice_index q.given) m (output_of c) holds) many is)

  -- diagrams in the one order denote the functions in the other
  module _ (S : Nodes) (of : List Subject) (refs : List Ref) (c : AreCompared as_built a b given q S of refs) where
    levels_are : S.levels ≡ length p.names
    levels_are = c.levels ∙ many

    shown_arranged : DenoteCompared (by_declared (places_among p.names q.names)) a b given p S of refs
    shown_arranged =
        let order = places_among p.names q.names in
        let second : NamedNetlistModel = record { how = how; name_source = a; net = b } in
        let known = known_sides (both how a b) (given_side given) in
        record {
          holds = by_declared order c.shown.holds;
          condition = holds_arranged given refl c.shown.holds c.shown.condition;
          each = c.shown.each;
          first = λ i lt.
              denotes_arranged (length p.names) order is_order.each_level a (first_level q) (first_level p) S (subject_at of i).first
              (reference_of refs i) c.shown.holds levels_are (side_low (own a) q.first p.first known.0 h.first.naming.first h.second.naming.first)
              (side_at (own a) q.first p.first known.0 h.first.naming.first h.second.naming.first) (c.shown.first i lt);
          second = λ i lt.
              denotes_arranged (length p.names) order is_order.each_level b (second_level q) (second_level p) S (subject_at of i).second
              (reference_of refs (length of + i)) c.shown.holds levels_are (side_low second q.second p.second known.1.0 h.first.naming.second h.second.naming.second)
              (side_at second q.second p.second known.1.0 h.first.naming.second h.second.naming.second) (c.shown.second i lt);
        }

    pub compared_arranged : (order : List ℕ) → order ≡ places_among p.names q.names → AreCompared (by_declared order) a b given p S of refs
    compared_arranged order e = record {
      levels = levels_are;
      signals = same_signals c.signals;
      all = c.all ∙ same_subjects;
      shown = subst (λ o. DenoteCompared (by_declared o) a b given p S of refs) (sym e) shown_arranged;
    }

    pub order_arranged : (order : List ℕ) → order ≡ places_among p.names q.names → IsOrder S.levels order
    order_arranged order e = subst (λ m. IsOrder m order) (sym levels_are) (subst (IsOrder (length p.names)) (sym e) is_order)
