-- The cones of a pair as two netlists that are paired by name: they have one pair, and each of their variables has a
-- place.
use Rattle.std.proofs.Common.{◌≡◌, ◌∙◌, ap, sym, subst, arith, inl, inr, ℕ, ◌<◌, Bool, true, List, [], ◌∷◌, ◌++◌}
use Rattle.std.proofs.Common.{map, length, get_or, Option, Some, None, All}
use Rattle.std.specs.Prelude.{Contains, bytes_eq, cond, slice_index}
use Rattle.std.specs.List.{IsDistinct}
use Rattle.std.proofs.lemmas.Bool.{cases_lt, true≢false}
use Rattle.std.proofs.lemmas.List.{append-nil, get_or-map, length-map}
use Rattle.std.proofs.lemmas.List.Elements.{Contains-get_or}
use Rattle.std.proofs.lemmas.Map.Keys.{apart_from_distinct}
use Rattle.net_bench.specs.Circuit.{Circuit, circuit, find, is_name_in, variables_of}
use Rattle.net_bench.specs.Labels.{IsFunctionOf, IsLabelling}
use Rattle.net_bench.proofs.Built.{has_labelling}
use Rattle.net_bench.proofs.Found.{found_at, found_low, found_of}
use Rattle.net_bench.proofs.Numbers.{AreApart, contained_in, in_distinct, name_itself, number_at, number_low}
use Rattle.net_bench.proofs.OneLabelling.{at_contained}
use Rattle.net_cone.specs.Cones.{variable_name}
use Rattle.net_cone.specs.Spreading.{bits_at}
use Rattle.net_cone.proofs.Spreading.{widened_where}
use Rattle.net_names.specs.declared.order.Match.{Match}
use Rattle.net_names.specs.declared.order.Match.TheVariants.{Name}
use Rattle.net_names.specs.declared.order.Order.{Order}
use Rattle.net_order.specs.Order.{HasLevels, NamingModel, IsNaming, NamedNetlistModel, all_names, both, given_side, level_of, name_of, named, names_by, pairs_by_name, registers_of, signal_named, unmatched, where_among, with_pair, without_pair}
use Rattle.net_order.specs.Tables.{IsKnown}
use Rattle.net_order.proofs.Members.{contains_member, member_head}
use Rattle.net_order.proofs.Orders.{ordered_all, ordered_different}
use Rattle.compare_built.specs.Cones.{IsConeIn}
use Rattle.compare_built.specs.Conditions.{output_of}
use Rattle.compare_built.specs.Report.{unmatched_verdicts, next_subject, output_subject, subjects}
use Rattle.compare_built.specs.Scatter.{IsOfNet}

-- ---- names

-- a name has one place
pub one_place : (names : List (List ℕ)) → AreApart names → (u v : ℕ) → u < length names → v < length names → get_or names u [] ≡ get_or names v [] → u ≡ v
one_place names apart u v low lower e = elim (cases_lt u v) [
  | inl less ↦ absurd (apart u v less lower e)
  | inr ge ↦ elim (cases_lt v u) [
    | inl more ↦ absurd (apart v u more low (sym e))
    | inr le ↦ omega (arith, ge, le)
  ]
]

-- and the search finds it there
pub found_there : (names : List (List ℕ)) → AreApart names → (n : List ℕ) (u : ℕ) → u < length names → get_or names u [] ≡ n → find names n ≡ Some u
found_there names apart n u low at =
    let (i, found) = found_of names n (contained_in names n (subst (Contains names) at (Contains-get_or names u [] low))) in
    found ∙ ap (λ v. Some v) (one_place names apart i u (found_low names n i found) low (found_at names n i found ∙ sym at))

-- ---- namings

module _ (how : Match) (a b : Circuit) (given : Option Circuit) (order : Order) (p : NamingModel) (h : IsNaming how a b given order p) where
  -- the names of a naming are distinct
  pub names_apart : AreApart p.names
  names_apart u v less low e =
      let distinct : IsDistinct bytes_eq p.names = subst (IsDistinct bytes_eq) (sym h.names) (ordered_different (both how a b) (given_side given) order h.fit) in
      let other = apart_from_distinct bytes_eq p.names u v [] distinct less low in
      true≢false (sym (name_itself (get_or p.names u [])) ∙ ap (bytes_eq (get_or p.names u [])) e ∙ other)

  -- each variable of a netlist has a level, at which the naming has its name
  pub name_at : (side : NamedNetlistModel) (levels : List ℕ) → IsKnown (all_names (both how a b) (given_side given)) side → HasLevels (names_by how a b given order) side levels →
      (t : ℕ) → Contains (variables_of side.net) t → (slice_index levels t < length p.names) × (get_or p.names (slice_index levels t) [] ≡ named side t)
  name_at side levels known has t among =
      let n = named side t in
      let there : is_name_in p.names n ≡ true =
      ap (λ ns. is_name_in ns n) h.names ∙
      ordered_all (both how a b) (given_side given) order h.fit n
      (in_distinct (all_names (both how a b) (given_side given)) n ∙ known t (contains_member (variables_of side.net) t among)) in
      let is : slice_index levels t ≡ level_of p.names n =
      at_contained (λ u. slice_index levels u ≡ level_of (names_by how a b given order) (named side u)) (variables_of side.net) t has among ∙
      ap (λ ns. level_of ns n) (sym h.names) in
      (subst (λ v. v < length p.names) (sym is) (number_low p.names n there), ap (λ v. get_or p.names v []) is ∙ number_at p.names n [] there)

-- ---- one cone

module _ (c : Circuit) (levels : List ℕ) (p : NamingModel) (root : ℕ) (cone : Circuit) (is : IsConeIn c levels p root cone) where
  abbrev pub out : ℕ
  out = length is.from

  pub one_output : cone.outputs ≡ out ∷ []
  one_output = subst (λ (d : Circuit). d.outputs ≡ out ∷ []) is.is_part is.cone_of.outputs

  pub out_of : output_of cone ≡ out
  out_of = ap (λ os. slice_index os 0) one_output

  pub no_registers : registers_of cone ≡ []
  no_registers = subst (λ (d : Circuit). registers_of d ≡ []) is.is_part (ap (map (λ g. g.out)) is.cone_of.registers)

  pub own_apart : AreApart cone.names
  own_apart = subst (λ (d : Circuit). AreApart d.names) is.is_part is.cone_of.sound.names

  pub out_low : out < length cone.names
  out_low = subst (λ (d : Circuit). out < length d.names) is.is_part (omega (arith, is.cone_of.count))

  pub out_name : name_of cone out ≡ 111 ∷ []
  out_name = subst (λ (d : Circuit). name_of d out ≡ 111 ∷ []) is.is_part is.cone_of.last_name

  -- the places of the cone's variables
  module _ (places : List ℕ) (below : All (λ l. l < length p.names) places) (apart : AreApart p.names)
      (low : (s : ℕ) → Contains (variables_of c) s → slice_index levels s < length p.names) (own_names : List (List ℕ)) (own_levels : List ℕ)
      (own : own_names ≡ map (variable_name p.names) places)
      (at : (t : ℕ) → Contains (variables_of cone) t → (slice_index own_levels t < length own_names) × (get_or own_names (slice_index own_levels t) [] ≡ name_of cone t)) where
    as_variable : (t : ℕ) → Contains is.part.inputs t → Contains (variables_of cone) t
    as_variable t among =
        subst (λ (d : Circuit). Contains (variables_of d) t) is.is_part
        (subst (λ ts. Contains ts t) (sym (ap (λ gs. is.part.inputs ++ map (λ g. g.out) gs) is.cone_of.registers ∙ append-nil is.part.inputs)) among)

    behind : (u v : List ℕ) → 118 ∷ u ≡ 118 ∷ v → u ≡ v
    behind u v e = cc

    level_at : (t : ℕ) → Contains is.part.inputs t → (slice_index own_levels t < length places) × (slice_index levels (slice_index is.from t) ≡ slice_index places (slice_index own_levels t))
    level_at t among =
        let s = slice_index is.from t in
        let i = slice_index own_levels t in
        let stands = at t (as_variable t among) in
        let within : i < length places = subst (λ n. i < n) (ap length own ∙ length-map places (variable_name p.names)) stands.0 in
        let variable : Contains (variables_of c) s =
        subst (λ (d : Circuit). Contains (variables_of d) s) is.is_whole
        (at_contained (λ u. (u < length is.from) × Contains (variables_of (circuit is.whole)) (slice_index is.from u)) is.part.inputs t is.cone_of.inputs among).1 in
        let given_name : get_or is.names s [] ≡ get_or p.names (slice_index levels s) [] =
        at_contained (λ u. get_or is.names u [] ≡ get_or p.names (slice_index levels u) []) (variables_of c) s is.named.variables variable in
        let own_name : name_of cone t ≡ variable_name is.names s =
        subst (λ (d : Circuit). name_of d t ≡ variable_name is.names s) is.is_part
        (at_contained (λ u. get_or is.part.names u [] ≡ variable_name is.names (slice_index is.from u)) is.part.inputs t is.cone_of.input_names among) in
        let as_placed : variable_name p.names (get_or places i 0) ≡ name_of cone t =
        sym (get_or-map (variable_name p.names) places i 0 [] within) ∙ ap (λ ns. get_or ns i []) (sym own) ∙ stands.1 in
        let one : get_or p.names (slice_index levels s) [] ≡ get_or p.names (get_or places i 0) [] =
        sym given_name ∙ sym (behind (get_or p.names (get_or places i 0) []) (get_or is.names s []) (as_placed ∙ own_name)) in
        (within, one_place p.names apart (slice_index levels s) (get_or places i 0) (low s variable) (below i 0 within) one)

    -- a function over the variables at the places is a function over all levels
    pub function_widened : IsOfNet c → (n count : ℕ) → count ≡ length places → (f : List Bool → Bool) → IsFunctionOf cone (slice_index own_levels) count out f →
        IsFunctionOf c (slice_index levels) n root (λ x. f (bits_at places x))
    function_widened net n count size f h =
        let labelled : (x : List Bool) → (bits : List Bool) × IsLabelling (circuit is.whole) (slice_index levels) x bits =
        λ x. subst (λ (d : Circuit). (bits : List Bool) × IsLabelling d (slice_index levels) x bits) (net.is_circuit ∙ sym is.is_whole) (has_labelling net.net net.sound (slice_index levels) x) in
        subst (λ (d : Circuit). IsFunctionOf d (slice_index levels) n root (λ x. f (bits_at places x))) is.is_whole
        (widened_where is.whole root is.names is.part is.from is.cone_of (slice_index levels) (slice_index own_levels) places level_at labelled n f
        (subst (λ (d : Circuit). IsFunctionOf d (slice_index own_levels) (length places) out f) (sym is.is_part)
        (subst (λ l. IsFunctionOf cone (slice_index own_levels) l out f) size h)))

-- ---- two cones

-- an output that is found in the other cone
module _ (a b : Circuit) (s t : ℕ) (found : find b.names (name_of a s) ≡ Some t) where
  signal_there : signal_named b (t ∷ []) (name_of a s) ≡ Some t
  signal_there = ap (where_among (t ∷ [])) found ∙ ap (λ i. cond i (Some t) None) (member_head t [])

  one_pair : pairs_by_name a b (t ∷ []) (s ∷ []) ≡ (s, t) ∷ []
  one_pair = ap (λ o. with_pair s o []) signal_there

  none_unmatched : unmatched a b (t ∷ []) (s ∷ []) ≡ []
  none_unmatched = ap (λ o. without_pair s o []) signal_there

module _ (k m : Circuit) (w : Option Circuit) (order : Order) (q : NamingModel) (h : IsNaming Name k m w order q) (s t : ℕ) (first : k.outputs ≡ s ∷ []) (second : m.outputs ≡ t ∷ [])
    (first_none : registers_of k ≡ []) (second_none : registers_of m ≡ []) (there : find m.names (name_of k s) ≡ Some t) (back : find k.names (name_of m t) ≡ Some s) where
  output_pairs : q.outputs.pairs ≡ (s, t) ∷ []
  output_pairs = ap (λ c. c.pairs) h.outputs ∙ ap (λ os. pairs_by_name k m os k.outputs) second ∙ ap (pairs_by_name k m (t ∷ [])) first ∙ one_pair k m s t there

  register_pairs : q.registers.pairs ≡ []
  register_pairs = ap (λ c. c.pairs) h.registers ∙ ap (pairs_by_name k m (registers_of m)) first_none

  -- the only pair of the cones
  pub one_subject : subjects k m q ≡ output_subject (s, t) ∷ []
  one_subject =
      ap (λ os. map output_subject os ++ map (next_subject k m) q.registers.pairs) output_pairs ∙
      ap (λ rs. output_subject (s, t) ∷ map (next_subject k m) rs) register_pairs

  only_first : q.outputs.only_first ≡ []
  only_first = ap (λ c. c.only_first) h.outputs ∙ ap (λ os. unmatched k m os k.outputs) second ∙ ap (unmatched k m (t ∷ [])) first ∙ none_unmatched k m s t there

  only_second : q.outputs.only_second ≡ []
  only_second = ap (λ c. c.only_second) h.outputs ∙ ap (λ os. unmatched m k os m.outputs) first ∙ ap (unmatched m k (s ∷ [])) second ∙ none_unmatched m k t s back

  only_first_next : q.registers.only_first ≡ []
  only_first_next = ap (λ c. c.only_first) h.registers ∙ ap (unmatched k m (registers_of m)) first_none

  only_second_next : q.registers.only_second ≡ []
  only_second_next = ap (λ c. c.only_second) h.registers ∙ ap (unmatched m k (registers_of k)) second_none

  -- each of their outputs has a partner
  pub no_unmatched : unmatched_verdicts k m q ≡ []
  no_unmatched =
      let e = only_first in
      let f = only_second in
      let g = only_first_next in
      let i = only_second_next in
      cc
