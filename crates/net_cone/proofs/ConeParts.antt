-- The parts of a cone make a netlist, which is the cone.
use Rattle.std.proofs.Common.{◌≡◌, ◌≢◌, inl, inr, ℕ, ◌+◌, ◌-◌, ◌^◌, ◌<◌, ◌≤◌, List, [], ◌∷◌, ◌++◌, Bool, true, false, refl, sym, ap, ◌∙◌, subst, map, take, drop, length, get_or, arith}
use Rattle.std.specs.Prelude.{All, Contains, IsTrue, cond, decimal, filter, fold, nat_le, slice_index}
use Rattle.std.proofs.Math.Seq.{get_or-append_seam, take-append_seam, drop-append_seam}
use Rattle.std.proofs.lemmas.Bool.{cases_lt}
use Rattle.std.proofs.lemmas.Bool.Decides.{nat_tests}
use Rattle.std.proofs.lemmas.Fmt.{decimal_injective}
use Rattle.std.proofs.lemmas.List.{get_or-append-add, get_or-map, get_or_append_left, get_or_default, append-nil, length-append, length-map}
use Rattle.std.proofs.lemmas.List.Elements.{All-append, All-contains_itself, All-filter, filter_passes}
use Rattle.net_bench.specs.declared.netlist.GateLine.{GateLine}
use Rattle.net_bench.specs.Circuit.{HaveNoRepeats, IsNet, Net, circuit, greatest, is_gate, is_register, variables_of, with_name}
use Rattle.net_bench.specs.Statement.{takes_one}
use Rattle.net_bench.proofs.OneLabelling.{at_contained}
use Rattle.net_cone.specs.declared.cone.ConeNumbering.{ConeNumbering}
use Rattle.net_cone.specs.Cones.{AreNames, IsBelow, IsCone, IsCopy, gate_name, last_gate, variable_name}
use Rattle.net_cone.specs.Walk.{AreBelow, HasConeParts, IsVisited, IsNumbering, cone_names, gates_of, is_visited, numbered_name, visited_gates, renumbered}
use Rattle.net_cone.proofs.Lists.{all_map, filter_after_map, in_filter, in_first, in_map, in_second, map_alike, map_itself, map_twice, none_of, one_of}
use Rattle.net_cone.proofs.Names.{AreApart, apart_append, apart_map, at_two, counted, new_map, none_map}
use Rattle.net_cone.proofs.Numbered.{no_gate}
use Rattle.net_cone.proofs.Walking.{all_found}

-- what a cone is made of
pub record IsReady (n : Net) (root : ℕ) (given : List (List ℕ)) (seen : List Bool) (k : ConeNumbering) (cone : Net) : Type 0 where
  pub sound : IsNet n
  pub root_low : root < length n.names
  pub named : AreNames n given
  pub below : AreBelow n root seen
  pub numbered : IsNumbering k.from.items k.to.items
  pub each : length k.to.items ≡ length n.names
  pub variables : k.variables ≡ length (filter (is_visited seen) (variables_of (circuit n)))
  pub from : k.from.items ≡ filter (is_visited seen) (variables_of (circuit n)) ++ filter (is_visited seen) (map (λ g. g.out) n.gates)
  pub cone_parts : HasConeParts n root given k cone

greatest_one : (x : ℕ) → greatest (x ∷ []) ≡ x
greatest_one x =
    elim (nat_le x 0) as (λ b. nat_le x 0 ≡ b → cond b 0 x ≡ x) [
      | true ↦ λ e. let none : x ≤ 0 = grind (arith, nat_tests) in omega arith
      | false ↦ λ e. refl
    ] refl

-- a name's first byte, and those after it
first_of : List ℕ → ℕ
first_of [] = 0
first_of (x ∷ xs) = x

rest_of : List ℕ → List ℕ
rest_of [] = []
rest_of (x ∷ xs) = xs

other_first : (x y : ℕ) (xs ys : List ℕ) → x ≢ y → x ∷ xs ≢ y ∷ ys
unfolding first_of
other_first x y xs ys differ same = differ (ap first_of same)

same_rest : (x : ℕ) (xs ys : List ℕ) → x ∷ xs ≡ x ∷ ys → xs ≡ ys
unfolding rest_of
same_rest x xs ys same = ap rest_of same

module _ (n : Net) (root : ℕ) (given : List (List ℕ)) (seen : List Bool) (k : ConeNumbering) (cone : Net) (r : IsReady n root given seen k cone) where
  abbrev from : List ℕ
  from = k.from.items

  abbrev to : List ℕ
  to = k.to.items

  abbrev vars : List ℕ
  vars = filter (is_visited seen) (variables_of (circuit n))

  abbrev gates : List GateLine
  gates = visited_gates seen n.gates

  parts : k.from.items ≡ filter (is_visited seen) (variables_of (circuit n)) ++ map (λ g. g.out) (visited_gates seen n.gates)
  parts = r.from ∙ ap (λ os. filter (is_visited seen) (variables_of (circuit n)) ++ os) (filter_after_map (is_visited seen) (λ (g : GateLine). g.out) n.gates)

  count : length k.from.items ≡ k.variables + length (visited_gates seen n.gates)
  count = ap length parts ∙ length-append vars (map (λ g. g.out) gates) ∙ ap (λ m. length vars + m) (length-map gates (λ g. g.out)) ∙ ap (λ m. m + length gates) (sym r.variables)

  -- ---- numbers

  number_of : (s : ℕ) → Contains k.from.items s → (slice_index k.to.items s < length k.from.items) × (slice_index k.from.items (slice_index k.to.items s) ≡ s)
  number_of s (i, low, at) =
      let is : slice_index from i ≡ s = get_or_default from i 0 s low ∙ at in
      let number : slice_index to s ≡ i = ap (slice_index to) (sym is) ∙ r.numbered.place i low in
      (subst (λ j. j < length from) (sym number) low, ap (slice_index from) number ∙ is)

  gate_in : (g : GateLine) → Contains n.gates g → IsVisited seen g.out → Contains k.from.items g.out
  gate_in g among visited =
      subst (λ xs. Contains xs g.out) (sym parts)
      (in_second vars (map (λ h. h.out) gates) g.out (in_map (λ h. h.out) gates g (in_filter (λ h. is_visited seen h.out) n.gates g among visited)))

  visited_in : (s : ℕ) → s < length n.names → IsVisited seen s → Contains k.from.items s
  visited_in s low visited = elim (r.sound.defined s low) [
    | inl variable ↦ subst (λ xs. Contains xs s) (sym parts) (in_first vars (map (λ h. h.out) gates) s (in_filter (is_visited seen) (variables_of (circuit n)) s variable visited))
    | inr (g, among, out) ↦ subst (Contains k.from.items) out (gate_in g among (subst (IsVisited seen) (sym out) visited))
  ]

  variable_at : (t : ℕ) → t < k.variables → slice_index k.from.items t ≡ get_or vars t 0
  variable_at t low = ap (λ xs. get_or xs t 0) parts ∙ get_or_append_left vars (map (λ g. g.out) gates) 0 t (subst (λ m. t < m) r.variables low)

  is_variable : (t : ℕ) → t < k.variables → Contains (variables_of (circuit n)) (slice_index k.from.items t)
  is_variable t low = subst (Contains (variables_of (circuit n))) (sym (variable_at t low))
      (All-filter (is_visited seen) (Contains (variables_of (circuit n))) (variables_of (circuit n)) (All-contains_itself (variables_of (circuit n))) t 0 (subst (λ m. t < m) r.variables low))

  gate_at : (i : ℕ) (d : GateLine) → i < length gates → slice_index k.from.items (k.variables + i) ≡ (get_or gates i d).out
  gate_at i d low =
      ap (λ xs. get_or xs (k.variables + i) 0) parts ∙ ap (λ m. get_or (vars ++ map (λ g. g.out) gates) (m + i) 0) r.variables ∙
      get_or-append-add vars (map (λ g. g.out) gates) i 0 ∙ get_or-map (λ g. g.out) gates i d 0 low

  root_in : Contains k.from.items root
  root_in = visited_in root r.root_low r.below.start

  -- ---- gates

  met : All (λ g. Contains n.gates g × IsVisited seen g.out) gates
  met i d low = (
    All-filter (λ g. is_visited seen g.out) (Contains n.gates) n.gates (All-contains_itself n.gates) i d low,
    filter_passes (λ g. is_visited seen g.out) n.gates i d low,
  )

  operand_in : (g : GateLine) → Contains n.gates g × IsVisited seen g.out → All (λ t. Contains k.from.items t) g.operands
  operand_in g (among, visited) i d low =
      visited_in (get_or g.operands i d)
      ((at_contained (λ g. All (λ s. s < length n.names) g.operands × (0 < length g.operands) × (IsTrue (takes_one g.kind) → length g.operands ≡ 1)) n.gates g r.sound.operands among).0 i d low)
      (r.below.closed g among visited i d low)

  copy_of : (g : GateLine) → Contains n.gates g × IsVisited seen g.out → IsCopy n k.from.items (renumbered k.to.items g)
  copy_of g (among, visited) =
      let out : (slice_index to g.out < length from) × (slice_index from (slice_index to g.out) ≡ g.out) = number_of g.out (gate_in g among visited) in
      record {
        source = g;
        among = among;
        in_bounds = out.0;
        out = out.1;
        kind = refl;
        low = all_map (slice_index to) (λ t. t < length from) g.operands (λ i d low. (number_of (get_or g.operands i d) (operand_in g (among, visited) i d low)).0);
        operands = map_twice (slice_index to) (slice_index from) g.operands ∙
            map_alike (λ s. slice_index from (slice_index to s)) (λ s. s) g.operands (λ i d low. (number_of (get_or g.operands i d) (operand_in g (among, visited) i d low)).1) ∙ map_itself g.operands;
        line = refl;
      }

  abbrev copies : List GateLine
  copies = map (renumbered k.to.items) (visited_gates seen n.gates)

  abbrev last : GateLine
  last = last_gate (length k.from.items) (slice_index k.to.items root)

  copied : All (IsCopy n k.from.items) copies
  copied = all_map (renumbered to) (IsCopy n from) gates (λ i d low. copy_of (get_or gates i d) (met i d low))

  behind_variables : drop k.variables k.from.items ≡ map (λ g. g.out) gates
  behind_variables = ap (drop k.variables) parts ∙ ap (λ m. drop m (vars ++ map (λ g. g.out) gates)) r.variables ∙ drop-append_seam vars (map (λ g. g.out) gates)

  gates_are : cone.gates ≡ copies ++ last ∷ []
  gates_are =
      r.cone_parts.gates ∙ ap (λ ss. map (renumbered to) (gates_of n.gates ss) ++ last ∷ []) behind_variables ∙
      ap (λ gs. map (renumbered to) gs ++ last ∷ []) (all_found n r.sound gates (λ i d low. (met i d low).0))

  copies_count : length copies ≡ length gates
  copies_count = length-map gates (renumbered to)

  gates_count : length cone.gates ≡ length gates + 1
  gates_count = ap length gates_are ∙ length-append copies (last ∷ []) ∙ ap (λ m. m + 1) copies_count

  -- the gates' signals come after the variables, in their order
  copy_out : (i : ℕ) (d : GateLine) → i < length gates → (get_or copies i d).out ≡ k.variables + i
  copy_out i d low =
      let far : length from ≡ k.variables + length gates = count in
      ap (λ (g : GateLine). g.out) (get_or-map (renumbered to) gates i no_gate d low) ∙ ap (slice_index to) (sym (gate_at i no_gate low)) ∙ r.numbered.place (k.variables + i) (omega arith)

  gate_out : (i : ℕ) (d : GateLine) → i < length cone.gates → (get_or cone.gates i d).out ≡ k.variables + i
  gate_out i d low =
      let all : length cone.gates ≡ length gates + 1 = gates_count in
      let long : length copies ≡ length gates = copies_count in
      elim (cases_lt i (length gates)) [
        | inl before ↦
            ap (λ gs. (get_or gs i d).out) gates_are ∙ ap (λ (g : GateLine). g.out) (get_or_append_left copies (last ∷ []) d i (omega arith)) ∙ copy_out i d before
        | inr behind ↦
            let is : i ≡ length copies = omega arith in
            let end : i ≡ length gates = omega arith in
            ap (λ gs. (get_or gs i d).out) gates_are ∙ ap (λ j. (get_or (copies ++ last ∷ []) j d).out) is ∙
            ap (λ (g : GateLine). g.out) (get_or-append_seam copies last [] d) ∙ count ∙ ap (λ j. k.variables + j) (sym end)
      ]

  -- ---- names

  once : HaveNoRepeats k.from.items
  once i j less low same =
      let one : slice_index to (slice_index from i) ≡ i = r.numbered.place i (omega arith) in
      let two : slice_index to (slice_index from j) ≡ j = r.numbered.place j low in
      let is : slice_index to (slice_index from i) ≡ slice_index to (slice_index from j) = ap (slice_index to) same in
      omega arith

  abbrev outs : List ℕ
  outs = map (λ (g : GateLine). g.out) (visited_gates seen n.gates)

  out_at : (i : ℕ) → i < length gates → get_or outs i 0 ≡ slice_index k.from.items (k.variables + i)
  out_at i low = get_or-map (λ (g : GateLine). g.out) gates i no_gate 0 low ∙ sym (gate_at i no_gate low)

  outs_count : length outs ≡ length gates
  outs_count = length-map gates (λ (g : GateLine). g.out)

  abbrev front : List (List ℕ)
  front = map (variable_name given) vars

  abbrev back : List (List ℕ)
  back = map (numbered_name to) outs

  abbrev all_names : List (List ℕ)
  all_names = (front ++ back) ++ (111 ∷ []) ∷ []

  names_are : cone_names given k.to.items k.variables k.from.items ≡ all_names
  names_are =
      let first : take k.variables k.from.items ≡ vars = ap (take k.variables) parts ∙ ap (λ m. take m (vars ++ outs)) r.variables ∙ take-append_seam vars outs in
      ap (λ xs. (map (variable_name given) xs ++ map (numbered_name to) (drop k.variables k.from.items)) ++ (111 ∷ []) ∷ []) first ∙
      ap (λ ys. (front ++ map (numbered_name to) ys) ++ (111 ∷ []) ∷ []) behind_variables

  var_once : HaveNoRepeats vars
  var_once i j less low same =
      let far : length from ≡ k.variables + length gates = count in
      let many : k.variables ≡ length vars = r.variables in
      once i j less (omega arith) (variable_at i (omega arith) ∙ same ∙ sym (variable_at j (omega arith)))

  var_among : (i : ℕ) → i < length vars → Contains (variables_of (circuit n)) (slice_index vars i)
  var_among i low = All-filter (is_visited seen) (Contains (variables_of (circuit n))) (variables_of (circuit n)) (All-contains_itself (variables_of (circuit n))) i 0 low

  front_apart : AreApart front
  front_apart = apart_map (variable_name given) vars var_once
      (λ i j low less same. r.named.apart (slice_index vars i) (slice_index vars j) (var_among i low) (var_among j less) (same_rest 118 (get_or given (slice_index vars i) []) (get_or given (slice_index vars j) []) same))

  out_once : HaveNoRepeats outs
  out_once i j less low same =
      let far : length from ≡ k.variables + length gates = count in
      let many : length outs ≡ length gates = outs_count in
      once (k.variables + i) (k.variables + j) (omega arith) (omega arith) (sym (out_at i (omega arith)) ∙ same ∙ out_at j (omega arith))

  -- the gates have the numbers after those of the variables, and so names of their own
  number_at : (i : ℕ) → i < length outs → slice_index to (slice_index outs i) ≡ k.variables + i
  number_at i low =
      let far : length from ≡ k.variables + length gates = count in
      let many : length outs ≡ length gates = outs_count in
      ap (slice_index to) (out_at i (omega arith)) ∙ r.numbered.place (k.variables + i) (omega arith)

  name_number : (i : ℕ) → i < length outs → numbered_name to (slice_index outs i) ≡ gate_name (k.variables + i)
  name_number i low = ap gate_name (number_at i low)

  numbers_short : (i : ℕ) → i < length outs → k.variables + i < 2 ^ 64
  numbers_short i low =
      let far : length from ≡ k.variables + length gates = count in
      let many : length outs ≡ length gates = outs_count in
      let short : length from ≤ 1000000 = r.cone_parts.short in
      let million : 1000000 < 2 ^ 64 = omega arith in
      omega arith

  back_apart : AreApart back
  back_apart = apart_map (numbered_name to) outs out_once
      (λ i j low less same.
      let digits : decimal (k.variables + i) ≡ decimal (k.variables + j) =
      same_rest 103 (decimal (k.variables + i)) (decimal (k.variables + j)) (sym (name_number i low) ∙ same ∙ name_number j less) in
      let number : k.variables + i ≡ k.variables + j = decimal_injective (k.variables + i) (k.variables + j) (numbers_short i low) (numbers_short j less) digits in
      let place : i ≡ j = omega arith in
      ap (slice_index outs) place)

  both_apart : AreApart (front ++ back)
  both_apart = apart_append front back front_apart back_apart
      (new_map front (numbered_name to) outs (λ s. none_map (variable_name given) vars (numbered_name to s) (λ t. other_first 118 103 (get_or given t []) (decimal (slice_index to s)) (λ e. omega arith))))

  all_apart : AreApart all_names
  all_apart = apart_append (front ++ back) ((111 ∷ []) ∷ []) both_apart (none_of (λ y. y ≢ 111 ∷ []) [] refl, tt)
      (one_of (λ y. All (λ x. x ≢ y) (front ++ back)) (111 ∷ [])
      (All-append (λ x. x ≢ 111 ∷ []) front back
      (none_map (variable_name given) vars (111 ∷ []) (λ t. other_first 118 111 (get_or given t []) [] (λ e. omega arith)))
      (none_map (numbered_name to) outs (111 ∷ []) (λ t. other_first 103 111 (decimal (slice_index to t)) [] (λ e. omega arith)))))

  names_is : cone.names ≡ all_names
  names_is = r.cone_parts.names ∙ ap (fold with_name []) names_are ∙ counted [] all_names all_apart (λ i d low. none_of (λ x. x ≢ get_or all_names i d) [] refl)

  both_count : length (front ++ back) ≡ length k.from.items
  both_count =
      length-append front back ∙ ap (λ m. m + length back) (length-map vars (variable_name given)) ∙
      ap (λ m. length vars + m) (length-map outs (numbered_name to) ∙ outs_count) ∙ ap (λ m. m + length gates) (sym r.variables) ∙ sym count

  names_count : length cone.names ≡ length k.from.items + 1
  names_count = ap length names_is ∙ length-append (front ++ back) ((111 ∷ []) ∷ []) ∙ ap (λ m. m + 1) both_count

  input_name : (t : ℕ) → t < k.variables → get_or cone.names t [] ≡ variable_name given (slice_index k.from.items t)
  input_name t low =
      let far : length from ≡ k.variables + length gates = count in
      let many : k.variables ≡ length vars = r.variables in
      let one : length (front ++ back) ≡ length from = both_count in
      let two : length front ≡ length vars = length-map vars (variable_name given) in
      ap (λ ns. get_or ns t []) names_is ∙ get_or_append_left (front ++ back) ((111 ∷ []) ∷ []) [] t (omega arith) ∙
      get_or_append_left front back [] t (omega arith) ∙ get_or-map (variable_name given) vars t 0 [] (omega arith) ∙ ap (variable_name given) (sym (variable_at t low))

  copy_name : (i : ℕ) → i < length gates → get_or cone.names (k.variables + i) [] ≡ gate_name (k.variables + i)
  copy_name i low =
      let far : length from ≡ k.variables + length gates = count in
      let one : length (front ++ back) ≡ length from = both_count in
      let two : k.variables ≡ length front = r.variables ∙ sym (length-map vars (variable_name given)) in
      let three : length outs ≡ length gates = outs_count in
      ap (λ ns. get_or ns (k.variables + i) []) names_is ∙ get_or_append_left (front ++ back) ((111 ∷ []) ∷ []) [] (k.variables + i) (omega arith) ∙
      ap (λ m. get_or (front ++ back) (m + i) []) two ∙ get_or-append-add front back i [] ∙ get_or-map (numbered_name to) outs i 0 [] (omega arith) ∙ name_number i (omega arith)

  end_name : get_or cone.names (length k.from.items) [] ≡ 111 ∷ []
  end_name =
      ap (λ ns. get_or ns (length k.from.items) []) names_is ∙ ap (λ m. get_or all_names m []) (sym both_count) ∙ get_or-append_seam (front ++ back) (111 ∷ []) [] []

  -- ---- ranks

  rank_at : (t : ℕ) → t < length k.from.items → slice_index cone.ranks t ≡ slice_index n.ranks (slice_index k.from.items t)
  rank_at t low =
      let many : length (map (slice_index n.ranks) from) ≡ length from = length-map from (slice_index n.ranks) in
      ap (λ xs. slice_index xs t) r.cone_parts.ranks ∙ get_or_append_left (map (slice_index n.ranks) from) ((slice_index n.ranks root + 1) ∷ []) 0 t (omega arith) ∙
      get_or-map (slice_index n.ranks) from t 0 0 low

  end_rank : slice_index cone.ranks (length k.from.items) ≡ slice_index n.ranks root + 1
  end_rank =
      ap (λ xs. slice_index xs (length k.from.items)) r.cone_parts.ranks ∙
      ap (λ m. get_or (map (slice_index n.ranks) from ++ (slice_index n.ranks root + 1) ∷ []) m 0) (sym (length-map from (slice_index n.ranks))) ∙
      get_or-append_seam (map (slice_index n.ranks) from) (slice_index n.ranks root + 1) [] 0

  ranks_count : length cone.ranks ≡ length cone.names
  ranks_count =
      ap length r.cone_parts.ranks ∙ length-append (map (slice_index n.ranks) from) ((slice_index n.ranks root + 1) ∷ []) ∙
      ap (λ m. m + 1) (length-map from (slice_index n.ranks)) ∙ sym names_count

  abbrev IsRanked : GateLine → Type 0
  IsRanked g = slice_index cone.ranks g.out ≡ greatest (map (slice_index cone.ranks) g.operands) + 1

  number_rank : (s : ℕ) → Contains k.from.items s → slice_index cone.ranks (slice_index k.to.items s) ≡ slice_index n.ranks s
  number_rank s among = rank_at (slice_index to s) (number_of s among).0 ∙ ap (slice_index n.ranks) (number_of s among).1

  copy_ranked : (g : GateLine) → Contains n.gates g × IsVisited seen g.out → IsRanked (renumbered k.to.items g)
  copy_ranked g (among, visited) =
      number_rank g.out (gate_in g among visited) ∙
      at_contained (λ h. slice_index n.ranks h.out ≡ greatest (map (slice_index n.ranks) h.operands) + 1) n.gates g r.sound.ranks.gates among ∙
      ap (λ xs. greatest xs + 1)
      (sym (map_twice (slice_index to) (slice_index cone.ranks) g.operands ∙
      map_alike (λ s. slice_index cone.ranks (slice_index to s)) (slice_index n.ranks) g.operands (λ i d low. number_rank (get_or g.operands i d) (operand_in g (among, visited) i d low))))

  last_ranked : IsRanked (last_gate (length k.from.items) (slice_index k.to.items root))
  last_ranked =
      end_rank ∙ ap (λ m. m + 1) (sym (number_rank root root_in)) ∙ ap (λ m. m + 1) (sym (greatest_one (slice_index cone.ranks (slice_index to root))))

  -- ---- a netlist

  inputs_all : (P : ℕ → Type 0) → ((t : ℕ) → t < k.variables → P t) → All P cone.inputs
  inputs_all P each i d low =
      let less : i < k.variables = subst (λ m. i < m) r.cone_parts.inputs low in
      subst P (sym (r.cone_parts.input i d less)) (each i less)

  variables_are : variables_of (circuit cone) ≡ cone.inputs
  variables_are = ap (λ (rs : List GateLine). cone.inputs ++ map (λ g. g.out) rs) r.cone_parts.registers ∙ append-nil cone.inputs

  gates_all : (P : GateLine → Type 0) → ((g : GateLine) → Contains n.gates g × IsVisited seen g.out → P (renumbered k.to.items g)) → P last → All P cone.gates
  gates_all P copy end = subst (All P) (sym gates_are)
      (All-append P copies (last ∷ []) (all_map (renumbered to) P gates (λ i d low. copy (get_or gates i d) (met i d low))) (one_of P last end))

  abbrev IsFed : GateLine → Type 0
  IsFed g = All (λ s. s < length cone.names) g.operands × (0 < length g.operands) × (IsTrue (takes_one g.kind) → length g.operands ≡ 1)

  copy_fed : (g : GateLine) → Contains n.gates g × IsVisited seen g.out → IsFed (renumbered k.to.items g)
  copy_fed g (among, visited) =
      let all : length cone.names ≡ length from + 1 = names_count in
      let long : length (map (slice_index to) g.operands) ≡ length g.operands = length-map g.operands (slice_index to) in
      let facts : All (λ s. s < length n.names) g.operands × (0 < length g.operands) × (IsTrue (takes_one g.kind) → length g.operands ≡ 1) =
      at_contained (λ g. All (λ s. s < length n.names) g.operands × (0 < length g.operands) × (IsTrue (takes_one g.kind) → length g.operands ≡ 1)) n.gates g r.sound.operands among in (
        λ i d low. (let less : get_or (map (slice_index to) g.operands) i d < length from = (copy_of g (among, visited)).low i d low in omega arith),
        omega (arith, facts.1),
        λ takes. long ∙ facts.2 takes,
      )

  pub net_of_cone : IsNet cone
  net_of_cone =
      let all : length cone.names ≡ length from + 1 = names_count in
      let far : length from ≡ k.variables + length gates = count in
      let many : length cone.gates ≡ length gates + 1 = gates_count in
      record {
        names = λ i j less low. subst (λ ns. get_or ns i [] ≢ get_or ns j []) (sym names_is) (at_two all_names all_apart i j less (subst (λ ns. j < length ns) names_is low));
        few = r.cone_parts.few;
        variables = subst (All (λ s. s < length cone.names)) (sym variables_are) (inputs_all (λ s. s < length cone.names) (λ t low. omega arith));
        outs = λ i d low. subst (λ s. s < length cone.names) (sym (gate_out i d low)) (omega arith);
        apart = subst (All (λ s. All (λ g. g.out ≢ s) cone.gates)) (sym variables_are)
            (inputs_all (λ s. All (λ g. g.out ≢ s) cone.gates) (λ t low i d less same. (let is : k.variables + i ≡ t = sym (gate_out i d less) ∙ same in omega arith)));
        one_gate = λ i j d less low same. (let is : k.variables + i ≡ k.variables + j = sym (gate_out i d (omega arith)) ∙ same ∙ gate_out j d low in omega arith);
        defined = λ s low. elim (cases_lt s k.variables) [
          | inl input ↦ inl (subst (λ vs. Contains vs s) (sym variables_are) (s, subst (λ m. s < m) (sym r.cone_parts.inputs) input, r.cone_parts.input s s input))
          | inr gate ↦
              let less : s - k.variables < length cone.gates = omega arith in
              let there : k.variables + (s - k.variables) ≡ s = omega arith in
              inr (
                get_or cone.gates (s - k.variables) no_gate,
                (s - k.variables, less, get_or_default cone.gates (s - k.variables) (get_or cone.gates (s - k.variables) no_gate) no_gate less),
                gate_out (s - k.variables) no_gate less ∙ there,
              )
        ];
        outputs = subst (All (λ s. s < length cone.names)) (sym r.cone_parts.outputs) (one_of (λ s. s < length cone.names) (length from) (omega arith));
        variables_once = subst HaveNoRepeats (sym variables_are)
            (λ i j less low same.
            let large : length cone.inputs ≡ k.variables = r.cone_parts.inputs in
            let one : slice_index cone.inputs i ≡ i = r.cone_parts.input i 0 (omega arith) in
            let two : slice_index cone.inputs j ≡ j = r.cone_parts.input j 0 (omega arith) in
            omega arith);
        outputs_once = subst HaveNoRepeats (sym r.cone_parts.outputs) (λ i j less low. absurd (omega arith));
        gates = gates_all (λ g. IsTrue (is_gate g)) (λ g m. at_contained (λ h. IsTrue (is_gate h)) n.gates g r.sound.gates m.0) refl;
        registers = none_of (λ g. IsTrue (is_register g)) cone.registers r.cone_parts.registers;
        next = none_of (λ g. All (λ s. s < length cone.names) g.operands × (length g.operands ≡ 1)) cone.registers r.cone_parts.registers;
        operands = gates_all IsFed copy_fed
            (one_of (λ s. s < length cone.names) (slice_index to root) (let less = (number_of root root_in).0 in omega (arith, less)), omega arith, λ takes. refl);
        ranks = record {
          each = ranks_count;
          variables = subst (All (λ s. slice_index cone.ranks s ≡ 0)) (sym variables_are)
              (inputs_all (λ s. slice_index cone.ranks s ≡ 0)
              (λ t low. rank_at t (omega arith) ∙ at_contained (λ s. slice_index n.ranks s ≡ 0) (variables_of (circuit n)) (slice_index from t) r.sound.ranks.variables (is_variable t low)));
          gates = gates_all IsRanked copy_ranked last_ranked;
        };
      }

  -- ---- a cone

  all_below : All (IsBelow (circuit n) root) k.from.items
  all_below = subst (All (IsBelow (circuit n) root)) (sym r.from)
      (All-append (IsBelow (circuit n) root) vars (filter (is_visited seen) (map (λ g. g.out) n.gates))
      (λ i d low. r.below.below (get_or vars i d) (filter_passes (is_visited seen) (variables_of (circuit n)) i d low))
      (λ i d low. r.below.below (get_or (filter (is_visited seen) (map (λ g. g.out) n.gates)) i d) (filter_passes (is_visited seen) (map (λ g. g.out) n.gates) i d low)))

  pub cone_of_signal : IsCone n root given cone k.from.items
  cone_of_signal =
      let far : length from ≡ k.variables + length gates = count in
      record {
        copies = copies;
        top = slice_index to root;
        sound = net_of_cone;
        count = names_count;
        below = all_below;
        once = once;
        met = is_visited seen;
        order = r.from;
        input_count = r.cone_parts.inputs ∙ r.variables;
        gate_count = copies_count ∙ sym outs_count ∙ sym (ap length (filter_after_map (is_visited seen) (λ (g : GateLine). g.out) n.gates));
        input_places = λ t d low. r.cone_parts.input t d (subst (λ m. t < m) r.cone_parts.inputs low);
        gate_places = λ i d low. copy_out i d (subst (λ m. i < m) copies_count low) ∙ ap (λ m. m + i) (sym r.cone_parts.inputs);
        inputs = inputs_all (λ t. (t < length from) × Contains (variables_of (circuit n)) (slice_index from t)) (λ t low. (omega arith, is_variable t low));
        registers = r.cone_parts.registers;
        gates = gates_are;
        copied = copied;
        in_bounds = (number_of root root_in).0;
        top_is_root = (number_of root root_in).1;
        outputs = r.cone_parts.outputs;
        input_names = inputs_all (λ t. get_or cone.names t [] ≡ variable_name given (slice_index from t)) input_name;
        gate_names = λ i d low.
            let less : i < length gates = subst (λ m. i < m) copies_count low in
            subst (λ t. get_or cone.names t [] ≡ gate_name t) (sym (copy_out i d less)) (copy_name i less);
        last_name = end_name;
      }
