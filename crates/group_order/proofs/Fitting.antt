-- A list that has the number of each variable once has the name of each variable once.
use Rattle.std.proofs.Common.{◌≡◌, inl, inr, ℕ, zero, suc, ◌+◌, ◌<◌, ◌≤◌, List, [], ◌∷◌, ◌++◌, true, false, refl, sym, ap, ◌∙◌, subst, length, take, arith, All, append_assoc, add-one}
use Rattle.std.specs.Prelude.{cond, not, ◌&&◌, ◌||◌, bytes_eq, nat_lt, Option, Some, None}
use Rattle.std.specs.List.{AllByRecursion, IsDistinct, slice_index_or}
use Rattle.std.specs.List.Sorted.{IsPermutation}
use Rattle.std.proofs.lemmas.Bool.Decides.{nat_tests}
use Rattle.std.proofs.lemmas.List.{append-nil, map-append, take_more, take_all}
use Rattle.std.proofs.lemmas.List.Elements.{All-tail}
use Rattle.std.proofs.lemmas.List.Sorted.{All-permutation, IsPermutation-map, length_permutation}
use Rattle.std.proofs.lemmas.Map.Keys.{IsDistinct-IsPermutation, IsDistinct-head, IsDistinct-tail}
use Rattle.net_bench.specs.Circuit.{Circuit, is_name_in}
use Rattle.net_names.specs.declared.order.Match.{Match}
use Rattle.net_names.specs.declared.order.Order.{Order}
use Rattle.net_names.specs.declared.order.Order.TheVariants.{Declared, Listed}
use Rattle.net_bench.proofs.Numbers.{name_itself, or_cases, or_left, or_right, same_name}
use Rattle.net_order.specs.Force.{numbers_below}
use Rattle.net_order.specs.Order.{NamedNetlistModel, NamingModel, HasEachVariableOnce, IsFit, IsPairing, all_names, bad_place, both, declared, given_side, numbered, variables_in}
use Rattle.net_order.proofs.Different.{AmongNames, all_different, names_equal}
use Rattle.net_order.proofs.Members.{no_true}

-- ---- different names that are all variables fit

apart_head : (b n : List ℕ) (bs ns : List (List ℕ)) → AllByRecursion (λ y. bytes_eq b y ≡ false) (bs ++ n ∷ ns) → bytes_eq b n ≡ false
apart_head b n [] ns h = h.0
apart_head b n (c ∷ bs) ns h = apart_head b n bs ns h.1

absent : (before : List (List ℕ)) (n : List ℕ) (ns : List (List ℕ)) → IsDistinct bytes_eq (before ++ n ∷ ns) → is_name_in before n ≡ false
absent [] n ns h = refl
absent (b ∷ before) n ns h =
    ap (λ x. x || is_name_in before n) (apart_head b n before ns (IsDistinct-head bytes_eq b (before ++ n ∷ ns) h)) ∙ absent before n ns (IsDistinct-tail bytes_eq b (before ++ n ∷ ns) h)

long_enough : (m n place : ℕ) → n ≤ m → cond (nat_lt m n) (Some place) None ≡ None
long_enough m n place h = let no : nat_lt m n ≡ false = grind (arith, nat_tests) in ap (λ b. cond b (Some place) None) no

fits : (variables before names : List (List ℕ)) (place : ℕ) → IsDistinct bytes_eq (before ++ names) → AmongNames names variables → length variables ≤ length (before ++ names) →
    bad_place variables before names place ≡ None
fits variables before [] place different known many = long_enough (length before) (length variables) place (subst (λ (ns : List (List ℕ)). length variables ≤ length ns) (append-nil before) many)
fits variables before (n ∷ names) place different known many =
    let whole : before ++ n ∷ names ≡ (before ++ n ∷ []) ++ names = sym (append_assoc before (n ∷ []) names) in
    ap (λ b. cond (b && not (is_name_in before n)) (bad_place variables (before ++ n ∷ []) names (place + 1)) (Some place)) (known n (or_left (bytes_eq n n) (is_name_in names n) (name_itself n))) ∙
    ap (λ b. cond (not b) (bad_place variables (before ++ n ∷ []) names (place + 1)) (Some place)) (absent before n names different) ∙
    fits variables (before ++ n ∷ []) names (place + 1) (subst (IsDistinct bytes_eq) whole different) (λ m e. known m (or_right (bytes_eq n m) (is_name_in names m) e))
    (subst (λ (ns : List (List ℕ)). length variables ≤ length ns) whole many)

-- ---- names by number

there : (names : List (List ℕ)) (k : ℕ) (d : List ℕ) → k < length names → is_name_in names (slice_index_or names k d) ≡ true
there [] k d low = absurd (omega arith)
there (n ∷ names) zero d low = or_left (bytes_eq n n) (is_name_in names n) (name_itself n)
there (n ∷ names) (suc k) d low = or_right (bytes_eq n (slice_index_or names k d)) (is_name_in names (slice_index_or names k d)) (there names k d (omega arith))

among_all : (xs names : List (List ℕ)) → All (λ m. is_name_in names m ≡ true) xs → AmongNames xs names
among_all [] names h m e = absurd (no_true e)
among_all (x ∷ xs) names h m e = elim (or_cases (bytes_eq x m) (is_name_in xs m) e) [
  | inl same ↦ ap (is_name_in names) (sym (same_name x m same)) ∙ h 0 x (omega arith)
  | inr more ↦ among_all xs names (All-tail (λ y. is_name_in names y ≡ true) x xs h) m more
]

numbered_none : (names : List (List ℕ)) → numbered names (numbers_below 0) ≡ take 0 names
unfolding numbers_below
numbered_none names = refl

numbered_more : (names : List (List ℕ)) (k : ℕ) → numbered names (numbers_below (k + 1)) ≡ numbered names (numbers_below k) ++ slice_index_or names k [] ∷ []
unfolding numbers_below
numbered_more names k = rw add-one (map-append (λ v. slice_index_or names v []) (numbers_below k) (k ∷ []))

numbered_take : (names : List (List ℕ)) (k : ℕ) → k ≤ length names → numbered names (numbers_below k) ≡ take k names
numbered_take names zero h = numbered_none names
numbered_take names (suc k) h =
    let one : suc k ≡ k + 1 = omega arith in
    ap (λ j. numbered names (numbers_below j)) one ∙ numbered_more names k ∙ ap (λ ns. ns ++ slice_index_or names k [] ∷ []) (numbered_take names k (omega arith)) ∙
    sym (take_more names k [] (omega arith)) ∙ ap (λ j. take j names) (sym one)

numbered_all : (names : List (List ℕ)) → numbered names (numbers_below (length names)) ≡ names
numbered_all names = numbered_take names (length names) (omega arith) ∙ take_all (length names) names (omega arith)

pub each_once : (sides given : List NamedNetlistModel) (order : List ℕ) → IsPermutation (numbers_below (length (declared sides given))) order →
    HasEachVariableOnce (declared sides given) (numbered (declared sides given) order)
each_once sides given order moved =
    let names = declared sides given in
    let permuted : IsPermutation names (numbered names order) =
    subst (λ (ns : List (List ℕ)). IsPermutation ns (numbered names order)) (numbered_all names) (IsPermutation-map (λ v. slice_index_or names v []) (numbers_below (length names)) order moved) in
    fits names [] (numbered names order) 1 (IsDistinct-IsPermutation bytes_eq names_equal.symm names (numbered names order) permuted (all_different (all_names sides given)))
    (among_all (numbered names order) names (All-permutation (λ m. is_name_in names m ≡ true) names (numbered names order) permuted (there names))) (omega (arith, length_permutation names (numbered names order) permuted))

-- so `pair` accepts the list
pub fit_from : (how : Match) (a b : Circuit) (given : Option Circuit) (p : NamingModel) (numbers : List ℕ) (order : Order) → IsPairing how a b given Declared p →
    IsPermutation (numbers_below (length p.names)) numbers → order ≡ Listed (numbered p.names numbers) → IsFit (variables_in how a b given) order
fit_from how a b given p numbers order pairing moved is =
    let names : p.names ≡ variables_in how a b given = pairing.naming.names in
    let there : IsPermutation (numbers_below (length (variables_in how a b given))) numbers = subst (λ (ns : List (List ℕ)). IsPermutation (numbers_below (length ns)) numbers) names moved in
    let listed : order ≡ Listed (numbered (variables_in how a b given) numbers) = is ∙ ap (λ (ns : List (List ℕ)). Listed (numbered ns numbers)) names in
    subst (λ (o : Order). IsFit (variables_in how a b given) o) (sym listed) (each_once (both how a b) (given_side given) numbers there)
