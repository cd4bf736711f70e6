-- The names of the variables in each order: always the same names, and equally many.
use Rattle.std.proofs.Common.{◌≡◌, ℕ, zero, suc, ◌+◌, ◌<◌, ◌≤◌, inl, inr, List, [], ◌∷◌, ◌++◌, Bool, true, false, refl, sym, ap, ◌∙◌, subst, length, arith, append_assoc}
use Rattle.std.specs.Prelude.{cond, ◌&&◌, not, filter, fold, bytes_eq, nat_lt, Option, Some, None}
use Rattle.std.specs.List.{IsDistinct}
use Rattle.std.proofs.lemmas.List.{append-nil}
use Rattle.net_bench.specs.Circuit.{is_name_in, with_name, distinct}
use Rattle.net_bench.proofs.Numbers.{name_itself, in_distinct, or_left, or_right, or_cases, same_name}
use Rattle.net_names.specs.declared.order.Order.{Order}
use Rattle.net_names.specs.declared.order.Order.TheVariants.{Declared, Depth, Interleave, Index, Force, Listed, Extended}
use Rattle.std.specs.List.{slice_index_or}
use Rattle.net_order.specs.Order.{NamedNetlistModel, by_index, extended, forced, force_numbers, met, all_names, declared, by_depth, interleaved, interleaved_numbers, numbered, ordered, names_of_sides, bad_place, HasEachVariableOnce, IsFit}
use Rattle.net_order.specs.Tables.{with_names}
use Rattle.net_order.proofs.Named.{joined}
use Rattle.net_order.proofs.AllNames.{known_declared, known_met, known_sides, known_names}
use Rattle.net_order.proofs.Members.{joined_names, right_names, distinct_names, no_true}
use Rattle.net_order.proofs.InterleavedNumbers.{interleaved_low}
use Rattle.net_order.proofs.Indexing.{indexed_all, indexed_different, indexed_known}
use Rattle.net_order.proofs.Forcing.{forced_low}
use Rattle.net_order.proofs.Different.{AmongNames, no_more, all_different, all_there}

-- ---- depth order and interleaved order

-- the name at a place is one of the names
name_there : (names : List (List ℕ)) (v : ℕ) → v < length names → is_name_in names (slice_index_or names v []) ≡ true
name_there [] v low = absurd (omega arith)
name_there (n ∷ names) zero low = or_left (bytes_eq n n) (is_name_in names n) (name_itself n)
name_there (n ∷ names) (suc v) low = or_right (bytes_eq n (slice_index_or names v [])) (is_name_in names (slice_index_or names v [])) (name_there names v (omega arith))

either_among : (b : Bool) (n : List ℕ) (xs ys : List (List ℕ)) → (b ≡ true → is_name_in ys n ≡ true) → AmongNames xs ys → AmongNames (cond b (n ∷ xs) xs) ys
either_among true n xs ys here h m e = elim (or_cases (bytes_eq n m) (is_name_in xs m) e) [
  | inl same ↦ ap (is_name_in ys) (sym (same_name n m same)) ∙ here refl
  | inr more ↦ h m more
]
either_among false n xs ys here h m e = h m e

filter_among : (variables ys names : List (List ℕ)) → AmongNames variables ys → AmongNames (filter (is_name_in variables) names) ys
filter_among variables ys [] h m e = absurd (no_true e)
filter_among variables ys (n ∷ names) h m e =
    either_among (is_name_in variables n) n (filter (is_name_in variables) names) ys (h n) (filter_among variables ys names h) m e

module _ (sides given : List NamedNetlistModel) where
  depth_among : AmongNames (names_of_sides met sides) (all_names sides given)
  depth_among = known_met (all_names sides given) sides (known_sides sides given)

  -- names of variables are no more than the variables
  few_of : (xs : List (List ℕ)) → AmongNames xs (all_names sides given) → length (distinct xs) ≤ length (declared sides given)
  few_of xs h = no_more (distinct xs) (declared sides given) (all_different xs) (distinct_names xs (all_names sides given) h)

  -- what is at a place of the declared names is a variable
  at_declared : (v : ℕ) → v < length (declared sides given) → is_name_in (all_names sides given) (slice_index_or (declared sides given) v []) ≡ true
  at_declared v low = sym (in_distinct (all_names sides given) (slice_index_or (declared sides given) v [])) ∙ name_there (declared sides given) v low

  interleaved_among : AmongNames (numbered (declared sides given) (interleaved_numbers (declared sides given) sides)) (all_names sides given)
  interleaved_among =
      known_names (λ v. slice_index_or (declared sides given) v []) (interleaved_numbers (declared sides given) sides) (all_names sides given)
      (λ v e. at_declared v (interleaved_low (declared sides given) sides (known_declared sides given) v e))

  forced_among : AmongNames (numbered (by_index sides given) (force_numbers (by_index sides given) sides given)) (all_names sides given)
  forced_among =
      known_names (λ v. slice_index_or (by_index sides given) v []) (force_numbers (by_index sides given) sides given) (all_names sides given)
      (λ v e.
      let n = slice_index_or (by_index sides given) v [] in
      sym (in_distinct (all_names sides given) n) ∙ indexed_known sides given n (name_there (by_index sides given) v (forced_low (by_index sides given) sides given v e)))

  -- with all names after them
  with_all : (xs : List (List ℕ)) → AmongNames xs (all_names sides given) → AmongNames (xs ++ all_names sides given) (all_names sides given)
  with_all xs h = joined_names xs (all_names sides given) (all_names sides given) h (λ n e. e)

  has_all : (xs : List (List ℕ)) → AmongNames (declared sides given) (distinct (xs ++ all_names sides given))
  has_all xs = distinct_names (all_names sides given) (xs ++ all_names sides given) (right_names (all_names sides given) xs (all_names sides given) (λ n e. e))

  -- ---- a table of an order: what walks meet, and then the others

  whole_few : (xs : List (List ℕ)) → AmongNames xs (all_names sides given) → length (distinct (xs ++ all_names sides given)) ≤ length (declared sides given)
  whole_few xs h = few_of (xs ++ all_names sides given) (with_all xs h)

  pub depth_all_few : length (by_depth sides given) ≤ length (declared sides given)
  depth_all_few = whole_few (names_of_sides met sides) depth_among

  pub interleaved_few : length (interleaved sides given) ≤ length (declared sides given)
  interleaved_few = whole_few (numbered (declared sides given) (interleaved_numbers (declared sides given) sides)) interleaved_among

  pub forced_all_few : length (forced sides given) ≤ length (declared sides given)
  forced_all_few = whole_few (numbered (by_index sides given) (force_numbers (by_index sides given) sides given)) forced_among

  -- those names of a list that are variables
  known_among : (names : List (List ℕ)) → AmongNames (filter (is_name_in (declared sides given)) names) (all_names sides given)
  known_among names = filter_among (declared sides given) (all_names sides given) names (λ n e. sym (in_distinct (all_names sides given) n) ∙ e)

  pub extended_few : (names : List (List ℕ)) → length (extended sides given names) ≤ length (declared sides given)
  extended_few names = whole_few (filter (is_name_in (declared sides given)) names) (known_among names)

  -- their table, before the others are appended
  pub known_made : (empty variables names new : List (List ℕ)) → empty ≡ [] → variables ≡ declared sides given → new ≡ with_names empty (filter (is_name_in variables) names) →
      new ≡ distinct (filter (is_name_in (declared sides given)) names)
  known_made empty variables names new is_empty all grown =
      grown ∙ ap (λ (z : List (List ℕ)). with_names z (filter (is_name_in variables) names)) is_empty ∙ ap (λ (z : List (List ℕ)). with_names [] (filter (is_name_in z) names)) all

  -- the table of the order by FORCE, before the others are appended
  pub forced_made : (empty names new : List (List ℕ)) (vs : List ℕ) → empty ≡ [] → names ≡ by_index sides given → vs ≡ force_numbers names sides given → new ≡ with_names empty (numbered names vs) →
      new ≡ distinct (numbered (by_index sides given) (force_numbers (by_index sides given) sides given))
  forced_made empty names new vs is_empty all is grown =
      grown ∙ ap (λ (z : List (List ℕ)). with_names z (numbered names vs)) is_empty ∙ ap (λ zs. with_names [] (numbered names zs)) is ∙
      ap (λ (z : List (List ℕ)). with_names [] (numbered z (force_numbers z sides given))) all

  -- the table of interleaved order, before the others are appended
  pub interleaved_names : (empty variables new : List (List ℕ)) (vs : List ℕ) → empty ≡ [] → variables ≡ declared sides given → vs ≡ interleaved_numbers variables sides → new ≡ with_names empty (numbered variables vs) →
      new ≡ distinct (numbered (declared sides given) (interleaved_numbers (declared sides given) sides))
  interleaved_names empty variables new vs is_empty all is grown =
      grown ∙ ap (λ (z : List (List ℕ)). with_names z (numbered variables vs)) is_empty ∙ ap (λ zs. with_names [] (numbered variables zs)) is ∙
      ap (λ (z : List (List ℕ)). with_names [] (numbered z (interleaved_numbers z sides))) all

  -- all names after others
  pub all_table : (new : List (List ℕ)) (xs : List (List ℕ)) → new ≡ distinct xs → with_names new (all_names sides given) ≡ distinct (xs ++ all_names sides given)
  all_table new xs e = ap (λ z. with_names z (all_names sides given)) e ∙ joined [] xs (all_names sides given)

-- ---- a list of names that fits

pub record Fitting (variables before names : List (List ℕ)) : Type 0 where
  pub once : fold with_name before names ≡ before ++ names
  pub known : AmongNames names variables
  pub many : length variables ≤ length (before ++ names)

not_less : (m n place : ℕ) → cond (nat_lt m n) (Some place) None ≡ None → n ≤ m
not_less m n place e =
    elim (nat_lt m n) as (λ b. nat_lt m n ≡ b → cond b (Some place) None ≡ None → n ≤ m) [
      | true ↦ λ k f. cc
      | false ↦ λ k f. grind arith
    ] refl e

pub both_true : (a b : Bool) (x y : Option ℕ) → cond (a && not b) x y ≡ None → ((a && not b) ≡ false → y ≡ None → ⊥) → (a ≡ true) × (b ≡ false) × (x ≡ None)
both_true true true x y e h = absurd (h refl e)
both_true true false x y e h = (refl, refl, e)
both_true false b x y e h = absurd (h refl e)

pub some_none : (place : ℕ) → Some place ≡ None → ⊥
some_none place e = cc

pub fitting : (variables before names : List (List ℕ)) (place : ℕ) → bad_place variables before names place ≡ None → Fitting variables before names
fitting variables before [] place e = record {
  once = sym (append-nil before);
  known = λ n k. absurd (no_true k);
  many = subst (λ t. length variables ≤ length t) (sym (append-nil before)) (not_less (length before) (length variables) place e);
}
fitting variables before (n ∷ names) place e =
    let parts = both_true (is_name_in variables n) (is_name_in before n) (bad_place variables (before ++ n ∷ []) names (place + 1)) (Some place) e (λ f. some_none place) in
    let rest = fitting variables (before ++ n ∷ []) names (place + 1) parts.2 in
    let whole : (before ++ n ∷ []) ++ names ≡ before ++ n ∷ names = append_assoc before (n ∷ []) names in
    record {
      once = ap (λ b. fold with_name (cond b before (before ++ n ∷ [])) names) parts.1 ∙ rest.once ∙ whole;
      known = λ m k. elim (or_cases (bytes_eq n m) (is_name_in names m) k) [
        | inl same ↦ ap (is_name_in variables) (sym (same_name n m same)) ∙ parts.0
        | inr more ↦ rest.known m more
      ];
      many = subst (λ t. length variables ≤ length t) whole rest.many;
    }

-- a list that fits has no more names than there are variables
pub listing_few : (variables names : List (List ℕ)) → bad_place variables [] names 1 ≡ None → length names ≤ length variables
listing_few variables names h =
    let fits = fitting variables [] names 1 h in
    no_more names variables (subst (IsDistinct bytes_eq) fits.once (all_different names)) fits.known

-- ---- the names in this order

module _ (sides given : List NamedNetlistModel) where
  pub listed_different : (names : List (List ℕ)) → HasEachVariableOnce (declared sides given) names → IsDistinct bytes_eq names
  listed_different names h = subst (IsDistinct bytes_eq) (fitting (declared sides given) [] names 1 h).once (all_different names)

  -- no name is there twice
  pub ordered_different : (order : Order) → IsFit (declared sides given) order → IsDistinct bytes_eq (ordered sides given order)
  ordered_different Declared fit = all_different (all_names sides given)
  ordered_different Depth fit = all_different (names_of_sides met sides ++ all_names sides given)
  ordered_different Interleave fit = all_different (numbered (declared sides given) (interleaved_numbers (declared sides given) sides) ++ all_names sides given)
  ordered_different Index fit = indexed_different sides given
  ordered_different Force fit = all_different (numbered (by_index sides given) (force_numbers (by_index sides given) sides given) ++ all_names sides given)
  ordered_different (Listed names) fit = listed_different names fit
  ordered_different (Extended names) fit = all_different (filter (is_name_in (declared sides given)) names ++ all_names sides given)

  -- each of the names is a variable
  pub ordered_known : (order : Order) → IsFit (declared sides given) order → AmongNames (ordered sides given order) (declared sides given)
  ordered_known Declared fit n e = e
  ordered_known Depth fit n e =
      distinct_names (names_of_sides met sides ++ all_names sides given) (all_names sides given) (with_all sides given (names_of_sides met sides) (depth_among sides given)) n e
  ordered_known Interleave fit n e =
      distinct_names (numbered (declared sides given) (interleaved_numbers (declared sides given) sides) ++ all_names sides given) (all_names sides given)
      (with_all sides given (numbered (declared sides given) (interleaved_numbers (declared sides given) sides)) (interleaved_among sides given)) n e
  ordered_known Index fit n e = indexed_known sides given n e
  ordered_known Force fit n e =
      distinct_names (numbered (by_index sides given) (force_numbers (by_index sides given) sides given) ++ all_names sides given) (all_names sides given)
      (with_all sides given (numbered (by_index sides given) (force_numbers (by_index sides given) sides given)) (forced_among sides given)) n e
  ordered_known (Listed names) fit n e = (fitting (declared sides given) [] names 1 fit).known n e
  ordered_known (Extended names) fit n e =
      distinct_names (filter (is_name_in (declared sides given)) names ++ all_names sides given) (all_names sides given)
      (with_all sides given (filter (is_name_in (declared sides given)) names) (known_among sides given names)) n e

  -- each variable is one of the names
  pub ordered_all : (order : Order) → IsFit (declared sides given) order → AmongNames (declared sides given) (ordered sides given order)
  ordered_all Declared fit n e = e
  ordered_all Depth fit n e = has_all sides given (names_of_sides met sides) n e
  ordered_all Interleave fit n e = has_all sides given (numbered (declared sides given) (interleaved_numbers (declared sides given) sides)) n e
  ordered_all Index fit n e = indexed_all sides given n e
  ordered_all Force fit n e = has_all sides given (numbered (by_index sides given) (force_numbers (by_index sides given) sides given)) n e
  ordered_all (Listed names) fit n e =
      all_there names (declared sides given) (listed_different names fit) (ordered_known (Listed names) fit) (fitting (declared sides given) [] names 1 fit).many n e
  ordered_all (Extended names) fit n e = has_all sides given (filter (is_name_in (declared sides given)) names) n e

  -- so they are equally many
  pub ordered_count : (order : Order) → IsFit (declared sides given) order → length (ordered sides given order) ≡ length (declared sides given)
  ordered_count order fit =
      omega (
        arith,
        no_more (ordered sides given order) (declared sides given) (ordered_different order fit) (ordered_known order fit),
        no_more (declared sides given) (ordered sides given order) (all_different (all_names sides given)) (ordered_all order fit),
      )
