-- Lists that may be no order: which of their names are variables, and the first name that does not fit.
use Rattle.std.proofs.Common.{◌≡◌, ℕ, ◌+◌, ◌<◌, ◌≤◌, List, [], ◌∷◌, ◌++◌, Bool, true, false, refl, sym, ap, ◌∙◌, subst, inl, inr, length, drop, arith, append_assoc, filter}
use Rattle.std.specs.Prelude.{cond, ◌&&◌, not, bytes_eq, nat_lt, Option, Some, None, slice_get}
use Rattle.std.specs.List.{IsDistinct}
use Rattle.std.proofs.lemmas.Bool.Decides.{nat_tests}
use Rattle.std.proofs.lemmas.List.{append-nil}
use Rattle.net_bench.specs.Circuit.{is_name_in, with_name}
use Rattle.net_bench.proofs.Numbers.{name_itself, or_cases, or_left, or_right, same_name}
use Rattle.net_order.specs.declared.unfit.Misfit.TheVariants.{Foreign, Repeated, Missing}
use Rattle.net_order.specs.Order.{NamedNetlistModel, all_names, declared, bad_place, HasEachVariableOnce}
use Rattle.net_order.specs.Tables.{with_names}
use Rattle.net_order.specs.Unfit.{Unfit, first_missing, unfit_from}
use Rattle.net_order.proofs.Different.{AmongNames, no_more, all_different, all_there}
use Rattle.net_order.proofs.Members.{no_true}
use Rattle.net_order.proofs.Orders.{both_true, fitting, listed_different, some_none}
use Rattle.net_order.proofs.Steps.{names_from}

-- ---- what is known of a list

known_more : (b : Bool) (old : List (List ℕ)) (n : List ℕ) (xs : List (List ℕ)) → with_names (cond b (with_name old n) old) xs ≡ with_names old (cond b (n ∷ xs) xs)
known_more true old n xs = refl
known_more false old n xs = refl

-- one more name
pub one_known : (variables list old new : List (List ℕ)) (i : ℕ) (n : List ℕ) → slice_get list i ≡ Some n → i < length list → new ≡ cond (is_name_in variables n) (with_name old n) old →
    with_names new (filter (is_name_in variables) (drop (i + 1) list)) ≡ with_names old (filter (is_name_in variables) (drop i list))
one_known variables list old new i n named h grown =
    ap (λ t. with_names t (filter (is_name_in variables) (drop (i + 1) list))) grown ∙ known_more (is_name_in variables n) old n (filter (is_name_in variables) (drop (i + 1) list)) ∙
    ap (λ ns. with_names old (filter (is_name_in variables) ns)) (sym (names_from list i n named h))

-- ---- the first name for which a list does not fit

module _ (variables before list : List (List ℕ)) (i : ℕ) (n : List ℕ) (named : slice_get list i ≡ Some n) (h : i < length list) where
  here : unfit_from variables before (drop i list) ≡
      cond (is_name_in variables n) (cond (is_name_in before n) (Some (record { why = Repeated; name = n })) (unfit_from variables (before ++ n ∷ []) (drop (i + 1) list))) (Some (record { why = Foreign; name = n }))
  here = ap (unfit_from variables before) (names_from list i n named h)

  pub foreign_here : is_name_in variables n ≡ false → unfit_from variables before (drop i list) ≡ Some (record { why = Foreign; name = n })
  foreign_here none =
      here ∙
      ap (λ b. cond b (cond (is_name_in before n) (Some (record { why = Repeated; name = n })) (unfit_from variables (before ++ n ∷ []) (drop (i + 1) list))) (Some (record { why = Foreign; name = n }))) none

  module _ (is_known : is_name_in variables n ≡ true) where
    known_here : unfit_from variables before (drop i list) ≡ cond (is_name_in before n) (Some (record { why = Repeated; name = n })) (unfit_from variables (before ++ n ∷ []) (drop (i + 1) list))
    known_here =
        here ∙
        ap (λ b. cond b (cond (is_name_in before n) (Some (record { why = Repeated; name = n })) (unfit_from variables (before ++ n ∷ []) (drop (i + 1) list))) (Some (record { why = Foreign; name = n }))) is_known

    pub repeated_here : is_name_in before n ≡ true → unfit_from variables before (drop i list) ≡ Some (record { why = Repeated; name = n })
    repeated_here some = known_here ∙ ap (λ b. cond b (Some (record { why = Repeated; name = n })) (unfit_from variables (before ++ n ∷ []) (drop (i + 1) list))) some

    pub fits_here : (new : List (List ℕ)) → is_name_in before n ≡ false → new ≡ with_name before n → unfit_from variables new (drop (i + 1) list) ≡ unfit_from variables before (drop i list)
    fits_here new absent counted =
        let grown : new ≡ before ++ n ∷ [] = counted ∙ ap (λ b. cond b before (before ++ n ∷ [])) absent in
        ap (λ t. unfit_from variables t (drop (i + 1) list)) grown ∙
        sym (known_here ∙ ap (λ b. cond b (Some (record { why = Repeated; name = n })) (unfit_from variables (before ++ n ∷ []) (drop (i + 1) list))) absent)

-- ---- there is none if the list fits

no_unfit : (u : Unfit) → Some u ≡ None → ⊥
no_unfit u e = cc

either_missing : (b : Bool) (rest : Option Unfit) (u : Unfit) → cond b rest (Some u) ≡ None → (b ≡ true) × (rest ≡ None)
either_missing true rest u e = (refl, e)
either_missing false rest u e = absurd (no_unfit u e)

-- if none is missing, all are there
none_missing : (variables names : List (List ℕ)) → first_missing variables names ≡ None → AmongNames variables names
none_missing [] names e m k = absurd (no_true k)
none_missing (v ∷ variables) names e m k =
    let parts = either_missing (is_name_in names v) (first_missing variables names) (record { why = Missing; name = v }) e in
    elim (or_cases (bytes_eq v m) (is_name_in variables m) k) [
      | inl same ↦ ap (is_name_in names) (sym (same_name v m same)) ∙ parts.0
      | inr more ↦ none_missing variables names parts.1 m more
    ]

all_missing : (variables names : List (List ℕ)) → AmongNames variables names → first_missing variables names ≡ None
all_missing [] names h = refl
all_missing (v ∷ variables) names h =
    ap (λ b. cond b (first_missing variables names) (Some (record { why = Missing; name = v }))) (h v (or_left (bytes_eq v v) (is_name_in variables v) (name_itself v))) ∙
    all_missing variables names (λ m k. h m (or_right (bytes_eq v m) (is_name_in variables m) k))

long_enough : (m n place : ℕ) → n ≤ m → cond (nat_lt m n) (Some place) None ≡ None
long_enough m n place h = let no : nat_lt m n ≡ false = grind (arith, nat_tests) in ap (λ b. cond b (Some place) None) no

both_known : (a b : Bool) (x : Option Unfit) (u w : Unfit) → cond a (cond b (Some u) x) (Some w) ≡ None → (a ≡ true) × (b ≡ false) × (x ≡ None)
both_known true true x u w e = absurd (no_unfit u e)
both_known true false x u w e = (refl, refl, e)
both_known false b x u w e = absurd (no_unfit w e)

fits_from : (variables before names : List (List ℕ)) (place : ℕ) → IsDistinct bytes_eq variables → unfit_from variables before names ≡ None → bad_place variables before names place ≡ None
fits_from variables before [] place h e = long_enough (length before) (length variables) place (no_more variables before h (none_missing variables before e))
fits_from variables before (n ∷ names) place h e =
    let parts = both_known (is_name_in variables n) (is_name_in before n) (unfit_from variables (before ++ n ∷ []) names) (record { why = Repeated; name = n }) (record { why = Foreign; name = n }) e in
    ap (λ b. cond (b && not (is_name_in before n)) (bad_place variables (before ++ n ∷ []) names (place + 1)) (Some place)) parts.0 ∙
    ap (λ b. cond (not b) (bad_place variables (before ++ n ∷ []) names (place + 1)) (Some place)) parts.1 ∙
    fits_from variables (before ++ n ∷ []) names (place + 1) h parts.2

none_from : (variables before names : List (List ℕ)) (place : ℕ) → bad_place variables before names place ≡ None → AmongNames variables (before ++ names) → unfit_from variables before names ≡ None
none_from variables before [] place e all = all_missing variables before (subst (AmongNames variables) (append-nil before) all)
none_from variables before (n ∷ names) place e all =
    let parts = both_true (is_name_in variables n) (is_name_in before n) (bad_place variables (before ++ n ∷ []) names (place + 1)) (Some place) e (λ f. some_none place) in
    ap (λ b. cond b (cond (is_name_in before n) (Some (record { why = Repeated; name = n })) (unfit_from variables (before ++ n ∷ []) names)) (Some (record { why = Foreign; name = n }))) parts.0 ∙
    ap (λ b. cond b (Some (record { why = Repeated; name = n })) (unfit_from variables (before ++ n ∷ []) names)) parts.1 ∙
    none_from variables (before ++ n ∷ []) names (place + 1) parts.2 (subst (AmongNames variables) (sym (append_assoc before (n ∷ []) names)) all)

pub unfit_none : (sides given : List NamedNetlistModel) (names : List (List ℕ)) (u : Option Unfit) → u ≡ unfit_from (declared sides given) [] names →
    (u ≡ None → HasEachVariableOnce (declared sides given) names) × (HasEachVariableOnce (declared sides given) names → u ≡ None)
unfit_none sides given names u is = (
  λ none. fits_from (declared sides given) [] names 1 (all_different (all_names sides given)) (sym is ∙ none),
  λ fit.
      let fits = fitting (declared sides given) [] names 1 fit in
      is ∙ none_from (declared sides given) [] names 1 fit (all_there names (declared sides given) (listed_different sides given names fit) fits.known fits.many),
)
