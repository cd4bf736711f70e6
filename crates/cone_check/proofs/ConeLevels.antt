-- The flags of levels, and the places of the flags that are set.
use Rattle.std.proofs.Common.{◌≡◌, ◌∙◌, ◌||◌, add-one, ap, refl, subst, sym, arith, inl, inr, ℕ, zero, suc, ◌+◌, ◌<◌, Bool, true, false, List, [], ◌∷◌, ◌++◌, cond, length, map, take, get_or, set}
use Rattle.std.specs.Prelude.{nat_eq}
use Rattle.std.specs.List.{filter}
use Rattle.std.proofs.lemmas.Bool.{cases_eq, eq-eqb}
use Rattle.std.proofs.lemmas.Bool.Decides.{eqb_tells}
use Rattle.std.proofs.lemmas.List.{get_or-set_other, get_or-set_same, length-set, map_more}
use Rattle.std.proofs.lemmas.List.Elements.{All-nil, filter-append, filter_more}
use Rattle.std.proofs.lemmas.List.Folds.{list_any-append}
use Rattle.net_order.specs.Force.{numbers_below}
use Rattle.compare_built.specs.Scatter.{ArePlaces}
use Rattle.cone_check.specs.ConeLevels.{AreSetAt, among_below, is_among}

-- ---- numbers

same_number : (n : ℕ) → nat_eq n n ≡ true
same_number n = eq-eqb n n refl

other_number : (m n : ℕ) → (m ≡ n → ⊥) → nat_eq m n ≡ false
other_number m n differ = elim (eqb_tells m n) [ inl same ↦ absurd (differ same.1) | inr other ↦ other.0 ]

-- a filter over one number
one_filtered : (p : ℕ → Bool) (n : ℕ) → filter p (n ∷ []) ≡ cond (p n) (n ∷ []) []
one_filtered p n = filter_more p (n ∷ []) 0 n (omega arith)

-- filters that agree below n
pub filter_alike : (p q : ℕ → Bool) (n : ℕ) → ((l : ℕ) → l < n → p l ≡ q l) → filter p (numbers_below n) ≡ filter q (numbers_below n)
unfolding numbers_below
filter_alike p q zero same = refl
filter_alike p q (suc n) same =
    let before = filter_alike p q n (λ l lt. same l (omega (arith, lt))) in
    let last : filter p (n ∷ []) ≡ filter q (n ∷ []) = one_filtered p n ∙ ap (λ b. cond b (n ∷ []) []) (same n (omega arith)) ∙ sym (one_filtered q n) in
    filter-append p (numbers_below n) (n ∷ []) ∙ ap (λ xs. xs ++ filter p (n ∷ [])) before ∙ ap (λ ys. filter q (numbers_below n) ++ ys) last ∙ sym (filter-append q (numbers_below n) (n ∷ []))

-- a filter over the numbers below one more
pub filter_none : (p : ℕ → Bool) → filter p (numbers_below 0) ≡ []
unfolding numbers_below
filter_none p = refl

nothing_after : (xs : List ℕ) → xs ++ [] ≡ xs
nothing_after [] = refl
nothing_after (x ∷ xs) = ap (λ ys. x ∷ ys) (nothing_after xs)

filter_next : (p : ℕ → Bool) (n : ℕ) → filter p (numbers_below (n + 1)) ≡ filter p (numbers_below n) ++ filter p (n ∷ [])
unfolding numbers_below
filter_next p n = rw add-one (filter-append p (numbers_below n) (n ∷ []))

pub filter_with : (p : ℕ → Bool) (n : ℕ) → p n ≡ true → filter p (numbers_below (n + 1)) ≡ filter p (numbers_below n) ++ n ∷ []
filter_with p n is =
    let last : filter p (n ∷ []) ≡ n ∷ [] = one_filtered p n ∙ ap (λ b. cond b (n ∷ []) []) is in
    filter_next p n ∙ ap (λ ys. filter p (numbers_below n) ++ ys) last

pub filter_without : (p : ℕ → Bool) (n : ℕ) → p n ≡ false → filter p (numbers_below (n + 1)) ≡ filter p (numbers_below n)
filter_without p n is =
    let last : filter p (n ∷ []) ≡ [] = one_filtered p n ∙ ap (λ b. cond b (n ∷ []) []) is in
    filter_next p n ∙ ap (λ ys. filter p (numbers_below n) ++ ys) last ∙ nothing_after (filter p (numbers_below n))

-- ---- places

pub none_placed : ArePlaces 0 []
none_placed = record { below = All-nil (λ l. l < 0); rising = λ i j lt low. absurd (omega (arith, low)) }

-- ---- flags

at_end : (a b : Bool) → (a || b) ≡ (a || (b || false))
at_end true b = refl
at_end false true = refl
at_end false false = refl

set_true : (a b : Bool) → true ≡ (a || (b || (true || false)))
set_true true b = refl
set_true false true = refl
set_true false false = refl

nothing_more : (a : Bool) → a ≡ (a || false)
nothing_more true = refl
nothing_more false = refl

and_more : (a b c : Bool) → ((a || b) || c) ≡ (a || (b || c))
and_more true b c = refl
and_more false b c = refl

pub none_set : (flags : List Bool) → AreSetAt [] flags flags
none_set flags = record { each = refl; flags = λ l lt. nothing_more (get_or flags l false) }

one_more : (levels : List ℕ) (level l : ℕ) → is_among (levels ++ level ∷ []) l ≡ (is_among levels l || (nat_eq l level || false))
one_more levels level l = list_any-append (nat_eq l) levels (level ∷ [])

pub set_one : (levels : List ℕ) (level : ℕ) (old flags : List Bool) → AreSetAt levels old flags → AreSetAt (levels ++ level ∷ []) old (set flags level true)
set_one levels level old flags before = record {
  each = length-set flags level true ∙ before.each;
  flags = λ l lt. elim (cases_eq l level) [
    | inl same ↦
        let low : level < length flags = omega (arith, lt, same, before.each) in
        ap (λ j. get_or (set flags level true) j false) same ∙ get_or-set_same flags level true false low ∙ set_true (get_or old l false) (is_among levels l) ∙
        ap (λ b. get_or old l false || (is_among levels l || (b || false))) (sym (same_number level) ∙ ap (λ j. nat_eq j level) (sym same)) ∙
        ap (λ b. get_or old l false || b) (sym (one_more levels level l))
    | inr other ↦
        get_or-set_other flags level l true false other ∙ before.flags l lt ∙ at_end (get_or old l false) (is_among levels l) ∙
        ap (λ b. get_or old l false || (is_among levels l || b)) (sym (ap (λ b. b || false) (other_number l level other))) ∙
        ap (λ b. get_or old l false || b) (sym (one_more levels level l))
  ];
}

pub set_more : (f : ℕ → ℕ) (xs : List ℕ) (i d level : ℕ) (old flags new : List Bool) → i < length xs → level ≡ f (get_or xs i d) → new ≡ set flags level true →
    AreSetAt (map f (take i xs)) old flags → AreSetAt (map f (take (i + 1) xs)) old new
set_more f xs i d level old flags new lt is set_to before =
    subst (λ ls. AreSetAt ls old new) (sym (map_more f xs i d lt))
    (subst (λ n. AreSetAt (map f (take i xs) ++ n ∷ []) old new) is
    (subst (AreSetAt (map f (take i xs) ++ level ∷ []) old) (sym set_to) (set_one (map f (take i xs)) level old flags before)))

pub set_both : (one other : List ℕ) (old flags new : List Bool) → AreSetAt one old flags → AreSetAt other flags new → AreSetAt (one ++ other) old new
set_both one other old flags new before after = record {
  each = after.each ∙ before.each;
  flags = λ l lt.
      after.flags l (let same = before.each in omega (arith, lt, same)) ∙ ap (λ b. b || is_among other l) (before.flags l lt) ∙
      and_more (get_or old l false) (is_among one l) (is_among other l) ∙ ap (λ b. get_or old l false || b) (sym (list_any-append (nat_eq l) one other));
}

-- the places of the flags that were set, if none was set before
pub set_places : (levels : List ℕ) (n : ℕ) (old new : List Bool) → length old ≡ n → ((l : ℕ) → l < n → get_or old l false ≡ false) → AreSetAt levels old new →
    filter (λ l. get_or new l false) (numbers_below (length new)) ≡ among_below n levels
set_places levels n old new long none are =
    ap (λ k. filter (λ l. get_or new l false) (numbers_below k)) (are.each ∙ long) ∙
    filter_alike (λ l. get_or new l false) (is_among levels) n
    (λ l lt. are.flags l (omega (arith, lt, long)) ∙ ap (λ b. b || is_among levels l) (none l lt))
