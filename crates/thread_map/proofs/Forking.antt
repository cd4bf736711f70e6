-- What is done to the first part of a slice and to the rest is done to the whole.
use Rattle.std.proofs.Common.{◌≡◌, ℕ, ◌+◌, ◌<◌, List, [], ◌∷◌, ◌++◌, length, get_or, set, refl, sym, ap, ◌∙◌, subst, arith, length-append, MutBor}
use Rattle.std.proofs.lemmas.List.{get_or-append_right}
use denote.Param.Members.{Shared}
use Rattle.std.specs.Fork.{ChangesAt}
use Rattle.thread_map.proofs.Apart.{of_both}
use Rattle.thread_map.specs.Forks.{AcceptsFrom, ChangesFrom}

module _ {F T : Type 0} (g : Shared F (ℕ × (MutBor T × Unit {0})) ((Unit {0}) × (MutBor T × Unit {0}))) (f : F) where
  -- a call at another place with other elements, if these are equal
  changes_moved : {i j : ℕ} {x x' y y' : T} → i ≡ j → x ≡ x' → y ≡ y' → ChangesAt g f i x y → ChangesAt g f j x' y'
  changes_moved {i} {j} {x} {x'} {y} {y'} a b c r =
      subst (λ k. ChangesAt g f k x' y') a (subst (λ u. ChangesAt g f i u y') b (subst (ChangesAt g f i x) c r))

  -- a call at the only place
  pub changes_only : (base : ℕ) (xs : List T) (x y : T) → length xs < 2 → 0 < length xs → get_or xs 0 x ≡ x → ChangesAt g f base x y
      → ChangesFrom g f base xs (set xs 0 y)
  changes_only base [] x y short some is r = absurd (omega (arith, some))
  changes_only base (z ∷ xs) x y short some is r =
      record {
        len = refl;
        each = λ k d lt. let none : 0 ≡ k = omega (arith, short, lt) in
            subst (λ j. ChangesAt g f (base + j) (get_or (z ∷ xs) j d) (get_or (y ∷ xs) j d)) none
            (changes_moved (omega arith) (sym is) refl r);
      }

  -- what is accepted of a slice is accepted of its rest
  pub accepts_rest : (base n : ℕ) (all xs ys : List T) → all ≡ xs ++ ys → length xs ≡ n → AcceptsFrom g f base all
      → AcceptsFrom g f (base + n) ys
  accepts_rest base n all xs ys e l a =
      let sum : length all ≡ n + length ys = ap length e ∙ (length-append xs ys ∙ ap (λ m. m + length ys) l) in
      record {
        room = omega (arith, sum, a.room);
        each = λ k d lt p is. let at : get_or all (n + k) d ≡ get_or ys k d = ap (λ l. get_or l (n + k) d) e
            ∙ (get_or-append_right xs ys n (n + k) d l (omega arith) ∙ ap (λ j. get_or ys j d) (omega arith)) in
            subst (λ i. g.pre f (i, (p, tt))) {x = base + (n + k)} (omega arith)
            (a.each (n + k) d (omega (arith, sum, lt)) p (is ∙ sym at));
      }

  -- the calls at the first part and those at the rest are those at the slice
  pub changes_both : (base n : ℕ) (all xs ys xs' ys' : List T) → all ≡ xs ++ ys → length xs ≡ n → ChangesFrom g f base xs xs'
      → ChangesFrom g f (base + n) ys ys' → ChangesFrom g f base all (xs' ++ ys')
  changes_both base n all xs ys xs' ys' e l a b =
      let sum : length all ≡ n + length ys = ap length e ∙ (length-append xs ys ∙ ap (λ m. m + length ys) l) in
      record {
        len = omega (arith, sum, length-append xs' ys', a.len, b.len, l);
        each = of_both (ChangesAt g f) base n all xs ys xs' ys' e l a.len a.each b.each;
      }
