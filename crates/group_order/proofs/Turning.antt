-- Assignments of weights below one root, which follow one another.
use Rattle.std.proofs.Common.{◌≡◌, ℕ, suc, ◌+◌, ◌-◌, ◌<◌, ◌≤◌, List, [], ◌∷◌, ◌++◌, Bool, true, false, cond, refl, sym, ap, ◌∙◌, length, arith}
use Rattle.std.specs.Prelude.{min, nat_le}
use Rattle.std.specs.List.{remove}
use Rattle.std.proofs.lemmas.Bool.Decides.{nat_tests}
use Rattle.std.proofs.lemmas.List.{length-map}
use Rattle.net_order.specs.Force.{numbers_below, u64_max}
use Rattle.group_order.proofs.Moved.{numbers_long}
use Rattle.group_order.specs.Weights.{Placing, Weighing, all_by_weight, assigned, heaviest, heaviest_of, begun, max_visits, turns, visits_after, without_heaviest}

pub assigned_live : (operands : List (List ℕ)) (w : Weighing) → (assigned operands w).live ≡ w.live
unfolding assigned
assigned_live operands w = refl

pub without_live : (w : Weighing) → (without_heaviest w).live ≡ remove w.live (heaviest w.weights w.live)
unfolding without_heaviest
without_live w = refl

pub begun_live : (gates variables : ℕ) → length (begun gates variables).live ≡ variables
unfolding begun
begun_live gates variables = length-map (numbers_below variables) (λ k. min (gates + k) u64_max) ∙ numbers_long variables

pub turns_none : (operands : List (List ℕ)) (w : Weighing) (p : Placing) → turns operands 0 w p ≡ p
unfolding turns
turns_none operands w p = refl

module _ (operands : List (List ℕ)) where
  one_turn : (k : ℕ) (w : Weighing) (p : Placing) → turns operands (suc k) w p ≡
      cond (nat_le max_visits (visits_after operands (assigned operands w) p.visits)) (record { order = p.order ++ all_by_weight (assigned operands w); visits = visits_after operands (assigned operands w) p.visits })
      (turns operands k (without_heaviest (assigned operands w)) (record { order = p.order ++ heaviest_of (assigned operands w) ∷ []; visits = visits_after operands (assigned operands w) p.visits }))
  unfolding turns
  one_turn k w p = refl

  -- before the first turn
  pub before_turns : (n visits : ℕ) (w : Weighing) (order : List ℕ) (b : Weighing) → w ≡ b → order ≡ [] →
      turns operands (n - 0) w (record { order = order; visits = visits }) ≡ turns operands n b (record { order = []; visits = visits })
  before_turns n visits w order b w_is order_is =
      let all : n - 0 ≡ n = omega arith in
      ap (λ k. turns operands k w (record { order = order; visits = visits })) all ∙ ap (λ z. turns operands n z (record { order = order; visits = visits })) w_is ∙
      ap (λ z. turns operands n b (record { order = z; visits = visits })) order_is

  -- after the last one
  pub after_turns : (n i : ℕ) → n ≤ i → (w : Weighing) (p : Placing) → p ≡ turns operands (n - i) w p
  after_turns n i high w p =
      let none : n - i ≡ 0 = omega arith in
      sym (turns_none operands w p) ∙ ap (λ k. turns operands k w p) (sym none)

  first_of : {X : Type 0} (b : Bool) (x y : X) → b ≡ true → cond b x y ≡ x
  first_of true x y e = refl
  first_of false x y e = cc

  second_of : {X : Type 0} (b : Bool) (x y : X) → b ≡ false → cond b x y ≡ y
  second_of true x y e = cc
  second_of false x y e = refl

  is_many : (m n : ℕ) → m ≤ n → nat_le m n ≡ true
  is_many m n h = grind (arith, nat_tests)

  is_few : (m n : ℕ) → n < m → nat_le m n ≡ false
  is_few m n h = grind (arith, nat_tests)

  module _ (n i : ℕ) (low : i < n) (w a : Weighing) (order : List ℕ) (visits after : ℕ) (a_is : a ≡ assigned operands w) (after_is : after ≡ visits_after operands a visits) where
    one : n - i ≡ suc (n - (i + 1))
    one = omega arith

    after_all : after ≡ visits_after operands (assigned operands w) visits
    after_all = after_is ∙ ap (λ z. visits_after operands z visits) a_is

    -- the last turn, after too many visits
    pub all_turns : (rest : List ℕ) → max_visits ≤ after → rest ≡ all_by_weight a →
        turns operands (n - i) w (record { order = order; visits = visits }) ≡ record { order = order ++ rest; visits = after }
    all_turns rest many is =
        ap (λ k. turns operands k w (record { order = order; visits = visits })) one ∙ one_turn (n - (i + 1)) w (record { order = order; visits = visits }) ∙
        ap
        (λ v. cond (nat_le max_visits v) (record { order = order ++ all_by_weight (assigned operands w); visits = v })
        (turns operands (n - (i + 1)) (without_heaviest (assigned operands w)) (record { order = order ++ heaviest_of (assigned operands w) ∷ []; visits = v }))) (sym after_all) ∙
        first_of (nat_le max_visits after) _ _ (is_many max_visits after many) ∙ ap (λ z. record { order = order ++ z; visits = after }) (sym (is ∙ ap all_by_weight a_is))

    -- one turn of several
    pub turn_more : (k : ℕ) (new : Weighing) → after < max_visits → k ≡ heaviest_of a → new ≡ without_heaviest a →
        turns operands (n - (i + 1)) new (record { order = order ++ k ∷ []; visits = after }) ≡ turns operands (n - i) w (record { order = order; visits = visits })
    turn_more k new few k_is new_is =
        ap (λ z. turns operands (n - (i + 1)) z (record { order = order ++ k ∷ []; visits = after })) (new_is ∙ ap without_heaviest a_is) ∙
        ap (λ z. turns operands (n - (i + 1)) (without_heaviest (assigned operands w)) (record { order = order ++ z ∷ []; visits = after })) (k_is ∙ ap heaviest_of a_is) ∙
        sym (
        ap (λ j. turns operands j w (record { order = order; visits = visits })) one ∙ one_turn (n - (i + 1)) w (record { order = order; visits = visits }) ∙
        ap
        (λ v. cond (nat_le max_visits v) (record { order = order ++ all_by_weight (assigned operands w); visits = v })
        (turns operands (n - (i + 1)) (without_heaviest (assigned operands w)) (record { order = order ++ heaviest_of (assigned operands w) ∷ []; visits = v }))) (sym after_all) ∙
        second_of (nat_le max_visits after) _ _ (is_few max_visits after few)
        )
