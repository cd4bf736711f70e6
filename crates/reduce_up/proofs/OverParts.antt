-- Lists by level in several parts.
use Rattle.std.proofs.Common.{◌≡◌, ℕ, zero, suc, ◌+◌, ◌<◌, ◌≤◌, max, ◌⊎◌, inl, inr, List, [], ◌∷◌, ◌++◌, length, map, set, take, get_or, slice_get, Option, Some, None, refl, sym, ◌∙◌, ap, subst, arith, append_assoc, append-nil, All}
use Rattle.std.proofs.Math.Seq.{get_or-append_seam}
use Rattle.std.proofs.lemmas.List.{length-append, take_more, take_more_set, get_or_append_left, get_or-map, length-map}
use mathlib.Core.Logic.{dite}
use native.Mathlib.Decide.{ℕ_discrete}
use Rattle.slot_table.proofs.Listing.{in_either}
use Rattle.dd_store.proofs.Places.{slice_get-append}
use Rattle.req_table.specs.Places.{row, AreNone, IsLastLevel}
use Rattle.req_table.proofs.AtPlace.{at_place_none}
use Rattle.reduce_up.specs.OverParts.{level_over, over_parts, later_of}

-- one part more
over_push : {X : Type 0} (ps : List (List (List X))) (p : List (List X)) (v : ℕ) → level_over (ps ++ p ∷ []) v ≡ level_over ps v ++ row p v
over_push [] p v = append-nil (row p v)
over_push (q ∷ ps) p v = ap (λ z. row q v ++ z) (over_push ps p v) ∙ sym (append_assoc (row q v) (level_over ps v) (row p v))

pub over_more : {X : Type 0} (ps : List (List (List X))) (i : ℕ) (p : List (List X)) (v : ℕ) → i < length ps → p ≡ get_or ps i p → level_over (take (i + 1) ps) v ≡ level_over (take i ps) v ++ row p v
over_more ps i p v lt is = ap (λ z. level_over z v) (take_more ps i p lt) ∙ over_push (take i ps) (get_or ps i p) v ∙ ap (λ z. level_over (take i ps) v ++ row z v) (sym is)

-- what is in a part is after what the parts before it have
pub slice_get-behind : {X : Type 0} (xs ys : List X) (i : ℕ) → slice_get (xs ++ ys) (length xs + i) ≡ slice_get ys i
slice_get-behind [] ys i = let e : 0 + i ≡ i = omega arith in ap (λ z. slice_get ys z) e
slice_get-behind (x ∷ xs) ys i = let e : length (x ∷ xs) + i ≡ suc (length xs + i) = omega arith in ap (λ z. slice_get (x ∷ xs ++ ys) z) e ∙ slice_get-behind xs ys i

pub stands_over : {X : Type 0} (ps : List (List (List X))) (v i : ℕ) (p : List (List X)) → i < length ps → p ≡ get_or ps i p → (q : ℕ) (x : X) → slice_get (row p v) q ≡ Some x → slice_get (level_over ps v) (length (level_over (take i ps) v) + q) ≡ Some x
stands_over [] v i p lt is q x h = absurd (omega (arith, lt))
stands_over (r ∷ ps) v zero p lt is q x h =
    let e : 0 + q ≡ q = omega arith in
    subst (λ z. slice_get (row r v ++ level_over ps v) z ≡ Some x) (sym e) (slice_get-append (row r v) (level_over ps v) q x (subst (λ z. slice_get (row z v) q ≡ Some x) is h))
stands_over (r ∷ ps) v (suc i) p lt is q x h =
    let e : length (row r v ++ level_over (take i ps) v) + q ≡ length (row r v) + (length (level_over (take i ps) v) + q) = (let l = length-append (row r v) (level_over (take i ps) v) in omega (arith, l)) in
    subst (λ z. slice_get (row r v ++ level_over ps v) z ≡ Some x) (sym e) (slice_get-behind (row r v) (level_over ps v) (length (level_over (take i ps) v) + q) ∙ stands_over ps v i p (omega (arith, lt)) is q x h)

-- ---- lists of all parts, by level
pub over-long : {X : Type 0} (n : ℕ) (ps : List (List (List X))) → length (over_parts n ps) ≡ n
over-long zero ps = refl
over-long (suc n) ps = length-append (over_parts n ps) (level_over ps n ∷ []) ∙ (let e = over-long n ps in omega (arith, e))

pub over_at : {X : Type 0} (n : ℕ) (ps : List (List (List X))) (v : ℕ) → v < n → row (over_parts n ps) v ≡ level_over ps v
over_at zero ps v l = absurd (omega (arith, l))
over_at (suc n) ps v l = dite (ℕ_discrete v n)
    (λ e. ap (λ z. get_or (over_parts n ps ++ level_over ps n ∷ []) z []) (e ∙ sym (over-long n ps)) ∙ get_or-append_seam (over_parts n ps) (level_over ps n) [] [] ∙ ap (level_over ps) (sym e))
    (λ m. get_or_append_left (over_parts n ps) (level_over ps n ∷ []) [] v (let e = over-long n ps in grind (arith, l, m, e)) ∙ over_at n ps v (grind (arith, l, m)))

-- one part by level is the part
pub over_one : {X : Type 0} (n : ℕ) (p : List (List X)) → length p ≡ n → over_parts n (p ∷ []) ≡ p
over_one n p e = same (over_parts n (p ∷ [])) p (over-long n (p ∷ []) ∙ sym e) (λ v l. over_at n (p ∷ []) v (let m = over-long n (p ∷ []) in omega (arith, l, m)) ∙ append-nil (row p v))
  where
    same : {X : Type 0} (xs ys : List (List X)) → length xs ≡ length ys → ((v : ℕ) → v < length xs → row xs v ≡ row ys v) → xs ≡ ys
    same [] [] l h = refl
    same [] (y ∷ ys) l h = absurd (omega (arith, l))
    same (x ∷ xs) [] l h = absurd (omega (arith, l))
    same (x ∷ xs) (y ∷ ys) l h = λ i. h 0 (omega arith) i ∷ same xs ys (omega (arith, l)) (λ v b. h (suc v) (omega (arith, b))) i

-- ---- the last level that is not empty
module _ {X : Type 0} (n end : ℕ) (ps : List (List (List X))) (p : List (List X)) (le : end ≤ n) where
  pushed : (w : ℕ) → w < end → row (over_parts n (ps ++ p ∷ [])) w ≡ row (over_parts n ps) w ++ row p w
  pushed w lt =
      let l : w < n = omega (arith, lt, le) in
      over_at n (ps ++ p ∷ []) w l ∙ over_push ps p w ∙ ap (λ z. z ++ row p w) (sym (over_at n ps w l))

  -- a level that is empty in these parts and in one more is empty in all
  none_more : (v : ℕ) → AreNone (over_parts n ps) v end → AreNone p v end → AreNone (over_parts n (ps ++ p ∷ [])) v end
  none_more v a b w q x ge lt h = elim (in_either (row (over_parts n ps) w) (row p w) q x (subst (λ (z : List X). slice_get z q ≡ Some x) (pushed w lt) h)) [
    | inl o ↦ a w o.0 x ge lt o.1
    | inr o ↦ b w o.0 x ge lt o.1
  ]

  none_later : (lists : List (List X)) (u v : ℕ) → u ≤ v → AreNone lists u end → AreNone lists v end
  none_later lists u v uv a w q x ge lt h = a w q x (omega (arith, uv, ge)) lt h

  some_more : (v : ℕ) → v < end → (0 < length (row (over_parts n ps) v)) ⊎ (0 < length (row p v)) → 0 < length (row (over_parts n (ps ++ p ∷ [])) v)
  some_more v lt some =
      let e : length (row (over_parts n (ps ++ p ∷ [])) v) ≡ length (row (over_parts n ps) v) + length (row p v) = ap length (pushed v lt) ∙ length-append (row (over_parts n ps) v) (row p v) in
      elim some [ inl a ↦ omega (arith, e, a) | inr b ↦ omega (arith, e, b) ]

  pub last_more : (a b : Option ℕ) → IsLastLevel (over_parts n ps) end a → IsLastLevel p end b → IsLastLevel (over_parts n (ps ++ p ∷ [])) end (later_of a b)
  last_more None None a b = none_more 0 a b
  last_more None (Some v) a b = (b.0, some_more v b.0 (inr b.1), none_more (v + 1) (none_later (over_parts n ps) 0 (v + 1) (omega arith) a) b.2)
  last_more (Some v) None a b = (a.0, some_more v a.0 (inl a.1), none_more (v + 1) a.2 (none_later p 0 (v + 1) (omega arith) b))
  last_more (Some v) (Some w) a b =
      let lt : max v w < end = (let x = a.0 in let y = b.0 in omega (arith, x, y)) in (
        lt,
        some_more (max v w) lt (dite (ℕ_discrete (max v w) v)
            (λ e. inl (subst (λ z. 0 < length (row (over_parts n ps) z)) (sym e) a.1))
            (λ m. let e : max v w ≡ w = grind (arith, m) in inr (subst (λ z. 0 < length (row p z)) (sym e) b.1))),
        none_more (max v w + 1) (none_later (over_parts n ps) (v + 1) (max v w + 1) (omega arith) a.2) (none_later p (w + 1) (max v w + 1) (omega arith) b.2),
      )

pub last_none : {X : Type 0} (n end : ℕ) → end ≤ n → IsLastLevel (over_parts {X = X} n []) end None
last_none {X} n end le w q x ge lt h = at_place_none (row (over_parts {X = X} n []) w) q x (over_at n [] w (omega (arith, lt, le))) h

-- ---- a level that is cleared in all parts
pub left_more : {X : Type 0} (ps : List (List (List X))) (i : ℕ) (new : List (List X)) (w : ℕ) → i < length ps → row new w ≡ row (get_or ps i []) w → level_over (set ps i new) w ≡ level_over ps w
left_more [] i new w lt e = absurd (omega (arith, lt))
left_more (p ∷ ps) zero new w lt e = ap (λ z. z ++ level_over ps w) e
left_more (p ∷ ps) (suc i) new w lt e = ap (λ z. row p w ++ z) (left_more ps i new w (omega (arith, lt)) e)

pub left_first : {X : Type 0} (ps : List (List (List X))) (i : ℕ) (new : List (List X)) (v : ℕ) → i < length ps → level_over (take i ps) v ≡ [] → row new v ≡ [] → level_over (take (i + 1) (set ps i new)) v ≡ []
left_first ps i new v lt before e = ap (λ z. level_over z v) (take_more_set ps i new lt) ∙ over_push (take i ps) new v ∙ ap (λ z. z ++ row new v) before ∙ e

-- what holds of the lengths of parts holds of others that are as long
pub all_long : {X : Type 0} (P : ℕ → Type 0) (ps qs : List (List (List X))) → map (λ (r : List (List X)). length r) ps ≡ map (λ (r : List (List X)). length r) qs → All (λ (r : List (List X)). P (length r)) qs → All (λ (r : List (List X)). P (length r)) ps
all_long {X} P ps qs e a k d lt =
    let f : List (List X) → ℕ = λ r. length r in
    let long : length ps ≡ length qs = sym (length-map ps f) ∙ ap length e ∙ length-map qs f in
    let within : k < length qs = omega (arith, lt, long) in
    subst P (sym (get_or-map f qs k d 0 within) ∙ ap (λ z. get_or z k 0) (sym e) ∙ get_or-map f ps k d 0 lt) (a k d within)
