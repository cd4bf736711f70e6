-- Loops over all lanes.
use Rattle.std.proofs.Common.{◌≡◌, ℕ, zero, suc, ◌+◌, ◌<◌, ◌≤◌, List, [], ◌∷◌, ◌++◌, length, get_or, set, sym, ap, ◌∙◌, subst, arith}
use Rattle.std.proofs.lemmas.List.{get_or-set_same, get_or-set_other, get_or_append_left, get_or_default, length-set, length-append}
use Rattle.std.proofs.Math.Seq.{get_or-append_seam}
use mathlib.Core.Logic.{dite}
use native.Mathlib.Decide.{ℕ_discrete}
use Rattle.crossbeam_queue.specs.SegTies.{IsSegPassOf}
use Rattle.lane_queue.specs.declared.rule.Lane.{Lane}
use Rattle.lane_queue.specs.declared.make.RootPass.{RootPass}
use Rattle.lane_queue.specs.declared.endpoint.Endpoint.{Endpoint}
use Rattle.lane_queue.specs.Endpoint.{endpoint_view, IsLiveOn}
use Rattle.lane_queue.specs.Joining.{root_pass_view, Retired, JoinedTo, HaveJoined, HaveBegun, AllLive}

pub element : {X : Type 0} (xs : List X) (i : ℕ) → i < length xs → X
element [] i lt = absurd (omega arith)
element (x ∷ xs) zero lt = x
element (x ∷ xs) (suc i) lt = element xs i (omega arith)

-- in the list only the places below k have changed
pub record Turned {X : Type 0} (k : ℕ) (xs ys : List X) : Type 0 where
  pub lengths : length ys ≡ length xs
  pub rest : (i : ℕ) (d : X) → k ≤ i → get_or ys i d ≡ get_or xs i d

pub turned-more : {X : Type 0} (k : ℕ) (xs ys : List X) (y : X) → Turned k xs ys → Turned (k + 1) xs (set ys k y)
turned-more k xs ys y h = record {
  lengths = length-set ys k y ∙ h.lengths;
  rest = λ i d le. get_or-set_other ys k i y d (λ q. omega arith) ∙ h.rest i d (omega arith);
}

-- what holds below k, and of the new elements at k, holds below k + 1
pub below-set : {X : Type 0} (P : ℕ → X → X → Type 0) (k : ℕ) (xs ys : List X) (old new : X) → Turned k xs ys → k < length xs → old ≡ get_or ys k old
    → ((i : ℕ) (d : X) → i < k → P i (get_or xs i d) (get_or ys i d)) → P k old new
    → (i : ℕ) (d : X) → i < k + 1 → P i (get_or xs i d) (get_or (set ys k new) i d)
below-set {X = X} P k xs ys old new t lt was h p i d less = let z = t.lengths in dite (ℕ_discrete i k)
    (λ q. let a : old ≡ get_or xs i d = was ∙ t.rest k old (omega arith) ∙ get_or_default xs k old d lt ∙ ap (λ m. get_or xs m d) (sym q) in
    let b : new ≡ get_or (set ys k new) i d = sym (get_or-set_same ys k new d (omega arith)) ∙ ap (λ m. get_or (set ys k new) m d) (sym q) in
    subst (λ (y : ℕ × X × X). P y.0 y.1 y.2) (λ j. (sym q j, a j, b j)) p)
    (λ q. subst (λ y. P i (get_or xs i d) y) (sym (get_or-set_other ys k i new d q)) (h i d (omega arith)))

pub below-push : {X : Type 0} (P : ℕ → X → Type 0) (k : ℕ) (xs : List X) (x : X) → length xs ≡ k → ((i : ℕ) (d : X) → i < k → P i (get_or xs i d)) → P k x → (i : ℕ) (d : X) → i < k + 1 → P i (get_or (xs ++ x ∷ []) i d)
below-push {X = X} P k xs x lengths h p i d less = dite (ℕ_discrete i k)
    (λ q. let b : x ≡ get_or (xs ++ x ∷ []) i d = sym (get_or-append_seam xs x [] d) ∙ ap (λ m. get_or (xs ++ x ∷ []) m d) (lengths ∙ sym q) in
    subst (λ (y : ℕ × X). P y.0 y.1) (λ j. (sym q j, b j)) p)
    (λ q. subst (λ y. P i y) (sym (get_or_append_left xs (x ∷ []) d i (omega arith))) (h i d (omega arith)))

-- the element at k is still the old one
pub still : {X : Type 0} (k : ℕ) (xs ys : List X) (x d : X) → Turned k xs ys → k < length xs → x ≡ get_or ys k x → get_or xs k d ≡ x
still k xs ys x d t lt is = get_or_default xs k d x lt ∙ sym (t.rest k x (omega arith)) ∙ sym is

-- ---- the first port
pub record Beginning (k : ℕ) (lanes : List Lane) (roots : List RootPass) (endpoints endpoints' : List Endpoint) : Type 0 where
  pub roots_long : length roots ≡ k
  pub turned : Turned k endpoints endpoints'
  pub passes : (i : ℕ) (e : RootPass) → i < k → (d : Lane) (f : Endpoint) → IsSegPassOf (get_or lanes i d).queue (get_or roots i e).pass × (root_pass_view (get_or roots i e) ≡ endpoint_view (get_or endpoints i f))
  pub retired : (i : ℕ) (f : Endpoint) → i < k → Retired (get_or endpoints i f) (get_or endpoints' i f)

pub beginning-more : (k : ℕ) (lanes : List Lane) (roots roots' : List RootPass) (endpoints endpoints' : List Endpoint) (lane : Lane) (root : RootPass) (old new : Endpoint) → Beginning k lanes roots endpoints endpoints'
    → k < length lanes → k < length endpoints → lane ≡ get_or lanes k lane → old ≡ get_or endpoints' k old → IsSegPassOf lane.queue root.pass × (root_pass_view root ≡ endpoint_view old) → Retired old new → roots' ≡ roots ++ root ∷ []
    → Beginning (k + 1) lanes roots' endpoints (set endpoints' k new)
beginning-more k lanes roots roots' endpoints endpoints' lane root old new h lt lt' at was p r is = subst (λ l. Beginning (k + 1) lanes l endpoints (set endpoints' k new)) (sym is) (record {
  roots_long = length-append roots (root ∷ []) ∙ ap (λ m. m + 1) h.roots_long;
  turned = turned-more k endpoints endpoints' new h.turned;
  passes = below-push (λ i x. (d : Lane) (f : Endpoint) → IsSegPassOf (get_or lanes i d).queue x.pass × (root_pass_view x ≡ endpoint_view (get_or endpoints i f))) k roots root h.roots_long h.passes
      (λ d f. (subst (λ (y : Lane). IsSegPassOf y.queue root.pass) (at ∙ get_or_default lanes k lane d lt) p.0, p.1 ∙ ap endpoint_view (sym (still k endpoints endpoints' old f h.turned lt' was))));
  retired = below-set (λ i x y. Retired x y) k endpoints endpoints' old new h.turned lt' was h.retired r;
})

pub live-now : (k n : ℕ) (lanes : List Lane) (endpoints endpoints' : List Endpoint) (lane : Lane) (endpoint : Endpoint) → AllLive n lanes endpoints → Turned k endpoints endpoints' → k < n → k < length lanes → k < length endpoints → lane ≡ get_or lanes k lane → endpoint ≡ get_or endpoints' k endpoint → IsLiveOn lane.queue endpoint.pass_state
live-now k n lanes endpoints endpoints' lane endpoint h t lt ll lt' at was =
    subst (λ (y : Lane × Endpoint). IsLiveOn y.0.queue y.1.pass_state) (λ j. (sym at j, still k endpoints endpoints' endpoint endpoint t lt' was j)) (h k lane endpoint lt)

pub begun-all : (k n : ℕ) (lanes : List Lane) (roots : List RootPass) (endpoints endpoints' : List Endpoint) → Beginning k lanes roots endpoints endpoints' → n ≤ k → HaveBegun n lanes roots endpoints endpoints'
begun-all k n lanes roots endpoints endpoints' h le i d e f lt = let a = h.passes i e (omega arith) d f in (a.0, a.1, h.retired i f (omega arith))

-- ---- each further port
pub record Joining (k : ℕ) (lanes : List Lane) (roots roots' : List RootPass) (endpoints endpoints' : List Endpoint) : Type 0 where
  pub roots_turned : Turned k roots roots'
  pub lines_turned : Turned k endpoints endpoints'
  pub passes : (i : ℕ) (e : RootPass) → i < k → (d : Lane) (f : Endpoint) → IsSegPassOf (get_or lanes i d).queue (get_or roots' i e).pass × (root_pass_view (get_or roots' i e) ≡ JoinedTo (root_pass_view (get_or roots i e)) (endpoint_view (get_or endpoints i f)))
  pub retired : (i : ℕ) (f : Endpoint) → i < k → Retired (get_or endpoints i f) (get_or endpoints' i f)

pub joining-more : (k : ℕ) (lanes : List Lane) (roots roots' : List RootPass) (endpoints endpoints' : List Endpoint) (lane : Lane) (root root' : RootPass) (old new : Endpoint) → Joining k lanes roots roots' endpoints endpoints'
    → k < length lanes → k < length roots → k < length endpoints → lane ≡ get_or lanes k lane → root ≡ get_or roots' k root → old ≡ get_or endpoints' k old
    → IsSegPassOf lane.queue root'.pass → root_pass_view root' ≡ JoinedTo (root_pass_view root) (endpoint_view old) → Retired old new
    → Joining (k + 1) lanes roots (set roots' k root') endpoints (set endpoints' k new)
joining-more k lanes roots roots' endpoints endpoints' lane root root' old new h lt lr ll at is was q v r = record {
  roots_turned = turned-more k roots roots' root' h.roots_turned;
  lines_turned = turned-more k endpoints endpoints' new h.lines_turned;
  passes = below-set (λ i x y. (d : Lane) (f : Endpoint) → IsSegPassOf (get_or lanes i d).queue y.pass × (root_pass_view y ≡ JoinedTo (root_pass_view x) (endpoint_view (get_or endpoints i f)))) k roots roots' root root' h.roots_turned lr is h.passes
      (λ d f. (subst (λ (y : Lane). IsSegPassOf y.queue root'.pass) (at ∙ get_or_default lanes k lane d lt) q, v ∙ ap (λ (y : Endpoint). JoinedTo (root_pass_view root) (endpoint_view y)) (sym (still k endpoints endpoints' old f h.lines_turned ll was))));
  retired = below-set (λ i x y. Retired x y) k endpoints endpoints' old new h.lines_turned ll was h.retired r;
}

pub joined-all : (k n : ℕ) (lanes : List Lane) (roots roots' : List RootPass) (endpoints endpoints' : List Endpoint) → Joining k lanes roots roots' endpoints endpoints' → n ≤ k → HaveJoined n lanes roots roots' endpoints endpoints'
joined-all k n lanes roots roots' endpoints endpoints' h le i d e f lt = let a = h.passes i e (omega arith) d f in (a.0, a.1, h.retired i f (omega arith))
