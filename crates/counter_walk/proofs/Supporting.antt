-- Which levels a walk below references visits, and on which bits their functions depend.
use Rattle.std.proofs.Common.{◌≡◌, ℕ, zero, suc, ◌<◌, ◌≤◌, ◌⊎◌, inl, inr, Bool, true, false, List, ◌∷◌, ◌++◌, length, drop, refl, sym, ◌∙◌, ap, subst, arith, get_or, replicate, cond, eq-eqb}
use Rattle.std.proofs.Math.ListN.{set}
use Rattle.std.proofs.lemmas.Bool.{cases_eq}
use Rattle.std.proofs.lemmas.List.{length-set, get_or-set_same, get_or-set_other}
use Rattle.std.specs.HashSet.{contains, Updates}
use Rattle.std.proofs.Math.Seq.{drop-append_seam}
use Rattle.dd_store.specs.declared.reference.Ref.{Ref}
use Rattle.dd_store.specs.Equal.{ref_same}
use Rattle.dd_store.specs.Functions.{DependsOn, IsFixedSomehow}
use Rattle.dd_store.specs.Nodes.{Nodes, IsSound, den, cofactor_of}
use Rattle.dd_store.specs.Parts.{Part, IsReachable, top_of, step_of}
use Rattle.dd_store.specs.Parts.Part.{leaf, node}
use Rattle.dd_store.specs.Parts.IsReachable.{here, at_low, at_high}
use Rattle.dd_store.specs.View.{Has, part, top}
use Rattle.dd_store.proofs.References.{node_below, node_for}
use Rattle.dd_store.proofs.View.{parts, denotes, same_ref, top-part, cofactor-step}
use Rattle.dd_store.specs.contracts.reference.ReferencePartialEq.TheImpl.{eq-value as ref_eq}
use Rattle.counter_walk.specs.declared.support.SupportWalk.{SupportWalk}
use Rattle.counter_walk.specs.Support.{AreMarkedBelow, IsMarked, IsSoundWalk, HasNodeBelow}

-- ---- the bits of levels

pub marked_more : (xs : List Bool) (i v : ℕ) → i < length xs → get_or xs v false ≡ true → get_or (set xs i true) v false ≡ true
marked_more xs i v lt is =
    elim (cases_eq v i) [
      | inl same ↦ ap (λ k. get_or (set xs i true) k false) same ∙ get_or-set_same xs i true false lt
      | inr other ↦ get_or-set_other xs i v true false other ∙ is
    ]

pub marked_before : (xs : List Bool) (i v : ℕ) → get_or (set xs i true) v false ≡ true → (get_or xs v false ≡ true) ⊎ (i ≡ v)
marked_before xs i v is =
    elim (cases_eq v i) [
      | inl same ↦ inr (sym same)
      | inr other ↦ inl (sym (get_or-set_other xs i v true false other) ∙ is)
    ]

no_mark : (n v : ℕ) → get_or (replicate n false) v false ≡ false
no_mark zero zero = refl
no_mark zero (suc v) = refl
no_mark (suc n) zero = refl
no_mark (suc n) (suc v) = no_mark n v

pub unmarked : (xs : List Bool) (n v : ℕ) → xs ≡ replicate n false → get_or xs v false ≡ true → ⊥
unmarked xs n v e is = let none : get_or xs v false ≡ false = ap (λ ys. get_or ys v false) e ∙ no_mark n v in cc

-- ---- what is reached

-- if a node of a level is below r, the function of r depends on the level's bit
module _ (S : Nodes) (w : IsSound S) where
  of_fixed : (v : ℕ) (f g : List Bool → Bool) → IsFixedSomehow S.levels v f g → DependsOn S.levels v g → DependsOn S.levels v f
  of_fixed v f g (p, hp, i) (q, r, hq, hr, ne) = (
    p,
    r,
    hp,
    hr,
    λ e. ne (i q (false ∷ r) hq hr ∙ e ∙ sym (i q (true ∷ r) hq hr)),
  )

  pub depends : (r : Ref) (v : ℕ) → Has S r → HasNodeBelow S r v → DependsOn S.levels v (den S r)
  depends r v h (m, lo, hi, met, e) =
      let k = node_below Ref same_ref S.levels (part S) (Has S) (den S) (parts S w) (denotes S w) r m v lo hi h met e in
      of_fixed v (den S r) (den S m) k.0 k.1

  -- if the function of r depends on a level's bit, a node of this level is below r
  pub stands : (r : Ref) (v : ℕ) → Has S r → DependsOn S.levels v (den S r) → HasNodeBelow S r v
  stands r v h (q, x, hq, hx, ne) =
      let g : List Bool → Bool = λ (y : List Bool). den S r (q ++ drop v y) in
      let fixed : IsFixedSomehow S.levels v (den S r) g = (q, hq, λ p y hp hy. ap (λ z. den S r (q ++ z)) (behind p y v hp)) in
      let reads : DependsOn S.levels v g = (
        q,
        x,
        hq,
        hx,
        λ e. ne (sym (ap (λ z. den S r (q ++ z)) (behind q (false ∷ x) v hq)) ∙ e ∙ ap (λ z. den S r (q ++ z)) (behind q (true ∷ x) v hq)),
      ) in
      let at = node_for Ref same_ref S.levels (part S) (Has S) (den S) (parts S w) (denotes S w) r v g h fixed reads in
      let is = at.1.is_node in
      (at.0, is.0, is.1, at.1.reached, is.2)
    where
      behind : (p y : List Bool) (v : ℕ) → length p ≡ v → drop v (p ++ y) ≡ y
      behind p y v e = subst (λ k. drop k (p ++ y) ≡ y) e (drop-append_seam p y)

  -- ---- below a node and below its children

  pub at_once : (r lo hi : Ref) (v : ℕ) → part S r ≡ node v lo hi → HasNodeBelow S r v
  at_once r lo hi v e = (r, lo, hi, here, e)

  through : (r s m : Ref) → IsReachable (part S) r s → IsReachable (part S) s m → IsReachable (part S) r m
  through r s m i here = i
  through r s lo i (at_low {m = m} j e) = at_low (through r s m i j) e
  through r s hi i (at_high {m = m} j e) = at_high (through r s m i j) e

  pub by_low : (r lo hi : Ref) (u v : ℕ) → part S r ≡ node u lo hi → HasNodeBelow S lo v → HasNodeBelow S r v
  by_low r lo hi u v e (m, a, b, met, f) = (m, a, b, through r lo m (at_low here e) met, f)

  pub by_high : (r lo hi : Ref) (u v : ℕ) → part S r ≡ node u lo hi → HasNodeBelow S hi v → HasNodeBelow S r v
  by_high r lo hi u v e (m, a, b, met, f) = (m, a, b, through r hi m (at_high here e) met, f)

  -- what is reached from a node is the node, or is reached from one of its children
  Under : (lo hi r m : Ref) → Type 0
  Under lo hi r m = (m ≡ r) ⊎ (IsReachable (part S) lo m ⊎ IsReachable (part S) hi m)

  on_low : (r lo hi m a b : Ref) (u v : ℕ) → part S r ≡ node u lo hi → part S m ≡ node v a b → Under lo hi r m → Under lo hi r a
  unfolding Under
  on_low r lo hi m a b u v e f (inl same) =
      let is : ◌≡◌ {A = Part Ref} (node u lo hi) (node v a b) = sym e ∙ ap (part S) (sym same) ∙ f in
      let child : lo ≡ a = cc in
      inr (inl (subst (λ z. IsReachable (part S) lo z) child here))
  on_low r lo hi m a b u v e f (inr (inl met)) = inr (inl (at_low met f))
  on_low r lo hi m a b u v e f (inr (inr met)) = inr (inr (at_low met f))

  on_high : (r lo hi m a b : Ref) (u v : ℕ) → part S r ≡ node u lo hi → part S m ≡ node v a b → Under lo hi r m → Under lo hi r b
  unfolding Under
  on_high r lo hi m a b u v e f (inl same) =
      let is : ◌≡◌ {A = Part Ref} (node u lo hi) (node v a b) = sym e ∙ ap (part S) (sym same) ∙ f in
      let child : hi ≡ b = cc in
      inr (inr (subst (λ z. IsReachable (part S) hi z) child here))
  on_high r lo hi m a b u v e f (inr (inl met)) = inr (inl (at_high met f))
  on_high r lo hi m a b u v e f (inr (inr met)) = inr (inr (at_high met f))

  under : (r lo hi m : Ref) (u : ℕ) → part S r ≡ node u lo hi → IsReachable (part S) r m → Under lo hi r m
  unfolding Under
  under r lo hi _ u e here = inl refl
  under r lo hi a u e (at_low {m = m} {hi = b} {v = v} met f) = on_low r lo hi m a b u v e f (under r lo hi m u e met)
  under r lo hi b u e (at_high {m = m} {lo = a} {v = v} met f) = on_high r lo hi m a b u v e f (under r lo hi m u e met)

  pub splits : (r lo hi : Ref) (u v : ℕ) → part S r ≡ node u lo hi → HasNodeBelow S r v → (u ≡ v) ⊎ (HasNodeBelow S lo v ⊎ HasNodeBelow S hi v)
  unfolding Under
  splits r lo hi u v e (m, a, b, met, f) = by (under r lo hi m u e met)
    where
      by : Under lo hi r m → (u ≡ v) ⊎ (HasNodeBelow S lo v ⊎ HasNodeBelow S hi v)
      by (inl same) =
          let is : ◌≡◌ {A = Part Ref} (node u lo hi) (node v a b) = sym e ∙ ap (part S) (sym same) ∙ f in
          let level : u ≡ v = cc in
          inl level
      by (inr (inl i)) = inr (inl (m, a, b, i, f))
      by (inr (inr i)) = inr (inr (m, a, b, i, f))

  -- from a terminal nothing else is reached
  only_itself : (r m : Ref) (c : Bool) → part S r ≡ leaf c → IsReachable (part S) r m → m ≡ r
  only_itself r _ c e here = refl
  only_itself r a c e (at_low {m = m} {hi = b} {v = v} met f) =
      let is : ◌≡◌ {A = Part Ref} (leaf c) (node v a b) = sym e ∙ ap (part S) (sym (only_itself r m c e met)) ∙ f in
      cc
  only_itself r b c e (at_high {m = m} {lo = a} {v = v} met f) =
      let is : ◌≡◌ {A = Part Ref} (leaf c) (node v a b) = sym e ∙ ap (part S) (sym (only_itself r m c e met)) ∙ f in
      cc

  -- a reference is a terminal, or a node with its cofactors
  pub data Kind (r : Ref) : Type 0 where
    terminal : S.levels ≤ top S r → ((v : ℕ) → HasNodeBelow S r v → ⊥) → Kind r
    branch : (lo hi : Ref) → top S r < S.levels → part S r ≡ node (top S r) lo hi → Kind r

  pub kind : (r : Ref) → Has S r → Kind r
  kind r h = by (part S r) refl
    where
      by : (p : Part Ref) → part S r ≡ p → Kind r
      by (leaf c) e =
          let t : top S r ≡ S.levels = top-part S S.levels r h ∙ ap (top_of S.levels) e in
          terminal (omega arith) (λ v (m, a, b, met, f).
          let is : ◌≡◌ {A = Part Ref} (leaf c) (node v a b) = sym e ∙ ap (part S) (sym (only_itself r m c e met)) ∙ f in
          cc)
      by (node u lo hi) e =
          let t : top S r ≡ u = top-part S S.levels r h ∙ ap (top_of S.levels) e in
          let lt : u < S.levels = (parts S w).level r u lo hi h e in
          branch lo hi (omega arith) (e ∙ ap (λ k. node k lo hi) (sym t))

  -- a reference above the last level is the node of its cofactors
  pub node_of : (r lo hi : Ref) (v : ℕ) → Has S r → v ≡ top S r → v < S.levels → lo ≡ cofactor_of S r v false → hi ≡ cofactor_of S r v true → part S r ≡ node v lo hi
  node_of r lo hi v h at lt low high = by (kind r h)
    where
      chosen : (a b : Ref) (bit : Bool) → part S r ≡ node v a b → cofactor_of S r v bit ≡ cond bit b a
      chosen a b bit e = cofactor-step S r v bit h ∙ ap (step_of v r bit) e ∙ ap (λ t. cond t (cond bit b a) r) (eq-eqb v v refl)

      by : Kind r → part S r ≡ node v lo hi
      by (terminal le none) = absurd (omega arith)
      by (branch a b above e) =
          let is : part S r ≡ node v a b = e ∙ ap (λ k. node k a b) (sym at) in
          let first : a ≡ lo = sym (low ∙ chosen a b false is) in
          let second : b ≡ hi = sym (high ∙ chosen a b true is) in
          is ∙ ap (λ z. node v z b) first ∙ ap (λ z. node v lo z) second

  -- below a reference at the last level or deeper there is no node
  pub nothing_below : (r : Ref) (v : ℕ) → Has S r → S.levels ≤ top S r → HasNodeBelow S r v → ⊥
  nothing_below r v h le s = by (kind r h)
    where
      by : Kind r → ⊥
      by (terminal past none) = none v s
      by (branch a b above e) = omega arith

  -- ---- a node and its children, one after the other

  -- the bits of all levels below are set: that of the node, those below the low child, and then those below the high
  -- child
  pub all_below : (r lo hi : Ref) (v : ℕ) (a b c : SupportWalk) → part S r ≡ node v lo hi → IsMarked a v → ((u : ℕ) → IsMarked a u → IsMarked b u) → AreMarkedBelow S b lo
      → ((u : ℕ) → IsMarked b u → IsMarked c u) → AreMarkedBelow S c hi → AreMarkedBelow S c r
  all_below r lo hi v a b c is own first low second high u s = elim (splits r lo hi v u is s) [
    | inl same ↦ subst (λ k. IsMarked c k) same (second v (first v own))
    | inr (inl below) ↦ second u (low u below)
    | inr (inr below) ↦ high u below
  ]

  -- no other bits than those of levels below the reference are set in addition
  pub only_below : (r lo hi : Ref) (v : ℕ) (old a b c : SupportWalk) → part S r ≡ node v lo hi → ((u : ℕ) → IsMarked a u → IsMarked old u ⊎ (v ≡ u))
      → ((u : ℕ) → IsMarked b u → IsMarked a u ⊎ HasNodeBelow S lo u) → ((u : ℕ) → IsMarked c u → IsMarked b u ⊎ HasNodeBelow S hi u)
      → (u : ℕ) → IsMarked c u → IsMarked old u ⊎ HasNodeBelow S r u
  only_below r lo hi v old a b c is own first second u m = elim (second u m) [
    | inl before ↦ elim (first u before) [
      | inl at_first ↦ elim (own u at_first) [
        | inl x ↦ inl x
        | inr same ↦ inr (subst (λ k. HasNodeBelow S r k) same (at_once r lo hi v is))
      ]
      | inr below ↦ inr (by_low r lo hi v u is below)
    ]
    | inr below ↦ inr (by_high r lo hi v u is below)
  ]

-- one more reference was visited, and all bits below it are set
pub seen_more : (S : Nodes) (met new : SupportWalk) (r : Ref) → IsSoundWalk S met → new.levels ≡ met.levels → Updates ref_eq.it met.seen new.seen r true → AreMarkedBelow S new r → IsSoundWalk S new
seen_more S met new r m same u all = record {
  each_level = ap (λ l. length l.items) same ∙ m.each_level;
  seen = λ q has. by q (ref_eq.it r q) refl (sym (u.0 q) ∙ has);
}
  where
    by : (q : Ref) (t : Bool) → ref_eq.it r q ≡ t → cond (ref_eq.it r q) true (contains ref_eq.it met.seen q) ≡ true → AreMarkedBelow S new q
    by q true e has = subst (AreMarkedBelow S new) (ref_same r q e) all
    by q false e has = λ v s.
        let before : contains ref_eq.it met.seen q ≡ true = sym (ap (λ t. cond t true (contains ref_eq.it met.seen q)) e) ∙ has in
        ap (λ l. get_or l.items v false) same ∙ m.seen q before v s

-- the bit of one more level is set
pub level_more : (S : Nodes) (met new : SupportWalk) (v : ℕ) → IsSoundWalk S met → v < S.levels → new.seen ≡ met.seen → new.levels.items ≡ set met.levels.items v true → IsSoundWalk S new
level_more S met new v m lt seen same =
    let full : length met.levels.items ≡ S.levels = m.each_level in
    record {
      each_level = ap length same ∙ length-set met.levels.items v true ∙ m.each_level;
      seen = λ q has u s. ap (λ l. get_or l u false) same ∙ marked_more met.levels.items v u (omega arith) (m.seen q (sym (ap (λ z. contains ref_eq.it z q) seen) ∙ has) u s);
    }
