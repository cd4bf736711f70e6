-- The diagram of a function is made in a store within its limit, or some function that counts has no room there.
use Rattle.std.proofs.Common.{◌≡◌, ◌≢◌, ◌∙◌, ℕ, zero, suc, ◌+◌, ◌<◌, ◌≤◌, ◌⊎◌, inl, inr, Bool, true, false, cond, List, [], ◌∷◌, ◌++◌, length, drop, refl, sym, ap, subst, arith}
use Rattle.std.specs.Prelude.{Ok, Err}
use Rattle.std.proofs.Math.Seq.{drop-append_seam}
use Rattle.std.proofs.lemmas.List.{append-nil}
use Rattle.dd_store.specs.declared.StoreFault.TheVariants.{Full}
use Rattle.dd_store.specs.declared.reference.Ref.{Ref}
use Rattle.dd_store.specs.declared.reference.Reference.TheVariants.{False, True}
use Rattle.dd_store.specs.Functions.{Agree, IsFixed, DependsOn, OfEither}
use Rattle.dd_store.specs.Complements.{regular_pair}
use Rattle.dd_store.specs.Nodes.{Nodes, den, IsSound, IsBranch, Makes, IsNeeded, count_of, with_node}
use Rattle.dd_store.specs.Parts.{Part, top_of}
use Rattle.dd_store.specs.Parts.Part.{node}
use Rattle.dd_store.specs.View.{part, Has, top, Keeps, IsMade, IsOneNode}
use Rattle.dd_store.proofs.Lacking.{depends, no_diagram}
use Rattle.dd_store.proofs.Laws.{den-false, den-true}
use Rattle.dd_store.proofs.References.{seam, longer}
use Rattle.dd_store.proofs.Storing.{CanMake, Makes-branch, Makes-cases, Makes-sound, count-with_node}
use Rattle.dd_store.proofs.View.{absent, denotes, keeps-refl, keeps-trans, kept_den, kept_top, made, parts, same_ref, top-node, top-part}
use Rattle.reduce_up.proofs.Below.{node_reads}
use Rattle.reduce_up.proofs.Opposite.{either_kept, one_node_either, one_node_part}
use Rattle.gate_plan.specs.Need.{IsCounted, IsLean}
use Rattle.gate_plan.specs.Needing.{LacksCounted}
use Rattle.gate_plan.proofs.Counted.{bit_between, counted_as}
use Rattle.limit_law.proofs.Making.{make}

-- ---- lists of bits

behind : (v : ℕ) (q x : List Bool) → length q ≡ v → drop v (q ++ x) ≡ x
behind v q x e = ap (λ k. drop k (q ++ x)) (sym e) ∙ drop-append_seam q x

-- a function with its first bits fixed, by its values for the two bits of a level
joined : (n v : ℕ) → v < n → (f : List Bool → Bool) (p : List Bool) (g : List Bool → Bool) → ((q : List Bool) (b : Bool) (x : List Bool) → length q ≡ v → v + suc (length x) ≡ n → g (q ++ b ∷ x) ≡ f (p ++ b ∷ x)) → IsFixed n v f p g
joined n v lt f p g h q [] hq hx = absurd (omega arith)
joined n v lt f p g h q (b ∷ x) hq hx = h q b x hq (omega arith)

-- and for one of them
for_bit : (n v : ℕ) (f : List Bool → Bool) (p : List Bool) (b : Bool) (g : List Bool → Bool) → IsFixed n (suc v) f (p ++ b ∷ []) g → (q x : List Bool) → length q ≡ v → v + suc (length x) ≡ n → g (q ++ b ∷ x) ≡ f (p ++ b ∷ x)
for_bit n v f p b g h q x hq hx = ap g (sym (seam q b x)) ∙ h (q ++ b ∷ []) x (longer q b v hq) (omega arith) ∙ ap f (seam p b x)

-- ---- stores with only needed nodes, within a limit

-- a store of n levels that has only nodes that count, and at most as many as the limit
pub record IsGood (n limit : ℕ) (Values : (List Bool → Bool) → Type 0) (S : Nodes) : Type 0 where
  pub sound : IsSound S
  pub levels : S.levels ≡ n
  pub same : S.limit ≡ limit
  pub lean : IsLean n Values (part S) (Has S) (den S)
  pub within : count_of S ≤ limit

-- such a store that has as many as the limit, and lacks one that counts
pub record IsStuck (n limit : ℕ) (Values : (List Bool → Bool) → Type 0) : Type 0 where
  pub store : Nodes
  pub good : IsGood n limit Values store
  pub full : count_of store ≡ limit
  pub lacks : LacksCounted n Values store

-- a later store with a reference, not above level v, that denotes f with its first v bits fixed to p
pub record Drawn (n limit : ℕ) (Values : (List Bool → Bool) → Type 0) (S : Nodes) (v : ℕ) (f : List Bool → Bool) (p : List Bool) : Type 0 where
  pub store : Nodes
  pub good : IsGood n limit Values store
  pub keeps : Keeps S store
  pub reference : Ref
  pub has : Has store reference
  pub below : v ≤ top store reference
  pub fixed : IsFixed n v f p (den store reference)

-- ---- one node

module _ (n limit : ℕ) (Values : (List Bool → Bool) → Type 0) (f : List Bool → Bool) (is : Values f) (S : Nodes) (good : IsGood n limit Values S) (v : ℕ) (lt : v < n) (p : List Bool) (hp : length p ≡ v)
    (lo hi : Ref) (hlo : Has S lo) (hhi : Has S hi) (tlo : v < top S lo) (thi : v < top S hi) (flo : IsFixed n (suc v) f (p ++ false ∷ []) (den S lo)) (fhi : IsFixed n (suc v) f (p ++ true ∷ []) (den S hi)) where
  low : (q x : List Bool) → length q ≡ v → v + suc (length x) ≡ n → den S lo (q ++ false ∷ x) ≡ f (p ++ false ∷ x)
  low = for_bit n v f p false (den S lo) flo

  high : (q x : List Bool) → length q ≡ v → v + suc (length x) ≡ n → den S hi (q ++ true ∷ x) ≡ f (p ++ true ∷ x)
  high = for_bit n v f p true (den S hi) fhi

  inside : v < S.levels
  inside = let e = good.levels in omega (arith, e, lt)

  can : CanMake S v lo hi
  can = record { level = inside; lo_in_store = hlo; hi_in_store = hhi; above_lo = tlo; above_hi = thi }

  -- a node that is found or made
  module _ (r : Ref) (T : Nodes) (m : Makes S v lo hi (Ok r) T) where
    sound' : IsSound T
    sound' = Makes-sound S T v lo hi (Ok r) good.sound can m

    new : IsMade S T v lo hi r
    new = made S T v lo hi (Ok r) good.sound can m

    branch : IsBranch T v lo hi r
    branch = Makes-branch S T v lo hi (Ok r) good.sound can m

    levels' : T.levels ≡ n
    levels' = new.keeps.levels ∙ good.levels

    value : (q : List Bool) (b : Bool) (x : List Bool) → length q ≡ v → v + suc (length x) ≡ n → den T r (q ++ b ∷ x) ≡ f (p ++ b ∷ x)
    value q b x hq hx = branch (q ++ b ∷ x) ∙ ap (λ c. cond c (den T hi (q ++ b ∷ x)) (den T lo (q ++ b ∷ x))) (bit_between q b x v hq) ∙ child b
      where
        child : (b : Bool) → cond b (den T hi (q ++ b ∷ x)) (den T lo (q ++ b ∷ x)) ≡ f (p ++ b ∷ x)
        child true = kept_den S T good.sound new.keeps hi hhi (q ++ true ∷ x) ∙ high q x hq hx
        child false = kept_den S T good.sound new.keeps lo hlo (q ++ false ∷ x) ∙ low q x hq hx

    fixed : IsFixed n v f p (den T r)
    fixed = joined n v lt f p (den T r) value

    counted : part T r ≡ node v lo hi → IsCounted n Values v (den T r)
    counted e = record { value = f; is_value = is; fixed = (p, hp, fixed); depends = subst (λ k. DependsOn k v (den T r)) levels' (node_reads T sound' r v lo hi new.has e) }

    lean' : IsLean n Values (part T) (Has T) (den T)
    lean' = record { counted = λ m w a b h e. by m w a b h e (new.no_other m h) new.is }
      where
        by : (m : Ref) (w : ℕ) (a b : Ref) → Has T m → part T m ≡ node w a b → Has S m ⊎ ((lo ≢ hi) × IsOneNode T m r) → ((lo ≡ hi) × (r ≡ lo)) ⊎ ((lo ≢ hi) × (part T r ≡ node v lo hi)) →
            OfEither (IsCounted n Values w) (den T m)
        by m w a b h e (inl old) at = either_kept S T good.sound new.keeps (IsCounted n Values w) m old (good.lean.counted m w a b old (sym (new.keeps.part_is m old) ∙ e))
        by m w a b h e (inr one) (inl both) = absurd (one.0 both.0)
        by m w a b h e (inr one) (inr at) =
            let k = one_node_part T sound' m r v lo hi h new.has at.1 one.1 in
            let g : ◌≡◌ {A = Part Ref} (node v k.0 k.1) (node w a b) = sym k.2 ∙ e in
            let same : v ≡ w = cc in
            subst (λ u. OfEither (IsCounted n Values u) (den T m)) same
            (one_node_either T m r (IsCounted n Values v) (λ f g agree. counted_as n Values v f g (λ x hx. agree x (hx ∙ sym levels'))) one.1 (counted at.1))

    few : count_of T ≤ limit
    few = by (Makes-cases S T v lo hi (Ok r) m)
      where
        by : (T ≡ S) ⊎ (IsNeeded S v lo hi × (count_of S < S.limit) × (T ≡ with_node S v (regular_pair lo hi).0 (regular_pair lo hi).1)) → count_of T ≤ limit
        by (inl e) = subst (λ z. count_of z ≤ limit) (sym e) good.within
        by (inr k) =
            let e : count_of T ≡ count_of S + 1 = ap count_of k.2 ∙ count-with_node S v (regular_pair lo hi).0 (regular_pair lo hi).1 good.sound.shaped inside in
            let room : count_of S < S.limit = k.1 in
            let s : S.limit ≡ limit = good.same in
            omega (arith, e, room, s)

    below : v ≤ top T r
    below = by new.is
      where
        by : ((lo ≡ hi) × (r ≡ lo)) ⊎ ((lo ≢ hi) × (part T r ≡ node v lo hi)) → v ≤ top T r
        by (inl both) =
            let e : top T r ≡ top S lo = ap (top T) both.1 ∙ kept_top S T new.keeps lo in
            omega (arith, e, tlo)
        by (inr at) = let e : top T r ≡ v = top-node T r v lo hi new.has at.1 in omega (arith, e)

    drawn : Drawn n limit Values S v f p
    drawn = record {
      store = T;
      good = record { sound = sound'; levels = levels'; same = new.keeps.limit ∙ good.same; lean = lean'; within = few };
      keeps = new.keeps;
      reference = r;
      has = new.has;
      below = below;
      fixed = fixed;
    }

  -- a node for which there is no room
  module _ (m : Makes S v lo hi (Err Full) S) where
    stuck_value : List Bool → Bool
    stuck_value y = f (p ++ drop v y)

    stuck_at : (q x : List Bool) → length q ≡ v → stuck_value (q ++ x) ≡ f (p ++ x)
    unfolding stuck_value
    stuck_at q x hq = ap (λ z. f (p ++ z)) (behind v q x hq)

    part_below : (r : Ref) → Has S r → v < top S r → v < top_of S.levels (part S r)
    part_below r h above = let e = top-part S S.levels r h in omega (arith, e, above)

    stuck_low : (q x : List Bool) → length q ≡ v → v + suc (length x) ≡ S.levels → den S lo (q ++ false ∷ x) ≡ stuck_value (q ++ false ∷ x)
    stuck_low q x hq hx = low q x hq (hx ∙ good.levels) ∙ sym (stuck_at q (false ∷ x) hq)

    stuck_high : (q x : List Bool) → length q ≡ v → v + suc (length x) ≡ S.levels → den S hi (q ++ true ∷ x) ≡ stuck_value (q ++ true ∷ x)
    stuck_high q x hq hx = high q x hq (hx ∙ good.levels) ∙ sym (stuck_at q (true ∷ x) hq)

    stuck_counted : IsCounted n Values v stuck_value
    stuck_counted = record {
      value = f;
      is_value = is;
      fixed = (p, hp, λ q x hq hx. stuck_at q x hq);
      depends = subst (λ k. DependsOn k v stuck_value) good.levels
          (depends Ref same_ref S.levels (part S) (Has S) (den S) (parts S good.sound) (denotes S good.sound) v inside lo hi hlo hhi (part_below lo hlo tlo) (part_below hi hhi thi) m.0.0 stuck_value stuck_low stuck_high);
    }

    nowhere : (r : Ref) → Has S r → Agree n (den S r) stuck_value → ⊥
    nowhere r h agree =
        no_diagram Ref same_ref S.levels (part S) (Has S) (den S) (parts S good.sound) (denotes S good.sound) v inside lo hi hlo hhi (part_below lo hlo tlo) (part_below hi hhi thi) m.0.0 (absent S v lo hi m.0.1) stuck_value
        (λ a b x ha hb hx. stuck_at a x ha ∙ sym (stuck_at b x hb)) stuck_low stuck_high r h (λ x len. agree x (len ∙ good.levels))

    stuck : IsStuck n limit Values
    stuck = record {
      store = S;
      good = good;
      full = (let s : S.limit ≡ limit = good.same in let most : count_of S ≤ limit = good.within in let least : S.limit ≤ count_of S = m.1 in omega (arith, s, most, least));
      lacks = (v, stuck_value, stuck_counted, nowhere);
    }

  pub joined_at : Drawn n limit Values S v f p ⊎ IsStuck n limit Values
  joined_at = by (make S v lo hi)
    where
      by : ((r : Ref) × (T : Nodes) × Makes S v lo hi (Ok r) T) ⊎ Makes S v lo hi (Err Full) S → Drawn n limit Values S v f p ⊎ IsStuck n limit Values
      by (inl k) = inl (drawn k.0 k.1 k.2)
      by (inr m) = inr (stuck m)

-- ---- all nodes of a function

module _ (n limit : ℕ) (Values : (List Bool → Bool) → Type 0) (f : List Bool → Bool) (is : Values f) where
  -- the terminal for a value
  terminal : (S : Nodes) (b : Bool) → (r : Ref) × Has S r × (top S r ≡ S.levels) × ((x : List Bool) → den S r x ≡ b)
  terminal S true = (True, tt, refl, den-true S)
  terminal S false = (False, tt, refl, den-false S)

  last : (v : ℕ) → v ≡ n → (p : List Bool) → (g : List Bool → Bool) → ((x : List Bool) → g x ≡ f p) → IsFixed n v f p g
  last v e p g h q [] hq hx = h (q ++ []) ∙ ap f (sym (append-nil p))
  last v e p g h q (b ∷ x) hq hx = absurd (omega (arith, e, hx))

  ended : (v : ℕ) → v ≡ n → (p : List Bool) → (S : Nodes) → IsGood n limit Values S → Drawn n limit Values S v f p
  ended v e p S good =
      let t = terminal S (f p) in
      record {
        store = S;
        good = good;
        keeps = keeps-refl S;
        reference = t.0;
        has = t.1;
        below = (let at : top S t.0 ≡ S.levels = t.2 in let k : S.levels ≡ n = good.levels in omega (arith, at, k, e));
        fixed = last v e p (den S t.0) t.3;
      }

  -- a function by its two cofactors
  split : (v : ℕ) → v < n → (p : List Bool) → length p ≡ v → (S : Nodes) → IsGood n limit Values S → Drawn n limit Values S (suc v) f (p ++ false ∷ []) ⊎ IsStuck n limit Values →
      ((T : Nodes) → IsGood n limit Values T → Drawn n limit Values T (suc v) f (p ++ true ∷ []) ⊎ IsStuck n limit Values) → Drawn n limit Values S v f p ⊎ IsStuck n limit Values
  split v lt p hp S good (inr stuck) next = inr stuck
  split v lt p hp S good (inl a) next = second (next a.store a.good)
    where
      third : (b : Drawn n limit Values a.store (suc v) f (p ++ true ∷ [])) → Drawn n limit Values b.store v f p ⊎ IsStuck n limit Values → Drawn n limit Values S v f p ⊎ IsStuck n limit Values
      third b (inr stuck) = inr stuck
      third b (inl c) = inl (record {
        store = c.store;
        good = c.good;
        keeps = keeps-trans S b.store c.store (keeps-trans S a.store b.store a.keeps b.keeps) c.keeps;
        reference = c.reference;
        has = c.has;
        below = c.below;
        fixed = c.fixed;
      })

      second : Drawn n limit Values a.store (suc v) f (p ++ true ∷ []) ⊎ IsStuck n limit Values → Drawn n limit Values S v f p ⊎ IsStuck n limit Values
      second (inr stuck) = inr stuck
      second (inl b) =
          let low_at : v < top b.store a.reference = (let e : top b.store a.reference ≡ top a.store a.reference = kept_top a.store b.store b.keeps a.reference in let k : suc v ≤ top a.store a.reference = a.below in omega (arith, e, k)) in
          let high_at : v < top b.store b.reference = (let k : suc v ≤ top b.store b.reference = b.below in omega (arith, k)) in
          third b
          (joined_at n limit Values f is b.store b.good v lt p hp a.reference b.reference (b.keeps.has a.reference a.has) b.has low_at high_at
          (λ q x hq hx. kept_den a.store b.store a.good.sound b.keeps a.reference a.has (q ++ x) ∙ a.fixed q x hq hx) b.fixed)

  draw : (k v : ℕ) → v + k ≡ n → (p : List Bool) → length p ≡ v → (S : Nodes) → IsGood n limit Values S → Drawn n limit Values S v f p ⊎ IsStuck n limit Values
  draw zero v e p hp S good = inl (ended v (omega arith) p S good)
  draw (suc k) v e p hp S good =
      split v (omega arith) p hp S good (draw k (suc v) (omega arith) (p ++ false ∷ []) (longer p false v hp) S good)
      (λ T g. draw k (suc v) (omega arith) (p ++ true ∷ []) (longer p true v hp) T g)

  pub draw_whole : (S : Nodes) → IsGood n limit Values S → Drawn n limit Values S 0 f [] ⊎ IsStuck n limit Values
  draw_whole S good = draw n 0 (omega arith) [] refl S good
