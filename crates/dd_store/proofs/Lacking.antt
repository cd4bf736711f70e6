-- If no node of a level has two references as children, then no reference denotes the function that is the one if the
-- level's bit is 0 and the other if it is 1, and that reads no bit before.
use Rattle.std.proofs.Common.{◌≡◌, ◌≢◌, ℕ, suc, ◌+◌, ◌-◌, ◌<◌, ◌≤◌, Bool, true, false, List, [], ◌∷◌, ◌++◌, length, take, drop, refl, sym, ◌∙◌, ap, subst, arith, append_assoc, inl, inr, length-take, length-drop}
use Rattle.std.proofs.lemmas.List.{length-append, take-append-drop}
use Rattle.std.proofs.lemmas.Bool.{cases_lt}
use Rattle.dd_store.specs.Functions.{Agree, DependsOn, IsLeastDifference}
use Rattle.dd_store.specs.Parts.{Part, top_of, AreParts, IsDenotation}
use Rattle.dd_store.specs.Parts.Part.{leaf, node}
use Rattle.dd_store.proofs.References.{seam, longer, step, view, step_has, step_den, free, canonical, reads, walk, walk_least}
use Rattle.dd_store.proofs.References.View.{splits, stays}

module _ (R : Type 0) (same : (a b : R) → Dec (a ≡ b)) (n : ℕ) (part : R → Part R) (Has : R → Type 0) (den : R → List Bool → Bool) (S : AreParts n part Has) (D : IsDenotation n part Has den) where
  -- below a level its bit is not read
  unread : (v : ℕ) → v < n → (r : R) → Has r → suc v ≤ top_of n (part r) → (q : List Bool) (d e : Bool) (x : List Bool) → length q ≡ v → v + suc (length x) ≡ n → den r (q ++ d ∷ x) ≡ den r (q ++ e ∷ x)
  unread v lt r hr lr q d e x hq hx =
      ap (den r) (sym (seam q d x))
      ∙ free R same n part Has den S D (length x) (suc v) (omega arith) r hr lr (q ++ d ∷ []) (q ++ e ∷ []) x (longer q d v hq) (longer q e v hq) refl
      ∙ ap (den r) (seam q e x)

  -- two references below a level that agree whenever the level's bit is b are equal
  pub equal_at : (v : ℕ) → v < n → (b : Bool) (a c : R) → Has a → Has c → suc v ≤ top_of n (part a) → suc v ≤ top_of n (part c)
      → ((q x : List Bool) → length q ≡ v → v + suc (length x) ≡ n → den a (q ++ b ∷ x) ≡ den c (q ++ b ∷ x)) → a ≡ c
  equal_at v lt b a c ha hc la lc h = canonical R same n part Has den S D a c ha hc (λ y hy. cut (take v y) (drop v y) (simp length-take (omega arith)) (simp length-drop (omega arith)) y (take-append-drop v y))
    where
      cut : (q x : List Bool) → length q ≡ v → v + length x ≡ n → (y : List Bool) → q ++ x ≡ y → den a y ≡ den c y
      cut q [] hq hx y e = absurd (omega arith)
      cut q (d ∷ x) hq hx y e =
          subst (λ z. den a z ≡ den c z) e (unread v lt a ha la q d b x hq (omega arith) ∙ h q x hq (omega arith) ∙ unread v lt c hc lc q b d x hq (omega arith))

  -- if lo and hi are different references below level v, a function that is lo's for the bit 0 of this level and hi's
  -- for the bit 1 depends on this bit
  module _ (v : ℕ) (lt : v < n) (lo hi : R) (hlo : Has lo) (hhi : Has hi) (tlo : v < top_of n (part lo)) (thi : v < top_of n (part hi)) (differ : lo ≢ hi) (F : List Bool → Bool)
      (low : (q x : List Bool) → length q ≡ v → v + suc (length x) ≡ n → den lo (q ++ false ∷ x) ≡ F (q ++ false ∷ x))
      (high : (q x : List Bool) → length q ≡ v → v + suc (length x) ≡ n → den hi (q ++ true ∷ x) ≡ F (q ++ true ∷ x)) where
    from : (q x y : List Bool) → length q ≡ v → v + length x ≡ n → q ++ x ≡ y → (den lo y ≢ den hi y) → DependsOn n v F
    from q [] y hq hx e ne = absurd (omega arith)
    from q (d ∷ x) y hq hx e ne = (
      q,
      x,
      hq,
      (let z : v + suc (length x) ≡ n = omega arith in z),
      λ f.
          let hx' : v + suc (length x) ≡ n = omega arith in
          ne (
          subst (λ z. den lo z ≡ den hi z) e
          (unread v lt lo hlo tlo q d false x hq hx' ∙ low q x hq hx' ∙ f ∙ sym (high q x hq hx') ∙ unread v lt hi hhi thi q true d x hq hx')
          ),
    )

    pub depends : DependsOn n v F
    depends =
        let w : IsLeastDifference n (den lo) (den hi) (walk same part n 0 lo hi) = walk_least R same n part Has den S D lo hi hlo hhi differ in
        let y : List Bool = walk same part n 0 lo hi in
        let hy : length y ≡ n = w.bits in
        from (take v y) (drop v y) y (simp length-take (omega arith)) (simp length-drop (omega arith)) (take-append-drop v y) w.differ

  module _ (v : ℕ) (lt : v < n) (lo hi : R) (hlo : Has lo) (hhi : Has hi) (tlo : v < top_of n (part lo)) (thi : v < top_of n (part hi)) (differ : lo ≢ hi)
      (absent : (r : R) → Has r → part r ≢ node v lo hi) (F : List Bool → Bool)
      (blind : (p q x : List Bool) → length p ≡ v → length q ≡ v → v + length x ≡ n → F (p ++ x) ≡ F (q ++ x))
      (low : (q x : List Bool) → length q ≡ v → v + suc (length x) ≡ n → den lo (q ++ false ∷ x) ≡ F (q ++ false ∷ x))
      (high : (q x : List Bool) → length q ≡ v → v + suc (length x) ≡ n → den hi (q ++ true ∷ x) ≡ F (q ++ true ∷ x)) where
    -- a reference above the level reads a bit that the function does not
    above : (r : R) (u : ℕ) (a c : R) → Has r → part r ≡ node u a c → u < v → Agree n (den r) F → ⊥
    above r u a c h e l agree =
        let d : DependsOn n u (den r) = reads R same n part Has den S D r u a c h e in
        let q : List Bool = d.0 in
        let x : List Bool = d.1 in
        let hq : length q ≡ u = d.2 in
        let hx : u + suc (length x) ≡ n = d.3 in
        let x1 : List Bool = take (v - suc u) x in
        let x2 : List Bool = drop (v - suc u) x in
        let whole : x1 ++ x2 ≡ x = take-append-drop (v - suc u) x in
        let l1 : length x1 ≡ v - suc u = simp length-take (omega arith) in
        let l2 : length x2 ≡ length x - (v - suc u) = simp length-drop (omega arith) in
        let front : (b : Bool) → length (q ++ b ∷ x1) ≡ v = (λ b. simp length-append (omega arith)) in
        let joined : (b : Bool) → (q ++ b ∷ x1) ++ x2 ≡ q ++ b ∷ x = (λ b. append_assoc q (b ∷ x1) x2 ∙ ap (λ z. q ++ b ∷ z) whole) in
        let long : (b : Bool) → length (q ++ b ∷ x) ≡ n = (λ b. simp length-append (omega arith)) in
        d.4 (
        agree (q ++ false ∷ x) (long false) ∙ ap F (sym (joined false)) ∙ blind (q ++ false ∷ x1) (q ++ true ∷ x1) x2 (front false) (front true) (omega arith)
        ∙ ap F (joined true) ∙ sym (agree (q ++ true ∷ x) (long true))
        )

    -- at the level it has the two children, or none
    step_is : (r : R) → Has r → v ≤ top_of n (part r) → Agree n (den r) F → (step part v r false ≡ lo) × (step part v r true ≡ hi)
    step_is r h le agree =
        let long : (b : Bool) (q x : List Bool) → length q ≡ v → v + suc (length x) ≡ n → length (q ++ b ∷ x) ≡ n = (λ b q x hq hx. simp length-append (omega arith)) in
        let z = step_has R same n part Has den S D v r h lt le false in
        let o = step_has R same n part Has den S D v r h lt le true in (
          equal_at v lt false (step part v r false) lo z.0 hlo z.1 tlo
              (λ q x hq hx. sym (step_den R same n part Has den S D v (length x) hx r h le q false x hq refl) ∙ agree (q ++ false ∷ x) (long false q x hq hx) ∙ sym (low q x hq hx)),
          equal_at v lt true (step part v r true) hi o.0 hhi o.1 thi
              (λ q x hq hx. sym (step_den R same n part Has den S D v (length x) hx r h le q true x hq refl) ∙ agree (q ++ true ∷ x) (long true q x hq hx) ∙ sym (high q x hq hx)),
        )

    below : (r : R) → Has r → v ≤ top_of n (part r) → Agree n (den r) F → ⊥
    below r h le agree =
        let s : (step part v r false ≡ lo) × (step part v r true ≡ hi) = step_is r h le agree in
        elim (view R same n part Has den S D v r lt le) [
          | splits a c e t ↦
              let al : a ≡ lo = sym (t false) ∙ s.0 in
              let ch : c ≡ hi = sym (t true) ∙ s.1 in
              absent r h (e ∙ ap (λ z. node v z c) al ∙ ap (λ z. node v lo z) ch)
          | stays up t ↦ differ (sym s.0 ∙ t false ∙ sym (t true) ∙ s.1)
        ]

    by_part : (r : R) (P : Part R) → part r ≡ P → Has r → Agree n (den r) F → ⊥
    by_part r (leaf b) e h agree = below r h (let t : top_of n (part r) ≡ n = ap (top_of n) e in omega arith) agree
    by_part r (node u a c) e h agree =
        let t : top_of n (part r) ≡ u = ap (top_of n) e in
        elim (cases_lt u v) [ inl l ↦ above r u a c h e l agree | inr ge ↦ below r h (omega arith) agree ]

    pub no_diagram : (r : R) → Has r → Agree n (den r) F → ⊥
    no_diagram r h agree = by_part r (part r) refl h agree
