-- A store with the diagrams of all functions of a kind, or one without room: for one function, and for several kinds.
use Rattle.std.proofs.Common.{◌≡◌, ◌∙◌, ℕ, zero, suc, ◌<◌, ◌≤◌, ◌⊎◌, inl, inr, Bool, List, [], ◌∷◌, refl, sym, subst, arith}
use Rattle.std.specs.Prelude.{Contains}
use Rattle.std.proofs.lemmas.Bool.{cases_lt}
use Rattle.dd_store.specs.declared.reference.Ref.{Ref}
use Rattle.dd_store.specs.Functions.{Agree}
use Rattle.dd_store.specs.Nodes.{Nodes, den}
use Rattle.dd_store.specs.View.{Has, Keeps}
use Rattle.dd_store.proofs.View.{keeps-refl, keeps-trans, kept_den}
use Rattle.limit_law.proofs.Drawing.{IsGood, IsStuck, Drawn, draw_whole}

-- some reference of the store denotes the function
abbrev pub HasDiagram : ℕ → Nodes → (List Bool → Bool) → Type 0
HasDiagram n S f = (r : Ref) × Has S r × Agree n (den S r) f

-- a later store within the limit that has the diagrams of all functions of a kind
pub record Covered (n limit : ℕ) (Values : (List Bool → Bool) → Type 0) (S : Nodes) (Kind : (List Bool → Bool) → Type 0) : Type 0 where
  pub store : Nodes
  pub good : IsGood n limit Values store
  pub keeps : Keeps S store
  pub diagrams : (f : List Bool → Bool) → Kind f → HasDiagram n store f

module _ (n limit : ℕ) (Values : (List Bool → Bool) → Type 0) where
  -- whichever store one begins with, there is a later one with the diagrams of the kind, or there is no room
  abbrev pub Covers : ((List Bool → Bool) → Type 0) → Type 0
  Covers Kind = (S : Nodes) → IsGood n limit Values S → Covered n limit Values S Kind ⊎ IsStuck n limit Values

  -- no function
  pub covers_none : (Kind : (List Bool → Bool) → Type 0) → ((f : List Bool → Bool) → Kind f → ⊥) → Covers Kind
  covers_none Kind none S good = inl (record { store = S; good = good; keeps = keeps-refl S; diagrams = λ f k. absurd (none f k) })

  -- one function, and all that agree with it
  pub covers_one : (Kind : (List Bool → Bool) → Type 0) (f : List Bool → Bool) → Values f → ((g : List Bool → Bool) → Kind g → Agree n f g) → Covers Kind
  covers_one Kind f is all S good = by (draw_whole n limit Values f is S good)
    where
      by : Drawn n limit Values S 0 f [] ⊎ IsStuck n limit Values → Covered n limit Values S Kind ⊎ IsStuck n limit Values
      by (inr stuck) = inr stuck
      by (inl d) = inl (record { store = d.store; good = d.good; keeps = d.keeps; diagrams = λ g k. (d.reference, d.has, λ x len. d.fixed [] x refl (omega (arith, len)) ∙ all g k x len) })

  -- two kinds
  pub covers_both : (Kind First Second : (List Bool → Bool) → Type 0) → ((f : List Bool → Bool) → Kind f → First f ⊎ Second f) → Covers First → Covers Second → Covers Kind
  covers_both Kind First Second either first second S good = one (first S good)
    where
      two : (a : Covered n limit Values S First) → Covered n limit Values a.store Second ⊎ IsStuck n limit Values → Covered n limit Values S Kind ⊎ IsStuck n limit Values
      two a (inr stuck) = inr stuck
      two a (inl b) = inl (record { store = b.store; good = b.good; keeps = keeps-trans S a.store b.store a.keeps b.keeps; diagrams = λ f k. by f (either f k) })
        where
          by : (f : List Bool → Bool) → First f ⊎ Second f → HasDiagram n b.store f
          by f (inl k) =
              let d = a.diagrams f k in
              (d.0, b.keeps.has d.0 d.1, λ x len. kept_den a.store b.store a.good.sound b.keeps d.0 d.1 x ∙ d.2 x len)
          by f (inr k) = b.diagrams f k

      one : Covered n limit Values S First ⊎ IsStuck n limit Values → Covered n limit Values S Kind ⊎ IsStuck n limit Values
      one (inr stuck) = inr stuck
      one (inl a) = two a (second a.store a.good)

  -- fewer functions
  pub covers_less : (Kind More : (List Bool → Bool) → Type 0) → ((f : List Bool → Bool) → Kind f → More f) → Covers More → Covers Kind
  covers_less Kind More more all = covers_both Kind More More (λ f k. inl (more f k)) all all

  -- a kind for each number below a bound
  pub covers_below : (k : ℕ) (Kind : ℕ → (List Bool → Bool) → Type 0) → ((i : ℕ) → i < k → Covers (Kind i)) → Covers (λ f. (i : ℕ) × (i < k) × Kind i f)
  covers_below zero Kind each = covers_none (λ f. (i : ℕ) × (i < zero) × Kind i f) (λ f h. let lt : h.0 < 0 = h.1 in omega (arith, lt))
  covers_below (suc k) Kind each =
      covers_both (λ f. (i : ℕ) × (i < suc k) × Kind i f) (λ f. (i : ℕ) × (i < k) × Kind i f) (Kind k) either
      (covers_below k Kind (λ i lt. each i (omega (arith, lt)))) (each k (omega arith))
    where
      either : (f : List Bool → Bool) → (i : ℕ) × (i < suc k) × Kind i f → ((i : ℕ) × (i < k) × Kind i f) ⊎ Kind k f
      either f (i, lt, h) = by (cases_lt i k)
        where
          by : (i < k) ⊎ (k ≤ i) → ((j : ℕ) × (j < k) × Kind j f) ⊎ Kind k f
          by (inl less) = inl (i, less, h)
          by (inr le) = inr (subst (λ j. Kind j f) (let e : i ≡ k = omega (arith, lt, le) in e) h)

  -- a kind for each element of a list
  pub covers_list : {X : Type 0} (xs : List X) (Kind : X → (List Bool → Bool) → Type 0) → ((x : X) → Contains xs x → Covers (Kind x)) → Covers (λ f. (x : X) × Contains xs x × Kind x f)
  covers_list {X} [] Kind each = covers_none (λ f. (x : X) × Contains [] x × Kind x f) (λ f h. let lt : h.1.0 < 0 = h.1.1 in omega (arith, lt))
  covers_list {X} (x ∷ xs) Kind each =
      covers_both (λ f. (y : X) × Contains (x ∷ xs) y × Kind y f) (Kind x) (λ f. (y : X) × Contains xs y × Kind y f) either
      (each x (0, omega arith, refl)) (covers_list xs Kind (λ y among. each y (later y among)))
    where
      later : (y : X) → Contains xs y → Contains (x ∷ xs) y
      later y (k, lt, e) = (suc k, omega (arith, lt), e)

      either : (f : List Bool → Bool) → (y : X) × Contains (x ∷ xs) y × Kind y f → Kind x f ⊎ ((y : X) × Contains xs y × Kind y f)
      either f (y, (zero, lt, e), h) = inl (subst (λ z. Kind z f) (sym e) h)
      either f (y, (suc k, lt, e), h) = inr (y, (k, omega (arith, lt), e), h)
