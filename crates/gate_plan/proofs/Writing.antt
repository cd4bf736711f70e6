-- The references after copies, and after a wave's answers.
use Rattle.std.proofs.Common.{◌≡◌, ◌≢◌, ℕ, zero, suc, ◌<◌, ◌⊎◌, inl, inr, List, [], ◌∷◌, ◌++◌, length, map, take, drop, get_or, set, refl, sym, ◌∙◌, ap, subst, arith}
use Rattle.std.specs.Prelude.{Contains, All}
use Rattle.std.specs.List.{AllZip}
use Rattle.std.proofs.lemmas.List.{get_or-set_same, get_or-set_other, length-set}
use Rattle.dd_store.specs.declared.reference.Ref.{Ref}
use Rattle.dd_store.specs.declared.reference.Reference.TheVariants.{False}
use Rattle.dd_store.specs.Complements.{complement_by}
use Rattle.gate_plan.specs.declared.steps.Step.{Step}
use Rattle.gate_plan.specs.declared.steps.CopyStep.{CopyStep}
use Rattle.gate_plan.specs.Building.{reference_of, copied_all, answered_all, IsStepBelow, IsCopyBelow}
use Rattle.gate_plan.proofs.Lists.{same_number}

first_of_all : {X : Type 0} (P : X → Type 0) (x : X) (xs : List X) → All P (x ∷ xs) → P x
first_of_all P x xs all = all 0 x (omega arith)

rest_of_all : {X : Type 0} (P : X → Type 0) (x : X) (xs : List X) → All P (x ∷ xs) → All P xs
rest_of_all P x xs all k d lt = all (suc k) d (omega arith)

deeper : {X : Type 0} (y : X) (xs : List X) (x : X) → Contains xs x → Contains (y ∷ xs) x
deeper y xs x (k, lt, e) = (suc k, omega arith, e)

-- ---- copies

-- some copy gives the signal its reference
pub record IsCopiedTo (refs : List Ref) (cs : List CopyStep) (s : ℕ) (r : Ref) : Type 0 where
  pub copied : CopyStep
  pub among : Contains cs copied
  pub out : copied.out ≡ s
  pub value : r ≡ complement_by copied.complement (reference_of refs copied.of)

-- no copy is of the signal
abbrev pub IsNotCopied : List CopyStep → ℕ → Type 0
IsNotCopied cs s = (c : CopyStep) → Contains cs c → c.out ≢ s

pub copied_at : (refs : List Ref) (cs : List CopyStep) (s : ℕ) → All (IsCopyBelow (length refs)) cs → ((c d : CopyStep) → Contains cs c → Contains cs d → c.of ≢ d.out) →
    IsCopiedTo refs cs s (reference_of (copied_all refs cs) s) ⊎ (IsNotCopied cs s × (reference_of (copied_all refs cs) s ≡ reference_of refs s))
copied_at refs [] s below apart = inr ((λ c among. absurd (let lt = among.1 in omega arith)), refl)
copied_at refs (c ∷ cs) s below apart = by (copied_at next cs s below' (λ d e a b. apart d e (deeper c cs d a) (deeper c cs e b)))
  where
    moved : Ref
    moved = complement_by c.complement (reference_of refs c.of)

    next : List Ref
    next = set refs c.out (complement_by c.complement (reference_of refs c.of))

    here : IsCopyBelow (length refs) c
    here = first_of_all (IsCopyBelow (length refs)) c cs below

    below' : All (IsCopyBelow (length next)) cs
    below' = subst (λ n. All (IsCopyBelow n) cs) (sym (length-set refs c.out moved)) (rest_of_all (IsCopyBelow (length refs)) c cs below)

    front : Contains (c ∷ cs) c
    front = (0, omega arith, refl)

    at_last : IsNotCopied cs s → reference_of (copied_all next cs) s ≡ reference_of next s → Dec (c.out ≡ s) →
        IsCopiedTo refs (c ∷ cs) s (reference_of (copied_all next cs) s) ⊎ (IsNotCopied (c ∷ cs) s × (reference_of (copied_all next cs) s ≡ reference_of refs s))
    at_last none e (yes same) = inl (record { copied = c; among = front; out = same; value = e ∙ ap (λ z. get_or next z False) (sym same) ∙ get_or-set_same refs c.out moved False here.0 })
    at_last none e (no ne) = inr (still, e ∙ get_or-set_other refs c.out s moved False (λ z. ne (sym z)))
      where
        still : IsNotCopied (c ∷ cs) s
        still d (zero, lt, f) = subst (λ z. z.out ≢ s) f ne
        still d (suc k, lt, f) = none d (k, omega arith, f)

    by : IsCopiedTo next cs s (reference_of (copied_all next cs) s) ⊎ (IsNotCopied cs s × (reference_of (copied_all next cs) s ≡ reference_of next s)) →
        IsCopiedTo refs (c ∷ cs) s (reference_of (copied_all next cs) s) ⊎ (IsNotCopied (c ∷ cs) s × (reference_of (copied_all next cs) s ≡ reference_of refs s))
    by (inl w) = inl (record {
      copied = w.copied;
      among = deeper c cs w.copied w.among;
      out = w.out;
      value = w.value ∙ ap (complement_by w.copied.complement) (get_or-set_other refs c.out w.copied.of moved False (apart w.copied c (deeper c cs w.copied w.among) front));
    })
    by (inr w) = at_last w.0 w.1 (same_number c.out s)

pub length-copied_all : (refs : List Ref) (cs : List CopyStep) → length (copied_all refs cs) ≡ length refs
length-copied_all refs [] = refl
length-copied_all refs (c ∷ cs) = length-copied_all (set refs c.out (complement_by c.complement (reference_of refs c.of))) cs ∙ length-set refs c.out (complement_by c.complement (reference_of refs c.of))

-- ---- answers

-- some step gives the signal its answer
pub record IsAnsweredTo (ss : List Step) (answers : List Ref) (s : ℕ) (r : Ref) : Type 0 where
  pub place : ℕ
  pub low : place < length ss
  pub out : (d : Step) → (get_or ss place d).out ≡ s
  pub value : (d : Ref) → r ≡ get_or answers place d

abbrev pub IsNoStep : List Step → ℕ → Type 0
IsNoStep ss s = (t : Step) → Contains ss t → t.out ≢ s

pub answered_at : (refs : List Ref) (ss : List Step) (answers : List Ref) (s : ℕ) → All (IsStepBelow (length refs)) ss → length answers ≡ length ss →
    IsAnsweredTo ss answers s (reference_of (answered_all refs ss answers) s) ⊎ (IsNoStep ss s × (reference_of (answered_all refs ss answers) s ≡ reference_of refs s))
answered_at refs [] answers s below each = inr ((λ t among. absurd (let lt = among.1 in omega arith)), refl)
answered_at refs (t ∷ ss) [] s below each = absurd (omega arith)
answered_at refs (t ∷ ss) (a ∷ answers) s below each = by (answered_at next ss answers s below' (omega arith))
  where
    next : List Ref
    next = set refs t.out a

    here : IsStepBelow (length refs) t
    here = first_of_all (IsStepBelow (length refs)) t ss below

    below' : All (IsStepBelow (length next)) ss
    below' = subst (λ n. All (IsStepBelow n) ss) (sym (length-set refs t.out a)) (rest_of_all (IsStepBelow (length refs)) t ss below)

    at_last : IsNoStep ss s → reference_of (answered_all next ss answers) s ≡ reference_of next s → Dec (t.out ≡ s) →
        IsAnsweredTo (t ∷ ss) (a ∷ answers) s (reference_of (answered_all next ss answers) s) ⊎ (IsNoStep (t ∷ ss) s × (reference_of (answered_all next ss answers) s ≡ reference_of refs s))
    at_last none e (yes same) = inl (record { place = 0; low = omega arith; out = λ d. same; value = λ d. e ∙ ap (λ z. get_or next z False) (sym same) ∙ get_or-set_same refs t.out a False here.0 })
    at_last none e (no ne) = inr (still, e ∙ get_or-set_other refs t.out s a False (λ z. ne (sym z)))
      where
        still : IsNoStep (t ∷ ss) s
        still d (zero, lt, f) = subst (λ z. z.out ≢ s) f ne
        still d (suc k, lt, f) = none d (k, omega arith, f)

    by : IsAnsweredTo ss answers s (reference_of (answered_all next ss answers) s) ⊎ (IsNoStep ss s × (reference_of (answered_all next ss answers) s ≡ reference_of next s)) →
        IsAnsweredTo (t ∷ ss) (a ∷ answers) s (reference_of (answered_all next ss answers) s) ⊎ (IsNoStep (t ∷ ss) s × (reference_of (answered_all next ss answers) s ≡ reference_of refs s))
    by (inl w) = inl (record { place = suc w.place; low = (let lt = w.low in omega arith); out = λ d. w.out d; value = λ d. w.value d })
    by (inr w) = at_last w.0 w.1 (same_number t.out s)

pub length-answered_all : (refs : List Ref) (ss : List Step) (answers : List Ref) → length (answered_all refs ss answers) ≡ length refs
length-answered_all refs [] answers = refl
length-answered_all refs (t ∷ ss) [] = refl
length-answered_all refs (t ∷ ss) (a ∷ answers) = length-answered_all (set refs t.out a) ss answers ∙ length-set refs t.out a

-- ---- two lists of answers

pub zip_parts : {A B : Type 0} (R : A → B → Type 0) (xs ys : List A) (zs : List B) → AllZip R (xs ++ ys) zs → AllZip R xs (take (length xs) zs) × AllZip R ys (drop (length xs) zs)
zip_parts R [] ys zs h = (tt, h)
zip_parts R (x ∷ xs) ys [] h = absurd h
zip_parts R (x ∷ xs) ys (z ∷ zs) h = let p = zip_parts R xs ys zs h.1 in ((h.0, p.0), p.1)

pub zip_at : {A B C : Type 0} (R : A → B → Type 0) (f : C → A) (xs : List C) (zs : List B) (i : ℕ) (c : C) (d : B) → AllZip R (map f xs) zs → i < length xs → R (f (get_or xs i c)) (get_or zs i d)
zip_at R f [] zs i c d h lt = absurd (omega arith)
zip_at R f (x ∷ xs) [] i c d h lt = absurd h
zip_at R f (x ∷ xs) (z ∷ zs) zero c d h lt = h.0
zip_at R f (x ∷ xs) (z ∷ zs) (suc i) c d h lt = zip_at R f xs zs i c d h.1 (omega arith)

pub zip_length : {A B C : Type 0} (R : A → B → Type 0) (f : C → A) (xs : List C) (zs : List B) → AllZip R (map f xs) zs → length zs ≡ length xs
zip_length R f [] [] h = refl
zip_length R f [] (z ∷ zs) h = absurd h
zip_length R f (x ∷ xs) [] h = absurd h
zip_length R f (x ∷ xs) (z ∷ zs) h = let e : length zs ≡ length xs = zip_length R f xs zs h.1 in omega arith
