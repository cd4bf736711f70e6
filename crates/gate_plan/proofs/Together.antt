-- Netlists and their references, place by place.
use Rattle.std.proofs.Common.{◌≡◌, ◌∙◌, ap, sym, refl, subst, ℕ, zero, suc, ◌+◌, ◌<◌, ◌≤◌, ◌⊎◌, inl, inr, List, [], ◌∷◌, ◌++◌, map, length, get_or, take, drop, append_assoc, append-nil, arith, Some}
use Rattle.std.specs.Prelude.{Contains, slice_get}
use Rattle.std.proofs.lemmas.List.{take_all, drop_more, length-map, length-append, get_or_default}
use Rattle.std.proofs.lemmas.List.{get_or-set_same, get_or-set_other}
use Rattle.std.proofs.Math.ListN.{get_or-map, set}
use Rattle.std.proofs.lemmas.List.Elements.{Contains-append_left, Contains-append_right, Contains-append_cases}
use Rattle.std.proofs.lemmas.Slice.Zip.{AllZip-long}
use Rattle.dd_store.specs.declared.reference.Ref.{Ref}
use Rattle.dd_store.specs.Nodes.{Nodes, IsDiagram}
use Rattle.reduce_up.specs.Waves.{Entry, entry_value, AnswersEach}
use Rattle.gate_plan.specs.declared.steps.Step.{Step}
use Rattle.gate_plan.specs.Plans.{plan_steps, plan_copies}
use Rattle.gate_plan.specs.Building.{PlannedNet, Levelled, levelled_of, ForEachNetlist, asked, entry_of, copied_all}
use Rattle.gate_plan.proofs.Lists.{lt_or_le, at_end, before_end}
use Rattle.gate_plan.proofs.Writing.{zip_parts}

-- ---- lists

-- an image of an element is an element of the images
pub image : {A B : Type 0} (f : A → B) (xs : List A) (x : A) → Contains xs x → Contains (map f xs) (f x)
image f [] x (k, lt, e) = absurd (omega arith)
image f (y ∷ xs) x (zero, lt, e) = (0, omega arith, ap f e)
image f (y ∷ xs) x (suc k, lt, e) = let m = image f xs x (k, omega arith, e) in (suc m.0, (let z = m.1 in omega arith), m.2)

-- an element of a list of images is an image
pub of_map : {A B : Type 0} (f : A → B) (xs : List A) (y : B) → Contains (map f xs) y → (x : A) × Contains xs x × (f x ≡ y)
of_map f [] y (k, lt, e) = absurd (omega arith)
of_map f (x ∷ xs) y (zero, lt, e) = (x, (0, omega arith, refl), e)
of_map f (x ∷ xs) y (suc k, lt, e) = let m = of_map f xs y (k, omega arith, e) in (m.0, (suc m.1.0, (let z = m.1.1 in omega arith), m.1.2), m.2)

-- the element at a place
pub element : {X : Type 0} (xs : List X) (k : ℕ) → k < length xs → (x : X) × (get_or xs k x ≡ x)
element [] k lt = absurd (omega arith)
element (x ∷ xs) zero lt = (x, refl)
element (x ∷ xs) (suc k) lt = element xs k (omega arith)

pub drop_all : {X : Type 0} (xs : List X) (i : ℕ) → length xs ≤ i → drop i xs ≡ []
drop_all [] zero h = refl
drop_all [] (suc i) h = refl
drop_all (x ∷ xs) zero h = absurd (omega (arith, h))
drop_all (x ∷ xs) (suc i) h = drop_all xs i (omega (arith, h))

-- the references at a place
pub refs_there : (built : List (List Ref)) (k : ℕ) → k < length built → get_or built k (get_or built k []) ≡ get_or built k []
refs_there built k lt = get_or_default built k (get_or built k []) [] lt

-- a list that is not empty is at a place of the list of lists
pub there_place : (xs : List (List Ref)) (k s : ℕ) → s < length (get_or xs k []) → k < length xs
there_place [] k s lt = absurd (omega (arith, lt))
there_place (x ∷ xs) zero s lt = omega arith
there_place (x ∷ xs) (suc k) s lt = let h = there_place xs k s lt in omega arith

-- two elements at one place are equal
pub same_at : {X : Type 0} (xs : List X) (i k : ℕ) (x y : X) → k ≡ i → i < length xs → get_or xs i x ≡ x → get_or xs k y ≡ y → y ≡ x
same_at xs i k x y e lt at_x at_y = sym at_y ∙ ap (λ z. get_or xs z y) e ∙ get_or_default xs i y x lt ∙ at_x

-- an element at a place of a list is there in another list that agrees with it at this place
pub there_at : (now was : List (List Ref)) (i : ℕ) (d : List Ref) → i < length now → ((refs : List Ref) → get_or now i refs ≡ get_or was i refs) → get_or was i (get_or now i d) ≡ get_or now i d
there_at now was i d lt same = sym (same (get_or now i d)) ∙ get_or_default now i (get_or now i d) d lt

-- what was borrowed as a whole comes back as a whole
pub lent : (items new : List (List Ref)) (n : ℕ) → n ≡ length items → length new ≡ length items → take n (new ++ drop (length new) items) ≡ new
lent items new n e f =
    ap (λ z. take n (new ++ z)) (drop_all items (length new) (omega arith)) ∙ ap (take n) (append-nil new) ∙ take_all n new (omega arith)

-- ---- place by place

-- one more is at the end
pub pushed_each : (P : PlannedNet → List Ref → Type 0) (sides : List PlannedNet) (built new : List (List Ref)) (i : ℕ) (one : PlannedNet) (refs : List Ref) → i < length sides → length built ≡ i → new ≡ built ++ refs ∷ [] → get_or sides i one ≡ one → P one refs →
    ((k : ℕ) (o : PlannedNet) (rs : List Ref) → k < i → get_or sides k o ≡ o → get_or built k rs ≡ rs → P o rs) →
    (k : ℕ) (o : PlannedNet) (rs : List Ref) → k < i + 1 → get_or sides k o ≡ o → get_or new k rs ≡ rs → P o rs
pushed_each P sides built new i one refs low n grown here holds earlier k o rs lt at there = by (lt_or_le k i)
  where
    by : (k < i) ⊎ (i ≤ k) → P o rs
    by (inl less) = earlier k o rs less at (sym (before_end built refs rs k (omega arith)) ∙ sym (ap (λ z. get_or z k rs) grown) ∙ there)
    by (inr more) =
        let same : k ≡ i = omega arith in
        let is : rs ≡ refs = sym there ∙ ap (λ z. get_or z k rs) grown ∙ ap (λ z. get_or (built ++ refs ∷ []) z rs) (same ∙ sym n) ∙ at_end built refs rs in
        subst (λ z. P o z) (sym is) (subst (λ z. P z refs) (sym (same_at sides i k one o same low here at)) holds)

-- one more is written at its place
pub set_left : (built was : List (List Ref)) (i : ℕ) (v : List Ref) → ((k : ℕ) (refs : List Ref) → i ≤ k → get_or built k refs ≡ get_or was k refs) → (k : ℕ) (refs : List Ref) → i + 1 ≤ k → get_or (set built i v) k refs ≡ get_or was k refs
set_left built was i v left k refs le = get_or-set_other built i k v refs (λ e. omega (arith, le, e)) ∙ left k refs (omega arith)

pub set_each : (P : PlannedNet → List Ref → Type 0) (sides : List PlannedNet) (built : List (List Ref)) (i : ℕ) (one : PlannedNet) (v : List Ref) → i < length sides → i < length built → get_or sides i one ≡ one → P one v →
    ((k : ℕ) (o : PlannedNet) (rs : List Ref) → k < i → get_or sides k o ≡ o → get_or built k rs ≡ rs → P o rs) →
    (k : ℕ) (o : PlannedNet) (rs : List Ref) → k < i + 1 → get_or sides k o ≡ o → get_or (set built i v) k rs ≡ rs → P o rs
set_each P sides built i one v low lt' here holds earlier k o rs lt at there = by (lt_or_le k i)
  where
    by : (k < i) ⊎ (i ≤ k) → P o rs
    by (inl less) = earlier k o rs less at (sym (get_or-set_other built i k v rs (λ e. omega (arith, less, e))) ∙ there)
    by (inr more) =
        let same : k ≡ i = omega arith in
        let is : rs ≡ v = sym there ∙ ap (λ z. get_or (set built i v) z rs) same ∙ get_or-set_same built i v rs lt' in
        subst (λ z. P o z) (sym is) (subst (λ z. P z v) (sym (same_at sides i k one o same low here at)) holds)

-- one more has its copies
pub set_copied : (sides : List PlannedNet) (was built : List (List Ref)) (i r : ℕ) (one : PlannedNet) (refs v : List Ref) → i < length sides → i < length built → i < length was → get_or sides i one ≡ one → get_or was i refs ≡ refs →
    v ≡ copied_all refs (plan_copies one.net one.net.gates r) →
    ((k : ℕ) (o : PlannedNet) (rs : List Ref) → k < i → get_or sides k o ≡ o → get_or was k rs ≡ rs → get_or built k [] ≡ copied_all rs (plan_copies o.net o.net.gates r)) →
    (k : ℕ) (o : PlannedNet) (rs : List Ref) → k < i + 1 → get_or sides k o ≡ o → get_or was k rs ≡ rs → get_or (set built i v) k [] ≡ copied_all rs (plan_copies o.net o.net.gates r)
set_copied sides was built i r one refs v low lt' lt'' here is copied earlier k o rs lt at there = by (lt_or_le k i)
  where
    by : (k < i) ⊎ (i ≤ k) → get_or (set built i v) k [] ≡ copied_all rs (plan_copies o.net o.net.gates r)
    by (inl less) = get_or-set_other built i k v [] (λ e. omega (arith, less, e)) ∙ earlier k o rs less at there
    by (inr more) =
        let same : k ≡ i = omega arith in
        ap (λ z. get_or (set built i v) z []) same ∙ get_or-set_same built i v [] lt' ∙ copied
        ∙ ap (λ z. copied_all z (plan_copies one.net one.net.gates r)) (sym (same_at was i k refs rs same lt'' is there))
        ∙ ap (λ (z : PlannedNet). copied_all rs (plan_copies z.net z.net.gates r)) (sym (same_at sides i k one o same low here at))

-- what an index reads is in the list
pub at_place : (xs : List Ref) (i : ℕ) (v : Ref) → i < length xs → v ≡ get_or xs i v → slice_get xs i ≡ Some v
at_place [] i v lt e = absurd (omega arith)
at_place (x ∷ xs) zero v lt e = ap (λ z. Some z) (sym e)
at_place (x ∷ xs) (suc i) v lt e = at_place xs i v (omega arith) e

-- ---- entries

abbrev pub own : PlannedNet → List Ref → ℕ → ℕ → List Entry
own one refs r j = map (entry_of refs) (plan_steps one.net one.net.gates r j)

tail_each : (P : PlannedNet → List Ref → Type 0) (one : PlannedNet) (sides : List PlannedNet) (refs : List Ref) (built : List (List Ref)) → ForEachNetlist P (one ∷ sides) (refs ∷ built) → ForEachNetlist P sides built
tail_each P one sides refs built h = ((let n = h.0 in omega arith), λ k o rs lt a b. h.1 (suc k) o rs (omega arith) a b)

-- what holds of the entries of each netlist holds of all
pub asked_holds : (P : Entry → Type 0) (r j : ℕ) (sides : List PlannedNet) (built : List (List Ref)) → ForEachNetlist (λ one refs. (e : Entry) → Contains (own one refs r j) e → P e) sides built → (e : Entry) → Contains (asked sides built r j) e → P e
asked_holds P r j [] built h e (k, lt, at) = absurd (omega arith)
asked_holds P r j (one ∷ sides) [] h e c = absurd (let n = h.0 in omega arith)
asked_holds P r j (one ∷ sides) (refs ∷ built) h e c =
    elim (Contains-append_cases (own one refs r j) (asked sides built r j) e c) [
      | inl here ↦ h.1 0 one refs (omega arith) refl refl e here
      | inr rest ↦ asked_holds P r j sides built (tail_each (λ o rs. (x : Entry) → Contains (own o rs r j) x → P x) one sides refs built h) e rest
    ]

-- the entries of one netlist are among all
pub asked_has : (r j : ℕ) (sides : List PlannedNet) (built : List (List Ref)) (k : ℕ) (one : PlannedNet) (refs : List Ref) → length built ≡ length sides → k < length sides → get_or sides k one ≡ one → get_or built k refs ≡ refs →
    (e : Entry) → Contains (own one refs r j) e → Contains (asked sides built r j) e
asked_has r j [] built k one refs n lt at there e c = absurd (omega (arith, lt))
asked_has r j (o ∷ sides) [] k one refs n lt at there e c = absurd (omega (arith, n))
asked_has r j (o ∷ sides) (rs ∷ built) zero one refs n lt at there e c =
    Contains-append_left (own o rs r j) (asked sides built r j) e
    (subst (λ (z : PlannedNet). Contains (own z rs r j) e) (sym at) (subst (λ z. Contains (own one z r j) e) (sym there) c))
asked_has r j (o ∷ sides) (rs ∷ built) (suc k) one refs n lt at there e c =
    Contains-append_right (own o rs r j) (asked sides built r j) e (asked_has r j sides built k one refs (omega (arith, n)) (omega (arith, lt)) at there e c)

module _ (sides : List PlannedNet) (built : List (List Ref)) (i : ℕ) (one : PlannedNet) (refs : List Ref) (r j : ℕ) (lt : i < length sides) (lt' : i < length built) (here : get_or sides i one ≡ one) (there : get_or built i refs ≡ refs) where
  more : List Entry
  more = asked (drop (i + 1) sides) (drop (i + 1) built) r j

  -- the entries of a netlist and of those after it
  asked_next : asked (drop i sides) (drop i built) r j ≡ own one refs r j ++ asked (drop (i + 1) sides) (drop (i + 1) built) r j
  asked_next =
      ap (λ ss. asked ss (drop i built) r j) (drop_more sides i one lt ∙ ap (λ z. z ∷ drop (i + 1) sides) here)
      ∙ ap (λ bs. asked (one ∷ drop (i + 1) sides) bs r j) (drop_more built i refs lt' ∙ ap (λ z. z ∷ drop (i + 1) built) there)

  pub entries_next : (entries new whole : List Entry) → entries ++ asked (drop i sides) (drop i built) r j ≡ whole → new ≡ entries ++ own one refs r j → new ++ asked (drop (i + 1) sides) (drop (i + 1) built) r j ≡ whole
  entries_next entries new whole done added =
      ap (λ z. z ++ asked (drop (i + 1) sides) (drop (i + 1) built) r j) added ∙ append_assoc entries (own one refs r j) (asked (drop (i + 1) sides) (drop (i + 1) built) r j)
      ∙ ap (λ z. entries ++ z) (sym asked_next) ∙ done

  module _ (S T : Nodes) (rest : List Ref) (h : AnswersEach S (asked (drop i sides) (drop i built) r j) T rest) (steps : List Step) (are : steps ≡ plan_steps one.net one.net.gates r j) where
    split : AnswersEach S (own one refs r j ++ asked (drop (i + 1) sides) (drop (i + 1) built) r j) T rest
    split = subst (λ z. AnswersEach S z T rest) asked_next h

    count : length (own one refs r j) ≡ length steps
    count = length-map (plan_steps one.net one.net.gates r j) (entry_of refs) ∙ sym (ap length are)

    -- there are answers for all steps of the netlist
    pub answers_long : length steps ≤ length rest
    answers_long =
        let all = AllZip-long (λ e r. IsDiagram T r (entry_value S e)) (own one refs r j ++ asked (drop (i + 1) sides) (drop (i + 1) built) r j) rest split in
        let parts = length-append (own one refs r j) (asked (drop (i + 1) sides) (drop (i + 1) built) r j) in
        let n = count in
        omega arith

    pub answers_own : (front : List Ref) → front ≡ take (length steps) rest → AnswersEach S (map (entry_of refs) steps) T front
    answers_own front f =
        subst (λ ss. AnswersEach S (map (entry_of refs) ss) T front) (sym are)
        (subst (λ z. AnswersEach S (own one refs r j) T z) (ap (λ n. take n rest) count ∙ sym f)
        (zip_parts (λ e r. IsDiagram T r (entry_value S e)) (own one refs r j) (asked (drop (i + 1) sides) (drop (i + 1) built) r j) rest split).0)

    pub answers_rest : (back : List Ref) → back ≡ drop (length steps) rest → AnswersEach S (asked (drop (i + 1) sides) (drop (i + 1) built) r j) T back
    answers_rest back f =
        subst (λ z. AnswersEach S (asked (drop (i + 1) sides) (drop (i + 1) built) r j) T z) (ap (λ n. drop n rest) count ∙ sym f)
        (zip_parts (λ e r. IsDiagram T r (entry_value S e)) (own one refs r j) (asked (drop (i + 1) sides) (drop (i + 1) built) r j) rest split).1

-- the entries of all netlists
pub entries_all : (sides : List PlannedNet) (built : List (List Ref)) (i r j : ℕ) (entries whole : List Entry) → length sides ≤ i → entries ++ asked (drop i sides) (drop i built) r j ≡ whole → entries ≡ whole
entries_all sides built i r j entries whole le done =
    sym (append-nil entries) ∙ ap (λ z. entries ++ z) (sym (ap (λ ss. asked ss (drop i built) r j) (drop_all sides i le))) ∙ done

-- ---- netlists with their levels

-- a netlist with its levels is at its place
pub levelled_at : (sides : List PlannedNet) (all : List Levelled) → map levelled_of sides ≡ all → (k : ℕ) (l : Levelled) → k < length all → get_or all k l ≡ l →
    (one : PlannedNet) × (k < length sides) × (get_or sides k one ≡ one) × (levelled_of one ≡ l)
levelled_at sides all e k l lt at =
    let n : length sides ≡ length all = sym (length-map sides levelled_of) ∙ ap length e in
    let x = element sides k (omega arith) in
    (x.0, omega arith, x.1, ap levelled_of (sym x.1) ∙ sym (get_or-map levelled_of sides k x.0) ∙ ap (λ (z : List Levelled). get_or z k (levelled_of x.0)) e ∙ get_or_default all k (levelled_of x.0) l lt ∙ at)
