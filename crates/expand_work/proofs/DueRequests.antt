-- Each request becomes due from its owner.
use Rattle.std.proofs.Common.{◌≡◌, ℕ, ◌+◌, ◌%◌, ◌<◌, Bool, true, false, cond, eqb, List, [], ◌∷◌, ◌++◌, length, get_or, filter, take, refl, sym, ap, ◌∙◌, arith, append-nil, append_assoc, eqb-true, eq-eqb}
use Rattle.std.proofs.lemmas.List.{map-append, take_more, length-take}
use Rattle.std.proofs.lemmas.List.Elements.{filter-append}
use Rattle.dd_store.specs.Nodes.{Nodes}
use Rattle.req_table.specs.declared.Key.{Key}
use Rattle.req_table.specs.declared.Child.{Child}
use Rattle.req_table.specs.declared.Child.TheVariants.{Done, Ask}
use Rattle.req_table.specs.declared.Record.{Record}
use Rattle.req_table.specs.Keys.{level_of, owner, IsChildIn}
use Rattle.req_table.specs.Settled.{asked, asked_by, round_robin_from}
use Rattle.expand_work.specs.Due.{asked_of, due_by}
use Rattle.expand_work.specs.Work.{at, owned_by, with_levels, keys_in}
use Rattle.expand_work.proofs.Counting.{asked_by-append}

-- ---- requests with their levels
pub one_due : (S : Nodes) (n k l : ℕ) (x : Key) → l ≡ level_of S x → filter (asked_of n k) ((l, x) ∷ []) ≡ with_levels S (filter (owned_by n k) (x ∷ []))
one_due S n k l x e = elim (eqb (owner n x) k) as (λ b. cond b ((l, x) ∷ []) [] ≡ with_levels S (cond b (x ∷ []) [])) [ true ↦ ap (λ v. (v, x) ∷ []) e | false ↦ refl ]

pub due_levels : (S : Nodes) (n k : ℕ) (c : Child) → IsChildIn S c → filter (asked_of n k) (due_by c) ≡ with_levels S (filter (owned_by n k) (asked c))
due_levels S n k (Done r) h = refl
due_levels S n k (Ask l x m) h = one_due S n k l x h.1

pub levels-append : (S : Nodes) (xs ys : List Key) → with_levels S xs ++ with_levels S ys ≡ with_levels S (xs ++ ys)
levels-append S xs ys = sym (map-append (λ (y : Key). (level_of S y, y)) xs ys)

pub keys_levels : (S : Nodes) (keys : List Key) → keys_in (with_levels S keys) ≡ keys
keys_levels S [] = refl
keys_levels S (x ∷ xs) = ap (λ l. x ∷ l) (keys_levels S xs)

-- one more record
pub asks_more : (p : Key → Bool) (rs : List Record) (r : Record) (xs : List Key) → xs ≡ filter p (asked_by rs)
    → (xs ++ filter p (asked r.low)) ++ filter p (asked r.high) ≡ filter p (asked_by (rs ++ r ∷ []))
asks_more p rs r xs e =
    append_assoc xs (filter p (asked r.low)) (filter p (asked r.high))
    ∙ ap (λ l. l ++ (filter p (asked r.low) ++ filter p (asked r.high))) e
    ∙ ap (λ l. filter p (asked_by rs) ++ l) (sym (filter-append p (asked r.low) (asked r.high)))
    ∙ sym (filter-append p (asked_by rs) (asked r.low ++ asked r.high))
    ∙ ap (filter p) (sym (asked_by-append rs (r ∷ []) ∙ ap (λ l. asked_by rs ++ l) (append-nil (asked r.low ++ asked r.high))))

-- one more root
pub dealt-append : (m s i : ℕ) (xs : List Key) (x : Key) → round_robin_from m s i (xs ++ x ∷ []) ≡ round_robin_from m s i xs ++ cond (eqb ((i + length xs) % m) s) (x ∷ []) []
dealt-append m s i [] x = let z : i + 0 ≡ i = omega arith in ap (λ n. cond (eqb (n % m) s) (x ∷ []) []) (sym z)
dealt-append m s i (y ∷ xs) x =
    let z : (i + 1) + length xs ≡ i + length (y ∷ xs) = omega arith in
    let h : round_robin_from m s (i + 1) (xs ++ x ∷ []) ≡ round_robin_from m s (i + 1) xs ++ cond (eqb ((i + length (y ∷ xs)) % m) s) (x ∷ []) [] = dealt-append m s (i + 1) xs x ∙ ap (λ n. round_robin_from m s (i + 1) xs ++ cond (eqb (n % m) s) (x ∷ []) []) z in
    elim (eqb (i % m) s) as (λ b. cond b (y ∷ round_robin_from m s (i + 1) (xs ++ x ∷ [])) (round_robin_from m s (i + 1) (xs ++ x ∷ [])) ≡ cond b (y ∷ round_robin_from m s (i + 1) xs) (round_robin_from m s (i + 1) xs) ++ cond (eqb ((i + length (y ∷ xs)) % m) s) (x ∷ []) []) [
      | true ↦ ap (λ l. y ∷ l) h
      | false ↦ h
    ]

pub deal_more : (p : Key → Bool) (n s : ℕ) (roots : List Key) (i : ℕ) (x : Key) (xs ys : List Key) → i < length roots → x ≡ get_or roots i x → xs ≡ filter p (round_robin_from n s 0 (take i roots))
    → ys ≡ xs ++ filter p (cond (eqb (i % n) s) (x ∷ []) []) → ys ≡ filter p (round_robin_from n s 0 (take (i + 1) roots))
deal_more p n s roots i x xs ys l x-is e g =
    let z : 0 + length (take i roots) ≡ i = (let q = length-take i roots in omega (arith, q, l)) in
    g ∙ ap (λ m. m ++ filter p (cond (eqb (i % n) s) (x ∷ []) [])) e
    ∙ ap (λ k. filter p (round_robin_from n s 0 (take i roots)) ++ filter p (cond (eqb (i % n) s) (k ∷ []) [])) x-is
    ∙ sym (filter-append p (round_robin_from n s 0 (take i roots)) (cond (eqb (i % n) s) (get_or roots i x ∷ []) []))
    ∙ ap (λ m. filter p (round_robin_from n s 0 (take i roots) ++ cond (eqb (m % n) s) (get_or roots i x ∷ []) [])) (sym z)
    ∙ ap (filter p) (sym (ap (round_robin_from n s 0) (take_more roots i x l) ∙ dealt-append n s 0 (take i roots) (get_or roots i x)))

module _ (S : Nodes) (n s : ℕ) (roots : List Key) (i : ℕ) (x : Key) (xs ys zs : List (List (ℕ × Key))) (l : i < length roots) (x-is : x ≡ get_or roots i x)
    (h : (length xs ≡ n) × ((k : ℕ) → k < n → at xs k ≡ with_levels S (filter (owned_by n k) (round_robin_from n s 0 (take i roots))))) where
  pub deal_here : (v : ℕ) → v ≡ level_of S x → i % n ≡ s → length ys ≡ n → ((k : ℕ) → k < n → at ys k ≡ at xs k ++ filter (asked_of n k) ((v, x) ∷ [])) → zs ≡ ys
      → (length zs ≡ n) × ((k : ℕ) → k < n → at zs k ≡ with_levels S (filter (owned_by n k) (round_robin_from n s 0 (take (i + 1) roots))))
  deal_here v v-is q long g e = (
    ap (λ m. length m) e ∙ long,
    (λ k kb.
        let before = filter (owned_by n k) (round_robin_from n s 0 (take i roots)) in
        let here = filter (owned_by n k) (x ∷ []) in
        ap (λ m. at m k) e ∙ g k kb ∙ (λ j. h.1 k kb j ++ one_due S n k v x v-is j) ∙ levels-append S before here
        ∙ ap (with_levels S) (deal_more (owned_by n k) n s roots i x before (before ++ here) l x-is refl (ap (λ b. before ++ filter (owned_by n k) (cond b (x ∷ []) [])) (sym (eq-eqb (i % n) s q))))),
  )

  pub deal_past : (i % n ≡ s → ⊥) → zs ≡ xs → (length zs ≡ n) × ((k : ℕ) → k < n → at zs k ≡ with_levels S (filter (owned_by n k) (round_robin_from n s 0 (take (i + 1) roots))))
  deal_past q e = (
    ap (λ m. length m) e ∙ h.0,
    (λ k kb.
        let before = filter (owned_by n k) (round_robin_from n s 0 (take i roots)) in
        ap (λ m. at m k) e ∙ h.1 k kb
        ∙ ap (with_levels S) (deal_more (owned_by n k) n s roots i x before before l x-is refl
        (elim (eqb (i % n) s) as (λ b. eqb (i % n) s ≡ b → before ≡ before ++ filter (owned_by n k) (cond b (x ∷ []) [])) [
          | true ↦ λ t. absurd (q (eqb-true (i % n) s t))
          | false ↦ λ t. sym (append-nil before)
        ] refl))),
  )
