-- Pairs divided by the shards of their nodes.
use Rattle.std.proofs.Common.{◌≡◌, ◌≢◌, ◌<◌, ◌≤◌, ℕ, zero, suc, ◌⊎◌, inl, inr, List, [], ◌∷◌, ◌++◌, length, get_or, set, map, Vec, Global, refl, sym, ◌∙◌, ap, subst, arith, Contains, get_or-set_same, get_or-set_other}
use Rattle.std.proofs.lemmas.Bool.{cases_eq, cases_lt}
use Rattle.std.proofs.Math.ListN.{get_or-eq_default}
use Rattle.std.proofs.lemmas.List.{map-set, length-map}
use Rattle.std.proofs.lemmas.List.Elements.{Contains-push, Contains-push_cases, Contains-append_left}
use Rattle.dd_store.specs.Graph.{Pair}
use Rattle.dd_store.specs.Hashes.{shard_of_pair}
use Rattle.dd_store.specs.Growing.{IsIn}
use Rattle.dd_store.specs.Levels.{list_at}
use Rattle.dd_store.proofs.Places.{slice_get-push, slice_get-append, slice_get_cases-push}
use Rattle.dd_store.proofs.Storing.{small_shard}
use Rattle.dd_store.proofs.View.{same_ref}
use Rattle.reduce_up.specs.Sharing.{IsListed, AreDivided}

module _ (old new : ℕ → List Pair) (p : Pair) (l : IsListed old p new) where
  -- what is in a list stays in it
  stays : (s : ℕ) (q : Pair) → IsIn (old s) q → IsIn (new s) q
  stays s q w = elim (same_ref p.0 p.1) [
    | yes e ↦ subst (λ (ps : List Pair). IsIn ps q) (sym (l.equal e s)) w
    | no n ↦ elim (cases_eq s (shard_of_pair p.0 p.1)) [
      | inl at ↦ subst (λ (ps : List Pair). IsIn ps q) (sym (ap new at ∙ l.own n)) (subst (λ (z : ℕ). IsIn (old z ++ p ∷ []) q) at (w.0, slice_get-append (old s) (p ∷ []) w.0 q w.1))
      | inr off ↦ subst (λ (ps : List Pair). IsIn ps q) (sym (l.others s off)) w
    ]
  ]

  -- what a list has was in it before, or is the pair, if it is this shard's
  pub came : (s : ℕ) (q : Pair) → IsIn (new s) q → IsIn (old s) q ⊎ ((p.0 ≢ p.1) × (shard_of_pair p.0 p.1 ≡ s) × (p ≡ q))
  came s q w = elim (same_ref p.0 p.1) [
    | yes e ↦ inl (subst (λ (ps : List Pair). IsIn ps q) (l.equal e s) w)
    | no n ↦ elim (cases_eq s (shard_of_pair p.0 p.1)) [
      | inl at ↦
          let w' : IsIn (old s ++ p ∷ []) q = subst (λ (ps : List Pair). IsIn ps q) (ap new at ∙ l.own n ∙ ap (λ z. old z ++ p ∷ []) (sym at)) w in
          elim (slice_get_cases-push (old s) p w'.0 q w'.1) [ inl before ↦ inl (w'.0, before) | inr here ↦ inr (n, sym at, sym here.1) ]
      | inr off ↦ inl (subst (λ (ps : List Pair). IsIn ps q) (l.others s off) w)
    ]
  ]

  put : p.0 ≢ p.1 → IsIn (new (shard_of_pair p.0 p.1)) p
  put n = subst (λ (ps : List Pair). IsIn ps p) (sym (l.own n)) (length (old (shard_of_pair p.0 p.1)), slice_get-push (old (shard_of_pair p.0 p.1)) p)

  -- one more pair
  pub listed_more : (pairs : List Pair) → AreDivided pairs old → AreDivided (pairs ++ p ∷ []) new
  listed_more pairs d = record {
    all = λ q c n. elim (Contains-push_cases pairs p q c) [
      | inl before ↦ stays (shard_of_pair q.0 q.1) q (d.all q before n)
      | inr e ↦ subst (λ (z : Pair). z.0 ≢ z.1 → IsIn (new (shard_of_pair z.0 z.1)) z) e put n
    ];
    only = λ s q w. elim (came s q w) [
      | inl before ↦ let o = d.only s q before in (Contains-append_left pairs (p ∷ []) q o.0, o.1, o.2)
      | inr e ↦ subst (λ (z : Pair). Contains (pairs ++ p ∷ []) z × (z.0 ≢ z.1) × (shard_of_pair z.0 z.1 ≡ s)) e.2 (Contains-push pairs p, e.0, e.1)
    ];
  }

-- a push to the list of its shard
pub listed : (lists : List (Vec Pair Global)) (p : Pair) (v : Vec Pair Global) → length lists ≡ 16 → p.0 ≢ p.1 → v.items ≡ list_at lists (shard_of_pair p.0 p.1) ++ p ∷ [] →
    IsListed (list_at lists) p (list_at (set lists (shard_of_pair p.0 p.1) v))
listed lists p v sixteen n e = record {
  equal = λ same. absurd (n same);
  own = λ different. ap (λ z. get_or z s []) moved ∙ get_or-set_same (map (λ (v : Vec Pair Global). v.items) lists) s v.items [] (let small = small_shard p.0 p.1 in let long = length-map lists (λ (v : Vec Pair Global). v.items) in omega arith) ∙ e;
  others = λ t off. ap (λ z. get_or z t []) moved ∙ get_or-set_other (map (λ (v : Vec Pair Global). v.items) lists) s t v.items [] off;
}
  where
    s : ℕ
    s = shard_of_pair p.0 p.1

    moved : map (λ (v : Vec Pair Global). v.items) (set lists s v) ≡ set (map (λ (v : Vec Pair Global). v.items) lists) s v.items
    moved = map-set (λ (v : Vec Pair Global). v.items) lists s v

-- one more empty list
pub empty_more : (lists : List (Vec Pair Global)) (v : Vec Pair Global) → ((s : ℕ) → length (list_at lists s) ≡ 0) → length v.items ≡ 0 → (s : ℕ) → length (list_at (lists ++ v ∷ []) s) ≡ 0
empty_more [] v h e zero = e
empty_more [] v h e (suc s) = refl
empty_more (w ∷ ws) v h e zero = h 0
empty_more (w ∷ ws) v h e (suc s) = empty_more ws v (λ t. h (suc t)) e s

-- lists that are all empty
pub all_emptied : (lists : List (Vec Pair Global)) (i n : ℕ) → (length lists ≡ n) × ((k : ℕ) → k < i → list_at lists k ≡ []) → n ≤ i → (s : ℕ) → length (list_at lists s) ≡ 0
all_emptied lists i n h over s = elim (cases_lt s n) [
  | inl l ↦ ap (λ (z : List Pair). length z) (h.1 s (omega (arith, l, over)))
  | inr l ↦ ap (λ (z : List Pair). length z) (get_or-eq_default (map (λ (v : Vec Pair Global). v.items) lists) [] (let a = length-map lists (λ (v : Vec Pair Global). v.items) in let b = h.0 in omega (arith, a, b, l)))
]
