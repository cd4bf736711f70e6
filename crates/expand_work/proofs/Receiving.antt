-- A worker takes one more item; what it knows holds of this item too.
use Rattle.std.proofs.Common.{◌≡◌, ℕ, ◌+◌, ◌<◌, true, false, cond, eqb, List, [], ◌∷◌, ◌++◌, get_or, set, refl, sym, ap, ◌∙◌, subst, arith, append-nil, inl, inr, eqb-true, eq-eqb, get_or-set_same, get_or-set_other}
use Rattle.std.proofs.lemmas.List.{length-set}
use Rattle.req_table.specs.declared.Key.{Key}
use Rattle.req_table.specs.declared.Item.{Item}
use Rattle.req_table.specs.declared.Item.TheVariants.{Ask, End}
use Rattle.req_table.specs.Wave.{Scope}
use Rattle.req_table.specs.Lanes.{sender_of, sent_by, ends, asks_at, IsFair, IsFairFrom, HasSenders, IsClosed}
use Rattle.req_table.specs.Settled.{Admits, IsDistinctOf}
use Rattle.req_table.proofs.Lists.{has_of, contains_of, each, all_of, Has-append_left, Has-append_cases}
use Rattle.req_table.proofs.Admits.{Admits-append}
use Rattle.req_table.proofs.Fair.{fair_front, fair_back, sent_by-append, sent_by-self, asks_at-append, ends-append}
use Rattle.expand_work.specs.Counts.{Counts}
use Rattle.expand_work.specs.Work.{at, IsReceived, StaysClosed}

pub sent_by-other : (s : ℕ) (x : Item) → (sender_of x ≡ s → ⊥) → sent_by s (x ∷ []) ≡ []
sent_by-other s x n = elim (eqb (sender_of x) s) as (λ b. eqb (sender_of x) s ≡ b → cond b (x ∷ []) [] ≡ []) [ true ↦ λ t. absurd (n (eqb-true (sender_of x) s t)) | false ↦ λ t. refl ] refl

-- the new item is the next of its sender
module _ (c : Scope) (taken : List Item) (x : Item) (sent back : List Item) (sb : sender_of x < c.workers) (f : IsFair c sent) (e : sent ≡ sent_by (sender_of x) (taken ++ x ∷ []) ++ back) where
  pub fair_next : IsFair c (sent_by (sender_of x) (taken ++ x ∷ []))
  fair_next = fair_front c 0 (sent_by (sender_of x) (taken ++ x ∷ [])) back (subst (IsFair c) e f)

  pub fair_item : IsFairFrom c (ends (sent_by (sender_of x) taken)) (x ∷ [])
  fair_item =
      let g = subst (IsFair c) (sent_by-append (sender_of x) taken (x ∷ []) ∙ ap (λ l. sent_by (sender_of x) taken ++ l) (sent_by-self x [])) fair_next in
      let z : 0 + ends (sent_by (sender_of x) taken) ≡ ends (sent_by (sender_of x) taken) = omega arith in
      subst (λ n. IsFairFrom c n (x ∷ [])) z (fair_back c 0 (sent_by (sender_of x) taken) (x ∷ []) g)

  pub fair_all : ((t : ℕ) → t < c.workers → IsFair c (sent_by t taken)) → (t : ℕ) → t < c.workers → IsFair c (sent_by t (taken ++ x ∷ []))
  fair_all h t tb =
      elim (eqb (sender_of x) t) as (λ b. eqb (sender_of x) t ≡ b → IsFair c (sent_by t (taken ++ x ∷ []))) [
        | true ↦ λ q. subst (λ n. IsFair c (sent_by n (taken ++ x ∷ []))) (eqb-true (sender_of x) t q) fair_next
        | false ↦ λ q. subst (IsFair c) (sym (sent_by-append t taken (x ∷ []) ∙ ap (λ l. sent_by t taken ++ l) (sent_by-other t x (λ i. let z = sym q ∙ eq-eqb (sender_of x) t i in cc)) ∙ append-nil (sent_by t taken))) (h t tb)
      ] refl

  pub senders_all : HasSenders c taken → HasSenders c (taken ++ x ∷ [])
  senders_all h = all_of (λ i. sender_of i < c.workers) (taken ++ x ∷ []) (λ i m. elim (Has-append_cases taken (x ∷ []) i m) [ inl a ↦ each (λ j. sender_of j < c.workers) taken i h a | inr b ↦ elim b [ inl q ↦ subst (λ j. sender_of j < c.workers) q sb | inr n ↦ absurd n ] ])

pub closed_more : (c : Scope) (u : ℕ) (taken more : List Item) → IsClosed c u taken → IsClosed c u (taken ++ more)
closed_more c u taken more h s sb = contains_of (taken ++ more) (End s u) (Has-append_left taken more (End s u) (has_of taken (End s u) (h s sb)))

-- an End
pub hear_end : (c : Scope) (taken : List Item) (s l : ℕ) (sent back : List Item) (clock : Counts) (tables : List (List Key)) → s < c.workers → IsFair c sent → sent ≡ sent_by s (taken ++ End s l ∷ []) ++ back
    → IsReceived c taken clock tables → IsReceived c (taken ++ End s l ∷ []) (record clock { ended = set clock.ended s (l + 1) }) tables
hear_end c taken s l sent back clock tables sb f e h =
    let item = fair_item c taken (End s l) sent back sb f e in
    record {
      fair = fair_all c taken (End s l) sent back sb f e h.fair;
      senders = senders_all c taken (End s l) sent back sb f e h.senders;
      long = length-set clock.ended s (l + 1) ∙ h.long;
      levels = h.levels;
      many = h.many;
      counted = λ t tb. elim (eqb s t) as (λ b. eqb s t ≡ b → get_or (set clock.ended s (l + 1)) t 0 ≡ ends (sent_by t (taken ++ End s l ∷ []))) [
        | true ↦ λ q. (
            let s-is = eqb-true s t q in
            subst (λ n. get_or (set clock.ended s (l + 1)) n 0 ≡ ends (sent_by n (taken ++ End s l ∷ []))) s-is
            (get_or-set_same clock.ended s (l + 1) 0 (let z = h.long in omega (arith, z, sb))
            ∙ (let a = item.0.0 in let b = ap ends (sent_by-append s taken (End s l ∷ []) ∙ ap (λ m. sent_by s taken ++ m) (sent_by-self (End s l) [])) ∙ ends-append (sent_by s taken) (End s l ∷ []) in omega (arith, a, b))))
        | false ↦ λ q. (
            let apart : s ≡ t → ⊥ = λ i. (let z = sym q ∙ eq-eqb s t i in cc) in
            get_or-set_other clock.ended s t (l + 1) 0 (λ i. apart (sym i)) ∙ h.counted t tb
            ∙ sym (ap ends (sent_by-append t taken (End s l ∷ []) ∙ ap (λ m. sent_by t taken ++ m) (sent_by-other t (End s l) apart) ∙ append-nil (sent_by t taken))))
      ] refl;
      tables_match = λ u ub. subst (λ m. IsDistinctOf m (at tables u)) (sym (asks_at-append u taken (End s l ∷ []) ∙ append-nil (asks_at u taken))) (h.tables_match u ub);
    }

-- an Ask
pub hear_ask : (c : Scope) (taken : List Item) (s l : ℕ) (x : Key) (sent back : List Item) (clock : Counts) (tables : List (List Key)) (keys : List Key) → s < c.workers → IsFair c sent → sent ≡ sent_by s (taken ++ Ask s l x ∷ []) ++ back
    → Admits (at tables l) (x ∷ []) keys → IsReceived c taken clock tables → IsReceived c (taken ++ Ask s l x ∷ []) clock (set tables l keys)
hear_ask c taken s l x sent back clock tables keys sb f e ad h =
    let item = fair_item c taken (Ask s l x) sent back sb f e in
    let lb : l < c.levels = item.0.1 in
    record {
      fair = fair_all c taken (Ask s l x) sent back sb f e h.fair;
      senders = senders_all c taken (Ask s l x) sent back sb f e h.senders;
      long = h.long;
      levels = h.levels;
      many = length-set tables l keys ∙ h.many;
      counted = λ t tb. h.counted t tb ∙ (elim (eqb s t) as (λ b. eqb s t ≡ b → ends (sent_by t taken) ≡ ends (sent_by t (taken ++ Ask s l x ∷ []))) [
        | true ↦ λ q. subst (λ n. ends (sent_by n taken) ≡ ends (sent_by n (taken ++ Ask s l x ∷ []))) (eqb-true s t q)
            (let b = ap ends (sent_by-append s taken (Ask s l x ∷ []) ∙ ap (λ m. sent_by s taken ++ m) (sent_by-self (Ask s l x) [])) ∙ ends-append (sent_by s taken) (Ask s l x ∷ []) in omega (arith, b))
        | false ↦ λ q. sym (ap ends (sent_by-append t taken (Ask s l x ∷ []) ∙ ap (λ m. sent_by t taken ++ m) (sent_by-other t (Ask s l x) (λ i. let z = sym q ∙ eq-eqb s t i in cc)) ∙ append-nil (sent_by t taken)))
      ] refl);
      tables_match = λ u ub. elim (eqb l u) as (λ b. eqb l u ≡ b → IsDistinctOf (asks_at u (taken ++ Ask s l x ∷ [])) (at (set tables l keys) u)) [
        | true ↦ λ q. subst (λ n. IsDistinctOf (asks_at n (taken ++ Ask s l x ∷ [])) (at (set tables l keys) n)) (eqb-true l u q)
            (subst (IsDistinctOf (asks_at l (taken ++ Ask s l x ∷ []))) (sym (get_or-set_same tables l keys [] (let z = h.many in omega (arith, z, lb))))
            (subst (λ m. IsDistinctOf m keys) (sym (asks_at-append l taken (Ask s l x ∷ []) ∙ ap (λ b. asks_at l taken ++ cond b (x ∷ []) []) (eq-eqb l l refl)))
            (Admits-append [] (asks_at l taken) (at tables l) (x ∷ []) keys (h.tables_match l lb) ad)))
        | false ↦ λ q. (
            let apart : u ≡ l → ⊥ = λ i. (let z = sym q ∙ eq-eqb l u (sym i) in cc) in
            subst (IsDistinctOf (asks_at u (taken ++ Ask s l x ∷ []))) (sym (get_or-set_other tables l u keys [] apart))
            (subst (λ m. IsDistinctOf m (at tables u)) (sym (asks_at-append u taken (Ask s l x ∷ []) ∙ ap (λ b. asks_at u taken ++ cond b (x ∷ []) []) q ∙ append-nil (asks_at u taken))) (h.tables_match u ub)))
      ] refl;
    }

pub end_stays : (c : Scope) (taken : List Item) (s l : ℕ) (tables : List (List Key)) → StaysClosed c taken (taken ++ End s l ∷ []) tables tables
end_stays c taken s l tables = record { closed = λ u h. closed_more c u taken (End s l ∷ []) h; same = λ u h. refl }

pub stays_on : (c : Scope) (xs ys zs : List Item) (us vs ws : List (List Key)) → StaysClosed c xs ys us vs → StaysClosed c ys zs vs ws → StaysClosed c xs zs us ws
stays_on c xs ys zs us vs ws h i = record { closed = λ u q. i.closed u (h.closed u q); same = λ u q. i.same u (h.closed u q) ∙ h.same u q }

pub stays_same : (c : Scope) (xs : List Item) (us : List (List Key)) → StaysClosed c xs xs us us
stays_same c xs us = record { closed = λ u q. q; same = λ u q. refl }
