-- A part of a level that is read and divided by shard.
use Rattle.std.proofs.Common.{◌≡◌, ◌≢◌, ℕ, ◌+◌, ◌≤◌, inl, inr, List, [], ◌∷◌, ◌++◌, length, take, slice_get, Some, All, refl, sym, ap, ◌∙◌, subst, arith, length-append}
use Rattle.std.specs.List.{AllZip}
use Rattle.std.specs.declared.vec.Vec.{Vec}
use Rattle.std.specs.declared.alloc.Global.{Global}
use Rattle.std.proofs.lemmas.List.{take_more, take_all, map-append, length-map}
use Rattle.std.proofs.lemmas.List.Elements.{All-push}
use Rattle.std.proofs.lemmas.Option.{slice_get_within, get_or_from_slice_get}
use mathlib.Core.Logic.{dite}
use native.Mathlib.Decide.{ℕ_discrete}
use Rattle.dd_store.specs.declared.reference.Ref.{Ref}
use Rattle.dd_store.specs.Graph.{Pair}
use Rattle.dd_store.specs.Hashes.{shard_of_pair}
use Rattle.dd_store.specs.Growing.{IsIn}
use Rattle.dd_store.specs.Levels.{list_at}
use Rattle.dd_store.proofs.Storing.{small_shard}
use Rattle.dd_store.proofs.View.{same_ref}
use Rattle.dd_store.proofs.Noting.{zip_push}
use Rattle.req_table.specs.declared.packed_child.PackedChild.{PackedChild}
use Rattle.reduce_up.specs.declared.division.PairsByShard.{PairsByShard}
use Rattle.reduce_up.specs.declared.division.Origins.{Origins}
use Rattle.reduce_up.specs.Division.{chosen, twice, IsDivided, IsPut, AreOrigins}
use Rattle.reduce_up.specs.Steps.{BothResolveTo, IsPartRead}
use Rattle.reduce_up.proofs.Dividing.{came}
use Rattle.reduce_up.proofs.Parting.{chosen-own, chosen-other, chosen-many}

no_items : (xs : List Pair) → length xs ≡ 0 → xs ≡ []
no_items [] e = refl
no_items (x ∷ xs) e = absurd (omega (arith, e))

-- nothing was read
divided_none : (origins : Origins) (lists : ℕ → List Pair) → origins.numbers.items ≡ [] → origins.equal.items ≡ [] → ((s : ℕ) → length (lists s) ≡ 0) → IsDivided [] origins lists
divided_none origins lists a b e = record {
  long = ap (λ z. length z) a;
  within = subst (λ z. All (λ h. h ≤ 16) z) (sym a) (λ k d l. absurd (omega (arith, l)));
  differ = λ s l. ap (λ z. chosen {X = Pair} s z []) a ∙ sym (no_items (lists s) (e s));
  same = ap (λ z. chosen {X = Pair} 16 z []) a ∙ sym (ap twice b);
  own = λ s p w. absurd (let lt = slice_get_within (lists s) w.0 p w.1 in let z = e s in omega (arith, lt, z));
}

-- one more pair
module _ (pairs : List Pair) (p : Pair) (old new : PairsByShard) (o : IsDivided pairs old.origins (list_at old.lists.items)) (put : IsPut old p new) where
  abbrev hs : List ℕ
  hs = old.origins.numbers.items

  abbrev was : ℕ → List Pair
  was = list_at old.lists.items

  abbrev now : ℕ → List Pair
  now = list_at new.lists.items

  more-long : (h : ℕ) → length (hs ++ h ∷ []) ≡ length (pairs ++ p ∷ [])
  more-long h = let a = length-append hs (h ∷ []) in let b = length-append pairs (p ∷ []) in let c = o.long in omega (arith, a, b, c)

  -- what a list has
  owned : (s : ℕ) (q : Pair) → IsIn (now s) q → (q.0 ≢ q.1) × (shard_of_pair q.0 q.1 ≡ s)
  owned s q w = elim (came was now p put.listed s q w) [
    | inl before ↦ o.own s q before
    | inr e ↦ subst (λ (z : Pair). (z.0 ≢ z.1) × (shard_of_pair z.0 z.1 ≡ s)) e.2 (e.0, e.1)
  ]

  same_twice : p.0 ≡ p.1 → twice old.origins.equal.items ++ p ∷ [] ≡ twice (old.origins.equal.items ++ p.0 ∷ [])
  same_twice e =
      let both : p ≡ (p.0, p.0) = ap (λ (z : Ref). (p.0, z)) (sym e) in
      ap (λ z. twice old.origins.equal.items ++ z ∷ []) both ∙ sym (map-append (λ (r : Ref). (r, r)) old.origins.equal.items (p.0 ∷ []))

  equal_more : p.0 ≡ p.1 → IsDivided (pairs ++ p ∷ []) new.origins (list_at new.lists.items)
  equal_more e =
      let n = (put.same e).0 in
      let q = (put.same e).1 in
      record {
        long = ap (λ z. length z) n ∙ more-long 16;
        within = subst (λ z. All (λ h. h ≤ 16) z) (sym n) (All-push (λ h. h ≤ 16) hs 16 o.within (omega arith));
        differ = λ s l. ap (λ z. chosen s z (pairs ++ p ∷ [])) n ∙ chosen-other s hs pairs 16 p o.long (λ c. absurd (omega (arith, l, c))) ∙ o.differ s l ∙ sym (put.listed.equal e s);
        same = ap (λ z. chosen 16 z (pairs ++ p ∷ [])) n ∙ chosen-own hs pairs 16 p o.long ∙ ap (λ z. z ++ p ∷ []) o.same ∙ same_twice e ∙ ap twice (sym q);
        own = owned;
      }

  differ_more : p.0 ≢ p.1 → IsDivided (pairs ++ p ∷ []) new.origins (list_at new.lists.items)
  differ_more m =
      let h = shard_of_pair p.0 p.1 in
      let small = small_shard p.0 p.1 in
      let n = (put.differ m).0 in
      let q = (put.differ m).1 in
      record {
        long = ap (λ z. length z) n ∙ more-long h;
        within = subst (λ z. All (λ k. k ≤ 16) z) (sym n) (All-push (λ k. k ≤ 16) hs h o.within (omega (arith, small)));
        differ = λ s l. ap (λ z. chosen s z (pairs ++ p ∷ [])) n ∙ dite (ℕ_discrete h s)
            (λ e. subst (λ z. chosen z (hs ++ h ∷ []) (pairs ++ p ∷ []) ≡ now z) e (chosen-own hs pairs h p o.long ∙ ap (λ z. z ++ p ∷ []) (o.differ h small) ∙ sym (put.listed.own m)))
            (λ off. chosen-other s hs pairs h p o.long off ∙ o.differ s l ∙ sym (put.listed.others s (λ c. off (sym c))));
        same = ap (λ z. chosen 16 z (pairs ++ p ∷ [])) n ∙ chosen-other 16 hs pairs h p o.long (λ c. absurd (omega (arith, small, c))) ∙ o.same ∙ ap twice (sym q);
        own = owned;
      }

  divided_more : IsDivided (pairs ++ p ∷ []) new.origins (list_at new.lists.items)
  divided_more = elim (same_ref p.0 p.1) [ yes e ↦ equal_more e | no n ↦ differ_more n ]

-- ---- a part that is read, from its first children on
pub read_none : (A : List (List Ref)) (d : PairsByShard) → length d.lists.items ≡ 16 → ((s : ℕ) → length (list_at d.lists.items s) ≡ 0) → d.origins.numbers.items ≡ [] → d.origins.equal.items ≡ [] → IsPartRead A [] d.lists d.origins
read_none A d sixteen empty a b = record { pairs = []; read = tt; sixteen = sixteen; divided = divided_none d.origins (list_at d.lists.items) a b empty }

pub read_more : (A : List (List Ref)) (children : List (PackedChild × PackedChild)) (i : ℕ) (x : PackedChild × PackedChild) (p : Pair) (old new : PairsByShard) → slice_get children i ≡ Some x → BothResolveTo A x p → IsPartRead A (take i children) old.lists old.origins → length new.lists.items ≡ 16 → IsPut old p new
    → IsPartRead A (take (i + 1) children) new.lists new.origins
read_more A children i x p old new at of o sixteen put = record {
  pairs = o.pairs ++ p ∷ [];
  read = subst (λ z. AllZip (BothResolveTo A) z (o.pairs ++ p ∷ [])) (sym (take_more children i x (slice_get_within children i x at) ∙ ap (λ z. take i children ++ z ∷ []) (get_or_from_slice_get children i x x at)))
      (zip_push (BothResolveTo A) (take i children) o.pairs x p o.read of);
  sixteen = sixteen;
  divided = divided_more o.pairs p old new o.divided put;
}

pub read_whole : (A : List (List Ref)) (children : List (PackedChild × PackedChild)) (i : ℕ) (lists : Vec (Vec Pair Global) Global) (origins : Origins) → length children ≤ i → IsPartRead A (take i children) lists origins → IsPartRead A children lists origins
read_whole A children i lists origins l r = subst (λ z. IsPartRead A z lists origins) (take_all i children l) r

-- how many there are of each origin
pub origins_of : (pairs : List Pair) (origins : Origins) (lists : ℕ → List Pair) → IsDivided pairs origins lists → AreOrigins origins lists
origins_of pairs origins lists d = record {
  within = d.within;
  many = λ s l. chosen-many s origins.numbers.items origins.numbers.items pairs refl (sym d.long) ∙ ap (λ z. length z) (d.differ s l);
  same = chosen-many 16 origins.numbers.items origins.numbers.items pairs refl (sym d.long) ∙ ap (λ z. length z) d.same ∙ length-map origins.equal.items (λ (r : Ref). (r, r));
}
