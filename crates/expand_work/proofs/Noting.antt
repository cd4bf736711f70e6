-- The places that a worker notes of what it takes and keeps.
use Rattle.std.proofs.Common.{◌≡◌, ◌≢◌, ℕ, ◌+◌, ◌<◌, true, false, cond, eqb, inl, inr, List, [], ◌∷◌, ◌++◌, length, map, get_or, set, slice_get, Some, refl, sym, ap, ◌∙◌, subst, arith, append_assoc, append-nil, get_or-set_same, get_or-set_other}
use Rattle.std.specs.List.{AllZip}
use Rattle.std.proofs.lemmas.List.{length-set, length-map, get_or-replicate, length-replicate}
use Rattle.std.specs.Prelude.{replicate}
use mathlib.Core.Logic.{dite}
use native.Mathlib.Decide.{ℕ_discrete}
use Rattle.dd_store.proofs.Places.{slice_get-append}
use Rattle.req_table.specs.declared.Key.{Key}
use Rattle.req_table.specs.declared.Item.{Item}
use Rattle.req_table.specs.declared.Item.TheVariants.{Ask, End}
use Rattle.req_table.specs.Wave.{Scope}
use Rattle.req_table.specs.Lanes.{sent_by, asks, IsFairFrom}
use Rattle.req_table.specs.Settled.{Admits}
use Rattle.req_table.proofs.Fair.{sent_by-append}
use Rattle.lane_queue.specs.declared.load.Load.TheVariants.{Bundle}
use Rattle.lane_queue.specs.Loads.{ask_of}
use Rattle.lane_queue.proofs.Facts.{load-mine, load-other}
use Rattle.lane_queue.specs.PortView.{LanesView, PortView, IsPortOf}
use Rattle.expand_work.specs.Work.{at}
use Rattle.expand_work.specs.PlacesBySender.{EntersAt, HasPlace, with_their_levels, IsNoted, NotesPlaces}
use Rattle.dd_store.proofs.Noting.{zip_push, zip_append}
use Rattle.expand_work.proofs.Zips.{zip_weaker}

-- a key keeps its place in a table
admits_stands : (ys xs zs : List Key) (p : ℕ) (x : Key) → Admits ys xs zs → slice_get ys p ≡ Some x → slice_get zs p ≡ Some x
admits_stands ys [] zs p x a e = subst (λ l. slice_get l p ≡ Some x) a e
admits_stands ys (y ∷ xs) zs p x (inl h) e = admits_stands ys xs zs p x h.1 e
admits_stands ys (y ∷ xs) zs p x (inr h) e = admits_stands (ys ++ y ∷ []) xs zs p x h.1 (slice_get-append ys (y ∷ []) p x e)

set_stands : (ts : List (List Key)) (l : ℕ) (xs keys : List Key) (a : ℕ × Key) (p : ℕ) → l < length ts → Admits (at ts l) xs keys → HasPlace (at ts) a p → HasPlace (at (set ts l keys)) a p
set_stands ts l xs keys a p b ad h =
    dite (ℕ_discrete a.0 l)
    (λ e. subst (λ u. slice_get (at (set ts l keys) u) p ≡ Some a.1) (sym e)
    (subst (λ ks. slice_get ks p ≡ Some a.1) (sym (get_or-set_same ts l keys [] b))
    (admits_stands (at ts l) xs keys p a.1 ad (subst (λ u. slice_get (at ts u) p ≡ Some a.1) e h))))
    (λ n. subst (λ ks. slice_get ks p ≡ Some a.1) (sym (get_or-set_other ts l a.0 keys [] n)) h)

-- ---- requests of one sender, one after the other
pub notes_start : (from : ℕ) (ts : List (List Key)) (noted : List (List ℕ)) → NotesPlaces from [] ts ts noted noted
notes_start from ts noted = record { places = []; have_places = tt; stay = λ a p h. h; long = refl; own = sym (append-nil (at noted from)); others = λ s n. refl }

module _ (from : ℕ) (requests : List (ℕ × Key)) (a : ℕ × Key) (first ts us : List (List Key)) (old mid new : List (List ℕ)) (p : ℕ)
    (lb : a.0 < length ts) (fb : from < length old) (n : NotesPlaces from requests first ts old mid) (en : EntersAt ts a.0 a.1 p us) (is : new ≡ set mid from (at mid from ++ p ∷ [])) where
  stays : (b : ℕ × Key) (q : ℕ) → HasPlace (at ts) b q → HasPlace (at us) b q
  stays b q h = subst (λ (l : List (List Key)). HasPlace (at l) b q) (sym en.2) (set_stands ts a.0 (a.1 ∷ []) en.0 b q lb en.1.0 h)

  here : HasPlace (at us) a p
  here = subst (λ (l : List (List Key)). slice_get (at l a.0) p ≡ Some a.1) (sym en.2) (subst (λ ks. slice_get ks p ≡ Some a.1) (sym (get_or-set_same ts a.0 en.0 [] lb)) en.1.1)

  pub notes_more : NotesPlaces from (requests ++ a ∷ []) first us old new
  notes_more = record {
    places = n.places ++ p ∷ [];
    have_places = zip_push (HasPlace (at us)) requests n.places a p (zip_weaker (HasPlace (at ts)) (HasPlace (at us)) stays requests n.places n.have_places) here;
    stay = λ b q h. stays b q (n.stay b q h);
    long = ap (λ l. length l) is ∙ length-set mid from (at mid from ++ p ∷ []) ∙ n.long;
    own = ap (λ l. at l from) is ∙ get_or-set_same mid from (at mid from ++ p ∷ []) [] (let z = n.long in omega (arith, z, fb)) ∙ ap (λ l. l ++ p ∷ []) n.own ∙ append_assoc (at old from) n.places (p ∷ []);
    others = λ s m. ap (λ l. at l s) is ∙ get_or-set_other mid from s (at mid from ++ p ∷ []) [] m ∙ n.others s m;
  }

-- ---- what was taken
with_their_levels-append : (xs ys : List Item) → with_their_levels (xs ++ ys) ≡ with_their_levels xs ++ with_their_levels ys
with_their_levels-append [] ys = refl
with_their_levels-append (Ask s l x ∷ xs) ys = ap (λ k. (l, x) ∷ k) (with_their_levels-append xs ys)
with_their_levels-append (End s l ∷ xs) ys = with_their_levels-append xs ys

with_their_levels-asks : (s : ℕ) (requests : List (ℕ × Key)) → with_their_levels (map (ask_of s) requests) ≡ requests
with_their_levels-asks s [] = refl
with_their_levels-asks s (a ∷ more) = ap (λ k. a ∷ k) (with_their_levels-asks s more)

-- requests of one sender
pub asks_noted : (workers s : ℕ) (requests : List (ℕ × Key)) (taken : List Item) (ts us : List (List Key)) (old new : List (List ℕ)) → IsNoted workers taken ts old → NotesPlaces s requests ts us old new → IsNoted workers (taken ++ map (ask_of s) requests) us new
asks_noted workers s requests taken ts us old new h n = record { long = n.long ∙ h.long; each = one }
  where
    xs : List Item
    xs = map (ask_of s) requests

    before : (t : ℕ) → t < workers → AllZip (HasPlace (at us)) (with_their_levels (sent_by t taken)) (at old t)
    before t tb = zip_weaker (HasPlace (at ts)) (HasPlace (at us)) n.stay (with_their_levels (sent_by t taken)) (at old t) (h.each t tb)

    mine : with_their_levels (sent_by s (taken ++ xs)) ≡ with_their_levels (sent_by s taken) ++ requests
    mine = ap with_their_levels (sent_by-append s taken xs ∙ ap (λ l. sent_by s taken ++ l) (load-mine s (Bundle s requests) refl)) ∙ with_their_levels-append (sent_by s taken) xs ∙ ap (λ l. with_their_levels (sent_by s taken) ++ l) (with_their_levels-asks s requests)

    own : s < workers → AllZip (HasPlace (at us)) (with_their_levels (sent_by s (taken ++ xs))) (at new s)
    own sb = subst (λ k. AllZip (HasPlace (at us)) k (at new s)) (sym mine) (subst (λ k. AllZip (HasPlace (at us)) (with_their_levels (sent_by s taken) ++ requests) k) (sym n.own) (zip_append (HasPlace (at us)) (with_their_levels (sent_by s taken)) requests (at old s) n.places (before s sb) n.have_places))

    theirs : (t : ℕ) → t ≢ s → with_their_levels (sent_by t (taken ++ xs)) ≡ with_their_levels (sent_by t taken)
    theirs t m = ap with_their_levels (sent_by-append t taken xs ∙ ap (λ l. sent_by t taken ++ l) (load-other t (Bundle s requests) (λ e. m (sym e))) ∙ append-nil (sent_by t taken))

    one : (t : ℕ) → t < workers → AllZip (HasPlace (at us)) (with_their_levels (sent_by t (taken ++ xs))) (at new t)
    one t tb = dite (ℕ_discrete t s)
        (λ e. subst (λ k. AllZip (HasPlace (at us)) (with_their_levels (sent_by k (taken ++ xs))) (at new k)) (sym e) (own (subst (λ k. k < workers) e tb)))
        (λ m. subst (λ k. AllZip (HasPlace (at us)) k (at new t)) (sym (theirs t m)) (subst (λ k. AllZip (HasPlace (at us)) (with_their_levels (sent_by t taken)) k) (sym (n.others t m)) (before t tb)))

with_their_levels-end : (t s l : ℕ) → with_their_levels (sent_by t (End s l ∷ [])) ≡ []
with_their_levels-end t s l = elim (eqb s t) as (λ b. with_their_levels (cond b (End s l ∷ []) []) ≡ []) [ true ↦ refl | false ↦ refl ]

pub end_noted : (workers s l : ℕ) (taken : List Item) (ts : List (List Key)) (noted : List (List ℕ)) → IsNoted workers taken ts noted → IsNoted workers (taken ++ End s l ∷ []) ts noted
end_noted workers s l taken ts noted h = record {
  long = h.long;
  each = λ t tb. subst (λ k. AllZip (HasPlace (at ts)) k (at noted t))
      (sym (ap with_their_levels (sent_by-append t taken (End s l ∷ [])) ∙ with_their_levels-append (sent_by t taken) (sent_by t (End s l ∷ [])) ∙ ap (λ k. with_their_levels (sent_by t taken) ++ k) (with_their_levels-end t s l) ∙ append-nil (with_their_levels (sent_by t taken)))) (h.each t tb);
}

pub none_noted : (workers : ℕ) (taken : List Item) (ts : List (List Key)) (noted : List (List ℕ)) → taken ≡ [] → noted ≡ replicate workers [] → IsNoted workers taken ts noted
none_noted workers taken ts noted nothing is = record {
  long = ap (λ l. length l) is ∙ length-replicate workers [];
  each = λ t tb. subst (λ xs. AllZip (HasPlace (at ts)) (with_their_levels (sent_by t xs)) (at noted t)) (sym nothing) (subst (λ k. AllZip (HasPlace (at ts)) [] k) (sym (ap (λ l. get_or l t []) is ∙ get_or-replicate workers t [] [] tb)) tt);
}

-- ---- the same by rows
pub fair_places : (c : Scope) (e : ℕ) (xs : List Item) (tables rows : ℕ → List Key) (ps : List ℕ) → IsFairFrom c e xs → ((u : ℕ) → u < c.levels → rows u ≡ tables u) → AllZip (HasPlace tables) (with_their_levels xs) ps
    → AllZip (λ x p. slice_get (rows (c.level x)) p ≡ Some x) (asks xs) ps
fair_places c e [] tables rows [] f same h = tt
fair_places c e [] tables rows (p ∷ ps) f same h = absurd h
fair_places c e (Ask s l x ∷ xs) tables rows [] f same h = absurd h
fair_places c e (Ask s l x ∷ xs) tables rows (p ∷ ps) f same h = (
  subst (λ k. slice_get (rows k) p ≡ Some x) f.0.2 (subst (λ ks. slice_get ks p ≡ Some x) (sym (same l f.0.1)) h.0),
  fair_places c e xs tables rows ps f.1 same h.1,
)
fair_places c e (End s l ∷ xs) tables rows ps f same h = fair_places c (e + 1) xs tables rows ps f.1 same h

-- a worker is one of the senders whose places are noted
pub own_within : (l : LanesView) (p : PortView) → IsPortOf l p → (n : ℕ) → n ≡ p.number → p.number < length p.lanes → (noted : List (List ℕ)) → length noted ≡ length l.lanes → n < length noted
own_within l p o n n-is b noted long = let w = ap (λ q. length q) o.0 ∙ length-map l.lanes (λ q. Some q) in omega (arith, w, n-is, b, long)
