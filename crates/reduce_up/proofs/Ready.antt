-- What the workers have recorded, with places for owners, is a wave that is expanded by place, so it can be reduced.
use Rattle.std.proofs.Common.{◌≡◌, ℕ, zero, suc, ◌+◌, ◌<◌, ◌≤◌, inl, inr, false, Bool, List, [], ◌∷◌, length, take, get_or, slice_get, Some, refl, sym, ◌∙◌, ap, subst, arith, Contains, All}
use Rattle.std.specs.List.{AllZip}
use Rattle.std.proofs.Math.ListN.{get_or-eq_default}
use Rattle.std.proofs.lemmas.Bool.{cases_lt}
use Rattle.std.proofs.lemmas.List.{get_or_default, take_all, length-map}
use Rattle.std.proofs.lemmas.List.Elements.{All-contains}
use Rattle.std.proofs.lemmas.Option.{slice_get_within}
use Rattle.slot_table.specs.Lists.{IsOnce}
use Rattle.dd_store.specs.declared.reference.Ref.{Ref}
use Rattle.dd_store.specs.Nodes.{Nodes, IsSound}
use Rattle.dd_store.proofs.Noting.{zip_append}
use Rattle.expand_work.specs.WavePorts.{row_of}
use Rattle.expand_work.specs.WaveParts.{PartsView, AreParts}
use Rattle.expand_work.proofs.Tallying.{own_once}
use Rattle.expand_work.proofs.Zips.{zip_long}
use Rattle.req_table.specs.declared.Key.{Key}
use Rattle.req_table.specs.declared.Record.{Record}
use Rattle.req_table.specs.declared.Child.TheVariants as child
use Rattle.req_table.specs.declared.packed_child.PackedChild.{PackedChild}
use Rattle.req_table.specs.Keys.{IsKey, level_of, child_of, child as child_at, answer_of, ask_of, wave_of}
use Rattle.req_table.specs.Places.{row, IsAtPlace, IsPlaced}
use Rattle.req_table.specs.Reached.{IsReached, root as root_of, child as child_from}
use Rattle.req_table.specs.Settled.{key_of, level_of_rows}
use Rattle.req_table.proofs.AtPlace.{at_place_none}
use Rattle.reduce_up.specs.ByPlace.{IsAdmitted, IsSplitAt, AreExpanded}
use Rattle.reduce_up.specs.Numbers.{keys_of, IsNumbered, AreNumbered}
use Rattle.reduce_up.specs.OverParts.{level_over, over_parts}
use Rattle.reduce_up.specs.ReductionPhase.{AreReady, MayReduce}
use Rattle.reduce_up.specs.Waves.{Entry, IsEntry, entries_for}
use Rattle.reduce_up.proofs.Closed.{reached_key}
use Rattle.reduce_up.proofs.Joined.{in_list}
use Rattle.dd_store.proofs.Places.{mapped}
use Rattle.reduce_up.proofs.Numbering.{keys_of-long, keys_of_at}
use Rattle.reduce_up.proofs.OverParts.{over_more, over_at, over-long, over_one}
use Rattle.reduce_up.proofs.Reduction.{adds_none}
use Rattle.reduce_up.proofs.Rooted.{entries_good, requests_again}

-- partners of two lists that are related place by place
zip_stands : {A B : Type 0} (R : A → B → Type 0) (xs : List A) (ys : List B) → AllZip R xs ys → (q : ℕ) (x : A) (y : B) → slice_get xs q ≡ Some x → slice_get ys q ≡ Some y → R x y
zip_stands R [] ys z q x y e f = absurd (let l = slice_get_within [] q x e in omega (arith, l))
zip_stands R (u ∷ xs) [] z q x y e f = absurd z
zip_stands R (u ∷ xs) (v ∷ ys) z zero x y e f = let a : u ≡ x = cc in let b : v ≡ y = cc in subst (λ w. R x w) b (subst (λ w. R w v) a z.0)
zip_stands R (u ∷ xs) (v ∷ ys) z (suc q) x y e f = zip_stands R xs ys z.1 q x y e f

-- the operation of a request comes to this request
key_asked : (S : Nodes) (k : Key) → IsKey S k → child_at S k.op k.f k.g ≡ child.Ask (level_of S k) k false
key_asked S k i = ap (answer_of S k.op k.f k.g) i.long ∙ ap (ask_of S) i.ordered

-- the number of workers does not matter
reached_alone : (S : Nodes) (n : ℕ) (roots : List Key) (k : Key) → IsReached (wave_of S n) roots k → IsReached (wave_of S 1) roots k
reached_alone S n roots k (root_of c) = root_of c
reached_alone S n roots k (child_from {x = x} b l m r e) = child_from b l m (reached_alone S n roots x r) e

module _ (S : Nodes) (sound : IsSound S) (n : ℕ) (roots : List Key) (good : All (IsKey S) roots) (p : PartsView) (parts : AreParts S n roots p) (rows : List (List (List (PackedChild × PackedChild)))) (placed : List PackedChild) (N : AreNumbered S n roots p rows placed) where
  abbrev E : List Entry
  E = entries_for roots

  abbrev T : List (List Key)
  T = keys_of n p S.levels

  abbrev at_level : ℕ → List Record
  at_level v = level_of_rows n (row_of p.rows) v

  -- the children of all workers' requests of a level
  joined : (v m : ℕ) → v < S.levels → m ≤ n → AllZip (IsNumbered T) (level_of_rows m (row_of p.rows) v) (level_over (take m rows) v)
  joined v zero vb le = tt
  joined v (suc m) vb le =
      let own : List (List (PackedChild × PackedChild)) = get_or rows m [] in
      let next : suc m ≡ m + 1 = omega arith in
      let lt : m < length rows = (let e = N.many in omega (arith, e, le)) in
      subst (AllZip (IsNumbered T) (level_of_rows (suc m) (row_of p.rows) v)) (sym (ap (λ z. level_over (take z rows) v) next ∙ over_more rows m own v lt (get_or_default rows m [] own lt)))
      (zip_append (IsNumbered T) (level_of_rows m (row_of p.rows) v) (row_of p.rows m v) (level_over (take m rows) v) (row own v) (joined v m vb (omega (arith, le))) (N.each m v (omega (arith, le)) vb))

  all_joined : (v : ℕ) → v < S.levels → AllZip (IsNumbered T) (at_level v) (level_over rows v)
  all_joined v vb = subst (λ (z : List (List (List (PackedChild × PackedChild)))). AllZip (IsNumbered T) (at_level v) (level_over z v)) (take_all n rows (let e = N.many in omega (arith, e))) (joined v n vb (omega arith))

  -- the record of a request at a place
  module _ (v q : ℕ) (k : Key) (h : IsAtPlace T v q k) where
    within : v < S.levels
    within = elim (cases_lt v S.levels) [ inl lt ↦ lt | inr ge ↦ absurd (at_place_none (row T v) q k (get_or-eq_default T [] (let e = keys_of-long n p S.levels in omega (arith, e, ge))) h) ]

    of_key : (r : Record) × (slice_get (at_level v) q ≡ Some r) × (r.key ≡ k)
    of_key = mapped key_of (at_level v) q k (subst (λ (z : List Key). slice_get z q ≡ Some k) (keys_of_at n p S.levels v within) h)

    recorded : Contains (at_level v) of_key.0
    recorded = in_list (at_level v) q of_key.0 of_key.1

    reached : IsReached (wave_of S n) roots k
    reached = subst (IsReached (wave_of S n) roots) of_key.2 (All-contains (λ (r : Record). IsReached (wave_of S n) roots r.key) (at_level v) of_key.0 (parts.closure.reached v within) recorded)

    admitted : IsAdmitted S E v k
    admitted = record {
      key = reached_key S sound n roots good k reached;
      level = ap (level_of S) (sym of_key.2) ∙ All-contains (λ (r : Record). level_of S r.key ≡ v) (at_level v) of_key.0 (parts.closure.placed v within) recorded;
      reached = subst (λ z. IsReached (wave_of S 1) z k) (sym (requests_again S roots good)) (reached_alone S n roots k reached);
    }

    split : (d : PackedChild × PackedChild) → slice_get (level_over rows v) q ≡ Some d → IsSplitAt S T k d
    split d e =
        let r = of_key in
        let s = All-contains (λ (r : Record). (r.low ≡ child_of S r.key false) × (r.high ≡ child_of S r.key Bool.true)) (at_level v) r.0 (parts.closure.split v within) recorded in
        let z : IsNumbered T r.0 d = zip_stands (IsNumbered T) (at_level v) (level_over rows v) (all_joined v within) q r.0 d r.1 e in
        (subst (IsPlaced T d.0) (s.0 ∙ ap (λ x. child_of S x false) r.2) z.0, subst (IsPlaced T d.1) (s.1 ∙ ap (λ x. child_of S x Bool.true) r.2) z.1)

  rooted : (ks : List Key) → All (IsKey S) ks → (ds : List PackedChild) → AllZip (λ x d. IsPlaced T d (child.Ask (level_of S x) x false)) ks ds → AllZip (λ (e : Entry) d. IsPlaced T d (child_at S e.0 e.1 e.2)) (entries_for ks) ds
  rooted [] g [] z = tt
  rooted [] g (d ∷ ds) z = z
  rooted (k ∷ ks) g [] z = z
  rooted (k ∷ ks) g (d ∷ ds) z = (subst (IsPlaced T d) (sym (key_asked S k (g 0 k (omega arith)))) z.0, rooted ks (λ i e l. g (suc i) e (omega (arith, l))) ds z.1)

  pub all_expanded : AreExpanded S E placed S.levels T (over_parts S.levels rows)
  all_expanded = record {
    admitted = record { levels = keys_of-long n p S.levels; keys = λ w q k h. admitted w q k h };
    rooted = rooted roots good placed N.of_roots;
    levels = over-long S.levels rows;
    counts = λ w lt. ap length (over_at S.levels rows w lt) ∙ sym (zip_long (IsNumbered T) (at_level w) (level_over rows w) (all_joined w lt)) ∙ sym (length-map (at_level w) key_of) ∙ ap length (sym (keys_of_at n p S.levels w lt));
    split = λ w q k d lt h g. split w q k h d (subst (λ (z : List (PackedChild × PackedChild)). slice_get z q ≡ Some d) (over_at S.levels rows w lt) g);
  }

  pub numbered_ready : (A : List (List Ref)) → length A ≡ S.levels → MayReduce S E S.levels (over_parts S.levels rows) A T
  numbered_ready A long = record {
    operands = entries_good S roots good;
    ready = record {
      roots = placed;
      expanded = all_expanded;
      once = λ w lt. subst IsOnce (sym (keys_of_at n p S.levels w lt)) (own_once (wave_of S n) roots (λ v. at_level v) parts.closure w lt);
      reduced = record {
        held = sound;
        adds = adds_none S S _ refl;
        levels = long;
        counts = λ w q k le h. absurd (let lt = within w q k h in omega (arith, le, lt));
        answered = λ w q k r le h g. absurd (let lt = within w q k h in omega (arith, le, lt));
        within = inr ((λ w q k le h. let lt = within w q k h in omega (arith, le, lt)), refl);
      };
    };
  }

-- a wave in one part
pub one_part : (s : Nodes) (E : List Entry) (v : ℕ) (rows : List (List (PackedChild × PackedChild))) (A : List (List Ref)) (T : List (List Key)) (parts : List (List (List (PackedChild × PackedChild)))) → parts ≡ rows ∷ [] → All (IsEntry s) E → AreReady s E v rows A T → MayReduce s E v (over_parts s.levels parts) A T
one_part s E v rows A T parts is good Y = record { operands = good; ready = subst (λ (z : List (List (PackedChild × PackedChild))). AreReady s E v z A T) (sym (ap (over_parts s.levels) is ∙ over_one s.levels rows Y.expanded.levels)) Y }
