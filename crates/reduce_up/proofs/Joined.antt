-- A level in parts, divided by shard, whose diagrams are picked.
use Rattle.std.proofs.Common.{◌≡◌, ◌≢◌, ℕ, zero, suc, ◌+◌, ◌<◌, ◌≤◌, inl, inr, cond, List, [], ◌∷◌, ◌++◌, length, map, take, drop, get_or, slice_get, Some, Contains, refl, sym, ap, ◌∙◌, subst, arith, append_assoc, append-nil, ne_eqb, length-append}
use Rattle.std.specs.List.{AllZip}
use Rattle.std.specs.Prelude.{Result, Ok, Err, OnOk}
use Rattle.std.specs.declared.vec.Vec.{Vec}
use Rattle.std.specs.declared.alloc.Global.{Global}
use Rattle.std.specs.declared.alloc.AllocError.{AllocError}
use Rattle.std.proofs.lemmas.List.{length-map, take_all, get_or_default, get_or_append_left}
use Rattle.std.proofs.Math.Seq.{get_or-append_seam}
use Rattle.std.proofs.Math.ListN.{get_or-eq_default}
use Rattle.std.proofs.lemmas.Option.{slice_get_within, slice_get_read, get_or_from_slice_get}
use mathlib.Core.Logic.{dite}
use native.Mathlib.Decide.{ℕ_discrete}
use Rattle.slot_table.proofs.Listing.{in_either}
use Rattle.dd_store.specs.declared.reference.Ref.{Ref}
use Rattle.dd_store.specs.Graph.{Pair}
use Rattle.dd_store.specs.Hashes.{shard_of_pair}
use Rattle.dd_store.specs.Growing.{IsIn}
use Rattle.dd_store.specs.Levels.{list_at, all_at, refs_at}
use Rattle.dd_store.specs.Nodes.{Nodes, IsThere}
use Rattle.dd_store.proofs.LevelFacts.{list_read}
use Rattle.dd_store.proofs.Storing.{small_shard}
use Rattle.dd_store.proofs.Places.{slice_get-append}
use Rattle.dd_store.proofs.Noting.{zip_append}
use Rattle.expand_work.proofs.Teams.{first_of}
use Rattle.expand_work.proofs.Zips.{zip_long}
use Rattle.req_table.specs.declared.packed_child.PackedChild.{PackedChild}
use Rattle.req_table.specs.Places.{row}
use Rattle.reduce_up.specs.declared.division.PairsByShard.{PairsByShard}
use Rattle.reduce_up.specs.declared.division.Origins.{Origins}
use Rattle.reduce_up.specs.declared.reads.ReadTask.{ReadTask}
use Rattle.reduce_up.specs.declared.picking.PickTask.{PickTask}
use Rattle.reduce_up.specs.declared.up.LevelToReduce.{LevelToReduce}
use Rattle.reduce_up.specs.OverParts.{level_over}
use Rattle.reduce_up.specs.ReductionPhase.{children_of}
use Rattle.reduce_up.specs.AnswersByLevel.{joined}
use Rattle.reduce_up.specs.Division.{chosen, span, source, begin_of, twice, IsPicked, IsPickedOf, ArePicked, AreOrigins, AreRefsOf, AreInPartOrder, HaveSixteen, MayPick}
use Rattle.reduce_up.specs.Steps.{BothResolveTo, IsMadeOf, IsPartRead, IsTaskRead, AreAllRead, AreRead, IsTaskPicked, AreAllPicked}
use Rattle.reduce_up.proofs.Shared.{zip_right, zip_through}
use Rattle.reduce_up.proofs.Parted.{origins_of}
use Rattle.reduce_up.proofs.OverParts.{slice_get-behind}
use Rattle.reduce_up.proofs.Parting.{chosen-in, chosen-many, zip_chosen, zip_span}

-- ---- lists of all parts
part_in : (parts : List (Vec (Vec Pair Global) Global)) (s : ℕ) (q : Pair) → IsIn (all_at parts s) q → (k : ℕ) × (k < length parts) × ((d : Vec (Vec Pair Global) Global) → IsIn (list_at (get_or parts k d).items s) q)
part_in [] s q w = absurd (let l = slice_get_within [] w.0 q w.1 in omega (arith, l))
part_in (p ∷ ps) s q w = elim (in_either (list_at p.items s) (all_at ps s) w.0 q w.1) [
  | inl here ↦ (0, omega arith, λ d. here)
  | inr more ↦ let m = part_in ps s q more in let l = m.1 in (suc m.0, omega (arith, l), m.2)
]

pub all_split : (parts : List (Vec (Vec Pair Global) Global)) (k s : ℕ) (d : Vec (Vec Pair Global) Global) → k < length parts → all_at parts s ≡ (all_at (take k parts) s ++ list_at (get_or parts k d).items s) ++ all_at (drop (suc k) parts) s
all_split [] k s d l = absurd (omega (arith, l))
all_split (p ∷ ps) zero s d l = refl
all_split (p ∷ ps) (suc k) s d l =
    ap (λ z. list_at p.items s ++ z) (all_split ps k s d (omega (arith, l)))
    ∙ sym (append_assoc (list_at p.items s) (all_at (take k ps) s ++ list_at (get_or ps k d).items s) (all_at (drop (suc k) ps) s))
    ∙ ap (λ z. z ++ all_at (drop (suc k) ps) s) (sym (append_assoc (list_at p.items s) (all_at (take k ps) s) (list_at (get_or ps k d).items s)))

pub all_more : (parts : List (Vec (Vec Pair Global) Global)) (k s : ℕ) (d : Vec (Vec Pair Global) Global) → k < length parts → length (all_at (take (k + 1) parts) s) ≡ length (all_at (take k parts) s) + length (list_at (get_or parts k d).items s)
all_more [] k s d l = absurd (omega (arith, l))
all_more (p ∷ ps) zero s d l = length-append (list_at p.items s) [] ∙ (let z : length (list_at p.items s) + 0 ≡ 0 + length (list_at p.items s) = omega arith in z)
all_more (p ∷ ps) (suc k) s d l =
    let up : suc k + 1 ≡ suc (k + 1) = omega arith in
    let m = all_more ps k s d (omega (arith, l)) in
    let a = length-append (list_at p.items s) (all_at (take (k + 1) ps) s) in
    let b = length-append (list_at p.items s) (all_at (take k ps) s) in
    let e : length (list_at p.items s ++ all_at (take (k + 1) ps) s) ≡ length (list_at p.items s ++ all_at (take k ps) s) + length (list_at (get_or ps k d).items s) = omega (arith, m, a, b) in
    ap (λ z. length (all_at (take z (p ∷ ps)) s)) up ∙ e

pub begin_room : (parts : List (Vec (Vec Pair Global) Global)) (k s : ℕ) (d : Vec (Vec Pair Global) Global) → k < length parts → begin_of parts k s + length (list_at (get_or parts k d).items s) ≤ length (all_at parts s)
begin_room parts k s d l =
    let e = ap (λ z. length z) (all_split parts k s d l) in
    let a = length-append (all_at (take k parts) s ++ list_at (get_or parts k d).items s) (all_at (drop (suc k) parts) s) in
    let b = length-append (all_at (take k parts) s) (list_at (get_or parts k d).items s) in
    omega (arith, e, a, b)

pub own_list : (parts : List (Vec (Vec Pair Global) Global)) (k : ℕ) (p : Vec (Vec Pair Global) Global) → k < length parts → HaveSixteen parts → p ≡ get_or parts k p → (s : ℕ) → s < 16 → (v : Vec Pair Global) → v ≡ get_or p.items s v
    → length (list_at (get_or parts k p).items s) ≡ length v.items
own_list parts k p l all is s sb v v-is =
    let sixteen : length p.items ≡ 16 = subst (λ (z : Vec (Vec Pair Global) Global). length z.items ≡ 16) (sym is) (all k p l) in
    ap (λ (z : Vec (Vec Pair Global) Global). length (list_at z.items s)) (sym is) ∙ ap (λ (z : List Pair). length z) (sym (list_read p.items s v (omega (arith, sixteen, sb)) v-is))

-- there are no more than sixteen lists
pub no_more : (lists : List (Vec Pair Global)) (s : ℕ) → length lists ≡ 16 → 16 ≤ s → list_at lists s ≡ []
no_more lists s e l = get_or-eq_default (map (λ (v : Vec Pair Global). v.items) lists) [] (let a = length-map lists (λ (v : Vec Pair Global). v.items) in omega (arith, a, e, l))

pub begin_none : (parts : List (Vec (Vec Pair Global) Global)) (k : ℕ) → HaveSixteen parts → begin_of parts k 16 ≡ 0
begin_none [] zero h = refl
begin_none [] (suc k) h = refl
begin_none (p ∷ ps) zero h = refl
begin_none (p ∷ ps) (suc k) h =
    let more = begin_none ps k (λ j d l. h (suc j) d (omega (arith, l))) in
    let none = ap (λ z. length z) (no_more p.items 16 (h 0 p (omega arith)) (omega arith)) in
    length-append (list_at p.items 16) (all_at (take k ps) 16) ∙ (omega (arith, more, none))

pub over_in : {X : Type 0} (rows : List (List (List X))) (k v j : ℕ) (x : X) → k < length rows → slice_get (row (row rows k) v) j ≡ Some x → (i : ℕ) × (slice_get (level_over rows v) i ≡ Some x)
over_in [] k v j x l e = absurd (omega (arith, l))
over_in (p ∷ ps) zero v j x l e = (j, slice_get-append (row p v) (level_over ps v) j x e)
over_in (p ∷ ps) (suc k) v j x l e =
    let w = over_in ps k v j x (omega (arith, l)) e in
    (length (row p v) + w.0, slice_get-behind (row p v) (level_over ps v) w.0 ∙ w.1)

-- what holds of the items of each part holds of those of the level
over_all : {X : Type 0} (R : X → Ref → Type 0) (rows : List (List (List X))) (v : ℕ) (answers : List (List Ref)) → length answers ≡ length rows → ((k : ℕ) → k < length rows → AllZip R (row (row rows k) v) (get_or answers k [])) → AllZip R (level_over rows v) (joined answers)
over_all R [] v [] e f = tt
over_all R [] v (a ∷ answers) e f = absurd (omega (arith, e))
over_all R (p ∷ ps) v [] e f = absurd (omega (arith, e))
over_all R (p ∷ ps) v (a ∷ answers) e f =
    zip_append R (row p v) (level_over ps v) a (joined answers) (f zero (omega arith)) (over_all R ps v answers (omega (arith, e)) (λ k l. f (suc k) (omega (arith, l))))

-- ---- the pairs in the lists
abbrev pub AreListed : List (List Ref) → List (PackedChild × PackedChild) → (ℕ → List Pair) → Type 0
AreListed A children lists = (s : ℕ) (q : Pair) → IsIn (lists s) q → (i : ℕ) × (d : PackedChild × PackedChild) × (slice_get children i ≡ Some d) × BothResolveTo A d q × (q.0 ≢ q.1) × (shard_of_pair q.0 q.1 ≡ s)

pub in_list : {X : Type 0} (xs : List X) (i : ℕ) (x : X) → slice_get xs i ≡ Some x → Contains xs x
in_list xs i x e = (i, slice_get_within xs i x e, get_or_from_slice_get xs i x x e)

-- pairs of each diagram with itself have it as their reference
zip_twice : (T : Nodes) (v : ℕ) (rs : List Ref) → AllZip (λ (q : Pair) r. IsThere T v q.0 q.1 r) (twice rs) rs
zip_twice T v [] = tt
zip_twice T v (r ∷ rs) = (inl (refl, refl), zip_twice T v rs)

listed_part : (A : List (List Ref)) (children : List (PackedChild × PackedChild)) (lists : Vec (Vec Pair Global) Global) (origins : Origins) → IsPartRead A children lists origins → AreListed A children (list_at lists.items)
listed_part A children lists origins r s q w =
    let own = r.divided.own s q w in
    let sb : s < 16 = subst (λ z. z < 16) own.1 (small_shard q.0 q.1) in
    let chose : List Pair = chosen s origins.numbers.items r.pairs in
    let among : Contains chose q = subst (λ (z : List Pair). Contains z q) (sym {a = chose} {b = list_at lists.items s} (r.divided.differ s sb)) (in_list (list_at lists.items s) w.0 q w.1) in
    let z = zip_right (BothResolveTo A) children r.pairs r.read q (chosen-in s origins.numbers.items r.pairs q among) in
    (z.1.0, z.0, slice_get_read children (length children) z.1.0 z.0 refl z.1.1 (sym z.1.2), z.2, own.0, own.1)

-- the parts of a level were read and divided
module _ (L : LevelToReduce) (parts : List (Vec (Vec Pair Global) Global)) (origins : List Origins) (D : AreRead L (length L.parts.now) parts origins) where
  pub listed_level : AreListed L.answers.now (children_of L) (all_at parts)
  listed_level s q w =
      let m = part_in parts s q w in
      let k : ℕ = m.0 in
      let kb : k < length L.parts.now = (let e = D.many_lists in let l = m.1 in omega (arith, e, l)) in
      let d = first_of parts (let l = m.1 in omega (arith, l)) in
      let h = first_of origins (let e = D.many_origins in omega (arith, e, kb)) in
      let o = listed_part L.answers.now (row (row L.parts.now k) L.number) (get_or parts k d) (get_or origins k h) (D.each k d h kb) s q (m.2 d) in
      let at = over_in L.parts.now k L.number o.0 o.1 kb o.2 in
      (at.0, o.1, at.1, o.3, o.4, o.5)

  pub all_sixteen : HaveSixteen parts
  all_sixteen k d l = let lb : k < length L.parts.now = (let e = D.many_lists in omega (arith, e, l)) in (D.each k d (first_of origins (let e = D.many_origins in omega (arith, e, lb))) lb).sixteen

  all_origins : (k : ℕ) (d : Vec (Vec Pair Global) Global) (h : Origins) → k < length origins → AreOrigins (get_or origins k h) (list_at (get_or parts k d).items)
  all_origins k d h l = let r = D.each k d h (let e = D.many_origins in omega (arith, e, l)) in origins_of r.pairs (get_or origins k h) (list_at (get_or parts k d).items) r.divided

  module _ (T : Nodes) (refs : List (Vec Ref Global)) (sixteen : length refs ≡ 16) (there : (s : ℕ) → s < 16 → AllZip (λ (q : Pair) r. IsThere T L.number q.0 q.1 r) (all_at parts s) (refs_at refs s)) where
    pub may_pick : MayPick parts origins refs
    may_pick = record {
      many = D.many_lists ∙ sym D.many_origins;
      sixteen = all_sixteen;
      refs_of = record { sixteen = sixteen; many = λ s l. sym (zip_long (λ (q : Pair) r. IsThere T L.number q.0 q.1 r) (all_at parts s) (refs_at refs s) (there s l)) };
      origins_of = all_origins;
    }

    -- the diagrams that were picked of one part
    module _ (k : ℕ) (kb : k < length L.parts.now) (h : Origins) (h-is : (e : Origins) → get_or origins k e ≡ h) (answers : List Ref) (picked : IsPickedOf parts refs k h answers) where
      abbrev hs : List ℕ
      hs = h.numbers.items

      kp : k < length parts
      kp = let e = D.many_lists in omega (arith, e, kb)

      abbrev here : Vec (Vec Pair Global) Global
      here = get_or parts k (first_of parts (omega (arith, kp)))

      own_part : IsPartRead L.answers.now (row (row L.parts.now k) L.number) here h
      own_part = subst (IsPartRead L.answers.now (row (row L.parts.now k) L.number) here) (h-is h) (D.each k (first_of parts (omega (arith, kp))) h kb)

      as-many : (s : ℕ) → length (chosen s hs answers) ≡ length (chosen s hs own_part.pairs)
      as-many s = chosen-many s hs answers own_part.pairs picked.long (sym own_part.divided.long)

      -- the references of a shard
      of_shard : (s : ℕ) → s < 16 → AllZip (λ (q : Pair) r. IsThere T L.number q.0 q.1 r) (chosen s hs own_part.pairs) (chosen s hs answers)
      of_shard s l =
          let list = list_at here.items s in
          let own : AllZip (λ (q : Pair) r. IsThere T L.number q.0 q.1 r) list (span (begin_of parts k s) (length list) (refs_at refs s)) =
          zip_span (λ (q : Pair) r. IsThere T L.number q.0 q.1 r) (all_at (take k parts) s) list (all_at (drop (suc k) parts) s) (refs_at refs s)
          (subst (λ z. AllZip (λ (q : Pair) r. IsThere T L.number q.0 q.1 r) z (refs_at refs s)) (all_split parts k s (first_of parts (omega (arith, kp))) kp) (there s l)) in
          let is : list ≡ chosen s hs own_part.pairs = sym (own_part.divided.differ s l) in
          let many : length list ≡ length (chosen s hs answers) = ap (λ z. length z) is ∙ sym (as-many s) in
          let from : refs_at refs s ≡ source refs h s = sym (ap (λ b. cond b h.equal.items (refs_at refs s)) (ne_eqb s 16 (λ e. absurd (omega (arith, l, e))))) in
          let at : chosen s hs answers ≡ span (begin_of parts k s) (length list) (refs_at refs s) =
          picked.each s (omega (arith, l)) ∙ ap (λ z. span (begin_of parts k s) z (source refs h s)) (sym many) ∙ ap (λ z. span (begin_of parts k s) (length list) z) (sym from) in
          subst (λ z. AllZip (λ (q : Pair) r. IsThere T L.number q.0 q.1 r) (chosen s hs own_part.pairs) z) (sym at)
          (subst (λ z. AllZip (λ (q : Pair) r. IsThere T L.number q.0 q.1 r) z (span (begin_of parts k s) (length list) (refs_at refs s))) is own)

      -- the diagrams of equal children
      of_equal : AllZip (λ (q : Pair) r. IsThere T L.number q.0 q.1 r) (chosen 16 hs own_part.pairs) (chosen 16 hs answers)
      of_equal =
          let equal = h.equal.items in
          let many : length (chosen 16 hs answers) ≡ length equal = as-many 16 ∙ ap (λ z. length z) own_part.divided.same ∙ length-map equal (λ (r : Ref). (r, r)) in
          let is : chosen 16 hs answers ≡ equal =
          picked.each 16 (omega arith)
          ∙ ap (λ z. span z (length (chosen 16 hs answers)) (source refs h 16)) (begin_none parts k all_sixteen)
          ∙ ap (λ z. take z equal) many ∙ take_all (length equal) equal (omega arith) in
          subst (λ z. AllZip (λ (q : Pair) r. IsThere T L.number q.0 q.1 r) (chosen 16 hs own_part.pairs) z) (sym is)
          (subst (λ z. AllZip (λ (q : Pair) r. IsThere T L.number q.0 q.1 r) z equal) (sym own_part.divided.same) (zip_twice T L.number equal))

      part_made : AllZip (IsMadeOf L.answers.now T L.number) (row (row L.parts.now k) L.number) answers
      part_made = zip_through (BothResolveTo L.answers.now) (λ (q : Pair) r. IsThere T L.number q.0 q.1 r) (row (row L.parts.now k) L.number) own_part.pairs answers own_part.read
          (zip_chosen (λ (q : Pair) r. IsThere T L.number q.0 q.1 r) hs own_part.pairs answers (sym own_part.divided.long) picked.long own_part.divided.within
          (λ s l. dite (ℕ_discrete s 16) (λ e. subst (λ z. AllZip (λ (q : Pair) r. IsThere T L.number q.0 q.1 r) (chosen z hs own_part.pairs) (chosen z hs answers)) (sym e) of_equal) (λ m. of_shard s (grind (arith, l, m)))))

    -- the diagrams that were picked of all parts
    pub all_made : (own : List Ref) → AreInPartOrder parts origins refs own → AllZip (IsMadeOf L.answers.now T L.number) (children_of L) own
    all_made own (answers, q, is) = subst (λ z. AllZip (IsMadeOf L.answers.now T L.number) (children_of L) z) (sym is)
        (over_all (IsMadeOf L.answers.now T L.number) L.parts.now L.number answers (q.long ∙ D.many_origins) (λ k l.
        let lh : k < length origins = (let e = D.many_origins in omega (arith, e, l)) in
        let h = get_or origins k (first_of origins (omega (arith, lh))) in
        part_made k l h (λ e. get_or_default origins k e (first_of origins (omega (arith, lh))) lh) (get_or answers k []) (q.each k [] (first_of origins (omega (arith, lh))) lh)))

-- one more list at the end
pub turn_more : (lists : List (List Ref)) (xs : List Ref) → joined (lists ++ xs ∷ []) ≡ joined lists ++ xs
turn_more [] xs = append-nil xs
turn_more (y ∷ lists) xs = ap (λ z. y ++ z) (turn_more lists xs) ∙ sym (append_assoc y (joined lists) xs)

-- a part's references are among those of all
pub pick_room : (parts : List (Vec (Vec Pair Global) Global)) (refs : List (Vec Ref Global)) (k : ℕ) (h : Origins) (p : Vec (Vec Pair Global) Global) → k < length parts → HaveSixteen parts → AreRefsOf parts refs → AreOrigins h (list_at (get_or parts k p).items)
    → (s : ℕ) → s ≤ 16 → begin_of parts k s + length (chosen s h.numbers.items h.numbers.items) ≤ length (source refs h s)
pick_room parts refs k h p l all r are s sb = dite (ℕ_discrete s 16)
    (λ e. subst (λ z. begin_of parts k z + length (chosen z h.numbers.items h.numbers.items) ≤ length (source refs h z)) (sym e) (let a = begin_none parts k all in let b = are.same in omega (arith, a, b)))
    (λ m.
    let lt : s < 16 = grind (arith, sb, m) in
    let from : refs_at refs s ≡ source refs h s = sym (ap (λ b. cond b h.equal.items (refs_at refs s)) (ne_eqb s 16 m)) in
    let room = begin_room parts k s p l in
    let many = are.many s lt in
    let all-refs = r.many s lt in
    subst (λ z. begin_of parts k s + length (chosen s h.numbers.items h.numbers.items) ≤ length z) from (omega (arith, room, many, all-refs)))

pub picked_from : (parts : List (Vec (Vec Pair Global) Global)) (refs : List (Vec Ref Global)) (k : ℕ) (h : Origins) (starts : List ℕ) → ((s : ℕ) → s ≤ 16 → get_or starts s 0 ≡ begin_of parts k s) → (slice : List ℕ) → slice ≡ starts → (answers : List Ref) (r : Result (Unit {0}) AllocError)
    → OnOk r (IsPicked h.numbers.items (λ s. get_or slice s 0) (source refs h) answers) → OnOk r (IsPickedOf parts refs k h answers)
picked_from parts refs k h starts each slice is answers (Ok x) o = record {
  long = o.long;
  each = λ s l. o.each s l ∙ ap (λ z. span z (length (chosen s h.numbers.items answers)) (source refs h s)) (ap (λ z. get_or z s 0) is ∙ each s l);
}
picked_from parts refs k h starts each slice is answers (Err e) o = o

at_seam : {X : Type 0} (xs xs' : List X) (x d : X) (m : ℕ) → length xs ≡ m → xs' ≡ xs ++ x ∷ [] → get_or xs' m d ≡ x
at_seam xs xs' x d m e is = ap (λ z. get_or z m d) is ∙ ap (λ z. get_or (xs ++ x ∷ []) z d) (sym e) ∙ get_or-append_seam xs x [] d

at_left : {X : Type 0} (xs xs' : List X) (x d : X) (m s : ℕ) → length xs ≡ m → s < m → xs' ≡ xs ++ x ∷ [] → get_or xs' s d ≡ get_or xs s d
at_left xs xs' x d m s e l is = ap (λ z. get_or z s d) is ∙ get_or_append_left xs (x ∷ []) d s (omega (arith, e, l))

one_longer : {X : Type 0} (xs xs' : List X) (x : X) (m : ℕ) → length xs ≡ m → xs' ≡ xs ++ x ∷ [] → length xs' ≡ m + 1
one_longer xs xs' x m e is = ap (λ z. length z) is ∙ length-append xs (x ∷ []) ∙ ap (λ z. z + 1) e

pub reads_more : (L : LevelToReduce) (m : ℕ) (parts : List (Vec (Vec Pair Global) Global)) (origins : List Origins) → AreRead L m parts origins
    → (d : PairsByShard) → IsPartRead L.answers.now (row (row L.parts.now m) L.number) d.lists d.origins → (parts' : List (Vec (Vec Pair Global) Global)) (origins' : List Origins) → parts' ≡ parts ++ d.lists ∷ [] → origins' ≡ origins ++ d.origins ∷ [] → AreRead L (m + 1) parts' origins'
reads_more L m parts origins o d r parts' origins' x y = record {
  many_lists = one_longer parts parts' d.lists m o.many_lists x;
  many_origins = one_longer origins origins' d.origins m o.many_origins y;
  each = λ s e h l. dite (ℕ_discrete s m)
      (λ q. subst (λ k. IsPartRead L.answers.now (row (row L.parts.now k) L.number) (get_or parts' k e) (get_or origins' k h)) (sym q)
      (subst (λ (u : Origins × Vec (Vec Pair Global) Global). IsPartRead L.answers.now (row (row L.parts.now m) L.number) u.1 u.0) (λ i. (sym (at_seam origins origins' d.origins h m o.many_origins y) i, sym (at_seam parts parts' d.lists e m o.many_lists x) i)) r))
      (λ q. let lt : s < m = grind (arith, l, q) in
      subst (λ (u : Origins × Vec (Vec Pair Global) Global). IsPartRead L.answers.now (row (row L.parts.now s) L.number) u.1 u.0) (λ i. (sym (at_left origins origins' d.origins h m s o.many_origins lt y) i, sym (at_left parts parts' d.lists e m s o.many_lists lt x) i)) (o.each s e h lt));
}

-- what holds of the items of a list holds of one after so many others
pub each_here : {X : Type 0} (P : ℕ → X → Type 0) (xs done rest : List X) (t : X) → ((k : ℕ) (d : X) → k < length xs → P k (get_or xs k d)) → (done ++ t ∷ []) ++ rest ≡ xs → P (length done) t
each_here {X} P xs done rest t f whole =
    let at : xs ≡ done ++ t ∷ rest = sym whole ∙ append_assoc done (t ∷ []) rest in
    let long = ap (λ z. length z) at ∙ length-append done (t ∷ rest) in
    subst (P (length done)) (ap (λ (z : List X). get_or z (length done) t) at ∙ get_or-append_seam done t rest t) (f (length done) t (omega (arith, long)))

-- what was read of one part
pub read_one : (L : LevelToReduce) (tasks done rest : List ReadTask) (t : ReadTask) (x : Unit {0})
    → AreAllRead L tasks → (done ++ t ∷ []) ++ rest ≡ tasks → t.done ≡ Ok x → IsPartRead L.answers.now (row (row L.parts.now (length done)) L.number) t.divided.lists t.divided.origins
read_one L tasks done rest t x f whole is =
    subst (λ (z : Result (Unit {0}) AllocError). OnOk z (IsPartRead L.answers.now (row (row L.parts.now (length done)) L.number) t.divided.lists t.divided.origins)) is (each_here (IsTaskRead L) tasks done rest t f whole)

pub picked_more : (parts : List (Vec (Vec Pair Global) Global)) (origins : List Origins) (refs : List (Vec Ref Global)) (m : ℕ) (answers answers' : List (List Ref)) (x : List Ref) → ArePicked parts origins refs m answers → ((h : Origins) → IsPickedOf parts refs m (get_or origins m h) x) → answers' ≡ answers ++ x ∷ [] → ArePicked parts origins refs (m + 1) answers'
picked_more parts origins refs m answers answers' x o own is = record {
  long = one_longer answers answers' x m o.long is;
  each = λ k d h l. dite (ℕ_discrete k m)
      (λ q. subst (λ j. IsPickedOf parts refs j (get_or origins j h) (get_or answers' j d)) (sym q) (subst (λ (u : List Ref). IsPickedOf parts refs m (get_or origins m h) u) (sym (at_seam answers answers' x d m o.long is)) (own h)))
      (λ q. let lt : k < m = grind (arith, l, q) in subst (λ (u : List Ref). IsPickedOf parts refs k (get_or origins k h) u) (sym (at_left answers answers' x d m k o.long lt is)) (o.each k d h lt));
}

-- one of the parts' answers
pub picked_one : (parts : List (Vec (Vec Pair Global) Global)) (origins : List Origins) (refs : List (Vec Ref Global)) (tasks done rest : List PickTask) (t : PickTask) (x : Unit {0})
    → AreAllPicked parts origins refs tasks → (done ++ t ∷ []) ++ rest ≡ tasks → t.done ≡ Ok x → (h : Origins) → IsPickedOf parts refs (length done) (get_or origins (length done) h) t.answers
picked_one parts origins refs tasks done rest t x f whole is h =
    subst (λ (z : Result (Unit {0}) AllocError). OnOk z (IsPickedOf parts refs (length done) (get_or origins (length done) h) t.answers)) is (each_here (IsTaskPicked parts origins refs) tasks done rest t f whole h)
