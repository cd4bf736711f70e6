-- References that are noted for pairs, list by list.
use Rattle.std.proofs.Common.{◌≡◌, ℕ, zero, suc, ◌+◌, ◌<◌, List, [], ◌∷◌, ◌++◌, length, take, get_or, slice_get, Some, Ok, refl, sym, ◌∙◌, ap, subst, arith, append_assoc}
use Rattle.std.specs.List.{AllZip}
use Rattle.std.specs.declared.vec.Vec.{Vec}
use Rattle.std.specs.declared.alloc.Global.{Global}
use Rattle.std.proofs.lemmas.List.{take_more, append-nil}
use Rattle.slot_table.specs.declared.Admission.{Admission}
use Rattle.slot_table.specs.declared.Admission.TheVariants.{Found, Added}
use Rattle.slot_table.specs.Placing.{IsPlaced}
use Rattle.slot_table.proofs.Listing.{in_front, in_back}
pub use Rattle.slot_table.proofs.Listing.{in_either}
use Rattle.dd_store.specs.declared.StoreFault.{StoreFault}
use Rattle.dd_store.specs.declared.StoreFault.TheVariants.{Full, OutOfMemory}
use Rattle.dd_store.specs.declared.reference.Ref.{Ref}
use Rattle.dd_store.specs.declared.reference.Reference.TheVariants.{Node}
use Rattle.dd_store.specs.Graph.{Pair}
use Rattle.dd_store.specs.Complements.{is_complement, regular_pair}
use Rattle.slot_table.specs.Lists.{IsIn}
use Rattle.dd_store.specs.Growing.{Grows, IsAddListFault}
use Rattle.dd_store.specs.Levels.{list_at, all_at, regular_list, IsReferenceAt, IsMakeListFault}
use Rattle.dd_store.proofs.Places.{slice_get-push}

module _ {A B : Type 0} (R : A → B → Type 0) where
  pub zip_push : (xs : List A) (ys : List B) (x : A) (y : B) → AllZip R xs ys → R x y → AllZip R (xs ++ x ∷ []) (ys ++ y ∷ [])
  zip_push [] [] x y h r = (r, tt)
  zip_push [] (z ∷ ys) x y h r = absurd h
  zip_push (z ∷ xs) [] x y h r = absurd h
  zip_push (u ∷ xs) (v ∷ ys) x y h r = (h.0, zip_push xs ys x y h.1 r)

  pub zip_append : (xs us : List A) (ys vs : List B) → AllZip R xs ys → AllZip R us vs → AllZip R (xs ++ us) (ys ++ vs)
  zip_append [] us [] vs h k = k
  zip_append [] us (y ∷ ys) vs h k = absurd h
  zip_append (x ∷ xs) us [] vs h k = absurd h
  zip_append (x ∷ xs) us (y ∷ ys) vs h k = (h.0, zip_append xs us ys vs h.1 k)

-- what holds of elements of the first list may be used
pub zip_weaker : {A B : Type 0} (R Q : A → B → Type 0) (xs : List A) (ys : List B)
    → ((i : ℕ) (x : A) (y : B) → slice_get xs i ≡ Some x → R x y → Q x y) → AllZip R xs ys → AllZip Q xs ys
zip_weaker R Q [] [] f h = tt
zip_weaker R Q [] (y ∷ ys) f h = absurd h
zip_weaker R Q (x ∷ xs) [] f h = absurd h
zip_weaker R Q (x ∷ xs) (y ∷ ys) f h = (f zero x y refl h.0, zip_weaker R Q xs ys (λ i u v e r. f (suc i) u v e r) h.1)

-- the pairs of one part are among those of all
pub part_in : (parts : List (Vec (Vec Pair Global) Global)) (k s : ℕ) (part : Vec (Vec Pair Global) Global) → k < length parts → part ≡ get_or parts k part
    → (p : Pair) → IsIn (list_at part.items s) p → IsIn (all_at parts s) p
part_in [] k s part lt is p h = absurd (omega (arith, lt))
part_in (q ∷ parts) zero s part lt is p h =
    in_front (list_at q.items s) (all_at parts s) p (subst (λ (z : Vec (Vec Pair Global) Global). IsIn (list_at z.items s) p) is h)
part_in (q ∷ parts) (suc k) s part lt is p h =
    in_back (list_at q.items s) (all_at parts s) p (part_in parts k s part (omega (arith, lt)) is p h)

all_at-append : (xs ys : List (Vec (Vec Pair Global) Global)) (s : ℕ) → all_at (xs ++ ys) s ≡ all_at xs s ++ all_at ys s
all_at-append [] ys s = refl
all_at-append (x ∷ xs) ys s =
    ap (λ z. list_at x.items s ++ z) (all_at-append xs ys s) ∙ sym (append_assoc (list_at x.items s) (all_at xs s) (all_at ys s))

pub all_at-push : (parts : List (Vec (Vec Pair Global) Global)) (part : Vec (Vec Pair Global) Global) (s : ℕ)
    → all_at (parts ++ part ∷ []) s ≡ all_at parts s ++ list_at part.items s
all_at-push parts part s = all_at-append parts (part ∷ []) s ∙ ap (λ z. all_at parts s ++ z) (append-nil (list_at part.items s))

-- one part more
pub all_at-more : (parts : List (Vec (Vec Pair Global) Global)) (k s : ℕ) (part : Vec (Vec Pair Global) Global) → k < length parts → part ≡ get_or parts k part
    → all_at (take (k + 1) parts) s ≡ all_at (take k parts) s ++ list_at part.items s
all_at-more parts k s part lt is =
    ap (λ z. all_at z s) (take_more parts k part lt ∙ ap (λ z. take k parts ++ z ∷ []) (sym is))
    ∙ all_at-push (take k parts) part s

-- a reference stays that of its pair if pairs are added
pub IsReferenceAt-kept : (v s : ℕ) (list old new : List Pair) → Grows list old new → (p : Pair) (r : Ref) → IsReferenceAt v s old p r → IsReferenceAt v s new p r
IsReferenceAt-kept v s list old new g p r n = (n.0, n.1, g.kept n.0 (regular_pair p.0 p.1) n.2)

-- the place that a pair has found
abbrev pub index_of : Admission → ℕ
index_of (Found i) = i
index_of (Added i) = i

pub placed_at : (room : ℕ) (p : Pair) (old new : List Pair) (r : Admission) → IsPlaced room p old (Ok r) new → slice_get new (index_of r) ≡ Some p
placed_at room p old new (Found i) h = rw h.1 h.0
placed_at room p old new (Added i) h = rw (h.3, h.2) (slice_get-push old p)

-- the references of a list that is a pair longer
pub noted_more : (v s n : ℕ) (list old new : List Pair) (refs : List Ref) (d p : Pair) (r : Admission) → Grows (regular_list list) old new → n < length list → p ≡ get_or list n d
    → slice_get new (index_of r) ≡ Some (regular_pair p.0 p.1) → AllZip (IsReferenceAt v s old) (take n list) refs
    → AllZip (IsReferenceAt v s new) (take (n + 1) list) (refs ++ Node (record { level = v; shard = s; index = index_of r }) (is_complement p.1) ∷ [])
noted_more v s n list old new refs d p r g lt is at h =
    let t : take (n + 1) list ≡ take n list ++ p ∷ [] = take_more list n d lt ∙ ap (λ z. take n list ++ z ∷ []) (sym is) in
    let kept = zip_weaker (IsReferenceAt v s old) (IsReferenceAt v s new) (take n list) refs (λ i x y e w. IsReferenceAt-kept v s (regular_list list) old new g x y w) h in
    rw t (zip_push (IsReferenceAt v s new) (take n list) refs p (Node (record { level = v; shard = s; index = index_of r }) (is_complement p.1)) kept (index_of r, refl, at))

-- the references of all parts so far, and those of one more
pub noted_part : (v s : ℕ) (list more old new : List Pair) (found refs : List Ref) → Grows (regular_list more) old new → AllZip (IsReferenceAt v s old) list found
    → AllZip (IsReferenceAt v s new) more refs → AllZip (IsReferenceAt v s new) (list ++ more) (found ++ refs)
noted_part v s list more old new found refs g h k =
    zip_append (IsReferenceAt v s new) list more found refs (zip_weaker (IsReferenceAt v s old) (IsReferenceAt v s new) list found (λ i x y e w. IsReferenceAt-kept v s (regular_list more) old new g x y w) h) k

-- a fault of one part is one of all
pub IsMakeListFault-wider : (limit : ℕ) (list more new : List Pair) (f : StoreFault) → ((p : Pair) → IsIn list p → IsIn more p) → IsMakeListFault limit list new f
    → IsMakeListFault limit more new f
IsMakeListFault-wider limit list more new Full in_more h = (h.0, (h.1.0, in_more h.1.0 h.1.1, h.1.2))
IsMakeListFault-wider limit list more new OutOfMemory in_more h = h

pub halted : (limit : ℕ) (list new : List Pair) (f : StoreFault) → IsAddListFault limit list new (Some f) → IsMakeListFault limit list new f
halted limit list new Full h = h
halted limit list new OutOfMemory h = tt
