-- Lists of lists, and of names.
use Rattle.std.proofs.Common.{◌≡◌, ℕ, ◌+◌, ◌<◌, List, [], ◌∷◌, ◌++◌, Vec, sym, ap, ◌∙◌, length, map, take, get_or, set}
use Rattle.std.specs.declared.alloc.Global.{Global}
use Rattle.std.specs.Prelude.{Some, slice_get}
use Rattle.std.specs.List.{slice_index_or}
use Rattle.std.proofs.lemmas.List.{get_or-map, map-append, map-set, take_more}
use Rattle.std.proofs.lemmas.Option.{get_or_from_slice_get}
use Rattle.net_order.specs.Force.{numbers_below}
use Rattle.net_order.specs.Order.{numbered}
use Rattle.net_order.proofs.Forcing.{mapped_more}
use Rattle.group_order.specs.WeightCones.{pushed}

-- one more number in a list of lists
pub pushed_is : (lists : List (Vec ℕ Global)) (place k : ℕ) (old new : Vec ℕ Global) → place < length lists → old ≡ get_or lists place old → new.items ≡ old.items ++ k ∷ [] →
    map (λ (w : Vec ℕ Global). w.items) (set lists place new) ≡ pushed (map (λ (w : Vec ℕ Global). w.items) lists) place k
pushed_is lists place k old new low at grown =
    let items : Vec ℕ Global → List ℕ = λ w. w.items in
    map-set items lists place new ∙
    ap (set (map items lists) place) (grown ∙ ap (λ xs. xs ++ k ∷ []) (ap items at ∙ sym (get_or-map items lists place old [] low)))

-- the name of one more number
pub listed_more : (names : List (List ℕ)) (numbers : List ℕ) (i v : ℕ) (name : List ℕ) → i < length numbers → v ≡ get_or numbers i v → slice_get names v ≡ Some name →
    numbered names (take (i + 1) numbers) ≡ numbered names (take i numbers) ++ name ∷ []
listed_more names numbers i v name low is at =
    let f : ℕ → List ℕ = λ w. slice_index_or names w [] in
    ap (map f) (take_more numbers i v low) ∙ map-append f (take i numbers) (get_or numbers i v ∷ []) ∙ ap (λ w. map f (take i numbers) ++ f w ∷ []) (sym is) ∙
    ap (λ n. map f (take i numbers) ++ n ∷ []) (get_or_from_slice_get names v name [] at)

-- the key of one more name
pub key_more : (f : List ℕ → ℕ) (names : List (List ℕ)) (i : ℕ) (name : List ℕ) (key : ℕ) (old new : List ℕ) → slice_get names i ≡ Some name → key ≡ f name →
    old ≡ map (λ v. f (slice_index_or names v [])) (numbers_below i) → new ≡ old ++ key ∷ [] → new ≡ map (λ v. f (slice_index_or names v [])) (numbers_below (i + 1))
key_more f names i name key old new at is before grown =
    let named : name ≡ slice_index_or names i [] = sym (get_or_from_slice_get names i name [] at) in
    grown ∙ ap (λ ks. ks ++ key ∷ []) before ∙ ap (λ k. map (λ v. f (slice_index_or names v [])) (numbers_below i) ++ k ∷ []) (is ∙ ap f named) ∙
    sym (mapped_more (λ v. f (slice_index_or names v [])) i)
