-- Names among the bytes of all, and what remains true after one more name.
use Rattle.std.proofs.Common.{◌≡◌, inl, inr, ℕ, zero, suc, ◌+◌, ◌*◌, ◌<◌, ◌≤◌, List, [], ◌∷◌, ◌++◌, Bool, true, false, true≢false, refl, sym, ap, ◌∙◌, subst, length, get_or, set, take, drop, slice_get, arith, length-append, add-one}
use Rattle.std.specs.Prelude.{All, bytes_eq, Some, None, option_map}
use Rattle.std.proofs.lemmas.List.{take-append-le, drop-append-le, length-map, map-append, length_push, length-set}
use Rattle.std.proofs.Math.Seq.{drop-append_seam, take-suc}
use Rattle.std.proofs.lemmas.Slice.Eq.{bytes_eq-Decides}
use Rattle.std.proofs.lemmas.Option.{slice_get_within, slice_get-get_or, get_or_from_slice_get, slice_get-map}
use Rattle.std.proofs.lemmas.List.Quantifiers.{position-Some}
use Rattle.std.proofs.lemmas.List.Folds.{list_any_at}
use Rattle.net_bench.proofs.Places.{passes_none}
use Rattle.net_bench.specs.declared.name_table.Span.{Span}
use Rattle.net_bench.specs.Circuit.{find, is_name_in}
use Rattle.slot_table.specs.Probes.{Probes, IsFree, home_of}
use Rattle.net_bench.specs.NameTable.{name_in, names_in, IsInside, NamesAreDistinct, IsTable, folded_hash_of}
use Rattle.slot_table.proofs.Places.{slice_get_cases-push}
use Rattle.slot_table.proofs.Probing.{Probes-push}

-- ---- bytes at the end change no name

length-drop_more : (n : ℕ) (xs : List ℕ) (k : ℕ) → n + k ≤ length xs → k ≤ length (drop n xs)
length-drop_more zero xs k h = omega arith
length-drop_more (suc n) [] k h = absurd (omega arith)
length-drop_more (suc n) (x ∷ xs) k h = length-drop_more n xs k (omega arith)

same_name_in : (bytes more : List ℕ) (s : Span) → IsInside bytes s → name_in (bytes ++ more) s ≡ name_in bytes s
same_name_in bytes more s h =
    ap (take s.len) (drop-append-le s.start bytes more (omega arith)) ∙
    take-append-le s.len (drop s.start bytes) more (length-drop_more s.start bytes s.len h)

same_names : (bytes more : List ℕ) (spans : List Span) → All (IsInside bytes) spans → names_in (bytes ++ more) spans ≡ names_in bytes spans
same_names bytes more [] h = refl
same_names bytes more (s ∷ ss) h =
    ap (λ n. n ∷ names_in (bytes ++ more) ss) (same_name_in bytes more s (h 0 s (omega arith))) ∙
    ap (λ ns. name_in bytes s ∷ ns) (same_names bytes more ss (λ k d low. h (suc k) d (omega arith)))

take_all : (xs : List ℕ) → take (length xs) xs ≡ xs
take_all [] = refl
take_all (x ∷ xs) = ap (λ l. x ∷ l) (take_all xs)

-- the new span has the name
new_name : (bytes name : List ℕ) (s : Span) → s.start ≡ length bytes → s.len ≡ length name → name_in (bytes ++ name) s ≡ name
new_name bytes name s at long =
    ap (λ n. take s.len (drop n (bytes ++ name))) at ∙ ap (take s.len) (drop-append_seam bytes name) ∙ ap (λ n. take n name) long ∙ take_all name

-- the name at a place
pub named_at : (bytes : List ℕ) (spans : List Span) (j : ℕ) (d : Span) → j < length spans → slice_get (names_in bytes spans) j ≡ Some (name_in bytes (get_or spans j d))
named_at bytes spans j d low = slice_get-map (name_in bytes) spans j ∙ ap (option_map (name_in bytes)) (slice_get-get_or spans j d low)

pub names_count : (bytes : List ℕ) (spans : List Span) → length (names_in bytes spans) ≡ length spans
names_count bytes spans = length-map spans (name_in bytes)

pub names_next : (bytes : List ℕ) (spans : List Span) (k : ℕ) (d : Span) → k < length spans →
    names_in bytes (take (k + 1) spans) ≡ names_in bytes (take k spans) ++ name_in bytes (get_or spans k d) ∷ []
names_next bytes spans k d low =
    ap (λ n. names_in bytes (take n spans)) (add-one k) ∙ ap (names_in bytes) (take-suc spans k d low) ∙ map-append (name_in bytes) (take k spans) (get_or spans k d ∷ [])

-- ---- one more name

module _ (bytes name : List ℕ) (spans : List Span) (s : Span) (in_bounds : All (IsInside bytes) spans) (at : s.start ≡ length bytes) (long : s.len ≡ length name) where
  pub more_names : names_in (bytes ++ name) (spans ++ s ∷ []) ≡ names_in bytes spans ++ name ∷ []
  more_names =
      map-append (name_in (bytes ++ name)) spans (s ∷ []) ∙ ap (λ ns. ns ++ name_in (bytes ++ name) s ∷ []) (same_names bytes name spans in_bounds) ∙
      ap (λ n. names_in bytes spans ++ n ∷ []) (new_name bytes name s at long)

  old_inside : (t : Span) → IsInside bytes t → IsInside (bytes ++ name) t
  old_inside t h = let e : length (bytes ++ name) ≡ length bytes + length name = length-append bytes name in omega arith

  inside_more : (ss : List Span) → All (IsInside bytes) ss → All (IsInside (bytes ++ name)) (ss ++ s ∷ [])
  inside_more [] h zero d low = let e : length (bytes ++ name) ≡ length bytes + length name = length-append bytes name in omega arith
  inside_more [] h (suc k) d low = absurd (omega arith)
  inside_more (t ∷ ts) h zero d low = old_inside t (h 0 t (omega arith))
  inside_more (t ∷ ts) h (suc k) d low = inside_more ts (λ i e lt. h (suc i) e (omega arith)) k d (omega arith)

  pub all_inside : All (IsInside (bytes ++ name)) (spans ++ s ∷ [])
  all_inside = inside_more spans in_bounds

-- a list with a name that is not there has each name once
pub once_more : (names : List (List ℕ)) (name : List ℕ) → NamesAreDistinct names → ((i : ℕ) → slice_get names i ≡ Some name → ⊥) → NamesAreDistinct (names ++ name ∷ [])
once_more names name once new i j n e f =
    elim (slice_get_cases-push names name i n e) [
      | inl a ↦ elim (slice_get_cases-push names name j n f) [
        | inl b ↦ once i j n a b
        | inr b ↦ absurd (new i (subst (λ m. slice_get names i ≡ Some m) b.1 a))
      ]
      | inr a ↦ elim (slice_get_cases-push names name j n f) [
        | inl b ↦ absurd (new j (subst (λ m. slice_get names j ≡ Some m) a.1 b))
        | inr b ↦ a.0 ∙ sym b.0
      ]
    ]

-- ---- the number of a name

-- if no name is there twice, find returns the place of the name
pub found_place : (names : List (List ℕ)) (n : List ℕ) (i : ℕ) → NamesAreDistinct names → slice_get names i ≡ Some n → find names n ≡ Some i
found_place names n i once at =
    elim (find names n) as (λ o. find names n ≡ o → o ≡ Some i) [
      | None ↦ λ e.
          let none : is_name_in names n ≡ false = passes_none (λ m. bytes_eq m n) names e in
          let low : i < length names = slice_get_within names i n at in
          let there : is_name_in names n ≡ true = list_any_at (λ m. bytes_eq m n) names i [] low (ap (λ m. bytes_eq m n) (get_or_from_slice_get names i n [] at) ∙ (bytes_eq-Decides n n).1 refl) in
          cc
      | Some k ↦ λ e.
          let h = position-Some (λ m. bytes_eq m n) names k [] e in
          let same : get_or names k [] ≡ n = (bytes_eq-Decides (get_or names k []) n).0 h.1 in
          ap (λ j. Some j) (once k i n (slice_get-get_or names k [] h.0 ∙ ap (λ m. Some m) same) at)
    ] refl

-- a name that is not in the list has no place
pub found_missing : (names : List (List ℕ)) (n : List ℕ) → ((i : ℕ) → slice_get names i ≡ Some n → ⊥) → find names n ≡ None
found_missing names n none =
    elim (find names n) as (λ o. find names n ≡ o → o ≡ None) [
      | None ↦ λ e. refl
      | Some k ↦ λ e.
          let h = position-Some (λ m. bytes_eq m n) names k [] e in
          let same : get_or names k [] ≡ n = (bytes_eq-Decides (get_or names k []) n).0 h.1 in
          absurd (none k (slice_get-get_or names k [] h.0 ∙ ap (λ m. Some m) same))
    ] refl

-- a name without a number is not in the list
pub nowhere : (names : List (List ℕ)) (n : List ℕ) → find names n ≡ None → (i : ℕ) → slice_get names i ≡ Some n → ⊥
nowhere names n e i at =
    let none : is_name_in names n ≡ false = passes_none (λ m. bytes_eq m n) names e in
    let low : i < length names = slice_get_within names i n at in
    let there : is_name_in names n ≡ true = list_any_at (λ m. bytes_eq m n) names i [] low (ap (λ m. bytes_eq m n) (get_or_from_slice_get names i n [] at) ∙ (bytes_eq-Decides n n).1 refl) in
    true≢false (sym there ∙ none)

-- ---- names that are compared

pub same_bytes : (m n : List ℕ) (b : Bool) → b ≡ bytes_eq m n → b ≡ true → m ≡ n
same_bytes m n b e h = (bytes_eq-Decides m n).0 (sym e ∙ h)

pub other_bytes : (m n : List ℕ) (b : Bool) → b ≡ bytes_eq m n → b ≡ false → m ≡ n → ⊥
other_bytes m n b e h same = true≢false (sym ((bytes_eq-Decides m n).1 same) ∙ sym e ∙ h)

pub same_some : (m n : List ℕ) → Some m ≡ Some n → m ≡ n
same_some m n e = cc

-- ---- a table with one more name

pub IsTable-push : (bytes more name : List ℕ) (spans grown : List Span) (s : Span) (ts : List ℕ) (j x : ℕ) →
    All (IsInside bytes) spans → NamesAreDistinct (names_in bytes spans) → Probes folded_hash_of (length ts) (names_in bytes spans) ts → 2 * (length spans + 1) ≤ length ts →
    ((i : ℕ) → slice_get (names_in bytes spans) i ≡ Some name → ⊥) → IsFree (length ts) (home_of folded_hash_of (length ts) name) ts j →
    more ≡ bytes ++ name → grown ≡ spans ++ s ∷ [] → s.start ≡ length bytes → s.len ≡ length name → x ≡ length spans + 1 → IsTable more grown (set ts j x)
IsTable-push bytes more name spans grown s ts j x in_bounds once probes room absent free is_more is_grown at long slot_value =
    let names : List (List ℕ) = names_in bytes spans in
    let count : length (names_in bytes spans) ≡ length spans = names_count bytes spans in
    let e : names_in more grown ≡ names_in bytes spans ++ name ∷ [] =
    ap (λ b. names_in b grown) is_more ∙ ap (names_in (bytes ++ name)) is_grown ∙ more_names bytes name spans s in_bounds at long in
    let v : Probes folded_hash_of (length ts) (names_in bytes spans ++ name ∷ []) (set ts j (suc (length (names_in bytes spans)))) = Probes-push folded_hash_of (length ts) (names_in bytes spans) ts name j probes free in
    let is : suc (length (names_in bytes spans)) ≡ x = omega arith in
    let size : length ts ≡ length (set ts j x) = sym (length-set ts j x) in
    let p : Probes folded_hash_of (length ts) (names_in bytes spans ++ name ∷ []) (set ts j x) = subst (λ (z : ℕ). Probes folded_hash_of (length ts) (names_in bytes spans ++ name ∷ []) (set ts j z)) is v in
    let q : Probes folded_hash_of (length (set ts j x)) (names_in bytes spans ++ name ∷ []) (set ts j x) = subst (λ (z : ℕ). Probes folded_hash_of z (names_in bytes spans ++ name ∷ []) (set ts j x)) size p in
    let all : All (IsInside (bytes ++ name)) (spans ++ s ∷ []) = all_inside bytes name spans s in_bounds at long in
    let len : length grown ≡ length spans + 1 = ap (λ (z : List Span). length z) is_grown ∙ length_push spans s in
    record {
      in_bounds = subst (λ (z : List Span). All (IsInside more) z) (sym is_grown) (subst (λ (z : List ℕ). All (IsInside z) (spans ++ s ∷ [])) (sym is_more) all);
      once = subst NamesAreDistinct (sym e) (once_more (names_in bytes spans) name once absent);
      probes = subst (λ (z : List (List ℕ)). Probes folded_hash_of (length (set ts j x)) z (set ts j x)) (sym e) q;
      half = omega arith;
    }
