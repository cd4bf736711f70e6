-- Lists that are emptied, and the requests that are handed over to the workers.
use Rattle.std.proofs.Common.{◌≡◌, ℕ, zero, suc, ◌+◌, ◌-◌, ◌<◌, ◌≤◌, inl, inr, List, [], ◌∷◌, ◌++◌, length, set, take, drop, Some, slice_get, refl, sym, ◌∙◌, ap, subst, arith, append_assoc, Contains, All}
use Rattle.std.specs.List.{AllZip}
use Rattle.std.proofs.Math.ListN.{length-drop}
use Rattle.std.proofs.lemmas.List.Elements.{Contains-append_cases}
use Rattle.std.proofs.lemmas.List.{length-append, length-set, take-append-drop, take_more, append-nil}
use Rattle.std.proofs.lemmas.Option.{slice_get-get_or}
use Rattle.dd_store.specs.declared.reference.Ref.{Ref}
use Rattle.dd_store.specs.Nodes.{Nodes, IsSound, IsDiagram, count_of}
use Rattle.dd_store.proofs.Places.{slice_get-append}
use Rattle.req_table.specs.declared.Key.{Key}
use Rattle.req_table.specs.Keys.{IsKey, meaning}
use Rattle.reduce_up.specs.Reducing.{AddsDescribed}
use Rattle.reduce_up.specs.Waves.{Entry, entry_value, entry_for, entries_for, IsEntry, AnswersEach, IsWanted, IsWithinLimit, IsWaveFault, HasRequest}
use Rattle.expand_work.specs.declared.fault.WaveFault.{WaveFault}
use Rattle.expand_work.specs.declared.fault.WaveFault.TheVariants as wave_faults
use Rattle.reduce_up.proofs.Reduction.{adds_none}
use Rattle.reduce_up.proofs.Noting.{nothing, head_in, tail_in, in_cases}
use Rattle.reduce_up.proofs.Rooted.{all_of}
use Rattle.req_table.specs.Places.{row, IsAtPlace}
use Rattle.reduce_up.specs.ByPlace.{AreAdmitted}
use Rattle.reduce_up.specs.ReductionPhase.{AreReducedBelow, IsWithinBelow}
use Rattle.reduce_up.specs.AnswersByLevel.{joined}
use Rattle.wave_engine.specs.Front.{keys_from, count_before, IsCopied, ArePut}
use Rattle.req_table.proofs.AtPlace.{same_level, at_place_none, in_lists, row_own, row_other}
use Rattle.reduce_up.proofs.Wanted.{AreReachedBy, diagram_answer, adds_through, lacks_through, has_request_of}

-- lists one after the other
joined-append : {X : Type 0} (a b : List (List X)) → joined (a ++ b) ≡ joined a ++ joined b
joined-append [] b = refl
joined-append (x ∷ a) b = ap (λ z. x ++ z) (joined-append a b) ∙ sym (append_assoc x (joined a) (joined b))

pub joined_more : {X : Type 0} (xs : List (List X)) (n : ℕ) → n < length xs → joined (take (n + 1) xs) ≡ joined (take n xs) ++ row xs n
joined_more xs n lt = ap joined (take_more xs n [] lt) ∙ joined-append (take n xs) (row xs n ∷ []) ∙ ap (λ z. joined (take n xs) ++ z) (append-nil (row xs n))

row_drop : {X : Type 0} (xs : List (List X)) (v n : ℕ) → row (drop v xs) n ≡ row xs (v + n)
row_drop xs zero n = ap (row xs) (let e : n ≡ 0 + n = omega arith in e)
row_drop [] (suc v) n = refl
row_drop (x ∷ xs) (suc v) n = row_drop xs v n ∙ ap (row (x ∷ xs)) (let e : suc (v + n) ≡ suc v + n = omega arith in e)

-- what is in one of them is in all together
joined_at : {X : Type 0} (xs : List (List X)) (n q : ℕ) (x : X) → IsAtPlace xs n q x → slice_get (joined xs) (length (joined (take n xs)) + q) ≡ Some x
joined_at [] n q x h = absurd (at_place_none [] q x refl h)
joined_at (y ∷ ys) zero q x h = subst (λ z. slice_get (y ++ joined ys) z ≡ Some x) (let e : q ≡ 0 + q = omega arith in e) (slice_get-append y (joined ys) q x h)
joined_at {X = X} (y ∷ ys) (suc n) q x h = later y (joined ys) (length (joined (take n ys)) + q) x (joined_at ys n q x h) (length (y ++ joined (take n ys)) + q) (simp length-append (omega arith))
  where
    later : (a b : List X) (i : ℕ) (x : X) → slice_get b i ≡ Some x → (j : ℕ) → j ≡ length a + i → slice_get (a ++ b) j ≡ Some x
    later [] b i x h j e = subst (λ z. slice_get b z ≡ Some x) (let f : i ≡ j = omega (arith, e) in f) h
    later (z ∷ a) b i x h zero e = absurd (omega (arith, e))
    later (z ∷ a) b i x h (suc j) e = later a b i x h j (omega (arith, e))

-- what is in all together is in one of them
joined_from : {X : Type 0} (xs : List (List X)) (x : X) → Contains (joined xs) x → (n : ℕ) × (q : ℕ) × IsAtPlace xs n q x
joined_from [] x c = absurd (nothing x c)
joined_from (y ∷ ys) x c = elim (Contains-append_cases y (joined ys) x c) [
  | inl h ↦ (0, h.0, slice_get-get_or y h.0 x h.1 ∙ ap (λ z. Some z) h.2)
  | inr h ↦ let m = joined_from ys x h in (suc m.0, m.1, m.2)
]

module _ (tables : List (List Key)) (v : ℕ) where
  pub before_next : (w : ℕ) → v ≤ w → w < length tables → count_before v (w + 1) tables ≡ count_before v w tables + length (row tables w)
  before_next w le lt =
      let n : ℕ = w - v in
      let d : length (drop v tables) ≡ length tables - v = length-drop v tables in
      let m : (w + 1) - v ≡ n + 1 = omega (arith, le) in
      let at : row (drop v tables) n ≡ row tables w = row_drop tables v n ∙ ap (row tables) (omega (arith, le)) in
      ap (λ z. length (joined (take z (drop v tables)))) m
      ∙ ap length (joined_more (drop v tables) n (omega (arith, d, le, lt)) ∙ ap (λ z. joined (take n (drop v tables)) ++ z) at)
      ∙ simp length-append refl

  pub before_all : (w : ℕ) → count_before v w tables ≤ length (keys_from v tables)
  before_all w =
      let n : ℕ = w - v in
      let e : joined (take n (drop v tables)) ++ joined (drop n (drop v tables)) ≡ keys_from v tables = sym (joined-append (take n (drop v tables)) (drop n (drop v tables))) ∙ ap joined (take-append-drop n (drop v tables)) in
      let l : length (joined (take n (drop v tables)) ++ joined (drop n (drop v tables))) ≡ length (keys_from v tables) = ap length e in
      let s : length (joined (take n (drop v tables)) ++ joined (drop n (drop v tables))) ≡ count_before v w tables + length (joined (drop n (drop v tables))) = length-append (joined (take n (drop v tables))) (joined (drop n (drop v tables))) in
      omega (arith, l, s)

  pub key_before : (w q : ℕ) (k : Key) → v ≤ w → IsAtPlace tables w q k → slice_get (keys_from v tables) (count_before v w tables + q) ≡ Some k
  key_before w q k le h =
      let at : row tables w ≡ row (drop v tables) (w - v) = ap (row tables) (omega (arith, le)) ∙ sym (row_drop tables v (w - v)) in
      joined_at (drop v tables) (w - v) q k (subst (λ (z : List Key). slice_get z q ≡ Some k) at h)

  pub key_from : (k : Key) → Contains (keys_from v tables) k → (w : ℕ) × (q : ℕ) × (v ≤ w) × IsAtPlace tables w q k
  key_from k c =
      let m = joined_from (drop v tables) k c in
      (v + m.0, m.1, omega arith, subst (λ (z : List Key). slice_get z m.1 ≡ Some k) (row_drop tables v m.0) m.2)

  -- one more level has its answers
  pub put_more : (found : List Ref) (u : ℕ) (A : List (List Ref)) → ArePut tables v found u A → v ≤ u → u < length tables → (new : List Ref) → IsCopied found (count_before v u tables) (length (row tables u)) new → ArePut tables v found (u + 1) (set A u new)
  put_more found u A p le lt new c = record {
    levels = length-set A u new ∙ p.levels;
    counts = λ w l m. elim (same_level w u) [
      | inl d ↦ subst (λ z. length (row (set A u new) z) ≡ length (row tables z)) (sym d) (ap length own ∙ c.count)
      | inr d ↦ ap length (row_other A u new w d) ∙ p.counts w l (grind (arith, m, d))
    ];
    placed = λ w q r l m h. elim (same_level w u) [
      | inl d ↦ subst (λ z. slice_get found (count_before v z tables + q) ≡ Some r) (sym d) (c.placed q r (subst (λ (z : List Ref). slice_get z q ≡ Some r) own (subst (λ z. IsAtPlace (set A u new) z q r) d h)))
      | inr d ↦ p.placed w q r l (grind (arith, m, d)) (subst (λ (z : List Ref). slice_get z q ≡ Some r) (row_other A u new w d) h)
    ];
  }
    where
      own : row (set A u new) u ≡ new
      own = row_own A u new (let e : length A ≡ length tables = p.levels in omega (arith, e, lt))

-- the list of requests that are handed over, after one more level
pub front_more : (tables : List (List Key)) (v w : ℕ) (F G : List Key) → v ≤ w → w < length tables → F ≡ joined (take (w - v) (drop v tables)) → G ≡ F ++ row tables w → G ≡ joined (take ((w + 1) - v) (drop v tables))
front_more tables v w F G le lt f g =
    let n : ℕ = w - v in
    let d : length (drop v tables) ≡ length tables - v = length-drop v tables in
    let m : (w + 1) - v ≡ n + 1 = omega (arith, le) in
    let at : row (drop v tables) n ≡ row tables w = row_drop tables v n ∙ ap (row tables) (omega (arith, le)) in
    g ∙ ap (λ z. z ++ row tables w) f
    ∙ ap (λ z. joined (take n (drop v tables)) ++ z) (sym at)
    ∙ sym (joined_more (drop v tables) n (omega (arith, d, le, lt)))
    ∙ ap (λ z. joined (take z (drop v tables))) (sym m)

-- what an element of a list of entries is
of_front : (ks : List Key) (e : Entry) → Contains (entries_for ks) e → (k : Key) × Contains ks k × (e ≡ entry_for k)
of_front [] e c = absurd (nothing {X = Entry} e c)
of_front (k ∷ ks) e c = elim (in_cases {X = Entry} (entry_for k) e (entries_for ks) c) [
  | inl d ↦ (k, head_in k ks, sym d)
  | inr i ↦ let m = of_front ks e i in (m.0, tail_in k m.0 ks m.1, m.2)
]

-- answers of entries, at a place
zip_at : (D : Entry → Ref → Type 0) (ks : List Key) (rs : List Ref) → AllZip D (entries_for ks) rs → (i : ℕ) (k : Key) (r : Ref) → slice_get ks i ≡ Some k → slice_get rs i ≡ Some r → D (entry_for k) r
zip_at D [] rs z i k r a b = absurd (at_place_none [] i k refl a)
zip_at D (x ∷ ks) [] z i k r a b = absurd z
zip_at D (x ∷ ks) (y ∷ rs) z zero k r a b = let e : x ≡ k = cc in let f : y ≡ r = cc in subst (λ u. D (entry_for u) r) e (subst (D (entry_for x)) f z.0)
zip_at D (x ∷ ks) (y ∷ rs) z (suc i) k r a b = zip_at D ks rs z.1 i k r a b

pub zip_length : (D : Entry → Ref → Type 0) (ks : List Key) (rs : List Ref) → AllZip D (entries_for ks) rs → length rs ≡ length ks
zip_length D [] [] z = refl
zip_length D [] (y ∷ rs) z = absurd z
zip_length D (x ∷ ks) [] z = absurd z
zip_length D (x ∷ ks) (y ∷ rs) z = ap suc (zip_length D ks rs z.1)

-- A wave over the store S: the requests from level v on are handed over.
module _ (S : Nodes) (w : IsSound S) (entries : List Entry) (good : All (IsEntry S) entries) (T : List (List Key)) (adm : AreAdmitted S entries T) (v : ℕ) where
  pub front_reached : AreReachedBy S w entries good (entries_for (keys_from v T))
  front_reached e c =
      let m = of_front (keys_from v T) e c in
      let p = key_from T v m.0 m.1 in
      (p.0, m.0, adm.keys p.0 p.1 m.0 p.3, λ x hx. ap (λ (z : Entry). entry_value S z x) m.2)

  pub front_keys : All (IsKey S) (keys_from v T)
  front_keys = all_of (IsKey S) (keys_from v T) (λ k c. let p = key_from T v k c in (adm.keys p.0 p.1 k p.3).key)

  none_stands : keys_from v T ≡ [] → (u q : ℕ) (k : Key) → v ≤ u → IsAtPlace T u q k → ⊥
  none_stands e u q k le h = at_place_none (keys_from v T) (count_before v u T + q) k e (key_before T v u q k le h)

  -- nothing is handed over
  pub none_over : keys_from v T ≡ [] → (A : List (List Ref)) → length A ≡ S.levels → AreReducedBelow S entries T v S A
  none_over e A a = record {
    held = w;
    adds = adds_none S S (IsWanted S entries) refl;
    levels = a;
    counts = λ u q k le h. absurd (none_stands e u q k le h);
    answered = λ u q k r le h g. absurd (none_stands e u q k le h);
    within = inr (λ u q k le h. none_stands e u q k le h, refl);
  }

  pub none_within : keys_from v T ≡ [] → IsWithinBelow S T v S
  none_within e = inr (λ u q k le h. none_stands e u q k le h, refl)

  -- the workers' answers are put into the lists of their levels
  module _ (U : Nodes) (sU : IsSound U) (adds : AddsDescribed S U (IsWanted S (entries_for (keys_from v T)))) where
    pub over_adds : AddsDescribed S U (IsWanted S entries)
    over_adds = adds_through S w entries good U (entries_for (keys_from v T)) front_reached adds

    asked : (k : Key) (ks : List Key) → keys_from v T ≡ k ∷ ks → HasRequest (entries_for (keys_from v T))
    asked k ks e =
        let p = key_from T v k (subst (λ z. Contains z k) (sym e) (head_in k ks)) in
        (entry_for k, subst (λ z. Contains {X = Entry} (entries_for z) (entry_for k)) (sym e) (head_in {X = Entry} (entry_for k) (entries_for ks)), (adm.keys p.0 p.1 k p.3).key.long)

    pub over_within : (keys_from v T ≡ [] → ⊥) → IsWithinLimit S (entries_for (keys_from v T)) U → count_of U ≤ U.limit
    over_within some (inl le) = le
    over_within some (inr n) = absurd (by (keys_from v T) refl)
      where
        by : (ks : List Key) → keys_from v T ≡ ks → ⊥
        by [] e = some e
        by (k ∷ ks) e = n.0 (asked k ks e)

    pub over_fault : (f : WaveFault) → IsWaveFault S (entries_for (keys_from v T)) U f → IsWaveFault S entries U f
    over_fault wave_faults.OutOfMemory x = tt
    over_fault wave_faults.NoWorker x = tt
    over_fault wave_faults.TooManyRequests x = tt
    over_fault wave_faults.Stopped x = tt
    over_fault wave_faults.Full x =
        let a = front_reached x.0.0 x.0.1 in
        (has_request_of S w entries good a.0 a.1 a.2, elim x.1 [ inl o ↦ inl o | inr f ↦ inr (f.0, lacks_through S w entries good U (entries_for (keys_from v T)) front_reached f.1) ])

    pub over_reduced : (found : List Ref) (A : List (List Ref)) → AnswersEach S (entries_for (keys_from v T)) U found → ArePut T v found (length T) A → count_of U ≤ U.limit → AreReducedBelow U entries T v U A
    over_reduced found A z p within = record {
      held = sU;
      adds = adds_none U U (IsWanted U entries) refl;
      levels = p.levels ∙ adm.levels ∙ sym adds.keeps.levels;
      counts = λ u q k le h. p.counts u le (in_lists T u q k h);
      answered = λ u q k r le h g.
          let lt : u < length T = in_lists T u q k h in
          let d : IsDiagram U r (meaning S k) = zip_at (λ e r. IsDiagram U r (entry_value S e)) (keys_from v T) found z (count_before v u T + q) k r (key_before T v u q k le h) (p.placed u q r le lt g) in
          diagram_answer S w entries good U sU adds.keeps u k (adm.keys u q k h) r d;
      within = inl within;
    }

pub front_none : (ks : List Key) → length ks ≡ 0 → ks ≡ []
front_none [] e = refl
front_none (k ∷ ks) e = absurd (omega (arith, e))
