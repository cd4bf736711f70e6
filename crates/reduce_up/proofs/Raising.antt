-- Reduction by place: one request, one level, and level by level.
use Rattle.std.proofs.Common.{◌≡◌, ◌≢◌, ℕ, ◌+◌, ◌<◌, ◌≤◌, ◌⊎◌, inl, inr, true, false, Bool, List, [], ◌∷◌, ◌++◌, length, Option, Some, None, slice_get, refl, sym, ◌∙◌, ap, subst, arith, Contains, All}
use Rattle.std.specs.Prelude.{Ok, Err}
use Rattle.std.proofs.Math.Nat.{eq-or-lt_of_le}
use Rattle.std.proofs.lemmas.Bool.{cases_lt}
use Rattle.std.proofs.lemmas.List.{length-append}
use Rattle.std.proofs.lemmas.Option.{slice_get_within}
use Rattle.dd_store.specs.declared.reference.Ref.{Ref}
use Rattle.dd_store.specs.declared.StoreFault.{StoreFault}
use Rattle.dd_store.specs.declared.StoreFault.TheVariants as store_faults
use Rattle.dd_store.specs.Complements.{complement_by}
use Rattle.dd_store.specs.Nodes.{Nodes, IsSound, count_of}
use Rattle.dd_store.specs.View.{Keeps, IsMade, IsFull}
use Rattle.dd_store.proofs.Places.{slice_get_cases-push}
use Rattle.expand_work.specs.declared.fault.WaveFault.{WaveFault}
use Rattle.expand_work.specs.declared.fault.WaveFault.TheVariants as wave_faults
use Rattle.req_table.specs.declared.Key.{Key}
use Rattle.req_table.specs.declared.Child.{Child}
use Rattle.req_table.specs.declared.Child.TheVariants as child
use Rattle.req_table.specs.declared.Record.{Record}
use Rattle.req_table.specs.Keys.{child_of, record_of, meaning}
use Rattle.expand_work.specs.Fault.{wave_fault}
use Rattle.reduce_up.specs.Reducing.{IsKeyAt, IsAnswer, IsAnswerAt, IsChild, IsRecordAt, AreAnswers, AskedBy, AddsDescribed, IsRecordFault}
use Rattle.reduce_up.specs.Waves.{Entry, IsEntry, IsWaveFault, requests_of}
use Rattle.reduce_up.proofs.Missing.{record_fault}
use Rattle.reduce_up.proofs.Reduction.{resolved, record_kept, record_done, kept_meaning, answer_kept, adds_none}
use Rattle.reduce_up.proofs.Noting.{nothing, in_cases}
use Rattle.reduce_up.proofs.Closed.{key_at, right}
use Rattle.reduce_up.proofs.Adding.{adds_either, adds_then}
use Rattle.reduce_up.proofs.Rooted.{requests_good}
use Rattle.req_table.specs.declared.packed_child.PackedChild.{PackedChild}
use Rattle.req_table.specs.declared.packed_child.PlacedChild.TheVariants.{Done, Ask}
use Rattle.req_table.specs.Places.{row, IsAtPlace, IsPlaced, AreNone, IsLastLevel}
use Rattle.reduce_up.specs.ByPlace.{IsAdmitted, AreExpanded}
use Rattle.reduce_up.specs.ReductionPhase.{ResolvesTo, IsBelow, IsKnown, AskedAt, IsReadyAt, IsLevelReduced, IsLevelFault, ReducesLevel, AreReducedBelow}
use Rattle.req_table.proofs.AtPlace.{some_same, at_place_none, at_place_some}
use Rattle.reduce_up.proofs.Wanted.{level_adds, has_request_of, lacks_wanted}

-- a key with two answers as its children
abbrev pub rec : Key → Ref → Ref → Record
rec k lo hi = record { key = k; low = child.Done lo; high = child.Done hi }

-- a child has one diagram
pub one_answer : (A : List (List Ref)) (d : PackedChild) (r s : Ref) → ResolvesTo A d r → ResolvesTo A d s → r ≡ s
one_answer A (Done x) r s e f = e ∙ sym f
one_answer A (Ask l p m) r s e f = e.2 ∙ ap (complement_by m) (some_same (slice_get (row A l) p) e.0 f.0 e.1 f.1) ∙ sym f.2

-- answers of another level do not change a child's diagram
comes_on : (A B : List (List Ref)) (v : ℕ) → ((w : ℕ) → (w ≡ v → ⊥) → row B w ≡ row A w) → (d : PackedChild) → IsBelow v d → (r : Ref) → ResolvesTo A d r → ResolvesTo B d r
comes_on A B v same (Done x) b r c = c
comes_on A B v same (Ask l p m) b r c = (c.0, subst (λ (z : List Ref). slice_get z p ≡ Some c.0) (sym (same l (λ e. omega (arith, e, b)))) c.1, c.2)

-- answers of a level leave it ready
pub ready_beside : (s : Nodes) (T : List (List Key)) (pairs : List (PackedChild × PackedChild)) (A B : List (List Ref)) (v : ℕ) → ((w : ℕ) → (w ≡ v → ⊥) → row B w ≡ row A w) → IsReadyAt s T pairs A v → IsReadyAt s T pairs B v
ready_beside s T pairs A B v same R = record {
  bounded = R.bounded;
  counts = R.counts;
  keys = R.keys;
  low = λ q k d h g. let n = R.low q k d h g in (n.0, (n.1.0, comes_on A B v same d.0 n.0 n.1.0 n.1.1, n.1.2));
  high = λ q k d h g. let n = R.high q k d h g in (n.0, (n.1.0, comes_on A B v same d.1 n.0 n.1.0 n.1.1, n.1.2));
}

-- The first i requests of level v are reduced, and one more is to be.
module _ (s0 : Nodes) (sound : IsSound s0) (T : List (List Key)) (pairs : List (PackedChild × PackedChild)) (A : List (List Ref)) (v : ℕ) (R : IsReadyAt s0 T pairs A v)
    (i : ℕ) (s : Nodes) (own : List Ref) (so : IsLevelReduced s0 T v i s own) (d : PackedChild × PackedChild) (at : slice_get pairs i ≡ Some d) where
  -- the request at this place
  pub here : (k : Key) × IsAtPlace T v i k
  here = at_place_some (row T v) i (let e : length pairs ≡ length (row T v) = R.counts in let lt : i < length pairs = slice_get_within pairs i d at in omega (arith, e, lt))

  pub low_comes : (r : Ref) × ResolvesTo A d.0 r
  low_comes = let k = R.low i here.0 d here.1 at in (k.1.0, k.1.1)

  pub high_comes : (r : Ref) × ResolvesTo A d.1 r
  high_comes = let k = R.high i here.0 d here.1 at in (k.1.0, k.1.1)

  -- the diagrams of its children
  module _ (lo hi : Ref) (cl : ResolvesTo A d.0 lo) (ch : ResolvesTo A d.1 hi) where
    -- they make a record of it
    pub is_record : IsRecordAt s v (rec here.0 lo hi)
    is_record =
        let low = R.low i here.0 d here.1 at in
        let high = R.high i here.0 d here.1 at in
        let el : low.1.0 ≡ lo = one_answer A d.0 low.1.0 lo low.1.1 cl in
        let eh : high.1.0 ≡ hi = one_answer A d.1 high.1.0 hi high.1.1 ch in
        record_kept s0 s sound so.adds.keeps v (rec here.0 lo hi) (record {
          key = R.keys i here.0 here.1;
          low = subst (IsAnswerAt s0 v here.0 false) el low.1.2;
          high = subst (IsAnswerAt s0 v here.0 true) eh high.1.2;
        })

    -- the cause of its fault
    pub refused_one : (u : Nodes) → u ≡ s → (f : StoreFault) → IsFull s v lo hi f → ReducesLevel s0 T v (Err (wave_fault f)) u own
    refused_one u same f full = record {
      adds = subst (λ z. AddsDescribed s0 z (AskedAt s0 T v)) (sym same) so.adds;
      whole = tt;
      fault = by f (record_fault s u v here.0 lo hi (Err f) so.held is_record.key is_record.low is_record.high same full);
    }
      where
        by : (f : StoreFault) → IsRecordFault u v here.0 f → IsLevelFault u T v (wave_fault f)
        by store_faults.OutOfMemory x = tt
        by store_faults.Full x = (i, here.0, here.1, elim (eq-or-lt_of_le x.0) [ inl e ↦ inr (sym e, x.1) | inr lt ↦ inl lt ])

    -- its node is made
    module _ (u : Nodes) (su : IsSound u) (r : Ref) (m : IsMade s u v lo hi r) where
      done : IsAnswer u here.0 r × AddsDescribed s u (AskedBy s v (rec here.0 lo hi ∷ []))
      done = record_done s u v (rec here.0 lo hi) lo hi (Ok r) so.held su is_record.key is_record.low is_record.high m tt

      -- the nodes that it adds
      pub adds_one : AddsDescribed s0 u (AskedAt s0 T v)
      adds_one = adds_then s0 s u so.held (AskedAt s0 T v) so.adds (adds_either s u (AskedBy s v (rec here.0 lo hi ∷ [])) (AskedAt s0 T v) (λ w f a. inl (of_level w f a)) done.1)
        where
          key : IsKeyAt s0 v here.0
          key = R.keys i here.0 here.1

          only_entry : (r : Record) → Contains (rec here.0 lo hi ∷ []) r → r ≡ rec here.0 lo hi
          only_entry r c = elim (in_cases (rec here.0 lo hi) r [] c) [ inl e ↦ sym e | inr n ↦ absurd (nothing r n) ]

          of_level : (w : ℕ) (f : List Bool → Bool) → AskedBy s v (rec here.0 lo hi ∷ []) w f → AskedAt s0 T v w f
          of_level w f (at, (r, c, e)) = (
            at,
            (
              i,
              here.0,
              here.1,
              λ x hx.
                  e x (hx ∙ sym so.adds.keeps.levels) ∙ ap (λ (r : Record). meaning s r.key x) (only_entry r c) ∙ kept_meaning s0 s sound so.adds.keeps here.0 key.first key.second x,
            ),
          )

      -- its answer is the next in the list
      pub one_more : (new : List Ref) → new ≡ own ++ r ∷ [] → IsLevelReduced s0 T v (i + 1) u new
      one_more new e = record {
        held = su;
        adds = adds_one;
        count = ap length e ∙ simp length-append (omega (arith, so.count));
        answered = λ q k x h g. by q k x h (slice_get_cases-push own r q x (subst (λ (z : List Ref). slice_get z q ≡ Some x) e g));
      }
        where
          by : (q : ℕ) (k : Key) (x : Ref) → IsAtPlace T v q k → (slice_get own q ≡ Some x) ⊎ ((q ≡ length own) × (x ≡ r)) → IsAnswer u k x
          by q k x h (inl g) = answer_kept s u so.held done.1.keeps k x (so.answered q k x h g)
          by q k x h (inr g) =
              let k-is : here.0 ≡ k = some_same (slice_get (row T v) i) here.0 k here.1 (subst (λ z. IsAtPlace T v z k) (g.0 ∙ so.count) h) in
              subst (λ z. IsAnswer u z x) k-is (subst (IsAnswer u here.0) (sym g.1) done.0)

pub level_start : (s : Nodes) (T : List (List Key)) (pairs : List (PackedChild × PackedChild)) (A : List (List Ref)) (v : ℕ) → IsSound s → IsReadyAt s T pairs A v → IsLevelReduced s T v 0 s []
level_start s T pairs A v S R = record {
  held = S;
  adds = adds_none s s (AskedAt s T v) refl;
  count = refl;
  answered = λ q k r h g. absurd (at_place_none [] q r refl g);
}

-- a level that has failed, and a level whose keys all have answers
pub level_given_up : (s u : Nodes) (T : List (List Key)) (v : ℕ) (own : List Ref) → AddsDescribed s u (AskedAt s T v) → ReducesLevel s T v (Err wave_faults.OutOfMemory) u own
level_given_up s u T v own a = record { adds = a; whole = tt; fault = tt }

pub level_whole : (s u : Nodes) (T : List (List Key)) (v : ℕ) (own : List Ref) → IsLevelReduced s T v (length (row T v)) u own → ReducesLevel s T v (Ok tt) u own
level_whole s u T v own so = record { adds = so.adds; whole = so; fault = tt }

-- a placed child whose request has an answer is known
known : (s : Nodes) (T : List (List Key)) (A : List (List Ref)) (v : ℕ) (k : Key) (b : Bool) (d : PackedChild) (c : Child) → IsPlaced T d c → IsChild s v k b c →
    ((w q : ℕ) (x : Key) → v < w → IsAtPlace T w q x → length (row A w) ≡ length (row T w)) → ((w q : ℕ) (x : Key) (r : Ref) → v < w → IsAtPlace T w q x → IsAtPlace A w q r → IsAnswer s x r) → IsKnown s A v k b d
known s T A v k b (Done r) c p i counts answered = (tt, (r, refl, subst (IsChild s v k b) p i))
known s T A v k b (Ask l p m) c h i counts answered =
    let x : Key = h.0 in
    let j : IsChild s v k b (child.Ask l x m) = subst (IsChild s v k b) h.2 i in
    let within : p < length (row T l) = slice_get_within (row T l) p x h.1 in
    let a = at_place_some (row A l) p (let e : length (row A l) ≡ length (row T l) = counts l p x j.0 h.1 in omega (arith, e, within)) in
    let answer : IsAnswer s x a.0 = answered l p x a.0 j.0 h.1 a.1 in
    let only : AreAnswers s ((x, a.0) ∷ []) = λ y r c. elim (in_cases {X = Key × Ref} (x, a.0) (y, r) [] c) [
      | inl e ↦ subst (λ (z : Key × Ref). IsAnswer s z.0 z.1) e answer
      | inr n ↦ absurd (nothing {X = Key × Ref} (y, r) n)
    ] in
    (j.0, (complement_by m a.0, (a.0, a.1, refl), resolved s v k b (child.Ask l x m) ((x, a.0) ∷ []) (complement_by m a.0) j only (a.0, (0, omega arith, refl), refl)))

-- if lists are the same before a level, the last non-empty level before it is the same
pub last_left : {X : Type 0} (old new : List (List X)) (u : ℕ) → ((w : ℕ) → w < u → row new w ≡ row old w) → (found : Option ℕ) → IsLastLevel new u found → IsLastLevel old u found
last_left {X} old new u same None h = λ w q x ge lt at. h w q x ge lt (subst (λ (z : List X). slice_get z q ≡ Some x) (sym (same w lt)) at)
last_left {X} old new u same (Some v) h = (
  h.0,
  subst (λ (z : List X). 0 < length z) (same v h.0) h.1,
  λ w q x ge lt at. h.2 w q x ge lt (subst (λ (z : List X). slice_get z q ≡ Some x) (sym (same w lt)) at),
)

-- A wave over the store S.
module _ (S : Nodes) (w : IsSound S) (entries : List Entry) (good : All (IsEntry S) entries) (roots : List PackedChild) (T : List (List Key)) (rows : List (List (PackedChild × PackedChild))) (from : ℕ) (E : AreExpanded S entries roots from T rows) where
  splits : (v : ℕ) (k : Key) → IsAdmitted S entries v k → IsRecordAt S v (record_of S k)
  splits v k a = subst (λ z. IsRecordAt S z (record_of S k)) a.level (record {
    key = key_at S w 1 (requests_of entries) (requests_good S entries good) k a.key;
    low = right S w 1 (requests_of entries) (requests_good S entries good) k false (child_of S k false) a.key refl;
    high = right S w 1 (requests_of entries) (requests_good S entries good) k true (child_of S k true) a.key refl;
  })

  -- if no children are left, no requests are
  pub none_split : (v u : ℕ) → u ≤ from → AreNone rows v u → AreNone T v u
  none_split v u le none w q k ge lt h =
      let c : length (row rows w) ≡ length (row T w) = E.counts w (omega (arith, lt, le)) in
      let within : q < length (row T w) = slice_get_within (row T w) q k h in
      let d = at_place_some (row rows w) q (omega (arith, c, within)) in
      none w q d.0 ge lt d.1

  -- an expanded level can be reduced if the deeper levels have their answers
  pub level_ready : (v : ℕ) (s : Nodes) (A : List (List Ref)) → v < from → v < S.levels → AreReducedBelow S entries T (v + 1) s A → IsReadyAt s T (row rows v) A v
  level_ready v s A lt fit d = record {
    bounded = let e : s.levels ≡ S.levels = d.adds.keeps.levels in omega (arith, e, fit);
    counts = E.counts v lt;
    keys = λ q k h. (at q k h).key;
    low = λ q k p h g. known s T A v k false p.0 (child_of S k false) (E.split v q k p lt h g).0 (at q k h).low (λ u x y le. d.counts u x y (omega (arith, le))) (λ u x y r le. d.answered u x y r (omega (arith, le)));
    high = λ q k p h g. known s T A v k true p.1 (child_of S k true) (E.split v q k p lt h g).1 (at q k h).high (λ u x y le. d.counts u x y (omega (arith, le))) (λ u x y r le. d.answered u x y r (omega (arith, le)));
  }
    where
      at : (q : ℕ) (k : Key) → IsAtPlace T v q k → IsRecordAt s v (record_of S k)
      at q k h = record_kept S s w d.adds.keeps v (record_of S k) (splits v k (E.admitted.keys v q k h))

  -- one more level is reduced
  pub level_next : (v : ℕ) (s : Nodes) (A : List (List Ref)) → AreReducedBelow S entries T (v + 1) s A → (u : Nodes) (own : List Ref) → IsLevelReduced s T v (length (row T v)) u own → count_of u ≤ u.limit →
      (B : List (List Ref)) → length B ≡ length A → row B v ≡ own → ((w : ℕ) → (w ≡ v → ⊥) → row B w ≡ row A w) → AreReducedBelow S entries T v u B
  level_next v s A d u own so within B len here others = record {
    held = so.held;
    adds = level_adds S w entries good T v s u E.admitted d.held so.held d.adds so.adds;
    levels = len ∙ d.levels;
    counts = λ x q k le h. elim (eq-or-lt_of_le le) [
      | inl e ↦ subst (λ z. length (row B z) ≡ length (row T z)) e (ap length here ∙ so.count)
      | inr l ↦ ap length (others x (λ e. omega (arith, e, l))) ∙ d.counts x q k (omega (arith, l)) h
    ];
    answered = λ x q k r le h g. elim (eq-or-lt_of_le le) [
      | inl e ↦ so.answered q k r (subst (λ z. IsAtPlace T z q k) (sym e) h) (subst (λ (z : List Ref). slice_get z q ≡ Some r) here (subst (λ z. IsAtPlace B z q r) (sym e) g))
      | inr l ↦ answer_kept s u d.held so.adds.keeps k r (d.answered x q k r (omega (arith, l)) h (subst (λ (z : List Ref). slice_get z q ≡ Some r) (others x (λ e. omega (arith, e, l))) g))
    ];
    within = inl within;
  }

  -- levels without requests are skipped
  pub levels_left : (v u : ℕ) (s : Nodes) (A : List (List Ref)) → AreNone T v u → AreReducedBelow S entries T u s A → AreReducedBelow S entries T v s A
  levels_left v u s A none d = record {
    held = d.held;
    adds = d.adds;
    levels = d.levels;
    counts = λ x q k le h. elim (cases_lt x u) [ inl lt ↦ absurd (none x q k le lt h) | inr ge ↦ d.counts x q k ge h ];
    answered = λ x q k r le h g. elim (cases_lt x u) [ inl lt ↦ absurd (none x q k le lt h) | inr ge ↦ d.answered x q k r ge h g ];
    within = elim d.within [
      | inl le ↦ inl le
      | inr n ↦ inr (λ x q k le h. elim (cases_lt x u) [ inl lt ↦ none x q k le lt h | inr ge ↦ n.0 x q k ge h ], n.1)
    ];
  }

  -- the cause of a level's fault is one of the wave's
  pub level_refused : (v : ℕ) (s : Nodes) → Keeps S s → (f : WaveFault) → IsLevelFault s T v f → IsWaveFault S entries s f
  level_refused v s K wave_faults.OutOfMemory x = tt
  level_refused v s K wave_faults.NoWorker x = tt
  level_refused v s K wave_faults.TooManyRequests x = tt
  level_refused v s K wave_faults.Stopped x = tt
  level_refused v s K wave_faults.Full x =
      let a : IsAdmitted S entries v x.1 = E.admitted.keys v x.0 x.1 x.2 in
      (has_request_of S w entries good v x.1 a, elim x.3 [ inl over ↦ inl over | inr full ↦ inr (full.0, lacks_wanted S w entries good v x.1 s K a full.1) ])

-- the fault of a level with requests that leaves the store over its limit
pub past_fault : (s : Nodes) (T : List (List Key)) (pairs : List (PackedChild × PackedChild)) (A : List (List Ref)) (v : ℕ) → IsReadyAt s T pairs A v → 0 < length pairs → (u : Nodes) → u.limit < count_of u → IsLevelFault u T v wave_faults.Full
past_fault s T pairs A v R some u over =
    let k = at_place_some (row T v) 0 (let e : length pairs ≡ length (row T v) = R.counts in omega (arith, e, some)) in
    (0, k.0, k.1, inl over)

-- a level fails neither for want of a worker, nor for too many requests, nor because the run has stopped
pub no_other_cause : (s : Nodes) (T : List (List Key)) (v : ℕ) (e : WaveFault) → IsLevelFault s T v e → (e ≢ wave_faults.NoWorker) × (e ≢ wave_faults.TooManyRequests) × (e ≢ wave_faults.Stopped)
no_other_cause s T v wave_faults.OutOfMemory h = (λ e. absurd (cc), λ e. absurd (cc), λ e. absurd (cc))
no_other_cause s T v wave_faults.NoWorker h = absurd h
no_other_cause s T v wave_faults.TooManyRequests h = absurd h
no_other_cause s T v wave_faults.Stopped h = absurd h
no_other_cause s T v wave_faults.Full h = (λ e. absurd (cc), λ e. absurd (cc), λ e. absurd (cc))
