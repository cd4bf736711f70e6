-- What an engine holds was reached from requests that it has counted. So if a wave over the unknown entries is within
-- what is left of the bound, all requests of all entries are within the bound.
use Rattle.std.proofs.Common.{◌≡◌, ◌∙◌, ℕ, zero, suc, ◌+◌, ◌-◌, ◌%◌, ◌^◌, ◌<◌, ◌≤◌, ◌⊎◌, inl, inr, Bool, true, false, List, [], ◌∷◌, ◌++◌, length, take, Option, Some, None, refl, sym, ap, subst, arith, Contains, All}
use Rattle.std.specs.Map.{remove_entry}
use Rattle.std.specs.Prelude.{Result}
use Rattle.std.specs.declared.vec.Vec.{Vec}
use Rattle.std.specs.declared.alloc.Global.{Global}
use Rattle.std.specs.Option.{option_map}
use Rattle.std.proofs.lemmas.List.{length-append}
use Rattle.std.proofs.lemmas.List.Elements.{Contains-append_left, Contains-append_right, All-contains}
use Rattle.std.proofs.lemmas.Option.{slice_get-get_or, slice_get_within, get_or_from_slice_get}
use Rattle.slot_table.specs.Lists.{IsIn}
use Rattle.slot_table.proofs.Pigeons.{pigeons}
use Rattle.dd_store.specs.declared.reference.Ref.{Ref}
use Rattle.dd_store.specs.Nodes.{Nodes, IsSound}
use Rattle.dd_store.specs.View.{Keeps}
use Rattle.dd_store.specs.Complements.{complement_by}
use Rattle.req_table.specs.declared.Key.{Key}
use Rattle.req_table.specs.contracts.KeyPartialEq.TheImpl.{eq-value}
use Rattle.req_table.specs.TerminalCase.{terminal_of}
use Rattle.req_table.specs.Keys.{IsKey, normal_of, wave_of}
use Rattle.req_table.specs.ComputedTables.{ComputedView, computed_answer, rest, KeepsAnswer, or_computed}
use Rattle.req_table.specs.Reached.{IsReached, root as root_of, child as child_from}
use Rattle.req_table.proofs.ComputedTables.{found_in}
use Rattle.expand_work.specs.Bounds.{WaveBound, most_of}
use Rattle.expand_work.specs.WaveParts.{HaveExpanded}
use Rattle.expand_work.specs.declared.fault.WaveFault.{WaveFault}
use Rattle.wave_engine.specs.CacheProbe.{known_entry, unless_known, unknown, AreKept, found_of, IsKeptWave}
use Rattle.reduce_up.specs.Waves.{Entry, IsEntry, request_of, requests_of}
use Rattle.reduce_up.proofs.Closed.{reached_key}
use Rattle.reduce_up.proofs.Noting.{nothing, head_in, tail_in, in_cases}
use Rattle.wave_engine.proofs.Probing.{unknown_is, unknown_good, unknown_long}
use Rattle.reduce_up.proofs.Rooted.{all_of, of_entry, to_request, requests_good}
use Rattle.wave_engine.specs.Bounds.{AreAtMost, AreMoreThan}
use Rattle.wave_engine.specs.EngineView.{EngineView, AreHeldCounted, AnswersByHeld, CountsAll}
use Rattle.wave_engine.proofs.WholeWave.{child_kept}

-- ---- what is reached from one root
-- each reached request is reached from one of the roots
from_root : (s : Nodes) (roots : List Key) (x : Key) → IsReached (wave_of s 1) roots x → (k : Key) × Contains roots k × IsReached (wave_of s 1) (k ∷ []) x
from_root s roots x (root_of c) = (x, c, root_of (head_in x []))
from_root s roots x (child_from {x = above} b l m r asks) = let p = from_root s roots above r in (p.0, p.1, child_from b l m p.2 asks)

to_roots : (s : Nodes) (roots : List Key) (k : Key) → Contains roots k → (x : Key) → IsReached (wave_of s 1) (k ∷ []) x → IsReached (wave_of s 1) roots x
to_roots s roots k c x (root_of d) = root_of (elim (in_cases k x [] d) [ inl same ↦ subst (Contains roots) same c | inr none ↦ absurd (nothing x none) ])
to_roots s roots k c x (child_from {x = above} b l m r asks) = child_from b l m (to_roots s roots k c above r) asks

more_roots : (s : Nodes) (roots more : List Key) → ((k : Key) → Contains roots k → Contains more k) → (x : Key) → IsReached (wave_of s 1) roots x → IsReached (wave_of s 1) more x
more_roots s roots more f x (root_of c) = root_of (f x c)
more_roots s roots more f x (child_from {x = above} b l m r asks) = child_from b l m (more_roots s roots more f above r) asks

one_good : (S : Nodes) (k : Key) → IsKey S k → All (IsKey S) (k ∷ [])
one_good S k i = all_of (IsKey S) (k ∷ []) (λ z c. elim (in_cases k z [] c) [ inl same ↦ subst (IsKey S) same i | inr none ↦ absurd (nothing z none) ])

-- ---- entries of which nothing is known
-- the requests of unknown entries are requests of the entries
unknown_requests : (m : ComputedView) (es : List Entry) (k : Key) → Contains (requests_of (unknown m es)) k → Contains (requests_of es) k
unknown_requests m es k c =
    let e = of_entry (unknown m es) k c in
    subst (Contains (requests_of es)) (sym e.3) (to_request es e.0 (unknown_is m es e.0 e.1).0 e.2)

still_unknown : (m : ComputedView) (es : List Entry) (e : Entry) → Contains es e → known_entry m e ≡ None → Contains (unknown m es) e
still_unknown m [] e c h = absurd (nothing {X = Entry} e c)
still_unknown m (d ∷ es) e c h =
    elim (in_cases {X = Entry} d e es c) [
      | inl same ↦
          let own : Contains (unless_known (known_entry m e) e) e = subst (λ o. Contains (unless_known o e) e) (sym h) (head_in {X = Entry} e []) in
          Contains-append_left (unless_known (known_entry m d) d) (unknown m es) e (subst (λ (z : Entry). Contains (unless_known (known_entry m z) z) e) (sym same) own)
      | inr i ↦ Contains-append_right (unless_known (known_entry m d) d) (unknown m es) e (still_unknown m es e i h)
    ]

-- a request of the entries is one of the unknown ones, or its answer is held
root_known : (m : ComputedView) (es : List Entry) (k : Key) → Contains (requests_of es) k → Contains (requests_of (unknown m es)) k ⊎ ((r : Ref) × Contains {X = Key × Ref} m.pairs (k, r))
root_known m es k c = let e = of_entry es k c in by e.0 e.1 e.2 e.3 (computed_answer m (normal_of e.0.0 e.0.1 e.0.2).0) refl
  where
    by : (e : Entry) → Contains es e → terminal_of e.0 e.1 e.2 ≡ None → k ≡ (normal_of e.0 e.1 e.2).0 → (o : Option Ref) → computed_answer m (normal_of e.0 e.1 e.2).0 ≡ o
        → Contains (requests_of (unknown m es)) k ⊎ ((r : Ref) × Contains {X = Key × Ref} m.pairs (k, r))
    by e among long is None h =
        let none : known_entry m e ≡ None = ap (or_computed m (normal_of e.0 e.1 e.2)) long ∙ ap (option_map (complement_by (normal_of e.0 e.1 e.2).1)) h in
        inl (subst (Contains (requests_of (unknown m es))) (sym is) (to_request (unknown m es) e (still_unknown m es e among none) long))
    by e among long is (Some r) h =
        let key : Key = (normal_of e.0 e.1 e.2).0 in
        let there : Contains {X = Key × Ref} m.pairs (key, r) = found_in m.pairs key (Some r) (sym h) in
        inr (r, subst (λ z. Contains {X = Key × Ref} m.pairs (z, r)) (sym is) there)

-- ---- what is held after a wave
in_front : {X : Type 0} (n : ℕ) (xs : List X) (x : X) → Contains (take n xs) x → Contains xs x
in_front zero xs x c = absurd (nothing x c)
in_front (suc n) [] x c = c
in_front (suc n) (y ∷ xs) x c = elim (in_cases y x (take n xs) c) [ inl e ↦ subst (Contains (y ∷ xs)) e (head_in y xs) | inr d ↦ tail_in y x xs (in_front n xs x d) ]

in_others : {V : Type 0} (test : Key → Bool) (es : List (Key × V)) (e : Key × V) → Contains (remove_entry test es) e → Contains es e
in_others test [] e c = c
in_others {V = V} test (f ∷ es) e c = (elim (test f.0) as (λ y. test f.0 ≡ y → Contains (f ∷ es) e) [
  | true ↦ λ t. tail_in {X = Key × V} f e es (rw t at c)
  | false ↦ λ t. elim (in_cases {X = Key × V} f e (remove_entry test es) (rw t at c)) [
    | inl same ↦ subst (Contains {X = Key × V} (f ∷ es)) same (head_in {X = Key × V} f es)
    | inr d ↦ tail_in {X = Key × V} f e es (in_others test es e d)
  ]
]) refl

-- after an answer was kept, a key is held that was held before, or whose answer it is
with_key : (old : ComputedView) (n : Key) (a : Ref) (new : ComputedView) → KeepsAnswer old n a new → (k : Key) (r : Ref) → Contains {X = Key × Ref} new.pairs (k, r) → Contains {X = Key × Ref} old.pairs (k, r) ⊎ (n ≡ k)
with_key old n a new (inr (none, same)) k r c = inl (subst (λ (m : ComputedView). Contains {X = Key × Ref} m.pairs (k, r)) same c)
with_key old n a new (inl first) k r c = by (computed_answer old n) (subst (λ (m : ComputedView). Contains {X = Key × Ref} m.pairs (k, r)) first c)
  where
    in_rest : (o : Option Ref) → Contains {X = Key × Ref} (rest old n o) (k, r) → Contains {X = Key × Ref} old.pairs (k, r)
    in_rest None d = in_front {X = Key × Ref} (old.capacity - 1) old.pairs (k, r) d
    in_rest (Some v) d = in_others (eq-value.it n) old.pairs (k, r) d

    by : (o : Option Ref) → Contains {X = Key × Ref} ((n, a) ∷ rest old n o) (k, r) → Contains {X = Key × Ref} old.pairs (k, r) ⊎ (n ≡ k)
    by o d = elim (in_cases {X = Key × Ref} (n, a) (k, r) (rest old n o) d) [ inl e ↦ inr (ap (λ (p : Key × Ref). p.0) e) | inr i ↦ inl (in_rest o i) ]

held_after : (es : List Entry) (found : List Ref) (old new : ComputedView) → All (λ e. terminal_of e.0 e.1 e.2 ≡ None) es → AreKept old es found new → (k : Key) (r : Ref) → Contains {X = Key × Ref} new.pairs (k, r)
    → Contains {X = Key × Ref} old.pairs (k, r) ⊎ Contains (requests_of es) k
held_after [] found old new long kept k r c = inl (subst (λ (m : ComputedView). Contains {X = Key × Ref} m.pairs (k, r)) kept c)
held_after (e ∷ es) [] old new long kept k r c = inl (subst (λ (m : ComputedView). Contains {X = Key × Ref} m.pairs (k, r)) kept c)
held_after (e ∷ es) (a ∷ found) old new long kept k r c =
    elim (held_after es found kept.0 new (λ i d lt. long (suc i) d (omega (arith, lt))) kept.2 k r c) [
      | inl held ↦ elim (with_key old (normal_of e.0 e.1 e.2).0 (complement_by (normal_of e.0 e.1 e.2).1 a) kept.0 kept.1 k r held) [
        | inl before ↦ inl before
        | inr same ↦ inr (subst (Contains (requests_of (e ∷ es))) same (to_request (e ∷ es) e (head_in {X = Entry} e es) (long 0 e (omega arith))))
      ]
      | inr later ↦ inr (Contains-append_right (request_of (terminal_of e.0 e.1 e.2) e) (requests_of es) k later)
    ]

-- ---- a wave of an engine
-- an engine that holds nothing counts all
pub none_held : (S : Nodes) (e : EngineView) → e.held.pairs ≡ [] → e.since ≡ 0 → CountsAll S e
none_held S e none start = λ bounded. record {
  requests = [];
  few = omega arith;
  within = omega (arith, start);
  keys = λ k r c. absurd (nothing {X = Key × Ref} (k, r) (subst (λ (z : List (Key × Ref)). Contains z (k, r)) none c));
  reached = λ k r x c i. absurd (nothing {X = Key × Ref} (k, r) (subst (λ (z : List (Key × Ref)). Contains z (k, r)) none c));
}

-- a wave with what was held after everything was forgotten was done with nothing
pub by_nothing : (S : Nodes) (entries : List Entry) (result : Result (Vec Ref Global) WaveFault) (new : Nodes) (none before after : ComputedView) → none.pairs ≡ [] → AnswersByHeld S entries result new none after → AnswersByHeld S entries result new before after
by_nothing S entries result new none before after empty a = record {
  held = a.held;
  known = inr (elim a.known [ inl same ↦ ap (λ (m : ComputedView). m.pairs) same ∙ empty | inr nothing_held ↦ nothing_held ]);
  wave = a.wave;
  kept = a.kept;
}

-- if the unknown entries reach more than n requests, all entries do
pub more_of_all : (n : ℕ) (S : Nodes) (m : ComputedView) (es : List Entry) → AreMoreThan n S (unknown m es) → AreMoreThan n S es
more_of_all n S m es more = record {
  requests = more.requests;
  once = more.once;
  reached = λ k c. more_roots S (requests_of (unknown m es)) (requests_of es) (unknown_requests m es) k (more.reached k c);
  more = more.more;
}

contained : {X : Type 0} (xs : List X) (x : X) → IsIn xs x → Contains xs x
contained xs x h = (h.0, slice_get_within xs h.0 x h.1, get_or_from_slice_get xs h.0 x x h.1)

in_of : {X : Type 0} (xs : List X) (x : X) → Contains xs x → IsIn xs x
in_of xs x m = (m.0, slice_get-get_or xs m.0 x m.1 ∙ ap (λ z. Some z) m.2)

module _ (S : Nodes) (w : IsSound S) (entries : List Entry) (good : All (IsEntry S) entries) (e : EngineView) (counted : AreHeldCounted S e) (before after : ℕ) (h : HaveExpanded S 1 (requests_of (unknown e.held entries)) before after) where
  abbrev both : List Key
  both = counted.requests ++ h.requests

  in_both : (x : Key) → IsReached (wave_of S 1) (requests_of entries) x → Contains both x
  in_both x r =
      let p = from_root S (requests_of entries) x r in
      elim (root_known e.held entries p.0 p.1) [
        | inl asked ↦ Contains-append_right counted.requests h.requests x (h.all x (to_roots S (requests_of (unknown e.held entries)) p.0 asked x p.2))
        | inr held ↦ Contains-append_left counted.requests h.requests x (counted.reached p.0 held.0 x held.1 p.2)
      ]

  -- within what is left of a bound, all requests are within the bound
  pub all_within : (most bound : ℕ) → most + e.since ≡ bound → AreAtMost most S (unknown e.held entries) → AreAtMost bound S entries
  all_within most bound sum few requests once reached =
      let fits : length requests ≤ length both = pigeons (λ j k. j ≡ k) requests both once (λ i k at. (k, refl, in_of both k (in_both k (reached k (contained requests k (i, at)))))) (λ j k l a b. a ∙ sym b) in
      let own : length h.requests ≤ most = few h.requests h.once h.reached in
      let l : length both ≡ length counted.requests + length h.requests = length-append counted.requests h.requests in
      let old = counted.few in
      omega (arith, fits, own, l, old, sum)

  -- ---- what is held after the wave was counted
  module _ (U : Nodes) (K : Keeps S U) (answers : List Ref) (new : ComputedView) (kept : IsKeptWave e.held entries answers new) where
    reached_back : (k : Key) → IsKey S k → (x : Key) → IsReached (wave_of U 1) (k ∷ []) x → IsReached (wave_of S 1) (k ∷ []) x
    reached_back k i x (root_of c) = root_of c
    reached_back k i x (child_from {x = above} b l m r asks) =
        let own : IsReached (wave_of S 1) (k ∷ []) above = reached_back k i above r in
        let key : IsKey S above = reached_key S w 1 (k ∷ []) (one_good S k i) above own in
        child_from b l m own (sym (child_kept S w entries good U K above b key) ∙ asks)

    key_kept : (k : Key) → IsKey S k → IsKey U k
    key_kept k i = record { first = K.has k.f i.first; second = K.has k.g i.second; long = i.long; ordered = i.ordered }

    now_held : (k : Key) (r : Ref) → Contains {X = Key × Ref} new.pairs (k, r) → Contains {X = Key × Ref} e.held.pairs (k, r) ⊎ Contains (requests_of (unknown e.held entries)) k
    now_held k r c = held_after (unknown e.held entries) (found_of e.held entries answers) e.held new (unknown_long e.held entries) kept k r c

    asked_key : (k : Key) → Contains (requests_of (unknown e.held entries)) k → IsKey S k
    asked_key k c = All-contains (IsKey S) (requests_of (unknown e.held entries)) k (requests_good S (unknown e.held entries) (unknown_good S e.held entries good)) c

    held_key : (k : Key) (r : Ref) → Contains {X = Key × Ref} new.pairs (k, r) → IsKey S k
    held_key k r c = elim (now_held k r c) [ inl old ↦ counted.keys k r old | inr asked ↦ asked_key k asked ]

    -- the number since nothing was held grows by as many as were expanded
    pub counted_after : (f : EngineView) → f.held ≡ new → f.bound ≡ e.bound → (most more : ℕ) → most + e.since ≡ most_of e.bound.requests → AreAtMost most S (unknown e.held entries) → most_of e.bound.requests < 2 ^ 64 - 1
        → (told told' mid : ℕ) → told ≡ before → told' ≡ after → told < 2 ^ 64 → told' < 2 ^ 64 → more ≡ (told' + (2 ^ 64 - told)) % 2 ^ 64 → mid ≡ e.since → (mid + more < 2 ^ 64 → f.since ≡ mid + more) → AreHeldCounted U f
    counted_after f held bound most more sum few limited told told' mid is is' low high count since_is grown = record {
      requests = both;
      few = let l = length-append counted.requests h.requests in let old = counted.few in omega (arith, l, old, since, exact);
      within = let own = few h.requests h.once h.reached in subst (λ (z : WaveBound). f.since ≤ most_of z.requests) (sym bound) (omega (arith, own, since, exact, sum));
      keys = λ k r c. key_kept k (held_key k r (subst (λ (m : ComputedView). Contains {X = Key × Ref} m.pairs (k, r)) held c));
      reached = λ k r x c d.
          let there = subst (λ (m : ComputedView). Contains {X = Key × Ref} m.pairs (k, r)) held c in
          let back : IsReached (wave_of S 1) (k ∷ []) x = reached_back k (held_key k r there) x d in
          elim (now_held k r there) [
            | inl old ↦ Contains-append_left counted.requests h.requests x (counted.reached k r x old back)
            | inr asked ↦ Contains-append_right counted.requests h.requests x (h.all x (to_roots S (requests_of (unknown e.held entries)) k asked x back))
          ];
    }
      where
        exact : more ≡ length h.requests
        exact = let own = few h.requests h.once h.reached in let n = h.count in omega (arith, own, sum, limited, is, is', low, high, count, n)

        since : f.since ≡ e.since + more
        since = let own = few h.requests h.once h.reached in let at = grown (omega (arith, own, exact, sum, limited, since_is)) in omega (arith, at, since_is)
