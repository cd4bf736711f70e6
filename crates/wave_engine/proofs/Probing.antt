-- A wave over the entries of which nothing is known, with what is known of the others, is a wave over all entries.
use Rattle.std.proofs.Common.{◌≡◌, suc, ℕ, ◌+◌, ◌<◌, ◌≤◌, drop, get_or, slice_index_or, inl, inr, Bool, true, false, List, [], ◌∷◌, ◌++◌, append_assoc, length, map, Option, Some, None, refl, sym, ◌∙◌, ap, subst, arith, Contains, All, IfSome}
use Rattle.std.specs.Prelude.{Ok, Err}
use Rattle.std.specs.Option.{is_some, option_map}
use Rattle.std.specs.declared.vec.Vec.{Vec}
use Rattle.std.specs.declared.alloc.Global.{Global}
use Rattle.std.proofs.lemmas.List.{drop_more}
use Rattle.std.proofs.lemmas.List.Elements.{Contains-append_cases, Contains-append_left, Contains-append_right, All-contains}
use Rattle.std.proofs.lemmas.Slice.Zip.{AllZip-long}
use Rattle.dd_store.specs.declared.reference.Ref.{Ref}
use Rattle.dd_store.specs.Nodes.{Nodes, IsSound, IsDiagram}
use Rattle.dd_store.specs.View.{Keeps as KeepsNodes}
use Rattle.dd_store.specs.Nodes.{node as node_at}
use Rattle.dd_store.specs.Complements.{complement_by, complemented}
use Rattle.dd_store.proofs.Complements.{IsRef-complement_by, den-complement_by, complemented-twice}
use Rattle.req_table.specs.TerminalCase.{terminal_of}
use Rattle.req_table.specs.declared.Key.{Key}
use Rattle.req_table.specs.Keys.{normal_of, IsKey, meaning}
use Rattle.req_table.specs.ComputedTables.{ComputedView, KeepsAnswer, IsRight, IsAnswerOf, IsValueOf, or_computed}
use Rattle.req_table.proofs.ComputedTables.{known_value, not_known, right_kept, right_with}
use Rattle.req_table.proofs.Waved.{is_key}
use Rattle.req_table.specs.contracts.KeyPartialEq.TheImpl.{eq-value}
use Rattle.std.specs.Map.{lookup}
use Rattle.expand_work.specs.declared.fault.WaveFault.{WaveFault}
use Rattle.expand_work.specs.declared.fault.WaveFault.TheVariants.{OutOfMemory, NoWorker, Full, TooManyRequests, Stopped}
use Rattle.reduce_up.specs.Reducing.{AddsDescribed}
use Rattle.reduce_up.specs.Waves.{Entry, entry_value, IsEntry, AnswersEach, IsWanted, AddsBelow, HasRequest, IsWaveFault, IsWithinLimit, AnswersWave}
use Rattle.wave_engine.specs.CacheProbe.{known_entry, unless_known, unknown, missing, merged, AreKept, found_of, IsKeptWave, ProbeView, IsProbed}
use Rattle.reduce_up.proofs.Noting.{nothing, head_in, tail_in, in_cases}
use Rattle.reduce_up.proofs.Adding.{adds_either}
use Rattle.reduce_up.proofs.Reduction.{kept_meaning, diagram_kept}
use Rattle.reduce_up.proofs.Rooted.{all_of, normal_means}
use Rattle.reduce_up.proofs.Waving.{adds_below, wave_given_up, wave_done}

-- ---- the entries of which nothing is known
-- they are entries without a terminal case
pub unknown_is : (m : ComputedView) (es : List Entry) (e : Entry) → Contains (unknown m es) e → Contains es e × (terminal_of e.0 e.1 e.2 ≡ None)
unknown_is m [] e c = absurd (nothing {X = Entry} e c)
unknown_is m (d ∷ es) e c =
    elim (Contains-append_cases (unless_known (known_entry m d) d) (unknown m es) e c) [
      | inl h ↦ own (known_entry m d) refl h
      | inr h ↦ let i = unknown_is m es e h in (tail_in {X = Entry} d e es i.0, i.1)
    ]
  where
    own : (o : Option Ref) → known_entry m d ≡ o → Contains (unless_known o d) e → Contains (d ∷ es) e × (terminal_of e.0 e.1 e.2 ≡ None)
    own None h i =
        elim (in_cases {X = Entry} d e [] i) [
          | inl same ↦ (
            subst (Contains (d ∷ es)) same (head_in {X = Entry} d es),
            subst (λ (z : Entry). terminal_of z.0 z.1 z.2 ≡ None) same (not_known m (normal_of d.0 d.1 d.2) (terminal_of d.0 d.1 d.2) h),
          )
          | inr j ↦ absurd (nothing {X = Entry} e j)
        ]
    own (Some r) h i = absurd (nothing {X = Entry} e i)

pub unknown_good : (S : Nodes) (m : ComputedView) (es : List Entry) → All (IsEntry S) es → All (IsEntry S) (unknown m es)
unknown_good S m es good = all_of (IsEntry S) (unknown m es) (λ e c. All-contains (IsEntry S) es e good (unknown_is m es e c).0)

pub unknown_long : (m : ComputedView) (es : List Entry) → All (λ e. terminal_of e.0 e.1 e.2 ≡ None) (unknown m es)
unknown_long m es = all_of (λ e. terminal_of e.0 e.1 e.2 ≡ None) (unknown m es) (λ e c. (unknown_is m es e c).1)

-- an entry of which nothing is known is a request, and no other is
pub is_request : (o : Option Ref) (e : Entry) → is_some o ≡ false → unless_known o e ≡ e ∷ []
is_request None e h = refl
is_request (Some r) e h = cc

pub no_request : (o : Option Ref) (e : Entry) → is_some o ≡ true → unless_known o e ≡ []
no_request None e h = cc
no_request (Some r) e h = refl

-- one more entry is looked up
pub known_next : (m : ComputedView) (es : List Entry) (i : ℕ) (e : Entry) (old new : List (Option Ref)) → i < length es → e ≡ get_or es i e
    → old ++ map (known_entry m) (drop i es) ≡ map (known_entry m) es → new ≡ old ++ known_entry m e ∷ [] → new ++ map (known_entry m) (drop (i + 1) es) ≡ map (known_entry m) es
known_next m es i e old new lt is done added =
    ap (λ z. z ++ map (known_entry m) (drop (i + 1) es)) added
    ∙ append_assoc old (known_entry m e ∷ []) (map (known_entry m) (drop (i + 1) es))
    ∙ ap (λ z. old ++ map (known_entry m) z) (sym (drop_more es i e lt ∙ ap (λ z. z ∷ drop (i + 1) es) (sym is)))
    ∙ done

pub unknown_next : (m : ComputedView) (es : List Entry) (i : ℕ) (e : Entry) (old new : List Entry) → i < length es → e ≡ get_or es i e
    → old ++ unknown m (drop i es) ≡ unknown m es → new ≡ old ++ unless_known (known_entry m e) e → new ++ unknown m (drop (i + 1) es) ≡ unknown m es
unknown_next m es i e old new lt is done added =
    ap (λ z. z ++ unknown m (drop (i + 1) es)) added
    ∙ append_assoc old (unless_known (known_entry m e) e) (unknown m (drop (i + 1) es))
    ∙ ap (λ z. old ++ unknown m z) (sym (drop_more es i e lt ∙ ap (λ z. z ∷ drop (i + 1) es) (sym is)))
    ∙ done

-- one more answer is added, one that was known
pub merged_known : (ks : List (Option Ref)) (i : ℕ) (k : Option Ref) (r : Ref) (next : ℕ) (found old new whole : List Ref) → i < length ks → k ≡ get_or ks i k → k ≡ Some r
    → old ++ merged (drop i ks) (drop next found) ≡ whole → new ≡ old ++ r ∷ [] → new ++ merged (drop (i + 1) ks) (drop next found) ≡ whole
merged_known ks i k r next found old new whole lt is some done added =
    ap (λ z. z ++ merged (drop (i + 1) ks) (drop next found)) added
    ∙ append_assoc old (r ∷ []) (merged (drop (i + 1) ks) (drop next found))
    ∙ ap (λ z. old ++ merged z (drop next found)) (sym (drop_more ks i k lt ∙ ap (λ z. z ∷ drop (i + 1) ks) (sym is ∙ some)))
    ∙ done

pub left_known : (ks : List (Option Ref)) (i : ℕ) (k : Option Ref) (r : Ref) (next n : ℕ) → i < length ks → k ≡ get_or ks i k → k ≡ Some r
    → next + missing (drop i ks) ≤ n → next + missing (drop (i + 1) ks) ≤ n
left_known ks i k r next n lt is some left = subst (λ z. next + missing z ≤ n) (drop_more ks i k lt ∙ ap (λ z. z ∷ drop (i + 1) ks) (sym is ∙ some)) left

-- one more answer is added, one that was found
pub left_found : (ks : List (Option Ref)) (i : ℕ) (k : Option Ref) (next n : ℕ) → i < length ks → k ≡ get_or ks i k → k ≡ None
    → next + missing (drop i ks) ≤ n → (next + 1) + missing (drop (i + 1) ks) ≤ n
left_found ks i k next n lt is none left =
    let more : next + (missing (drop (i + 1) ks) + 1) ≤ n = subst (λ z. next + missing z ≤ n) (drop_more ks i k lt ∙ ap (λ z. z ∷ drop (i + 1) ks) (sym is ∙ none)) left in
    omega (arith, more)

pub merged_found : (ks : List (Option Ref)) (i : ℕ) (k : Option Ref) (r : Ref) (next : ℕ) (found old new whole : List Ref) → i < length ks → k ≡ get_or ks i k → k ≡ None → next < length found → r ≡ get_or found next r
    → old ++ merged (drop i ks) (drop next found) ≡ whole → new ≡ old ++ r ∷ [] → new ++ merged (drop (i + 1) ks) (drop (next + 1) found) ≡ whole
merged_found ks i k r next found old new whole lt is none low own done added =
    let rest = merged (drop (i + 1) ks) (drop (next + 1) found) in
    let here : drop i ks ≡ None ∷ drop (i + 1) ks = drop_more ks i k lt ∙ ap (λ z. z ∷ drop (i + 1) ks) (sym is ∙ none) in
    let front : drop next found ≡ r ∷ drop (next + 1) found = drop_more found next r low ∙ ap (λ z. z ∷ drop (next + 1) found) (sym own) in
    ap (λ z. z ++ rest) added ∙ append_assoc old (r ∷ []) rest
    ∙ ap (λ z. old ++ z) (sym (ap (λ z. merged z (drop next found)) here ∙ ap (λ z. merged (None ∷ drop (i + 1) ks) z) front))
    ∙ done

-- there are as many unknown entries as answers are missing
pub unknown_count : (m : ComputedView) (es : List Entry) → missing (map (known_entry m) es) ≡ length (unknown m es)
unknown_count m [] = refl
unknown_count m (e ∷ es) = by (known_entry m e) (unknown_count m es)
  where
    by : (o : Option Ref) → missing (map (known_entry m) es) ≡ length (unknown m es) → missing (o ∷ map (known_entry m) es) ≡ length (unless_known o e ++ unknown m es)
    by None k = omega arith
    by (Some r) k = k

-- what they want is wanted by all entries
wanted_all : (S : Nodes) (m : ComputedView) (es : List Entry) (v : ℕ) (f : List Bool → Bool) → IsWanted S (unknown m es) v f → IsWanted S es v f
wanted_all S m es v f w = record { entry = w.entry; is_entry = (unknown_is m es w.entry w.is_entry).0; fixed = w.fixed; depends = w.depends }

pub wanted_of_all : (S T : Nodes) (m : ComputedView) (es : List Entry) → AddsDescribed S T (IsWanted S (unknown m es)) → AddsDescribed S T (IsWanted S es)
wanted_of_all S T m es adds = adds_either S T (IsWanted S (unknown m es)) (IsWanted S es) (λ v f w. inl (wanted_all S m es v f w)) adds

-- ---- their answers
pub as_many : (S T : Nodes) (es : List Entry) (found : List Ref) → AnswersEach S es T found → length found ≡ length es
as_many S T es found z = AllZip-long (λ (e : Entry) (r : Ref). IsDiagram T r (entry_value S e)) es found z

module _ (S : Nodes) (w : IsSound S) (m : ComputedView) (right : IsRight S m) (T : Nodes) (keeps : KeepsNodes S T) where
  -- the answers of all entries
  pub merged_answers : (es : List Entry) → All (IsEntry S) es → (found : List Ref) → AnswersEach S (unknown m es) T found → AnswersEach S es T (merged (map (known_entry m) es) found)
  merged_answers [] good found z = tt
  merged_answers (e ∷ es) good found z = by (known_entry m e) (known_value S m right e.0 e.1 e.2 (good 0 e (omega arith)).0 (good 0 e (omega arith)).1 (terminal_of e.0 e.1 e.2) refl)
      (merged_answers es (λ k b lt. good (suc k) b (omega arith))) found z
    where
      by : (o : Option Ref) → IfSome o (IsValueOf S e.0 e.1 e.2) → ((found : List Ref) → AnswersEach S (unknown m es) T found → AnswersEach S es T (merged (map (known_entry m) es) found)) → (found : List Ref) → AnswersEach S (unless_known o e ++ unknown m es) T found → AnswersEach S (e ∷ es) T (merged (o ∷ map (known_entry m) es) found)
      by (Some r) v rest found z = (diagram_kept S T w keeps (entry_value S e) r v, rest found z)
      by None v rest [] z = absurd z
      by None v rest (r ∷ found) z = (z.0, rest found z.1)

  -- the computed table is right after their requests were kept
  pub right_after : (es : List Entry) → All (IsEntry S) es → All (λ e. terminal_of e.0 e.1 e.2 ≡ None) es → (found : List Ref) → AnswersEach S es T found
      → (old new : ComputedView) → IsRight T old → AreKept old es found new → IsRight T new
  right_after [] good long found z old new was kept = subst (IsRight T) (sym kept) was
  right_after (e ∷ es) good long [] z old new was kept = absurd z
  right_after (e ∷ es) good long (r ∷ found) z old new was kept =
      right_after es (λ k b lt. good (suc k) b (omega arith)) (λ k b lt. long (suc k) b (omega arith)) found z.1 kept.0 new
      (right_with T old (normal_of e.0 e.1 e.2).0 (complement_by (normal_of e.0 e.1 e.2).1 r) kept.0 was is kept.1) kept.2
    where
      key : IsKey S (normal_of e.0 e.1 e.2).0
      key = is_key S e.0 e.1 e.2 (good 0 e (omega arith)).0 (good 0 e (omega arith)).1 (long 0 e (omega arith))

      is : IsAnswerOf T (normal_of e.0 e.1 e.2).0 (complement_by (normal_of e.0 e.1 e.2).1 r)
      is = record {
        first = keeps.has (normal_of e.0 e.1 e.2).0.f key.first;
        second = keeps.has (normal_of e.0 e.1 e.2).0.g key.second;
        diagram =
            let m : Bool = (normal_of e.0 e.1 e.2).1 in
            let k : Key = (normal_of e.0 e.1 e.2).0 in (
              IsRef-complement_by (node_at T) m r z.0.0,
              λ x hx. den-complement_by T m r x ∙ ap (complemented m) (z.0.1 x hx ∙ sym (normal_means S e x)) ∙ complemented-twice m (meaning S k x) ∙ sym (kept_meaning S T w keeps k key.first key.second x),
            );
      }

  -- the computed table is right after a wave
  pub right_wave : (es : List Entry) → All (IsEntry S) es → (found : List Ref) → AnswersEach S (unknown m es) T found → (new : ComputedView) → AreKept m (unknown m es) found new → IsRight T new
  right_wave es good found z new kept =
      right_after (unknown m es) (unknown_good S m es good) (unknown_long m es) found z m new (right_kept S T w keeps m right) kept

-- of the answers of all entries, those of the unknown ones are those that were found
found_back : (m : ComputedView) (es : List Entry) (found : List Ref) → length found ≡ length (unknown m es) → found_of m es (merged (map (known_entry m) es) found) ≡ found
found_back m [] [] e = refl
found_back m [] (r ∷ found) e = absurd (omega arith)
found_back m (d ∷ es) found e = by (known_entry m d) refl (found_back m es) found e
  where
    by : (o : Option Ref) → known_entry m d ≡ o → ((found : List Ref) → length found ≡ length (unknown m es) → found_of m es (merged (map (known_entry m) es) found) ≡ found) → (found : List Ref) → length found ≡ length (unless_known o d ++ unknown m es) → found_of m (d ∷ es) (merged (o ∷ map (known_entry m) es) found) ≡ found
    by None h rest [] e = absurd (omega arith)
    by None h rest (r ∷ found) e = rw h (ap (λ z. r ∷ z) (rest found (omega arith)))
    by (Some k) h rest found e = rw h (rest found e)

kept_wave : (m : ComputedView) (es : List Entry) (found : List Ref) (new : ComputedView) → length found ≡ length (unknown m es) → AreKept m (unknown m es) found new → IsKeptWave m es (merged (map (known_entry m) es) found) new
kept_wave m es found new e kept = subst (λ z. AreKept m (unknown m es) z new) (sym (found_back m es found e)) kept

-- ---- a wave over the unknown entries
-- the store T and the computed table `new` after a wave over all entries, with the answers
pub record IsWaved (S : Nodes) (m : ComputedView) (es : List Entry) (T : Nodes) (answers : List Ref) (new : ComputedView) : Type 0 where
  pub adds : AddsDescribed S T (IsWanted S es)
  pub answered : AnswersEach S es T answers
  pub below : AddsBelow S T answers
  pub kept : IsKeptWave m es answers new
  pub right : IsRight T new

module _ (S : Nodes) (w : IsSound S) (m : ComputedView) (right : IsRight S m) (es : List Entry) (good : All (IsEntry S) es) (s : ProbeView) (cache_probe : IsProbed m es s) (asked : List Entry) (are : asked ≡ s.requests) where
  only : asked ≡ unknown m es
  only = are ∙ cache_probe.requests

  pub probe_good : All (IsEntry S) asked
  probe_good = subst (All (IsEntry S)) (sym only) (unknown_good S m es good)

  pub probe_long : All (λ e. terminal_of e.0 e.1 e.2 ≡ None) s.requests
  probe_long = subst (All (λ (e : Entry). terminal_of e.0 e.1 e.2 ≡ None)) (sym cache_probe.requests) (unknown_long m es)

  pub probe_count : missing s.known ≡ length s.requests
  probe_count = ap missing cache_probe.known ∙ unknown_count m es ∙ ap (λ (l : List Entry). length l) (sym cache_probe.requests)

  module _ (T : Nodes) where
    pub probe_adds : AddsDescribed S T (IsWanted S asked) → AddsDescribed S T (IsWanted S es)
    probe_adds adds = wanted_of_all S T m es (subst (λ z. AddsDescribed S T (IsWanted S z)) only adds)

    -- the computed table is right for a store that has only grown
    pub probe_right : AddsDescribed S T (IsWanted S asked) → IsRight T m
    probe_right adds = right_kept S T w adds.keeps m right

    -- a wave over the unknown entries is one over all entries
    pub probe_given_up : IsSound T → AddsDescribed S T (IsWanted S asked) → (e : WaveFault) → IsWaveFault S (unknown m es) T e → AnswersWave S es (unknown m es) (Err e) T
    probe_given_up u adds e f = wave_given_up S es (unknown m es) T e u (probe_adds adds) f

    pub probe_refused : (e : WaveFault) → AnswersWave S asked asked (Err e) T → AnswersWave S es (unknown m es) (Err e) T
    probe_refused e a = probe_given_up a.sound a.adds e (subst (λ z. IsWaveFault S z T e) only a.fault)

    pub probe_done : (found : Vec Ref Global) → AnswersWave S asked asked (Ok found) T → (answers : Vec Ref Global) → AnswersEach S es T answers.items → AnswersWave S es (unknown m es) (Ok answers) T
    probe_done found a answers z = wave_done S es (unknown m es) T answers a.sound (probe_adds a.adds) z (subst (λ l. IsWithinLimit S l T) only a.within)

    module _ (found slice : List Ref) (same : slice ≡ found) (z : AnswersEach S asked T found) where
      pub found_each : length slice ≡ length s.requests
      found_each = ap (λ (l : List Ref). length l) same ∙ as_many S T asked found z ∙ ap (λ (l : List Entry). length l) are

      pub waved : IsSound T → AddsDescribed S T (IsWanted S asked) → (answers : List Ref) → answers ≡ merged s.known slice → (new : ComputedView) → AreKept m s.requests slice new → IsWaved S m es T answers new
      waved u adds answers is new kept =
          let found_is : AnswersEach S (unknown m es) T slice = subst (λ l. AnswersEach S (unknown m es) T l) (sym same) (subst (λ l. AnswersEach S l T found) only z) in
          let merged_is : answers ≡ merged (map (known_entry m) es) slice = is ∙ ap (λ l. merged l slice) cache_probe.known in
          let each : AnswersEach S es T answers = subst (AnswersEach S es T) (sym merged_is) (merged_answers S w m right T adds.keeps es good slice found_is) in
          let keeps : AreKept m (unknown m es) slice new = subst (λ l. AreKept m l slice new) cache_probe.requests kept in
          let all : AddsDescribed S T (IsWanted S es) = probe_adds adds in
          record {
            adds = all;
            answered = each;
            below = adds_below S es T u all answers each;
            kept = subst (λ l. IsKeptWave m es l new) (sym merged_is) (kept_wave m es slice new (as_many S T (unknown m es) slice found_is) keeps);
            right = right_wave S w m right T adds.keeps es good slice found_is new keeps;
          }

-- ---- the table holds nothing, or nothing is unknown
-- an entry of which nothing is known is among the unknown ones
unknown_in : (m : ComputedView) (es : List Entry) (e : Entry) → Contains es e → known_entry m e ≡ None → Contains (unknown m es) e
unknown_in m [] e c h = absurd (nothing {X = Entry} e c)
unknown_in m (d ∷ es) e c h =
    elim (in_cases {X = Entry} d e es c) [
      | inl same ↦
          let own : Contains (unless_known (known_entry m e) e) e = subst (λ o. Contains (unless_known o e) e) (sym h) (head_in {X = Entry} e []) in
          Contains-append_left (unless_known (known_entry m d) d) (unknown m es) e (subst (λ (z : Entry). Contains (unless_known (known_entry m z) z) e) (sym same) own)
      | inr i ↦ Contains-append_right (unless_known (known_entry m d) d) (unknown m es) e (unknown_in m es e i h)
    ]

-- if nothing is held, each entry without a terminal case is a request
pub request_unknown : (m : ComputedView) (es : List Entry) → m.pairs ≡ [] → HasRequest es → HasRequest (unknown m es)
request_unknown m es empty (e, c, long) = (e, unknown_in m es e c (ap (or_computed m (normal_of e.0 e.1 e.2)) long ∙ ap (λ pairs. option_map (complement_by (normal_of e.0 e.1 e.2).1) (lookup (eq-value.it (normal_of e.0 e.1 e.2).0) pairs)) empty), long)

-- if nothing is held, a wave is within its limit as its entries are
pub within_all : (S T : Nodes) (m : ComputedView) (es : List Entry) → m.pairs ≡ [] → IsWithinLimit S (unknown m es) T → IsWithinLimit S es T
within_all S T m es empty (inl le) = inl le
within_all S T m es empty (inr (none, same)) = inr (λ asked. none (request_unknown m es empty asked), same)

-- a wave without requests leaves the computed table as it was
pub kept_none : (m : ComputedView) (es : List Entry) (answers : List Ref) (new : ComputedView) → (HasRequest (unknown m es) → ⊥) → IsKeptWave m es answers new → new ≡ m
kept_none m es answers new none kept = by (unknown m es) (unknown_is m es) none kept
  where
    by : (rs : List Entry) → ((e : Entry) → Contains rs e → Contains es e × (terminal_of e.0 e.1 e.2 ≡ None)) → (HasRequest rs → ⊥) → AreKept m rs (found_of m es answers) new → new ≡ m
    by [] is never h = h
    by (e ∷ rs) is never h = absurd (never (e, head_in {X = Entry} e rs, (is e (head_in {X = Entry} e rs)).1))

-- the cause of a wave's fault, by all entries
pub fault_of_all : (S T : Nodes) (m : ComputedView) (es : List Entry) (e : WaveFault) → IsWaveFault S (unknown m es) T e → IsWaveFault S es T e
fault_of_all S T m es OutOfMemory f = tt
fault_of_all S T m es NoWorker f = tt
fault_of_all S T m es TooManyRequests f = tt
fault_of_all S T m es Stopped f = tt
fault_of_all S T m es Full (asked, why) = (
  (asked.0, (unknown_is m es asked.0 asked.1).0, asked.2),
  elim why [
    | inl over ↦ inl over
    | inr full ↦ inr (
      full.0,
      (
        full.1.0,
        full.1.1,
        record { entry = full.1.2.entry; is_entry = (unknown_is m es full.1.2.entry full.1.2.is_entry).0; fixed = full.1.2.fixed; depends = full.1.2.depends },
        full.1.3,
      ),
    )
  ],
)

-- after one more entry was kept, what is left is kept from there on
pub kept_more : (old m new : ComputedView) (es : List Entry) (rs : List Ref) (i : ℕ) (e : Entry) (r : Ref) (k : Key × Bool) → i < length es → length rs ≡ length es
    → e ≡ slice_index_or es i e → r ≡ slice_index_or rs i r → k ≡ normal_of e.0 e.1 e.2 → KeepsAnswer old k.0 (complement_by k.1 r) m → AreKept m (drop (i + 1) es) (drop (i + 1) rs) new → AreKept old (drop i es) (drop i rs) new
kept_more old m new es rs i e r k lt len at_e at_r is kept more =
    subst (λ z. AreKept old z (drop i rs) new) (sym (drop_more es i e lt))
    (subst (λ z. AreKept old (slice_index_or es i e ∷ drop (i + 1) es) z new) (sym (drop_more rs i r (subst (λ n. i < n) (sym len) lt))) (
      m,
      subst (λ (z : Entry). KeepsAnswer old (normal_of z.0 z.1 z.2).0 (complement_by (normal_of z.0 z.1 z.2).1 (slice_index_or rs i r)) m) at_e
          (subst (λ z. KeepsAnswer old (normal_of e.0 e.1 e.2).0 (complement_by (normal_of e.0 e.1 e.2).1 z) m) at_r (subst (λ (z : Key × Bool). KeepsAnswer old z.0 (complement_by z.1 r) m) is kept)),
      more,
    ))
