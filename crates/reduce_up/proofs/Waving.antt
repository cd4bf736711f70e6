-- What the reduction of a wave's closure gives its entries, and which nodes it adds.
use Rattle.std.proofs.Common.{◌≡◌, ◌≢◌, ℕ, suc, ◌<◌, ◌≤◌, ◌⊎◌, inl, inr, Bool, List, [], ◌∷◌, length, Option, Some, None, refl, sym, ◌∙◌, ap, subst, arith, Contains, All}
use Rattle.std.specs.Prelude.{not, Ok, Err}
use Rattle.std.specs.List.{AllZip}
use Rattle.std.specs.declared.vec.Vec.{Vec}
use Rattle.std.specs.declared.alloc.Global.{Global}
use Rattle.std.proofs.lemmas.Bool.{cases_lt}
use Rattle.dd_store.specs.declared.reference.Ref.{Ref}
use Rattle.dd_store.specs.Functions.{Agree, IsFixedSomehow, DependsOn, OfEither}
use Rattle.dd_store.specs.Parts.{IsReachable}
use Rattle.dd_store.specs.Parts.Part.{node}
use Rattle.dd_store.specs.Nodes.{Nodes, IsSound, IsDiagram, den, count_of}
use Rattle.dd_store.specs.View.{part, Has, IsOneNode}
use Rattle.dd_store.proofs.View.{keeps-refl, has-negate}
use Rattle.expand_work.specs.declared.fault.WaveFault.{WaveFault}
use Rattle.expand_work.specs.declared.fault.WaveFault.TheVariants.{OutOfMemory, NoWorker, Full, TooManyRequests, Stopped}
use Rattle.dd_store.specs.Nodes.{node as node_at}
use Rattle.dd_store.specs.Complements.{negate_of, complemented}
use Rattle.dd_store.proofs.Complements.{not-not, IsRef-complement_by, den-complement_by, den-negate, complemented-twice}
use Rattle.req_table.specs.declared.Key.{Key}
use Rattle.req_table.specs.declared.Record.{Record}
use Rattle.req_table.specs.Keys.{IsKey, meaning, level_of, normal_of, wave_of}
use Rattle.req_table.specs.Reached.{root}
use Rattle.req_table.specs.Settled.{IsClosure}
use Rattle.req_table.specs.TerminalCase.{terminal_of}
use Rattle.req_table.specs.Tables.{row_at}
use Rattle.req_table.proofs.AsksFor.{AsksFor, asks_for}
use Rattle.req_table.proofs.Waved.{is_key, is_wave, are_requests}
use Rattle.reduce_up.specs.Reducing.{HasAnswer, IsAnswer, AddsDescribed}
use Rattle.reduce_up.specs.Levels.{AreRecords, AskedInRows, AreReduced, IsWithinFrom, IsReduceFault}
use Rattle.reduce_up.specs.Waves.{Entry, entry_value, IsEntry, AnswersEach, IsWanted, AddsBelow, HasRequest, IsWithinLimit, LacksWanted, IsWaveFault, AnswersWave, requests_of, IsTakenFrom, IsClosureOf}
use Rattle.reduce_up.proofs.Below.{fixed_of, fixed_as, lies_below, complement_below}
use Rattle.reduce_up.proofs.Closed.{reached_key, recorded, reached_at, placed_at, records_of_closure}
use Rattle.reduce_up.proofs.Levelling.{past_rows}
use Rattle.reduce_up.proofs.Noting.{nothing, head_in, tail_in, in_cases}
use Rattle.reduce_up.proofs.Adding.{adds_reads}
use Rattle.reduce_up.proofs.Opposite.{either_more, either_either, either_reads, fixed_complemented}
use Rattle.reduce_up.proofs.Reduction.{kept_meaning, diagram_kept}
use Rattle.reduce_up.proofs.Rooted.{all_of, of_entry, to_request, requests_good, normal_means, terminal_diagram}

-- f is the function of one of the keys with the bits before level v fixed
abbrev pub IsKeyFixed : Nodes → List Key → ℕ → (List Bool → Bool) → Type 0
IsKeyFixed S keys v f = (k : Key) × Contains keys k × IsFixedSomehow S.levels v (meaning S k) f

module _ (S : Nodes) (w : IsSound S) (workers : ℕ) (some : 0 < workers) (roots : List Key) (good : All (IsKey S) roots) (rows : List (List Record)) (closed : IsClosure (wave_of S workers) roots (row_at rows)) where
  -- the functions of a level's records are those of roots with the bits before the level fixed, or complements of such
  pub root_fixed : (v : ℕ) → v < S.levels → (f : List Bool → Bool) → AskedInRows S rows v f → OfEither (IsKeyFixed S roots v) f
  root_fixed v lt f (e, e_in, same) =
      let at : level_of S e.key ≡ v = placed_at S w workers roots good rows closed v e lt e_in in
      let a : AsksFor (wave_of S workers) (meaning S) roots e.key =
      asks_for (wave_of S workers) (is_wave S w workers some) (part S) (Has S) (den S) (meaning S) (are_requests S w workers) roots good e.key (reached_at S w workers roots good rows closed v e lt e_in) in
      let source : List Bool → Bool = λ (x : List Bool). complemented a.complement (meaning S a.from x) in
      let g : IsFixedSomehow S.levels v source (meaning S e.key) = subst (λ z. IsFixedSomehow S.levels z source (meaning S e.key)) at a.fixed in
      either_more (IsFixedSomehow S.levels v (meaning S a.from)) (IsKeyFixed S roots v) (λ h i. (a.from, a.is_root, i)) f
      (fixed_complemented S.levels v a.complement (meaning S a.from) f (fixed_as S.levels v source (meaning S e.key) f same g))

-- the answer of an entry
answer_for : (S T : Nodes) (es : List Entry) (answers : List Ref) → AnswersEach S es T answers → (e : Entry) → Contains es e → (r : Ref) × Contains answers r × IsDiagram T r (entry_value S e)
answer_for S T [] answers z e c = absurd (nothing {X = Entry} e c)
answer_for S T (d ∷ es) [] z e c = absurd z
answer_for S T (d ∷ es) (r ∷ answers) z e c =
    elim (in_cases {X = Entry} d e es c) [
      | inl same ↦ (r, head_in r answers, subst (λ (q : Entry). IsDiagram T r (entry_value S q)) same z.0)
      | inr i ↦ let a = answer_for S T es answers z.1 e i in (a.0, tail_in r a.0 answers a.1, a.2)
    ]

-- each node that was added for entries is below one of their answers, or is the complement of one that is
pub adds_below : (S : Nodes) (entries : List Entry) (T : Nodes) → IsSound T → AddsDescribed S T (IsWanted S entries) → (answers : List Ref) → AnswersEach S entries T answers → AddsBelow S T answers
adds_below S entries T u adds answers z m h = by (adds.described m h)
  where
    -- what is wanted is an answer's function with the bits before the level fixed
    answer_fixed : (v : ℕ) (f : List Bool → Bool) → IsWanted S entries v f → (r : Ref) × Contains answers r × Has T r × IsFixedSomehow T.levels v (den T r) f
    answer_fixed v f wanted =
        let a = answer_for S T entries answers z wanted.entry wanted.is_entry in
        let fixed : IsFixedSomehow T.levels v (entry_value S wanted.entry) f = subst (λ n. IsFixedSomehow n v (entry_value S wanted.entry) f) (sym adds.keeps.levels) wanted.fixed in
        (a.0, a.1, a.2.0, fixed_of T.levels v (den T a.0) (entry_value S wanted.entry) f (λ x hx. a.2.1 x hx) fixed)

    below : (v : ℕ) (lo hi : Ref) → part T m ≡ node v lo hi → OfEither (IsWanted S entries v) (den T m) → (r : Ref) × (c : Ref) × Contains answers r × IsReachable (part T) r c × IsOneNode T m c
    below v lo hi e (inl wanted) =
        let a = answer_fixed v (den T m) wanted in
        (a.0, m, a.1, lies_below T u a.0 m v lo hi a.2 h e a.3, inl refl)
    below v lo hi e (inr wanted) =
        let a = answer_fixed v (λ x. not (den T m x)) wanted in
        let c = complement_below T u a.0 m v lo hi a.2 h e a.3 in
        (a.0, c.0, a.1, c.1, c.2)

    by : Has S m ⊎ ((v : ℕ) × (lo : Ref) × (hi : Ref) × (part T m ≡ node v lo hi) × OfEither (IsWanted S entries v) (den T m)) → Has S m ⊎ ((r : Ref) × (c : Ref) × Contains answers r × IsReachable (part T) r c × IsOneNode T m c)
    by (inl old) = inl old
    by (inr new) = inr (below new.0 new.1 new.2 new.3 new.4)

-- A wave over the store S: its entries, and the records of all requests that they ask for.
module _ (S : Nodes) (w : IsSound S) (workers : ℕ) (some : 0 < workers) (entries : List Entry) (good : All (IsEntry S) entries) (rows : List (List Record)) (closed : IsClosureOf S workers (requests_of entries) rows) where
  keys : All (IsKey S) (requests_of entries)
  keys = requests_good S entries good

  -- the records may be reduced
  pub wave_records : AreRecords S rows
  wave_records = records_of_closure S w workers (requests_of entries) keys rows closed.closure closed.levels

  -- each entry's request has an answer
  pub wave_noted : (T : Nodes) (pairs : List (Key × Ref)) → AreReduced rows T pairs → All (HasAnswer pairs) (requests_of entries)
  wave_noted T pairs d = all_of (HasAnswer pairs) (requests_of entries) (λ k c. by k c)
    where
      by : (k : Key) → Contains (requests_of entries) k → HasAnswer pairs k
      by k c = let m = recorded S w workers (requests_of entries) keys rows closed.closure k (root c) in subst (HasAnswer pairs) m.2 (d.done (level_of S k) m.0 m.1)

  module _ (T : Nodes) (u : IsSound T) (adds : AddsDescribed S T (AskedInRows S rows)) where
    -- a request's function with the bits before a level fixed is wanted, or its complement is, if it depends on the bit
    -- of the level
    wanted : (v : ℕ) (f : List Bool → Bool) → DependsOn S.levels v f → IsKeyFixed S (requests_of entries) v f → OfEither (IsWanted S entries v) f
    wanted v f reads (k, k_in, fixed) =
        let e = of_entry entries k k_in in
        let m : Bool = (normal_of e.0.0 e.0.1 e.0.2).1 in
        let source : List Bool → Bool = λ (x : List Bool). complemented m (entry_value S e.0 x) in
        let same : Agree S.levels source (meaning S k) = (λ x hx. ap (complemented m) (sym (normal_means S e.0 x)) ∙ complemented-twice m (meaning S (normal_of e.0.0 e.0.1 e.0.2).0 x) ∙ ap (λ z. meaning S z x) (sym e.3)) in
        either_reads S.levels v (IsFixedSomehow S.levels v (entry_value S e.0)) (IsWanted S entries v) (λ g d i. record { entry = e.0; is_entry = e.1; fixed = i; depends = d }) f reads
        (fixed_complemented S.levels v m (entry_value S e.0) f (fixed_of S.levels v source (meaning S k) f same fixed))

    -- what is a request's function with these bits fixed, or whose complement is, is wanted, or its complement is, if
    -- it depends on the bit of the level
    wanted_either : (v : ℕ) (f : List Bool → Bool) → DependsOn S.levels v f → OfEither (IsKeyFixed S (requests_of entries) v) f → OfEither (IsWanted S entries v) f
    wanted_either v f reads i = either_either (IsWanted S entries v) f (either_reads S.levels v (IsKeyFixed S (requests_of entries) v) (OfEither (IsWanted S entries v)) (wanted v) f reads i)

    -- each new node denotes what is wanted, or the complement of it
    pub wave_adds : AddsDescribed S T (IsWanted S entries)
    wave_adds = adds_reads S T u (AskedInRows S rows) (IsWanted S entries)
        (λ v f reads asked. wanted_either v f reads (root_fixed S w workers some (requests_of entries) keys rows closed.closure v (let e = reads.3 in omega (arith, e)) f asked)) adds

    -- the diagrams of the entries
    pub entry_answered : (pairs : List (Key × Ref)) → AreReduced rows T pairs → (e : Entry) → IsEntry S e → (r : Ref) → (o : Option Ref) → terminal_of e.0 e.1 e.2 ≡ o → IsTakenFrom pairs o e r → IsDiagram T r (entry_value S e)
    entry_answered pairs d e i r None h taken =
        let k : Key = (normal_of e.0 e.1 e.2).0 in
        let m : Bool = (normal_of e.0 e.1 e.2).1 in
        let t : Ref = taken.0 in
        let a : IsAnswer T k t = d.answers k t taken.1 in
        let key : IsKey S k = is_key S e.0 e.1 e.2 i.0 i.1 h in
        subst (λ z. IsDiagram T z (entry_value S e)) (sym taken.2) (
          IsRef-complement_by (node_at T) m t a.has,
          λ x hx. den-complement_by T m t x ∙ ap (complemented m) (a.denotes x hx ∙ kept_meaning S T w adds.keeps k key.first key.second x) ∙ normal_means S e x,
        )
    entry_answered pairs d e i r (Some s) h taken =
        subst (λ z. IsDiagram T z (entry_value S e)) (sym taken) (diagram_kept S T w adds.keeps (entry_value S e) s (terminal_diagram S e i s h))

    pub wave_answers : (pairs : List (Key × Ref)) → AreReduced rows T pairs → (es : List Entry) → All (IsEntry S) es → (answers : List Ref) → AllZip (λ e r. IsTakenFrom pairs (terminal_of e.0 e.1 e.2) e r) es answers → AnswersEach S es T answers
    wave_answers pairs d [] g [] z = z
    wave_answers pairs d [] g (r ∷ answers) z = z
    wave_answers pairs d (e ∷ es) g [] z = z
    wave_answers pairs d (e ∷ es) g (r ∷ answers) z = (entry_answered pairs d e (g 0 e (omega arith)) r (terminal_of e.0 e.1 e.2) refl z.0, wave_answers pairs d es (λ k b lt. g (suc k) b (omega arith)) answers z.1)

    -- a request is recorded
    has_record : HasRequest entries → (v : ℕ) × (r : Record) × Contains (row_at rows v) r
    has_record h =
        let k : Key = (normal_of h.0.0 h.0.1 h.0.2).0 in
        let m = recorded S w workers (requests_of entries) keys rows closed.closure k (root (to_request entries h.0 h.1 h.2)) in
        (level_of S k, m.0, m.1)

    pub wave_within : IsWithinFrom S rows 0 T → IsWithinLimit S entries T
    wave_within (inl le) = inl le
    wave_within (inr none) = inr (λ h. let r = has_record h in none.0 r.0 r.1 (omega arith) r.2, none.1)

    -- what is missing is wanted, or its complement is wanted and missing
    lacks : (v : ℕ) (f : List Bool → Bool) → ((r : Ref) → Has T r → Agree T.levels (den T r) f → ⊥) → OfEither (IsWanted S entries v) f → LacksWanted S entries T
    lacks v f none (inl i) = (v, f, i, none)
    lacks v f none (inr i) =
        (v, λ x. not (f x), i, λ r h agree. none (negate_of r) (has-negate T r h) (λ x hx. den-negate T r x ∙ ap not (agree x hx) ∙ not-not (f x)))

    -- the cause of a fault
    pub wave_refused : (e : WaveFault) → IsReduceFault T rows e → IsWaveFault S entries T e
    wave_refused OutOfMemory f = tt
    wave_refused NoWorker f = tt
    wave_refused TooManyRequests f = tt
    wave_refused Stopped f = tt
    wave_refused Full f =
        let v : ℕ = f.0 in
        let r : Record = f.1 in
        let same : T.levels ≡ S.levels = adds.keeps.levels in
        let lt : v < S.levels = elim (cases_lt v S.levels) [ inl lt ↦ lt | inr le ↦ absurd (past_rows rows v r (let e : length rows ≡ S.levels = closed.levels in omega arith) f.2) ] in
        let key : IsKey S r.key = reached_key S w workers (requests_of entries) keys r.key (reached_at S w workers (requests_of entries) keys rows closed.closure v r lt f.2) in
        let asked : AskedInRows S rows v (meaning T r.key) = (r, f.2, λ x hx. kept_meaning S T w adds.keeps r.key key.first key.second x) in
        let fixed : OfEither (IsKeyFixed S (requests_of entries) v) (meaning T r.key) = root_fixed S w workers some (requests_of entries) keys rows closed.closure v lt (meaning T r.key) asked in (
          has_request v (meaning T r.key) fixed,
          elim f.3 [
            | inl over ↦ inl over
            | inr full ↦ inr (full.0, lacks v (meaning T r.key) full.1.1 (wanted_either v (meaning T r.key) (subst (λ n. DependsOn n v (meaning T r.key)) same full.1.0) fixed))
          ],
        )
      where
        has_request : (v : ℕ) (g : List Bool → Bool) → OfEither (IsKeyFixed S (requests_of entries) v) g → HasRequest entries
        has_request v g (inl i) = let e = of_entry entries i.0 i.1 in (e.0, e.1, e.2)
        has_request v g (inr i) = let e = of_entry entries i.0 i.1 in (e.0, e.1, e.2)

-- a fault other than Full needs no cause
pub not_full : (S : Nodes) (entries : List Entry) (T : Nodes) (e : WaveFault) → e ≢ Full → IsWaveFault S entries T e
not_full S entries T OutOfMemory differ = tt
not_full S entries T NoWorker differ = tt
not_full S entries T TooManyRequests differ = tt
not_full S entries T Stopped differ = tt
not_full S entries T Full differ = absurd (differ refl)

-- a wave that has failed before the store changed
pub wave_unchanged : (S : Nodes) (entries asked : List Entry) (e : WaveFault) → IsSound S → IsWaveFault S asked S e → AnswersWave S entries asked (Err e) S
wave_unchanged S entries asked e w f = record {
  sound = w;
  adds = record { keeps = keeps-refl S; described = λ m h. inl h };
  answers = tt;
  no_others = tt;
  within = tt;
  fault = f;
}

-- a wave that has failed, whatever was added
pub wave_given_up : (S : Nodes) (entries asked : List Entry) (T : Nodes) (e : WaveFault) → IsSound T → AddsDescribed S T (IsWanted S entries) → IsWaveFault S asked T e → AnswersWave S entries asked (Err e) T
wave_given_up S entries asked T e u adds f = record { sound = u; adds = adds; answers = tt; no_others = tt; within = tt; fault = f }

-- a wave that was done
pub wave_done : (S : Nodes) (entries asked : List Entry) (T : Nodes) (found : Vec Ref Global) → IsSound T → AddsDescribed S T (IsWanted S entries) → AnswersEach S entries T found.items → IsWithinLimit S asked T → AnswersWave S entries asked (Ok found) T
wave_done S entries asked T found u adds z within = record {
  sound = u;
  adds = adds;
  answers = z;
  no_others = adds_below S entries T u adds found.items z;
  within = within;
  fault = tt;
}

-- a store that a wave may leave over its limit was over it before
pub within_still : (S : Nodes) (entries : List Entry) (T : Nodes) → IsWithinLimit S entries T → count_of S ≤ S.limit → count_of T ≤ T.limit
within_still S entries T (inl le) old = le
within_still S entries T (inr n) old = subst (λ x. count_of x ≤ x.limit) (sym n.1) old
