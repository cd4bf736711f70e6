-- What the caller's thread and the workers have expanded together, and what of it the caller's thread has reduced.
use Rattle.std.proofs.Common.{◌≡◌, ◌∙◌, ℕ, ◌+◌, ◌-◌, ◌%◌, ◌^◌, ◌<◌, ◌≤◌, inl, inr, List, ◌++◌, length, Option, Some, None, refl, sym, ap, subst, arith, Contains, All}
use Rattle.std.proofs.lemmas.List.{length-append}
use Rattle.std.proofs.lemmas.List.Elements.{Contains-append_left, Contains-append_right, Contains-append_cases}
use Rattle.std.proofs.lemmas.Option.{slice_get-get_or, slice_get_within, get_or_from_slice_get}
use Rattle.slot_table.specs.Lists.{IsIn}
use Rattle.slot_table.proofs.Pigeons.{pigeons}
use Rattle.dd_store.specs.Nodes.{Nodes, IsSound}
use Rattle.req_table.specs.declared.Key.{Key}
use Rattle.req_table.specs.declared.packed_child.PackedChild.{PackedChild}
use Rattle.req_table.specs.Keys.{IsKey, level_of, wave_of}
use Rattle.req_table.specs.Reached.{IsReached, root as root_of, child as child_from}
use Rattle.req_table.proofs.Waved.{deeper}
use Rattle.expand_work.specs.Bounds.{AreFew, most_of}
use Rattle.expand_work.specs.WaveParts.{HaveExpanded}
use Rattle.expand_work.proofs.Once.{once_append}
use Rattle.wave_engine.specs.CacheProbe.{unknown}
use Rattle.reduce_up.specs.Waves.{Entry, IsEntry, requests_of}
use Rattle.reduce_up.proofs.Closed.{reached_key}
use Rattle.reduce_up.specs.ByPlace.{AreExpanded}
use Rattle.wave_engine.specs.Bounds.{AreAtMost, AreMoreThan, ArePast}
use Rattle.wave_engine.specs.ExpansionPhase.{HaveSplit}
use Rattle.wave_engine.specs.Front.{keys_from}
use Rattle.req_table.specs.Places.{IsAtPlace}
use Rattle.wave_engine.specs.EngineView.{EngineView, HaveReduced, HaveShared, AreDivided}
use Rattle.reduce_up.specs.ReductionPhase.{AreCounted}
use Rattle.wave_engine.proofs.Counting.{reached_sorted}
use Rattle.wave_engine.proofs.Fronting.{key_before, key_from, front_keys}

contains_of : {X : Type 0} (xs : List X) (x : X) → IsIn xs x → Contains xs x
contains_of xs x h = (h.0, slice_get_within xs h.0 x h.1, get_or_from_slice_get xs h.0 x x h.1)

in_of : {X : Type 0} (xs : List X) (x : X) → Contains xs x → IsIn xs x
in_of xs x m = (m.0, slice_get-get_or xs m.0 x m.1 ∙ ap (λ z. Some z) m.2)

-- A wave over the store S whose levels before v the caller's thread has expanded; the requests of deeper levels are
-- handed over to n workers.
module _ (S : Nodes) (w : IsSound S) (entries : List Entry) (good : All (IsEntry S) entries) (T : List (List Key)) (rows : List (List (PackedChild × PackedChild))) (roots : List PackedChild) (v : ℕ) (x : AreExpanded S entries roots v T rows) (n : ℕ) where
  abbrev Over : Key → Type 0
  Over k = IsReached (wave_of S n) (keys_from v T) k

  -- a request that is reached from those handed over is at level v or deeper
  over_below : (k : Key) → Over k → v ≤ level_of S k
  over_below k (root_of c) = let p = key_from T v k c in let at : level_of S k ≡ p.0 = (x.admitted.keys p.0 p.1 k p.3).level in let le = p.2 in omega (arith, at, le)
  over_below k (child_from {x = above} b l m r asks) =
      let i : IsKey S above = reached_key S w n (keys_from v T) (front_keys S w entries good T x.admitted v) above r in
      let d : level_of S above < level_of S k = deeper S w above k b l m i asks in
      let a = over_below above r in
      omega (arith, d, a)

  -- a request that is reached from those handed over is reached from the entries, however many workers there are
  over_reached : (k : Key) → Over k → IsReached (wave_of S 1) (requests_of entries) k
  over_reached k (root_of c) = let p = key_from T v k c in (x.admitted.keys p.0 p.1 k p.3).reached
  over_reached k (child_from {x = above} b l m r asks) = child_from b l m (over_reached above r) asks

  -- a request at a place of a deeper level is handed over
  stands_over : (u q : ℕ) (k : Key) → v ≤ u → IsAtPlace T u q k → Over k
  stands_over u q k le h = root_of (contains_of (keys_from v T) k (_, key_before T v u q k le h))

  -- both counts together have grown by as many requests as the entries reach
  pub have_both : (split split' shared shared' : ℕ) → HaveSplit S entries T v split split' → HaveExpanded S n (keys_from v T) shared shared' → HaveExpanded S 1 (requests_of entries) (split + shared) (split' + shared')
  have_both split split' shared shared' c h = record {
    requests = c.requests ++ h.requests;
    once = once_append c.requests h.requests c.once h.once (λ k a b. let above = c.above k a in let below = over_below k (h.reached k (contains_of h.requests k b)) in omega (arith, above, below));
    reached = λ k i. elim (Contains-append_cases c.requests h.requests k i) [ inl a ↦ c.reached k (in_of c.requests k a) | inr b ↦ over_reached k (h.reached k b) ];
    all = λ k r.
        elim (reached_sorted S entries roots T rows v x Over stands_over (λ k y b l m o e. child_from b l m o e) k r) [
          | inl a ↦ Contains-append_left c.requests h.requests k (contains_of c.requests k (c.whole a.0 a.1 k a.2 a.3))
          | inr o ↦ Contains-append_right c.requests h.requests k (h.all k o)
        ];
    count = let l : length (c.requests ++ h.requests) ≡ length c.requests + length h.requests = length-append c.requests h.requests in let a = c.count in let b = h.count in omega (arith, l, a, b);
  }

  -- if the requests that were split are within the bound, and those handed over within what is left of it, all are
  -- within the bound
  pub at_most_both : (split split' : ℕ) (c : HaveSplit S entries T v split split') (most left : ℕ) → length c.requests ≤ most → left ≡ most - length c.requests → AreFew S n (keys_from v T) left
      → (shared shared' : ℕ) → HaveExpanded S n (keys_from v T) shared shared' → AreAtMost most S entries
  at_most_both split split' c most left le is few shared shared' h requests once reached =
      let all : List Key = c.requests ++ h.requests in
      let fits : length requests ≤ length all = pigeons (λ j k. j ≡ k) requests all once (λ i k at. (k, refl, in_all k (reached k (i, slice_get_within requests i k at, get_or_from_slice_get requests i k k at)))) (λ j k l a b. a ∙ sym b) in
      let rest : length h.requests ≤ left = few h.requests h.once h.reached in
      let l = length-append c.requests h.requests in
      omega (arith, fits, rest, l, le, is)
    where
      in_all : (k : Key) → IsReached (wave_of S 1) (requests_of entries) k → IsIn (c.requests ++ h.requests) k
      in_all k r =
          elim (reached_sorted S entries roots T rows v x Over stands_over (λ k y b l m o e. child_from b l m o e) k r) [
            | inl a ↦ in_of (c.requests ++ h.requests) k (Contains-append_left c.requests h.requests k (contains_of c.requests k (c.whole a.0 a.1 k a.2 a.3)))
            | inr o ↦ in_of (c.requests ++ h.requests) k (Contains-append_right c.requests h.requests k (h.all k o))
          ]

  -- the requests before level v were reduced: these are those above this level
  pub have_reduced : (before after : ℕ) → AreCounted T 0 v before after → HaveReduced S (requests_of entries) v before after
  have_reduced before after m = record {
    requests = m.requests;
    once = m.once;
    reached = λ k i. let p = m.stands k (in_of m.requests k i) in (x.admitted.keys p.0 p.1 k p.4).reached;
    above = λ k i. let p = m.stands k (in_of m.requests k i) in let at : level_of S k ≡ p.0 = (x.admitted.keys p.0 p.1 k p.4).level in let lt : p.0 < v = p.3 in omega (arith, at, lt);
    all = λ k r lt.
        elim (reached_sorted S entries roots T rows v x Over stands_over (λ k y b l m o e. child_from b l m o e) k r) [
          | inl a ↦ contains_of m.requests k (m.whole a.0 a.1 k (omega arith) a.2 a.3)
          | inr o ↦ absurd (let below = over_below k o in omega (arith, below, lt))
        ];
    count = m.count;
  }

  -- the requests that were handed over were expanded by the workers: these are those from this level on
  pub have_shared : (before after : ℕ) → HaveExpanded S n (keys_from v T) before after → HaveShared S (requests_of entries) v before after
  have_shared before after h = record {
    requests = h.requests;
    once = h.once;
    reached = λ k i. over_reached k (h.reached k i);
    below = λ k i. over_below k (h.reached k i);
    all = λ k r le.
        elim (reached_sorted S entries roots T rows v x Over stands_over (λ k y b l m o e. child_from b l m o e) k r) [
          | inl a ↦ absurd (let at : level_of S k ≡ a.0 = (x.admitted.keys a.0 a.1 k a.3).level in let lt : a.0 < v = a.2 in omega (arith, at, lt, le))
          | inr o ↦ h.all k o
        ];
    count = h.count;
  }

-- A count that grows by as much as another one has grown.
module _ (before after told told' more old new : ℕ) (a : told ≡ before % 2 ^ 64) (b : told' ≡ after % 2 ^ 64) (d : more ≡ (told' + (2 ^ 64 - told)) % 2 ^ 64) (e : new ≡ (old + more) % 2 ^ 64) where
  count_on : (n : ℕ) → after % 2 ^ 64 ≡ (before + n) % 2 ^ 64 → new % 2 ^ 64 ≡ (old + n) % 2 ^ 64
  count_on n c = omega (arith, a, b, c, d, e)

  pub counted_on : (S : Nodes) (n : ℕ) (roots : List Key) → HaveExpanded S n roots before after → HaveExpanded S n roots old new
  counted_on S n roots h = record {
    requests = h.requests;
    once = h.once;
    reached = h.reached;
    all = h.all;
    count = count_on (length h.requests) h.count;
  }

  pub reduced_on : (S : Nodes) (roots : List Key) (v : ℕ) → HaveReduced S roots v before after → HaveReduced S roots v old new
  reduced_on S roots v h = record {
    requests = h.requests;
    once = h.once;
    reached = h.reached;
    above = h.above;
    all = h.all;
    count = count_on (length h.requests) h.count;
  }

  pub shared_on : (S : Nodes) (roots : List Key) (v : ℕ) → HaveShared S roots v before after → HaveShared S roots v old new
  shared_on S roots v h = record {
    requests = h.requests;
    once = h.once;
    reached = h.reached;
    below = h.below;
    all = h.all;
    count = count_on (length h.requests) h.count;
  }

-- The same of an engine that is seen in two ways.
module _ (S : Nodes) (entries : List Entry) (new : ℕ) (v w : EngineView) (e : v ≡ w) where
  pub counted_view : HaveExpanded S 1 (requests_of (unknown v.held entries)) v.expanded new → HaveExpanded S 1 (requests_of (unknown w.held entries)) w.expanded new
  counted_view h = subst (λ (z : EngineView). HaveExpanded S 1 (requests_of (unknown z.held entries)) z.expanded new) e h

  pub divided_view : (shared : ℕ) → AreDivided S (requests_of (unknown v.held entries)) v.reduced new v.by_workers shared → AreDivided S (requests_of (unknown w.held entries)) w.reduced new w.by_workers shared
  divided_view shared h = subst (λ (z : EngineView). AreDivided S (requests_of (unknown z.held entries)) z.reduced new z.by_workers shared) e h

-- if there are more requests than the number of a bound, they are past the bound
pub past_bound : (S : Nodes) (entries : List Entry) (o : Option ℕ) (n : ℕ) → n ≡ most_of o → n < 2 ^ 64 - 1 → AreMoreThan n S entries → ArePast o S entries
past_bound S entries None n is lt more = absurd (omega (arith, is, lt))
past_bound S entries (Some m) n is lt more = subst (λ z. AreMoreThan z S entries) is more
