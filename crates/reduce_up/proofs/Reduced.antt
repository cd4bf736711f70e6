-- The number of requests that are reduced on the way up: none is missed.
use Rattle.std.proofs.Common.{◌≡◌, ℕ, ◌+◌, ◌<◌, ◌≤◌, inl, inr, List, [], ◌++◌, length, sym, subst, arith}
use Rattle.std.proofs.Math.Nat.{eq-or-lt_of_le}
use Rattle.std.proofs.lemmas.Bool.{cases_lt}
use Rattle.std.proofs.lemmas.List.{length-append}
use Rattle.std.proofs.lemmas.Option.{slice_get_within}
use Rattle.slot_table.specs.Lists.{IsOnce}
use Rattle.slot_table.proofs.Listing.{in_back}
use Rattle.dd_store.specs.Nodes.{Nodes}
use Rattle.dd_store.proofs.Places.{slice_get-append}
use Rattle.req_table.specs.declared.Key.{Key}
use Rattle.req_table.specs.Keys.{level_of}
use Rattle.expand_work.proofs.Once.{append_cases, once_append}
use Rattle.reduce_up.specs.Waves.{Entry}
use Rattle.reduce_up.specs.ByPlace.{AreAdmitted}
use Rattle.req_table.specs.Places.{row, IsAtPlace, AreNone}
use Rattle.reduce_up.specs.ReductionPhase.{AreMore, AreCounted}

-- before the last level nothing was reduced
pub none_reduced : (T : List (List Key)) (v count : ℕ) → AreCounted T v v count count
none_reduced T v count = record {
  requests = [];
  once = λ i j x e f. absurd (let z : i < 0 = slice_get_within [] i x e in omega (arith, z));
  stands = λ k h. absurd (let z : h.0 < 0 = slice_get_within [] h.0 k h.1 in omega (arith, z));
  whole = λ w q k le lt h. absurd (omega (arith, le, lt));
  count = omega arith;
}

-- the requests of a level were reduced too, if there is none between it and those before
pub level_reduced : (s : Nodes) (entries : List Entry) (T : List (List Key)) → AreAdmitted s entries T → (u end v before after later : ℕ) →
    AreCounted T end v before after → u < end → end ≤ v → AreNone T (u + 1) end → IsOnce (row T u) → AreMore (length (row T u)) after later → AreCounted T u v before later
level_reduced s entries T admitted u end v before after later m lt le none own b = record {
  requests = row T u ++ m.requests;
  once = once_append (row T u) m.requests own m.once (λ k a b.
      let x = m.stands k b in
      let here : level_of s k ≡ u = (admitted.keys u a.0 k a.1).level in
      let there : level_of s k ≡ x.0 = (admitted.keys x.0 x.1 k x.4).level in
      let ge : end ≤ x.0 = x.2 in
      omega (arith, here, there, ge, lt));
  stands = λ k h. elim (append_cases (row T u) m.requests h.0 k h.1) [
    | inl g ↦ (u, h.0, omega arith, omega (arith, lt, le), g)
    | inr g ↦ let x = m.stands k (g.0, g.2) in (x.0, x.1, (let ge : end ≤ x.0 = x.2 in omega (arith, ge, lt)), x.3, x.4)
  ];
  whole = λ w q k ge before h. elim (eq-or-lt_of_le ge) [
    | inl e ↦ (q, slice_get-append (row T u) m.requests q k (subst (λ z. IsAtPlace T z q k) (sym e) h))
    | inr over ↦ elim (cases_lt w end) [
      | inl between ↦ absurd (none w q k (omega (arith, over)) between h)
      | inr from ↦ in_back (row T u) m.requests k (m.whole w q k from before h)
    ]
  ];
  count = let l : length (row T u ++ m.requests) ≡ length (row T u) + length m.requests = length-append (row T u) m.requests in
      let a = m.count in omega (arith, l, a, b);
}

-- levels without requests are skipped
pub reduced_passed : (T : List (List Key)) (u end v before after : ℕ) → AreCounted T end v before after → u ≤ end → AreNone T u end → AreCounted T u v before after
reduced_passed T u end v before after m le none = record {
  requests = m.requests;
  once = m.once;
  stands = λ k h. let x = m.stands k h in (x.0, x.1, (let ge : end ≤ x.0 = x.2 in omega (arith, ge, le)), x.3, x.4);
  whole = λ w q k ge lt h. elim (cases_lt w end) [ inl between ↦ absurd (none w q k ge between h) | inr from ↦ m.whole w q k from lt h ];
  count = m.count;
}
