-- Flags of signals.
use Rattle.std.proofs.Common.{◌≡◌, ◌⊎◌, ◌↔◌, inl, inr, ℕ, zero, suc, ◌<◌, Bool, true, false, List, sym, ap, ◌∙◌, subst, length, set, replicate, take, drop, ◌++◌}
use Rattle.std.specs.Prelude.{Contains, All, IsTrue}
use Rattle.std.proofs.lemmas.List.{get_or-set_same, get_or-set_other}
use Rattle.std.proofs.Math.Seq.{take-append_seam}
use Rattle.net_bench.specs.Circuit.{Net, IsNet, circuit}
use Rattle.net_bench.specs.Statement.{takes_one}
use Rattle.net_bench.specs.Labels.{bit_of}
use Rattle.net_bench.proofs.OneLabelling.{at_contained}
use Rattle.net_cone.specs.Cones.{IsBelow, IsCone, here, deeper}
use Rattle.net_cone.proofs.Closed.{in_cone}
use Rattle.net_explain.specs.Explaining.{AreBelowFlags}
use Rattle.net_simulate.proofs.Lists.{all_of, same_or}

pub visited_here : (visited : List Bool) (i : ℕ) → i < length visited → bit_of (set visited i true) i ≡ true
visited_here visited i low = get_or-set_same visited i true false low

pub visited_still : (visited : List Bool) (i s : ℕ) → i < length visited → bit_of visited s ≡ true → bit_of (set visited i true) s ≡ true
visited_still visited i s low was = elim (same_or s i) [
  | inl e ↦ ap (bit_of (set visited i true)) e ∙ visited_here visited i low
  | inr ne ↦ get_or-set_other visited i s true false ne ∙ was
]

pub visited_only : (visited : List Bool) (i s : ℕ) → bit_of (set visited i true) s ≡ true → (bit_of visited s ≡ true) ⊎ (i ≡ s)
visited_only visited i s now = elim (same_or s i) [
  | inl e ↦ inr (sym e)
  | inr ne ↦ inl (sym (get_or-set_other visited i s true false ne) ∙ now)
]

pub none_visited : (count s : ℕ) → bit_of (replicate count false) s ≡ true → ⊥
none_visited zero zero e = cc
none_visited zero (suc s) e = cc
none_visited (suc n) zero e = cc
none_visited (suc n) (suc s) e = none_visited n s e

pub below_of : (n : Net) → IsNet n → (root : ℕ) (names : List (List ℕ)) (cone : Net) (from : List ℕ) → IsCone n root names cone from → (count : ℕ) (old new : List Bool) →
    old ≡ replicate count false → length new ≡ length n.names → ((s : ℕ) → (bit_of new s ≡ true) ↔ ((bit_of old s ≡ true) ⊎ Contains from s)) → AreBelowFlags n root new
below_of n sound root names cone from is count old new none each visited = record {
  each = each;
  below = λ s. (
    (λ now. elim ((visited s).0 now) [
      | inl was ↦ absurd (none_visited count s (subst (λ bs. bit_of bs s ≡ true) none was))
      | inr among ↦ at_contained (IsBelow (circuit n) root) from s is.below among
    ]),
    (λ h. (visited s).1 (inr (in_cone n root names cone from sound is s h))),
  );
}

pub below_low : (n : Net) → IsNet n → (root : ℕ) → root < length n.names → (s : ℕ) → IsBelow (circuit n) root s → s < length n.names
below_low n sound root low _ here = low
below_low n sound root low _ (deeper {s} {t} h (g, among, out, operand)) =
    at_contained (λ t. t < length n.names) g.operands t
    (at_contained (λ g. All (λ s. s < length n.names) g.operands × (0 < length g.operands) × (IsTrue (takes_one g.kind) → length g.operands ≡ 1)) n.gates g sound.operands among).0 operand

pub from_low : (n : Net) → IsNet n → (root : ℕ) (names : List (List ℕ)) (cone : Net) (from : List ℕ) → root < length n.names → IsCone n root names cone from → (sources : List ℕ) (visited : List Bool) →
    sources ≡ from → length visited ≡ length n.names → All (λ s. s < length visited) sources
from_low n sound root names cone from low is sources visited e each =
    subst (λ ss. All (λ s. s < length visited) ss) (sym e) (subst (λ k. All (λ s. s < k) from) (sym each)
    (all_of (λ s. s < length n.names) from (λ s among. below_low n sound root low s (at_contained (IsBelow (circuit n) root) from s is.below among))))

-- what was written to a whole list is the list
pub written : (len : ℕ) (new items : List Bool) → length new ≡ len → take len (new ++ drop (length new) items) ≡ new
written len new items e = subst (λ k. take k (new ++ drop (length new) items) ≡ new) e (take-append_seam new (drop (length new) items))
