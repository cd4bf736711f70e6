-- Which pairs are picked: all, those whose names match one of some patterns, or those of one share.
use Rattle.std.specs.Prelude.{◌≡◌, ◌&&◌, ◌+◌, ◌-◌, ◌/◌, ◌%◌, ◌<◌, ◌==◌, ◌⊎◌, ℕ, suc, Bool, false, List, [], map, filter, length, zip, Option}
use Rattle.std.specs.Prelude.{true, Some, None, IsTrue, Contains, if◌then◌else◌, slice_index, bytes_eq, Vec}
use Rattle.std.specs.declared.alloc.Global.{Global}
use Rattle.std.specs.List.{AllZip, list_any}
use Rattle.std.specs.List.Sorted.{IsPermutation}
use Rattle.net_bench.specs.Circuit.{Circuit}
use Rattle.net_cone.specs.Cones.{HasGates}
use Rattle.net_order.specs.Force.{numbers_below}
use Rattle.net_order.specs.Order.{NamingModel, name_of, registers_of}
use Rattle.report_text.specs.declared.cause.PairName.{PairName}
use Rattle.report_text.specs.declared.outcome.PairKind.{PairKind}
use Rattle.report_text.specs.declared.outcome.PairKind.TheVariants.{Output, NextState}
use Rattle.report_text.specs.declared.outcome.Share.{Share}
use Rattle.report_text.specs.declared.outcome.Side.TheVariants.{First}
use Rattle.report_text.specs.declared.verdict.Verdict.{Verdict}
use Rattle.report_text.specs.declared.verdict.Verdict.TheVariants.{Equal, Differs, Unmatched, Undecided}
use Rattle.report_text.specs.declared.pair_filter.PairFilter.{PairFilter}
use Rattle.report_text.specs.declared.pair_filter.PairFilter.TheVariants.{All, Only, Share as InShare}
use Rattle.compare_built.specs.declared.subject.Subject.{Subject}
use Rattle.compare_built.specs.NamePatterns.{matches}
use Rattle.compare_built.specs.Report.{unmatched_of_side, unmatched_verdicts, subjects}

-- the name is one of these
abbrev pub is_among : List (List ℕ) → List ℕ → Bool
is_among names n = list_any (bytes_eq n) names

-- a pattern of kind `asked` picks pairs of this kind; a pattern of outputs picks next states too
abbrev pub is_kind_picked : (asked kind : PairKind) → Bool
is_kind_picked Output kind = true
is_kind_picked NextState NextState = true
is_kind_picked NextState Output = false

-- the pattern picks a pair of this kind and name
abbrev pub is_picked_by : PairKind → (name : List ℕ) → (pattern : PairName) → Bool
is_picked_by kind n pattern = is_kind_picked pattern.role kind && matches pattern.name n

-- one of the patterns picks a pair of this kind and name
abbrev pub is_picked : (patterns : List PairName) → PairKind → (name : List ℕ) → Bool
is_picked patterns kind n = list_any (is_picked_by kind n) patterns

-- the pattern picks one of these signals, taken as pairs of this kind
abbrev pub is_one_picked : Circuit → PairKind → (signals : List ℕ) → (pattern : PairName) → Bool
is_one_picked a kind signals pattern = list_any (λ n. is_picked_by kind n pattern) (map (name_of a) signals)

-- the pattern picks an output or a register of the first netlist
abbrev pub HasPicked : Circuit → (pattern : PairName) → Type 0
HasPicked a pattern = IsTrue (is_one_picked a Output a.outputs pattern) ⊎ IsTrue (is_one_picked a NextState (registers_of a) pattern)

-- one of the patterns picks no output and no register of the first netlist
abbrev pub HasUnknown : Circuit → PairFilter PairName → Type 0
HasUnknown a All = ⊥
HasUnknown a (Only patterns) = (p : PairName) × Contains patterns.items p × (HasPicked a p → ⊥)
HasUnknown a (InShare share) = ⊥

-- ---- shares

-- the two cones of a pair have this many gates together
pub record HasWeight (a b : Circuit) (s : Subject) (w : ℕ) : Type 0 where
  pub first_gates : ℕ
  pub second_gates : ℕ
  pub first : HasGates a s.first first_gates
  pub second : HasGates b s.second second_gates
  pub sum : w ≡ first_gates + second_gates

-- the pair at place i comes before that at place j: it has more gates, or as many and comes first in the order of the
-- report
abbrev pub ComesBefore : (weights : List ℕ) → (i j : ℕ) → Type 0
ComesBefore weights i j = (slice_index weights j < slice_index weights i) ⊎ ((slice_index weights i ≡ slice_index weights j) × (i < j))

-- Pairs are given to n shares in serpentine order, 1, 2 .. n, n .. 2, 1, 1, 2 .., so that the shares get about equally
-- many gates. This is the share of the pair at a position, counted from 0.
abbrev pub serpentine_share : (n position : ℕ) → ℕ
serpentine_share n position = if position / n % 2 == 0 then suc (position % n) else n - position % n

-- The share of each of these pairs, among n shares. The pairs are taken by falling number of gates.
pub record AreShares (a b : Circuit) (pairs : List Subject) (n : ℕ) (shares : List ℕ) : Type 0 where
  pub weights : List ℕ
  pub weighed : AllZip (HasWeight a b) pairs weights
  pub order : List ℕ
  pub places : IsPermutation (numbers_below (length weights)) order
  pub falls : (t u : ℕ) → t < u → u < length order → ComesBefore weights (slice_index order t) (slice_index order u)
  pub each : length shares ≡ length weights
  pub share : (t : ℕ) → t < length order → slice_index shares (slice_index order t) ≡ serpentine_share n t

-- ---- what is picked

-- One of the patterns picks the signal, taken as a pair of this kind.
abbrev pub is_one_of : Circuit → (patterns : List PairName) → PairKind → ℕ → Bool
is_one_of a patterns kind s = is_picked patterns kind (name_of a s)

-- One of the patterns picks the pair.
abbrev pub is_pair_of : Circuit → (patterns : List PairName) → Subject → Bool
is_pair_of a patterns s = is_one_of a patterns s.role s.named

-- The verdict is that of an output or register without a partner, and one of the patterns picks it.
abbrev pub is_unmatched_of : (patterns : List PairName) → Verdict → Bool
is_unmatched_of patterns (Equal role name size) = false
is_unmatched_of patterns (Differs role name at first second extras) = false
is_unmatched_of patterns (Unmatched side role name) = is_picked patterns role name
is_unmatched_of patterns (Undecided role name) = false

-- the pairs whose share is k
abbrev pub of_share : ℕ → List (Subject × ℕ) → List Subject
of_share k with_shares = map (λ s. s.0) (filter (λ s. s.1 == k) with_shares)

-- These pairs are picked, in their order, and these lines of outputs and registers without a partner. By patterns, each
-- of which picks something of the first netlist, only lines of that netlist are picked. By shares, the first share has
-- all of these lines.
pub data ArePicked (a b : Circuit) (p : NamingModel) : PairFilter PairName → List Subject → List Verdict → Type 0 where
  all : ArePicked a b p All (subjects a b p) (unmatched_verdicts a b p)
  named : {patterns : Vec PairName Global} → ((n : PairName) → Contains patterns.items n → HasPicked a n) →
      ArePicked a b p (Only patterns) (filter (is_pair_of a patterns.items) (subjects a b p))
      (filter (is_unmatched_of patterns.items) (unmatched_of_side First a p.outputs.only_first p.registers.only_first))
  shared : {share : Share} {shares : List ℕ} → AreShares a b (subjects a b p) share.of shares →
      ArePicked a b p (InShare share) (of_share share.number (zip (subjects a b p) shares))
      (if share.number == 1 then unmatched_verdicts a b p else [])
