-- The pairs that are picked are some of all pairs.
use Rattle.std.proofs.Common.{ℕ, Bool, true, false, List, [], ◌∷◌, map, All}
use Rattle.std.specs.Prelude.{◌==◌, cond, filter, zip}
use Rattle.std.proofs.lemmas.List.Elements.{All-cons, All-filter, All-head, All-nil, All-tail}
use Rattle.net_bench.specs.Circuit.{Circuit}
use Rattle.net_order.specs.Order.{NamingModel}
use Rattle.report_text.specs.declared.cause.PairName.{PairName}
use Rattle.report_text.specs.declared.outcome.PairKind.TheVariants.{Output}
use Rattle.report_text.specs.declared.verdict.Verdict.{Verdict}
use Rattle.report_text.specs.declared.pair_filter.PairFilter.{PairFilter}
use Rattle.compare_built.specs.declared.subject.Subject.{Subject}
use Rattle.compare_built.specs.PairSelection.{ArePicked, is_pair_of, of_share}
use Rattle.compare_built.specs.PairSelection.ArePicked.{all, named, shared}
use Rattle.compare_built.specs.Report.{subjects}

-- a pattern for a place that a list does not have
abbrev pub no_pattern : PairName
no_pattern = record { role = Output; name = [] }

pair_inside : (P : Subject → Type 0) (k : ℕ) (ss : List Subject) (shares : List ℕ) → All P ss → All P (of_share k (zip ss shares))
pair_inside P k [] shares h = h
pair_inside P k (s ∷ ss) [] h = All-nil P
pair_inside P k (s ∷ ss) (n ∷ shares) h = by (pair_inside P k ss shares (All-tail P s ss h)) (n == k)
  where
    by : All P (of_share k (zip ss shares)) → (b : Bool) →
        All P (map (λ (x : Subject × ℕ). x.0) (cond b ((s, n) ∷ filter (λ (x : Subject × ℕ). x.1 == k) (zip ss shares)) (filter (λ (x : Subject × ℕ). x.1 == k) (zip ss shares))))
    by rest true = All-cons P s (of_share k (zip ss shares)) (All-head P s ss h) rest
    by rest false = rest

-- what holds of all pairs holds of those that are picked
pub picked_inside : (P : Subject → Type 0) (a b : Circuit) (p : NamingModel) {picked : PairFilter PairName} {pairs : List Subject} {unmatched_lines : List Verdict} →
    ArePicked a b p picked pairs unmatched_lines → All P (subjects a b p) → All P pairs
picked_inside P a b p all h = h
picked_inside P a b p (named {patterns = patterns} of) h = All-filter (is_pair_of a patterns.items) P (subjects a b p) h
picked_inside P a b p (shared {share = share} {shares = shares} of) h = pair_inside P share.number (subjects a b p) shares h
