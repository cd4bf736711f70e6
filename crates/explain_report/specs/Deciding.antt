-- How a comparison is decided: all pairs in one order, or each pair by its cones.
use Rattle.std.specs.Prelude.{◌≡◌, ◌⊎◌, ◌++◌, ℕ, Bool, true, false, not, List, Option, None, is_some, ⊤}
use Rattle.std.specs.List.{list_any}
use Rattle.expand_work.specs.Bounds.{MayStop, WaveBound}
use Rattle.net_bench.specs.Circuit.{Circuit}
use Rattle.net_names.specs.declared.order.Order.{Order}
use Rattle.net_names.specs.declared.order.Order.TheVariants as orders
use Rattle.net_order.specs.Order.{NamingModel}
use Rattle.report_text.specs.declared.outcome.Outcome.{Outcome}
use Rattle.report_text.specs.declared.verdict.Verdict.{Verdict}
use Rattle.report_text.specs.declared.verdict.Verdict.TheVariants.{Equal, Differs, Unmatched, Undecided}
use Rattle.report_text.specs.Causes.{Caused}
use Rattle.report_text.specs.Json.{form_text}
use Rattle.report_text.specs.Lines.{Found, counted}
use Rattle.compare_built.specs.declared.strategy.Attempt.{Attempt}
use Rattle.compare_built.specs.declared.strategy.AttemptOrder.{AttemptOrder}
use Rattle.compare_built.specs.declared.strategy.AttemptOrder.TheVariants as tried_orders
use Rattle.compare_built.specs.declared.strategy.Candidate.{Candidate}
use Rattle.compare_built.specs.declared.strategy.Strategy.{Strategy}
use Rattle.compare_built.specs.declared.strategy.Strategy.TheVariants.{One, Computed, Best, Auto, Cones, ConesByList, Merge}
use Rattle.report_text.specs.declared.pair_filter.PairFilter.{PairFilter}
use Rattle.report_text.specs.declared.cause.PairName.{PairName}
use Rattle.report_text.specs.declared.difference.Difference.{Difference}
use Rattle.report_text.specs.declared.difference.Difference.TheVariants.{Least, AnyOne}
use Rattle.compare_built.specs.declared.settings.Settings.{Settings}
use Rattle.compare_built.specs.declared.subject.Subject.{Subject}
use Rattle.compare_built.specs.Details.{details_in, unsized}
use Rattle.compare_built.specs.Attempts.{IsAttemptGivenUp, IsBudget, IsChosen, cone_order, first_whole_limit, reported_kind}
use Rattle.explain_report.specs.Causing.{AreCauses}
use Rattle.compare_built.specs.Check.{Gives, HaveTooManyVariables, HaveNaming, IsJudged}
use Rattle.compare_built.specs.Cones.{AreConeVerdicts, FitByCones, IsUndecided, cone_limit}
use Rattle.compare_built.specs.Devices.{DeviceTexts}
use Rattle.compare_built.specs.Facts.{IsUnshown}
use Rattle.explain_report.specs.Explaining.{IsAppended}
use Rattle.compare_built.specs.PairSelection.{ArePicked, HasUnknown}
use Rattle.report_text.specs.Picking.{share_of}

-- What a comparison by cones finds for what the devices gave, over the variables in declared order.
pub record IsJudgedByCones (input : DeviceTexts) (s : Settings) (bound : WaveBound) (found : Found) : Type 0 where
  pub a : Circuit
  pub b : Circuit
  pub c : Option Circuit
  pub p : NamingModel
  pub named : HaveNaming input s.matching orders.Declared a b c p
  pub pairs : List Subject
  pub unmatched_lines : List Verdict
  pub picked : ArePicked a b p s.picked pairs unmatched_lines
  pub verdicts : AreConeVerdicts (unsized s.assignment) s.difference (FitByCones (cone_order s.order) (cone_limit s.limit) a b c p)
      (IsUndecided (cone_order s.order) s.limit bound a b c p) (IsUnshown a b c p) a b c p pairs unmatched_lines found

-- Pairs may be judged one by one if this is asked for; by auto, if each attempt on the whole within the first limit was
-- given up, or the whole has more variables than a pairing can have, or any difference will do.
abbrev pub MayTakeCones : DeviceTexts → Settings → (bound : WaveBound) → Strategy → Type 0
MayTakeCones input s bound (One o) = ⊥
MayTakeCones input s bound (Computed c) = ⊥
MayTakeCones input s bound Best = ⊥
MayTakeCones input s bound Auto =
    ((budget : ℕ) → IsBudget (first_whole_limit s.limit) budget → (c : Candidate) → IsAttemptGivenUp input s.matching budget bound (tried_orders.Computed c))
    ⊎ HaveTooManyVariables input s.matching ⊎ (s.difference ≡ AnyOne)
MayTakeCones input s bound Cones = ⊤
MayTakeCones input s bound Merge = ⊤
MayTakeCones input s bound (ConesByList names) = ⊤

-- Another attempt could say more of a pair: it is undecided, or its difference may not be the least though the least is asked for.
abbrev pub is_open : Difference → Verdict → Bool
is_open difference (Undecided role name) = true
is_open difference (Equal role name size) = false
is_open difference (Unmatched side role name) = false
is_open Least (Differs role name at first second extras) = not extras.least
is_open AnyOne (Differs role name at first second extras) = false

-- an attempt at the whole within the whole limit was given up in the order of each candidate, and in declared order
abbrev pub AreLastGivenUp : DeviceTexts → Settings → (bound : WaveBound) → Type 0
AreLastGivenUp input s bound = (o : AttemptOrder) → IsAttemptGivenUp input s.matching s.limit bound o

-- By auto a pair is left open only if the last attempts at the whole were given up as well, or if the whole has more
-- variables than a pairing can have.
abbrev pub HasLastAttempt : DeviceTexts → Settings → (bound : WaveBound) → Strategy → Found → Type 0
HasLastAttempt input s bound (One o) found = ⊤
HasLastAttempt input s bound (Computed c) found = ⊤
HasLastAttempt input s bound Best found = ⊤
HasLastAttempt input s bound Auto found = list_any (is_open s.difference) found.verdicts ≡ true →
    AreLastGivenUp input s bound ⊎ HaveTooManyVariables input s.matching
HasLastAttempt input s bound Cones found = ⊤
HasLastAttempt input s bound Merge found = ⊤
HasLastAttempt input s bound (ConesByList names) found = ⊤

-- The findings of a comparison by its settings, and the attempt that is reported with them.
pub data IsFoundBy (input : DeviceTexts) (s : Settings) (bound : WaveBound) (found : Found) : Option Attempt → Type 0 where
  in_order : {tried : Option Attempt} (order : Order) → IsJudged input s.matching order (details_in s) found
      → IsChosen input s.matching s.order s.limit tried order → IsFoundBy input s bound found tried
  by_cones : MayTakeCones input s bound s.order → IsJudgedByCones input s bound found → HasLastAttempt input s bound s.order found → IsFoundBy input s bound found None

-- the bytes of a report in the form that the settings ask for, with these causes if there are any
abbrev pub report_bytes : Settings → (tried : Option Attempt) → (given stopped : Bool) → Option (List Caused) → Found → List ℕ
report_bytes s tried given stopped causes found =
    form_text s.json s.assignment s.matching (reported_kind s.order tried) given (share_of s.picked) stopped causes found

-- The bytes are the report of what the devices gave, by these settings, with these counts and the causes that are asked
-- for, and after it the explanations that are asked for; this attempt is reported with it. It says that the run was
-- stopped only if it may be.
pub record IsReportBy (input : DeviceTexts) (s : Settings) (bound : WaveBound) (tried : Option Attempt) (o : Outcome) (bytes : List ℕ) : Type 0 where
  pub found : Found
  pub by : IsFoundBy input s bound found tried
  pub counts : o ≡ counted found.verdicts
  pub causes : Option (List Caused)
  pub caused : AreCauses s.causes input s tried found causes
  pub stopped : Bool
  pub may_stop : stopped ≡ true → MayStop bound
  pub explanations : List ℕ
  pub explained : IsAppended s.explain.items input s tried found explanations
  pub text : bytes ≡ report_bytes s tried (is_some input.given) stopped causes found ++ explanations

-- One of the names that are picked is no output and no register of the first netlist that the devices gave.
abbrev pub IsUnknown : DeviceTexts → PairFilter PairName → Type 0
IsUnknown input picked = (a : Circuit) × Gives input.first a × HasUnknown a picked
