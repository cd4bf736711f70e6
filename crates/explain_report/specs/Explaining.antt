-- What comes after a report: an explanation of each pair that is asked for.
use Rattle.std.specs.Prelude.{◌≡◌, ◌⊎◌, ℕ, Bool, true, false, ◌&&◌, List, [], ◌∷◌, ◌++◌, map, find, Option, Some, None, Contains, IsTrue}
use Rattle.std.specs.Prelude.{bytes_eq, codes, ⊤}
use Rattle.net_bench.specs.Circuit.{Circuit, IsNet, Net, circuit}
use Rattle.net_explain.specs.Explaining.{ExplanationModel, IsExplanation}
use Rattle.net_explain.specs.Text.{explanation_text}
use Rattle.net_names.specs.declared.order.Match.{Match}
use Rattle.net_names.specs.declared.order.Order.{Order}
use Rattle.net_names.specs.declared.order.Order.TheVariants as orders
use Rattle.net_order.specs.Order.{NamingModel, name_of, registers_of}
use Rattle.report_text.specs.declared.cause.PairName.{PairName}
use Rattle.report_text.specs.declared.outcome.PairKind.{PairKind}
use Rattle.report_text.specs.declared.outcome.PairKind.TheVariants.{Output, NextState}
use Rattle.report_text.specs.declared.verdict.Verdict.{Verdict}
use Rattle.report_text.specs.declared.verdict.Verdict.TheVariants.{Equal, Differs, Unmatched, Undecided}
use Rattle.compare_built.specs.Findings.{VerdictsModel}
use Rattle.report_text.specs.Lines.{Found, subject_text}
use Rattle.compare_built.specs.declared.strategy.Attempt.{Attempt}
use Rattle.compare_built.specs.declared.strategy.Strategy.{Strategy}
use Rattle.compare_built.specs.declared.strategy.Strategy.TheVariants.{One, Computed, Best, Auto, Cones, ConesByList, Merge}
use Rattle.compare_built.specs.declared.strategy.AttemptOrder.TheVariants as tried_orders
use Rattle.compare_built.specs.declared.fault.CheckFault.{CheckFault}
use Rattle.compare_built.specs.declared.fault.CheckFault.TheVariants.{First, Second, Given, GivenOutputs, Explain, Order as OrderRefused, Only, Wave}
use Rattle.compare_built.specs.declared.fault.CheckFault.TheVariants.{GivenUp, Write, OutOfMemory}
use Rattle.compare_built.specs.declared.settings.Settings.{Settings}
use Rattle.compare_built.specs.declared.subject.Subject.{Subject}
use Rattle.compare_built.specs.declared.task.Task.{Task}
use Rattle.compare_built.specs.Attempts.{IsAllowed}
use Rattle.compare_built.specs.Candidates.{IsOrderOf}
use Rattle.compare_built.specs.Check.{AreGiven, Gives, HaveNaming, IsCheckFault}
use Rattle.compare_built.specs.Devices.{DeviceTexts}
use Rattle.compare_built.specs.PairSelection.{is_among}
use Rattle.compare_built.specs.Report.{subjects}
use Rattle.net_order.specs.Order.{condition}
use Rattle.order_search.specs.Tasks.{OfTask}
use Rattle.order_search.specs.Trials.{IsNamingIn}

-- ---- what is asked for

-- the two roles are the same
abbrev pub is_same_role : PairKind → PairKind → Bool
is_same_role Output Output = true
is_same_role Output NextState = false
is_same_role NextState Output = false
is_same_role NextState NextState = true

-- this role and this name are those that are asked for
abbrev pub is_target : PairName → PairKind → List ℕ → Bool
is_target t role name = is_same_role t.role role && bytes_eq t.name name

-- the signals of a netlist that have this role
abbrev pub signals_of : Circuit → PairKind → List ℕ
signals_of a Output = a.outputs
signals_of a NextState = registers_of a

-- the netlist has this output, or this register
abbrev pub IsTargetIn : Circuit → PairName → Type 0
IsTargetIn a t = IsTrue (is_among (map (name_of a) (signals_of a t.role)) t.name)

-- the netlist has each of these
abbrev pub AreTargetsIn : Circuit → List PairName → Type 0
AreTargetsIn a targets = (t : PairName) → Contains targets t → IsTargetIn a t

-- the task's first netlist has each output and each register that is to be explained
abbrev pub HasTargets : {H : Type 0} → Task H → Type 0
HasTargets task = AreTargetsIn (circuit task.first.now) task.settings.now.explain.items

-- one of these is no output and no register of the netlist
abbrev pub HasUnknownTarget : Circuit → List PairName → Type 0
HasUnknownTarget a targets = (t : PairName) × Contains targets t × (IsTargetIn a t → ⊥)

-- ---- an explanation

-- the line for a pair that has no assignment at which it could be explained
abbrev pub status_text : PairName → List ℕ → List ℕ
status_text t said = codes "EXPLAIN " ++ (subject_text t.role t.name ++ (codes ": " ++ (said ++ 10 ∷ [])))

-- the pair is the one that is asked for
abbrev pub is_subject_of : Circuit → PairName → Subject → Bool
is_subject_of a t s = is_target t s.role (name_of a s.named)

-- the verdict is about the pair that is asked for
abbrev pub is_verdict_on : PairName → Verdict → Bool
is_verdict_on t (Equal role name size) = is_target t role name
is_verdict_on t (Differs role name at first second extras) = is_target t role name
is_verdict_on t (Unmatched side role name) = is_target t role name
is_verdict_on t (Undecided role name) = is_target t role name

-- The text explains a pair with this verdict: if it differs, by its inner signals at the assignment of the verdict.
abbrev pub ExplainsVerdict : Net → Net → NamingModel → PairName → Subject → Verdict → List ℕ → Type 0
ExplainsVerdict a b p t s (Equal role name size) text = text ≡ status_text t (codes "equal")
ExplainsVerdict a b p t s (Differs role name at first second extras) text =
    (e : ExplanationModel) × IsExplanation a b p (s.first, s.second) at e × (text ≡ explanation_text (subject_text t.role t.name) a.names e)
ExplainsVerdict a b p t s (Unmatched side role name) text = text ≡ status_text t (codes "no partner")
ExplainsVerdict a b p t s (Undecided role name) text = text ≡ status_text t (codes "undecided")

-- the same for a pair with its verdict; it has none if it was not among the compared ones
abbrev pub ExplainsPair : Net → Net → NamingModel → PairName → Subject → Option Verdict → List ℕ → Type 0
ExplainsPair a b p t s None text = text ≡ status_text t (codes "not compared")
ExplainsPair a b p t s (Some v) text = ExplainsVerdict a b p t s v text

-- the same for what is asked for, which may be in no pair
abbrev pub ExplainsTarget : Net → Net → NamingModel → PairName → Option Subject → Option Verdict → List ℕ → Type 0
ExplainsTarget a b p t None v text = text ≡ status_text t (codes "no partner")
ExplainsTarget a b p t (Some s) v text = ExplainsPair a b p t s v text

-- the text is the explanation of what is asked for, by the pair and the verdict of its name
abbrev pub IsExplained : Net → Net → NamingModel → List Verdict → PairName → List ℕ → Type 0
IsExplained a b p verdicts t text = ExplainsTarget a b p t (find (is_subject_of (circuit a) t) (subjects (circuit a) (circuit b) p))
    (find (is_verdict_on t) verdicts) text

-- the bytes are the explanations of all that is asked for, one after the other
abbrev pub AreExplained : Net → Net → NamingModel → List Verdict → List PairName → List ℕ → Type 0
AreExplained a b p verdicts [] bytes = bytes ≡ []
AreExplained a b p verdicts (t ∷ ts) bytes = (one rest : List ℕ) × IsExplained a b p verdicts t one × AreExplained a b p verdicts ts rest
    × (bytes ≡ one ++ rest)

-- ---- after a report

-- the order that the variables of two netlists have in a report
abbrev pub IsReportedOrder : Strategy → Option Attempt → Match → Circuit → Circuit → Option Circuit → Order → Type 0
IsReportedOrder (One o) tried how a b c order = order ≡ o
IsReportedOrder (Computed k) tried how a b c order = IsOrderOf how a b c (tried_orders.Computed k) order
IsReportedOrder Best (Some t) how a b c order = IsOrderOf how a b c t.order order
IsReportedOrder Best None how a b c order = order ≡ orders.Declared
IsReportedOrder Auto tried how a b c order = order ≡ orders.Declared
IsReportedOrder Cones tried how a b c order = order ≡ orders.Declared
IsReportedOrder Merge tried how a b c order = order ≡ orders.Declared
IsReportedOrder (ConesByList names) tried how a b c order = order ≡ orders.Declared

-- the devices gave these netlists, and this is their naming in the order that the variables have in the report of this attempt
abbrev pub HaveReportedNaming : DeviceTexts → Settings → Option Attempt → Circuit → Circuit → Option Circuit → NamingModel → Type 0
HaveReportedNaming input s tried a b c p =
    (order : Order) × IsReportedOrder s.order tried s.matching a b c order × HaveNaming input s.matching order a b c p

-- the naming of these verdicts is that of the task's netlists, in the order that the variables have in the report of this attempt
abbrev pub HaveReportNaming : {H : Type 0} → Task H → Option Attempt → VerdictsModel → Type 0
HaveReportNaming task tried v = (order : Order) × IsReportedOrder task.settings.now.order tried task.settings.now.matching
    (circuit task.first.now) (circuit task.second.now) (condition task.given) order × IsNamingIn task order v.naming

-- the same for the report of some attempt
abbrev pub HaveSomeReportNaming : {H : Type 0} → Task H → VerdictsModel → Type 0
HaveSomeReportNaming task v = (tried : Option Attempt) × HaveReportNaming task tried v

-- P is true for a task as `OfTask` says, and for each attempt whose report has the naming of these verdicts
abbrev pub OfReport : {H : Type 0} → Task H → VerdictsModel → (DeviceTexts → Settings → Option Attempt → Type 0) → Type 0
OfReport task v P = OfTask task (λ input s. (tried : Option Attempt) → HaveReportNaming task tried v → P input s tried)

-- The bytes explain what the settings ask for: the pairs of the netlists that the devices gave, at the assignments of the verdicts.
pub record HaveExplanations (input : DeviceTexts) (s : Settings) (tried : Option Attempt) (found : Found) (bytes : List ℕ) : Type 0 where
  pub a : Net
  pub b : Net
  pub c : Option Circuit
  pub p : NamingModel
  -- their ranks, which order inner signals, are those of their gates
  pub first_sound : IsNet a
  pub second_sound : IsNet b
  pub named : HaveReportedNaming input s tried (circuit a) (circuit b) c p
  -- the bits of an assignment are those of the variables of this naming
  pub variables : found.variables ≡ p.names
  pub known : AreTargetsIn (circuit a) s.explain.items
  pub explained : AreExplained a b p found.verdicts s.explain.items bytes

-- what comes after the report: nothing if nothing is asked for
abbrev pub IsAppended : List PairName → DeviceTexts → Settings → Option Attempt → Found → List ℕ → Type 0
IsAppended [] input s tried found bytes = bytes ≡ []
IsAppended (t ∷ ts) input s tried found bytes = HaveExplanations input s tried found bytes

-- ---- why there is no report

-- the first netlist that the devices gave has each output and each register that is to be explained
abbrev pub AreTargetsKnown : DeviceTexts → List PairName → Type 0
AreTargetsKnown input targets = (a : Circuit) × Gives input.first a × AreTargetsIn a targets

-- A fault that is sought after the names of what is to be explained: it is none of reading, and not that such a name is unknown.
abbrev pub IsAfterNames : CheckFault → Type 0
IsAfterNames (First fault) = ⊥
IsAfterNames (Second fault) = ⊥
IsAfterNames (Given fault) = ⊥
IsAfterNames GivenOutputs = ⊥
IsAfterNames Explain = ⊥
IsAfterNames (OrderRefused fault) = ⊤
IsAfterNames Only = ⊤
IsAfterNames (Wave fault) = ⊤
IsAfterNames GivenUp = ⊤
IsAfterNames Write = ⊤
IsAfterNames OutOfMemory = ⊤

-- what is asked for is refused, because one name is no output and no register of the first netlist that the devices gave
pub record IsUnexplained (input : DeviceTexts) (targets : List PairName) (fault : CheckFault) : Type 0 where
  pub is : fault ≡ Explain
  pub a : Circuit
  pub b : Circuit
  pub c : Option Circuit
  pub given : AreGiven input a b c
  pub unknown : HasUnknownTarget a targets

-- why there is no report: what is asked for is refused, or for another cause; the three types say that the devices have failed
abbrev pub IsReportFault : DeviceTexts → (first_failed second_failed given_failed : Type 0) → Settings → CheckFault → Type 0
IsReportFault input first_failed second_failed given_failed s fault =
    IsUnexplained input s.explain.items fault ⊎ ((order : Order) × IsAllowed s.order order
    × IsCheckFault input first_failed second_failed given_failed s.order s.matching order fault)
