-- What judging pairs by their cones means: the cones of a pair, its verdict, a round within one budget, and all rounds.
use Rattle.std.specs.Prelude.{◌≡◌, ◌⊎◌, ◌<◌, ℕ, false, List, [], ◌∷◌, map, length, slice_index_or, Option, Some, None, Result, Ok, Err}
use Rattle.std.specs.Prelude.{Bool, true, ⊤, IfSome, IsSomeAnd, IsTrue, option_map}
use Rattle.std.specs.List.{AllZip}
use Rattle.std.specs.declared.alloc.Global.{Global}
use Rattle.std.specs.declared.vec.Vec.{Vec}
use Rattle.expand_work.specs.Bounds.{WaveBound}
use Rattle.net_bench.specs.Circuit.{Circuit, circuit}
use Rattle.net_cone.specs.declared.cone.Cone.{Cone}
use Rattle.net_cone.specs.Cones.{AreNames, gate_signals}
use Rattle.net_names.specs.declared.order.Match.TheVariants.{Name}
use Rattle.net_names.specs.declared.order.Order.{Order}
use Rattle.net_names.specs.declared.order.Order.TheVariants.{Declared}
use Rattle.net_order.specs.Order.{NamingModel, condition, name_of}
use Rattle.net_patterns.specs.declared.counterexample.ShownPattern.{ShownPattern}
use Rattle.report_text.specs.declared.verdict.Verdict.{Verdict}
use Rattle.report_text.specs.declared.verdict.Verdict.TheVariants.{Equal, Undecided}
use Rattle.report_text.specs.Lines.{Found}
use Rattle.cone_check.specs.declared.pair_cones.Cones.{Cones}
use Rattle.cone_check.specs.declared.pair_cones.ConeContext.{ConeContext}
use Rattle.compare_built.specs.declared.fault.CheckFault.{CheckFault}
use Rattle.compare_built.specs.declared.fault.CheckFault.TheVariants.{Only}
use Rattle.net_order.specs.declared.netlist_role.NetlistRole.{NetlistRole}
use Rattle.net_order.specs.declared.netlist_role.NetlistRole.TheVariants.{First, Second, Given}
use Rattle.compare_built.specs.declared.settings.Settings.{Settings}
use Rattle.compare_built.specs.declared.subject.Subject.{Subject}
use Rattle.compare_built.specs.declared.task.Task.{Task}
use Rattle.compare_built.specs.Details.{details_in, unsized}
use Rattle.compare_built.specs.Check.{IsComparisonFault}
use Rattle.compare_built.specs.Comparing.{IsInside}
use Rattle.compare_built.specs.declared.strategy.AttemptOrder.{AttemptOrder}
use Rattle.compare_built.specs.Attempts.{cone_order}
use Rattle.compare_built.specs.Limits.{FitsWithin}
use Rattle.compare_built.specs.Cones.{AreCones, AreNamed, AreConeVerdicts, FitByCones, IsConditionCone, IsUndecided, IsUndecidedWithin, IsConeVerdict, cone_limit}
use Rattle.compare_built.specs.Facts.{IsEqualInside, IsShownVerdict, IsUnshown}
use Rattle.compare_built.specs.PairSelection.{ArePicked}
use Rattle.compare_built.specs.Report.{AreVerdicts}
use Rattle.compare_built.specs.Scatter.{IsOfNet, widened_verdict}
use Rattle.order_search.specs.Trials.{EndsAtOnce, IsGivenUpFor, IsNamingIn, IsPairedBy, IsPairingIn}

-- ---- names

-- the levels of a netlist's variables in a naming, by signal
abbrev pub levels_in : NetlistRole → NamingModel → List ℕ
levels_in First p = p.first
levels_in Second p = p.second
levels_in Given p = p.given

-- the texts of names
abbrev pub texts : List (Vec ℕ Global) → List (List ℕ)
texts names = map (λ (v : Vec ℕ Global). v.items) names

-- ---- cones

-- the circuit of a cone, if there is one
abbrev pub circuit_in : Option Cone → Option Circuit
circuit_in None = None
circuit_in (Some cone) = Some (circuit cone.net)

-- the order of cones that is tried before those of the candidates, if the settings give one
abbrev pub order_in : {H : Type 0} → ConeContext H → Option Order
order_in context = cone_order context.task.now.settings.now.order

-- The context has the naming of the netlists in declared order, the names that it gives to their variables, which are
-- distinct in each netlist, the signals of their gates, the condition's cone, and the order that the settings give to
-- cones.
pub record IsConeContext {H : Type 0} (context : ConeContext H) : Type 0 where
  pub naming : IsNamingIn context.task.now Declared context.naming.now
  pub first : AreNamed (circuit context.task.now.first.now) context.naming.now.first context.naming.now (texts context.first.now)
  pub first_apart : AreNames context.task.now.first.now (texts context.first.now)
  pub second : AreNamed (circuit context.task.now.second.now) context.naming.now.second context.naming.now (texts context.second.now)
  pub second_apart : AreNames context.task.now.second.now (texts context.second.now)
  pub first_gates : context.first_gates.now ≡ gate_signals context.task.now.first.now
  pub second_gates : context.second_gates.now ≡ gate_signals context.task.now.second.now
  pub conditional : IsConditionCone (condition context.task.now.given) context.naming.now (circuit_in context.given.now)
  pub conditional_net : IfSome (condition context.task.now.given) IsOfNet
  pub ordered : context.order.now ≡ order_in context

-- the signals of a pair are signals of the netlists
abbrev pub IsInContext : {H : Type 0} → ConeContext H → Subject → Type 0
IsInContext context s = IsInside (circuit context.task.now.first.now) (circuit context.task.now.second.now) s

-- the cones of a pair, and of the condition
abbrev pub AreConesOf : {H : Type 0} → ConeContext H → Subject → Cones → Type 0
AreConesOf context s cones = AreCones (circuit context.task.now.first.now) (circuit context.task.now.second.now)
    (condition context.task.now.given) context.naming.now s
    (circuit cones.first.net) (circuit cones.second.net) (circuit_in context.given.now)

-- The cones of a pair are compared by name and without sizes, and the kind of their assignments is that of the whole
-- comparison.
pub record IsPairSettings {H : Type 0} (context : ConeContext H) (settings : Settings) : Type 0 where
  pub by_name : settings.matching ≡ Name
  pub no_sizes : settings.sizes ≡ false
  pub assignment : settings.assignment ≡ context.task.now.settings.now.assignment

-- this is the pairing of a task in the order that is listed for cones; there is none if no order is listed
abbrev pub IsPairedInListed : {H : Type 0} → Task H → (order : Option Order) → NamingModel → Type 0
IsPairedInListed task None q = ⊥
IsPairedInListed task (Some order) q = IsPairingIn task order q

-- In the order of some attempt, or in the one that is listed, the cones need no more nodes than the budget has.
pub record AreConesWithin {H : Type 0} (task : Task H) (order : Option Order) (budget : ℕ) : Type 0 where
  pub pairing : NamingModel
  pub paired : ((t : AttemptOrder) × IsPairedBy task t pairing) ⊎ IsPairedInListed task order pairing
  pub fit : FitsWithin budget (circuit task.first.now) (circuit task.second.now) (condition task.given) pairing

-- if an order is listed for cones, the attempt in it within the budget was given up
abbrev pub IsListedLeft : {H : Type 0} → Task H → (order : Option Order) → (budget : ℕ) → (bound : WaveBound) → Type 0
IsListedLeft task None budget bound = ⊤
IsListedLeft task (Some order) budget bound = (q : NamingModel) × IsPairingIn task order q × IsGivenUpFor task budget bound q

-- the task of comparing a pair's cones
pub record IsConeTask {H : Type 0} (context : ConeContext H) (cones : Cones) (task : Task H) : Type 0 where
  pub first : task.first.now ≡ cones.first.net
  pub second : task.second.now ≡ cones.second.net
  pub given : condition task.given ≡ circuit_in context.given.now
  pub settings : IsPairSettings context task.settings.now

-- ---- the verdict of a pair's cones

-- the findings of a comparison of the cones have one verdict, since each cone has one output
abbrev pub HasOneVerdict : {H : Type 0} → Task H → NamingModel → Type 0
HasOneVerdict task q = (found : Found) →
    AreVerdicts (details_in task.settings.now) (circuit task.first.now) (circuit task.second.now) (condition task.given) q found → length found.verdicts ≡ 1

-- this is the only verdict of a comparison of the cones, over the variables of their pairing
abbrev pub IsOnlyVerdict : {H : Type 0} → Task H → NamingModel → Verdict → Type 0
IsOnlyVerdict task q v = AreVerdicts (details_in task.settings.now) (circuit task.first.now) (circuit task.second.now) (condition task.given) q
    (record { variables = q.names; verdicts = v ∷ [] })

-- ---- verdicts

-- the cones of the pair need at most so many nodes
abbrev pub FitIn : {H : Type 0} → ConeContext H → (budget : ℕ) → Subject → Type 0
FitIn context budget s = FitByCones (order_in context) budget (circuit context.task.now.first.now) (circuit context.task.now.second.now)
    (condition context.task.now.given) context.naming.now s

-- this is the verdict of the pair, which is decided at once or within so many nodes
abbrev pub IsDecidedIn : {H : Type 0} → ConeContext H → (budget : ℕ) → Subject → Verdict → Type 0
IsDecidedIn context budget s v = IsConeVerdict (unsized context.task.now.settings.now.assignment) context.task.now.settings.now.difference
    (FitIn context budget) (λ t. ⊥) (λ t. ⊥)
    (circuit context.task.now.first.now) (circuit context.task.now.second.now) (condition context.task.now.given) context.naming.now s v

-- the pair is left undecided by attempts within so many nodes
abbrev pub IsUndecidedIn : {H : Type 0} → ConeContext H → (budget : ℕ) → (bound : WaveBound) → Subject → Type 0
IsUndecidedIn context budget bound s = IsUndecidedWithin (order_in context) budget bound
    (circuit context.task.now.first.now) (circuit context.task.now.second.now)
    (condition context.task.now.given) context.naming.now s

-- the pair has this verdict, or it is left if it has none
abbrev pub IsKnown : (reported : Subject → Verdict → Type 0) (left : Subject → Type 0) → Subject → Option Verdict → Type 0
IsKnown reported left s None = left s
IsKnown reported left s (Some v) = reported s v

-- the verdict over all variables is made from that over the variables at these levels, if there is one
abbrev pub IsWidened : {H : Type 0} → ConeContext H → Subject → (places : List ℕ) → (found reported : Option Verdict) → Type 0
IsWidened context s places found reported =
    reported ≡ option_map (widened_verdict s.role (name_of (circuit context.task.now.first.now) s.named)
    (length context.naming.now.names) places) found

-- the result for a pair of attempts within so many nodes: a verdict, or none if it is left
abbrev pub IsJudgedIn : {H : Type 0} → ConeContext H → (budget : ℕ) → (bound : WaveBound) → Subject → Option Verdict → Type 0
IsJudgedIn context budget bound s o = IsKnown (IsDecidedIn context budget) (IsUndecidedIn context budget bound) s o

-- a fault that ends the judging of pairs: memory was refused, to a wave or elsewhere
abbrev pub EndsPairs : CheckFault → Type 0
EndsPairs fault = IsComparisonFault fault × EndsAtOnce fault

-- ---- rounds

-- the result of a pair's job in a round
abbrev pub IsJobResult : {H : Type 0} → ConeContext H → (budget : ℕ) → (bound : WaveBound) → Subject → Result (Option Verdict) CheckFault → Type 0
IsJobResult context budget bound s (Ok o) = IsJudgedIn context budget bound s o
IsJobResult context budget bound s (Err fault) = EndsPairs fault

-- after a round a pair has its verdict from before, and if it had none, what the attempts resulted in
abbrev pub IsPlaceOfRound : {H : Type 0} → ConeContext H → (budget : ℕ) → (bound : WaveBound) → Subject → (known new : Option Verdict) → Type 0
IsPlaceOfRound context budget bound s (Some v) new = new ≡ Some v
IsPlaceOfRound context budget bound s None new = IsJudgedIn context budget bound s new

-- Verdicts before and after a round, place by place.
pub record IsRoundOf {H : Type 0} (context : ConeContext H) (budget : ℕ) (bound : WaveBound) (subjects : List Subject)
    (known new : List (Option Verdict)) : Type 0 where
  pub each : length new ≡ length known
  pub places : (i : ℕ) (s : Subject) → i < length subjects →
      IsPlaceOfRound context budget bound (slice_index_or subjects i s) (slice_index_or known i None) (slice_index_or new i None)

-- ---- verdicts that are known without an attempt

-- the flag is true only of a pair that is equal inside
abbrev pub IsEqualIf : Circuit → Circuit → NamingModel → Subject → (equal : Bool) → Type 0
IsEqualIf a b p s equal = IsTrue equal → IsEqualInside a b p s

-- Equal for a pair that is equal inside, and otherwise the verdict from before
abbrev pub or_equal : Circuit → Subject → (equal : Bool) → Option Verdict → Option Verdict
or_equal a s true known = Some (Equal s.role (name_of a s.named) None)
or_equal a s false known = known

-- the verdict from before, and if there was none, a difference that the pattern shows, if there is a pattern
abbrev pub IsShownElse : Circuit → Circuit → Option Circuit → NamingModel → Subject → (shown : Option ShownPattern) → (known new : Option Verdict) → Type 0
IsShownElse a b given p s shown (Some v) new = new ≡ Some v
IsShownElse a b given p s None None new = new ≡ None
IsShownElse a b given p s (Some pattern) None new = IsSomeAnd new (IsShownVerdict a b given p s)

-- the verdicts that are known before an attempt is made
abbrev pub AreKnownAtOnce : {H : Type 0} → ConeContext H → List Subject → List (Option Verdict) → Type 0
AreKnownAtOnce context subjects known =
    AllZip (IsKnown (IsDecidedIn context (cone_limit context.task.now.settings.now.limit)) (λ s. ⊤)) subjects known

-- ---- all pairs

-- a pair that no budget up to the limit of cones decides
abbrev pub StaysUndecided : {H : Type 0} → ConeContext H → (bound : WaveBound) → Subject → Type 0
StaysUndecided context bound s =
    IsUndecided (order_in context) context.task.now.settings.now.limit bound
    (circuit context.task.now.first.now) (circuit context.task.now.second.now)
    (condition context.task.now.given) context.naming.now s

-- the verdicts of pairs after all rounds: a pair without a verdict is one that they leave undecided
abbrev pub AreAllJudged : {H : Type 0} → ConeContext H → (bound : WaveBound) → List Subject → List (Option Verdict) → Type 0
AreAllJudged context bound subjects known =
    AllZip (IsKnown (IsDecidedIn context (cone_limit context.task.now.settings.now.limit)) (StaysUndecided context bound)) subjects known

-- no pattern shows that a pair differs
abbrev pub IsUnshownIn : {H : Type 0} → ConeContext H → Subject → Type 0
IsUnshownIn context s =
    IsUnshown (circuit context.task.now.first.now) (circuit context.task.now.second.now) (condition context.task.now.given) context.naming.now s

-- the verdict of a pair over the variables of a naming
abbrev pub IsPairVerdict : {H : Type 0} → Task H → (bound : WaveBound) → NamingModel → Subject → Verdict → Type 0
IsPairVerdict task bound p s v = IsConeVerdict (unsized task.settings.now.assignment) task.settings.now.difference
    (FitByCones (cone_order task.settings.now.order) (cone_limit task.settings.now.limit) (circuit task.first.now) (circuit task.second.now)
    (condition task.given) p)
    (IsUndecided (cone_order task.settings.now.order) task.settings.now.limit bound (circuit task.first.now) (circuit task.second.now)
    (condition task.given) p)
    (IsUnshown (circuit task.first.now) (circuit task.second.now) (condition task.given) p)
    (circuit task.first.now) (circuit task.second.now) (condition task.given) p s v

-- the verdict that is reported of a pair
abbrev pub IsFinalVerdict : {H : Type 0} → ConeContext H → (bound : WaveBound) → Subject → Verdict → Type 0
IsFinalVerdict context bound s v = IsPairVerdict context.task.now bound context.naming.now s v

-- the verdict of a pair, which is Undecided if none is known
abbrev pub or_undecided : Circuit → Subject → Option Verdict → Verdict
or_undecided a s None = Undecided s.role (name_of a s.named)
or_undecided a s (Some v) = v

-- the verdicts of all pairs
abbrev pub all_or_undecided : Circuit → List Subject → List (Option Verdict) → List Verdict
all_or_undecided a [] known = []
all_or_undecided a (s ∷ ss) [] = []
all_or_undecided a (s ∷ ss) (o ∷ known) = or_undecided a s o ∷ all_or_undecided a ss known

-- What the comparison of a task by cones finds, over the variables of its naming.
pub record IsFoundByCones {H : Type 0} (task : Task H) (bound : WaveBound) (p : NamingModel) (found : Found) : Type 0 where
  pub pairs : List Subject
  pub unmatched_lines : List Verdict
  pub picked : ArePicked (circuit task.first.now) (circuit task.second.now) p task.settings.now.picked pairs unmatched_lines
  pub verdicts : AreConeVerdicts (unsized task.settings.now.assignment) task.settings.now.difference
      (FitByCones (cone_order task.settings.now.order) (cone_limit task.settings.now.limit) (circuit task.first.now) (circuit task.second.now)
      (condition task.given) p)
      (IsUndecided (cone_order task.settings.now.order) task.settings.now.limit bound (circuit task.first.now) (circuit task.second.now)
      (condition task.given) p)
      (IsUnshown (circuit task.first.now) (circuit task.second.now) (condition task.given) p)
      (circuit task.first.now) (circuit task.second.now) (condition task.given) p pairs unmatched_lines found

-- a fault of a comparison that may judge pairs by their cones: a name of the filter is unknown, or one of the faults
-- that end a search at once
abbrev pub EndsAuto : CheckFault → Type 0
EndsAuto fault = (fault ≡ Only) ⊎ EndsAtOnce fault
