-- Statements about the netlists of a task, with its condition if there is one, and about a pairing of them.
use Rattle.std.specs.Prelude.{ℕ, Bool, List}
use Rattle.dd_store.specs.Nodes.{Nodes}
use Rattle.net_bench.specs.Circuit.{circuit}
use Rattle.net_order.specs.Order.{NamingModel, condition}
use Rattle.gate_plan.specs.Building.{IsPaired}
use Rattle.report_text.specs.declared.verdict.Verdict.{Verdict}
use Rattle.compare_built.specs.declared.compared_pairs.ComparedPairs.{ComparedPairs}
use Rattle.compare_built.specs.declared.task.Task.{Task}
use Rattle.compare_built.specs.declared.verdict_order.Details.{Details}
use Rattle.compare_built.specs.Arrangement.{ArePairings}
use Rattle.compare_built.specs.Comparing.{AreCompared}
use Rattle.compare_built.specs.Limits.{Exceeds, FitsWithin}
use Rattle.compare_built.specs.Report.{AreVerdicts}
use Rattle.compare_built.specs.Widths.{IsTooWide}

-- this is a pairing of the netlists, in some order
abbrev pub IsPairingOf : {H : Type 0} → Task H → NamingModel → Type 0
IsPairingOf task p = IsPaired (circuit task.first.now) (circuit task.second.now) (condition task.given) p

-- these are two pairings of the netlists, which are matched as the settings say
abbrev pub ArePairingsOf : {H : Type 0} → Task H → (q p : NamingModel) → Type 0
ArePairingsOf task q p = ArePairings task.settings.now.matching (circuit task.first.now) (circuit task.second.now) (condition task.given) q p

-- these are all pairs of the netlists and their references in the store, which denote their functions as they are reported
abbrev pub AreComparedIn : (reported : (List Bool → Bool) → List Bool → Bool) → {H : Type 0} → Task H → NamingModel → Nodes → ComparedPairs → Type 0
AreComparedIn reported task p S shown = AreCompared reported (circuit task.first.now) (circuit task.second.now) (condition task.given) p S
    shown.subjects.items shown.references.items

-- these are the verdicts of the netlists, over the variables of the pairing
abbrev pub AreVerdictsOf : {H : Type 0} → Task H → Details → NamingModel → List Verdict → Type 0
AreVerdictsOf task asked p verdicts = AreVerdicts asked (circuit task.first.now) (circuit task.second.now) (condition task.given) p
    (record { variables = p.names; verdicts = verdicts })

-- the nodes that are needed in the order of the pairing are within the limit
abbrev pub IsEnough : {H : Type 0} → Task H → (limit : ℕ) → NamingModel → Type 0
IsEnough task limit p = FitsWithin limit (circuit task.first.now) (circuit task.second.now) (condition task.given) p

-- more nodes than the limit are needed in the order of the pairing
abbrev pub NeedsMore : {H : Type 0} → Task H → (limit : ℕ) → NamingModel → Type 0
NeedsMore task limit p = Exceeds limit (circuit task.first.now) (circuit task.second.now) (condition task.given) p

-- one wave of a comparison in the order of the pairing reaches more than n requests
abbrev pub HasWaveBeyond : {H : Type 0} → Task H → (n : ℕ) → NamingModel → Type 0
HasWaveBeyond task n p = IsTooWide n (circuit task.first.now) (circuit task.second.now) (condition task.given) p
