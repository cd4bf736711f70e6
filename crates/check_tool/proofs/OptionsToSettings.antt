-- What a fault or a report implies by the options of a run, from what it implies by the settings of its check.
use Rattle.std.proofs.Common.{◌≡◌, ◌∙◌, ap, refl, inl, inr, sym, subst, ℕ, Bool, true, false, List, Option, None}
use Rattle.std.specs.Prelude.{IfSome, IsSomeAnd}
use Rattle.expand_work.specs.Bounds.{MayStop, WaveBound}
use Rattle.compare_built.specs.Attempts.{AreGivenUp, InEachOrder, IsAllowed, IsSearchGivenUp, MayGoByCones as MayCheckByCones, NamesOrder as NamesCheckOrder, last_budget}
use Rattle.compare_built.specs.Check.{IsCheckFault}
use Rattle.compare_built.specs.Devices.{DeviceTexts}
use Rattle.explain_report.specs.Deciding.{IsUnknown}
use Rattle.explain_report.specs.Dumping.{IsReportWithVcd}
use Rattle.explain_report.specs.Explaining.{IsReportFault}
use Rattle.compare_built.specs.Limits.{AreBeyond}
use Rattle.compare_built.specs.Picking.{TakesPicks as MayPick}
use Rattle.compare_built.specs.declared.strategy.Attempt.{Attempt}
use Rattle.compare_built.specs.declared.strategy.Strategy.{Strategy}
use Rattle.compare_built.specs.declared.fault.CheckFault.{CheckFault}
use Rattle.report_text.specs.declared.pair_filter.PairFilter.{PairFilter}
use Rattle.report_text.specs.declared.cause.PairName.{PairName}
use Rattle.compare_built.specs.declared.settings.Settings.{Settings}
use Rattle.report_text.specs.declared.outcome.Outcome.{Outcome}
use Rattle.net_names.specs.declared.order.Match.{Match}
use Rattle.net_names.specs.declared.order.Order.{Order}
use Rattle.command_line.specs.Picking.{TakesPicks}
use Rattle.command_line.specs.declared.options.Options.{Options}
use Rattle.command_line.specs.declared.options.OrderChoice.{OrderChoice}
use Rattle.command_line.specs.declared.options.OrderChoice.TheVariants.{Named, Best, Auto, Cones, ConesByList, Merge, File, Extended}
use Rattle.check_tool.specs.Running.{AreSettings, IsFailedCheck, IsOrderOf, MayGoByCones, NamesOrder, bound_of, limit_of}

-- pairs may be judged by their cones if the options allow it
pub goes_by_cones : (bytes_at : List ℕ → Option (List ℕ)) (c : OrderChoice) (choice : Strategy) → IsOrderOf bytes_at c choice → MayGoByCones c → MayCheckByCones choice
goes_by_cones bytes_at Auto choice is may = subst MayCheckByCones (sym is) tt
goes_by_cones bytes_at Cones choice is may = subst MayCheckByCones (sym is) tt
goes_by_cones bytes_at Merge choice is may = subst MayCheckByCones (sym is) tt
goes_by_cones bytes_at (ConesByList path) choice is may = subst MayCheckByCones (sym is.1) tt
goes_by_cones bytes_at (Named name) choice is may = absurd may
goes_by_cones bytes_at Best choice is may = absurd may
goes_by_cones bytes_at (File path) choice is may = absurd may
goes_by_cones bytes_at (Extended path) choice is may = absurd may

-- if pairs may be picked by the options, they may be picked by the settings
pub picks_by : (bytes_at : List ℕ → Option (List ℕ)) (c : OrderChoice) (choice : Strategy) → IsOrderOf bytes_at c choice → TakesPicks c → MayPick choice
unfolding Rattle.command_line.specs.Picking.takes_picks
picks_by bytes_at Cones choice is picks = subst MayPick (sym is) refl
picks_by bytes_at (ConesByList path) choice is picks = subst MayPick (sym is.1) refl
picks_by bytes_at Auto choice is picks = absurd (let never : false ≡ true = picks in cc)
picks_by bytes_at Merge choice is picks = absurd (let never : false ≡ true = picks in cc)
picks_by bytes_at (Named name) choice is picks = absurd (let never : false ≡ true = picks in cc)
picks_by bytes_at Best choice is picks = absurd (let never : false ≡ true = picks in cc)
picks_by bytes_at (File path) choice is picks = absurd (let never : false ≡ true = picks in cc)
picks_by bytes_at (Extended path) choice is picks = absurd (let never : false ≡ true = picks in cc)

-- an order that the settings name is named by the options
pub named_by : (bytes_at : List ℕ → Option (List ℕ)) (c : OrderChoice) (choice : Strategy) → IsOrderOf bytes_at c choice → NamesCheckOrder choice → NamesOrder c
named_by bytes_at (Named name) choice is named = tt
named_by bytes_at (File path) choice is named = tt
named_by bytes_at (Extended path) choice is named = tt
named_by bytes_at Best choice is named = absurd (subst NamesCheckOrder is named)
named_by bytes_at Auto choice is named = absurd (subst NamesCheckOrder is named)
named_by bytes_at Cones choice is named = absurd (subst NamesCheckOrder is named)
named_by bytes_at Merge choice is named = absurd (subst NamesCheckOrder is named)
named_by bytes_at (ConesByList path) choice is named = absurd (subst NamesCheckOrder is.1 named)

-- without a bound on requests none was passed
pub none_past : (bound other : WaveBound) (P : ℕ → Type 0) → bound ≡ other → other.requests ≡ None → IsSomeAnd bound.requests P → ⊥
none_past bound other P same none h = let none_here : bound.requests ≡ None = ap (λ (b : WaveBound). b.requests) same ∙ none in subst (λ r. IsSomeAnd r P) none_here h

-- a report with the bound of a monitor is one with the bound of the options, if the two are equal
pub report_in_bound : (sources : DeviceTexts) (s : Settings) (bound other : WaveBound) → bound ≡ other → (tried : Option Attempt) (o : Outcome) (bytes : List ℕ) (vcd : Option (List ℕ)) → IsReportWithVcd sources s bound tried o bytes vcd → IsReportWithVcd sources s other tried o bytes vcd
report_in_bound sources s bound other same tried o bytes vcd r = subst (λ b. IsReportWithVcd sources s b tried o bytes vcd) same r

-- the same of the attempts before the reported one
pub earlier_in_bound : (sources : DeviceTexts) (how : Match) (budget : ℕ) (bound other : WaveBound) → bound ≡ other → (tried : Option Attempt) → IfSome tried (AreGivenUp sources how budget bound) → IfSome tried (AreGivenUp sources how budget other)
earlier_in_bound sources how budget bound other same tried h = subst (λ b. IfSome tried (AreGivenUp sources how budget b)) same h

-- and of attempts that were given up
pub given_up_in_bound : (sources : DeviceTexts) (s : Settings) (bound other : WaveBound) → bound ≡ other → IsSearchGivenUp sources s.matching s.order s.limit bound → IsSearchGivenUp sources s.matching s.order s.limit other
given_up_in_bound sources s bound other same f = subst (λ b. IsSearchGivenUp sources s.matching s.order s.limit b) same f

-- and of a stopped run
pub stopped_in_bound : (s : Settings) (bound other : WaveBound) → bound ≡ other → (MayCheckByCones s.order → ⊥) × MayStop bound → (MayCheckByCones s.order → ⊥) × MayStop other
stopped_in_bound s bound other same f = (f.0, subst MayStop same f.1)

module _ (sources : DeviceTexts) (o : Options) (choice : Strategy) (picked : PairFilter PairName) (s : Settings) (set : AreSettings o choice picked s) where
  -- a property of each order by the settings is one of each order by the options
  in_each : (P : Match → ℕ → Order → Type 0) → InEachOrder sources s.matching s.order (P s.matching s.limit) → InEachOrder sources o.matching choice (P o.matching (limit_of o))
  in_each P f =
      subst (λ m. InEachOrder sources m choice (P m (limit_of o))) set.matching
      (subst (λ c. InEachOrder sources s.matching c (P s.matching (limit_of o))) set.order (subst (λ n. InEachOrder sources s.matching s.order (P s.matching n)) set.limit f))

  pub beyond : InEachOrder sources s.matching s.order (λ order. AreBeyond sources s.matching order s.limit) → InEachOrder sources o.matching choice (λ order. AreBeyond sources o.matching order (limit_of o))
  beyond f = in_each (λ how limit order. AreBeyond sources how order limit) f

  pub given_up : IsSearchGivenUp sources s.matching s.order s.limit (bound_of o) → IsSearchGivenUp sources o.matching choice (limit_of o) (bound_of o)
  given_up f =
      subst (λ m. IsSearchGivenUp sources m choice (limit_of o) (bound_of o)) set.matching
      (subst (λ c. IsSearchGivenUp sources s.matching c (limit_of o) (bound_of o)) set.order
      (subst (λ n. IsSearchGivenUp sources s.matching s.order n (bound_of o)) set.limit f))

  pub earlier_given_up : (t : Attempt) → AreGivenUp sources s.matching (last_budget s.order s.limit) (bound_of o) t → AreGivenUp sources o.matching (last_budget choice (limit_of o)) (bound_of o) t
  earlier_given_up t h =
      subst (λ m. AreGivenUp sources m (last_budget choice (limit_of o)) (bound_of o) t) set.matching
      (subst (λ c. AreGivenUp sources s.matching (last_budget c (limit_of o)) (bound_of o) t) set.order
      (subst (λ n. AreGivenUp sources s.matching (last_budget s.order n) (bound_of o) t) set.limit h))

  pub fault_of : (first second given : Type 0) (fault : CheckFault) → (order : Order) × IsAllowed s.order order × IsCheckFault sources first second given s.order s.matching order fault
      → IsFailedCheck sources.first sources.second sources.given first second given o choice fault
  fault_of first second given fault f =
      inr (f.0, subst (λ c. IsAllowed c f.0) set.order f.1, subst (λ m. IsCheckFault sources first second given choice m f.0 fault) set.matching (subst (λ c. IsCheckFault sources first second given c s.matching f.0 fault) set.order f.2))

  -- and so is the cause of a fault of a report
  pub report_fault_of : (first second given : Type 0) (fault : CheckFault) → IsReportFault sources first second given s fault → IsFailedCheck sources.first sources.second sources.given first second given o choice fault
  report_fault_of first second given fault (inl unknown) = inl (s.explain.items, set.explain, unknown)
  report_fault_of first second given fault (inr f) = fault_of first second given fault f

  pub unknown : IsUnknown sources s.picked → IsUnknown sources picked
  unknown u = subst (IsUnknown sources) set.picked_pairs u
