-- The faults that each public function may return, and what each of them implies besides its cause.
use Rattle.std.specs.Prelude.{◌≡◌, ◌≢◌, ◌≤◌, ◌<◌, ◌-◌, ◌^◌, IsSomeAnd, ⊤}
use Rattle.expand_work.specs.Bounds.{MayStop, WaveBound, most_of}
use Rattle.expand_work.specs.declared.fault.WaveFault.TheVariants.{OutOfMemory as NoWaveMemory, NoWorker, Full, TooManyRequests, Stopped}
use Rattle.net_names.specs.declared.order.Order.{Order}
use Rattle.net_names.specs.declared.order.OrderFault.TheVariants.{CountsDiffer, NotAPermutation, TooManyInputs, OutOfMemory as NoOrderMemory}
use Rattle.net_names.specs.declared.order.OrderFault.TheVariants.{BadName, TooLong, Read}
use Rattle.compare_built.specs.Attempts.{InEachOrder, IsNamedIn, IsSearchGivenUp, MayGoByCones, NamesOrder}
use Rattle.compare_built.specs.Devices.{DeviceTexts}
use Rattle.compare_built.specs.Limits.{AreBeyond}
use Rattle.compare_built.specs.Widths.{AreTooWide}
use Rattle.compare_built.specs.declared.fault.CheckFault.{CheckFault}
use Rattle.compare_built.specs.declared.fault.CheckFault.TheVariants.{First, Second, Given, GivenOutputs, Order as OrderRefused, Only, Explain}
use Rattle.compare_built.specs.declared.fault.CheckFault.TheVariants.{Wave, GivenUp, Write, OutOfMemory}
use Rattle.compare_built.specs.declared.settings.Settings.{Settings}
use Rattle.explain_report.specs.Deciding.{IsUnknown}

-- ---- a comparison

-- Full: no pair may be judged by its cones, and more nodes than the limit are needed in the order that is named, or in
-- that of each candidate
abbrev pub IsOutOfNodes : DeviceTexts → Settings → Type 0
IsOutOfNodes input s = (MayGoByCones s.order → ⊥) × InEachOrder input s.matching s.order (λ order. AreBeyond input s.matching order s.limit)

-- GivenUp: orders are tried, no pair may be judged by its cones, and each attempt within the limit was given up, not
-- all of them for their nodes
abbrev pub IsGivenUpInEach : DeviceTexts → Settings → (bound : WaveBound) → Type 0
IsGivenUpInEach input s bound = IsSearchGivenUp input s.matching s.order s.limit bound

-- Stopped: the run may stop, and no pair is left undecided instead, since no pair may be judged by its cones
abbrev pub IsStopped : Settings → (bound : WaveBound) → Type 0
IsStopped s bound = (MayGoByCones s.order → ⊥) × MayStop bound

-- What a fault of a comparison implies besides its cause. Too many variables and a stopped run are refused only if no
-- pair may be judged by its cones, and a missing thread only if an order is named and the monitor sets no bound.
abbrev pub MayAnswer : DeviceTexts → Settings → (bound : WaveBound) → CheckFault → Type 0
MayAnswer input s bound (First fault) = ⊤
MayAnswer input s bound (Second fault) = ⊤
MayAnswer input s bound (Given fault) = ⊤
MayAnswer input s bound GivenOutputs = ⊤
MayAnswer input s bound (OrderRefused CountsDiffer) = ⊤
MayAnswer input s bound (OrderRefused (NotAPermutation place)) = ⊤
MayAnswer input s bound (OrderRefused TooManyInputs) = MayGoByCones s.order → ⊥
MayAnswer input s bound (OrderRefused NoOrderMemory) = ⊤
MayAnswer input s bound (OrderRefused (BadName line)) = ⊤
MayAnswer input s bound (OrderRefused TooLong) = ⊤
MayAnswer input s bound (OrderRefused Read) = ⊤
MayAnswer input s bound Only = IsUnknown input s.picked
MayAnswer input s bound Explain = ⊤
MayAnswer input s bound (Wave NoWaveMemory) = ⊤
MayAnswer input s bound (Wave NoWorker) = NamesOrder s.order × (2 ^ 64 - 1 ≤ most_of bound.requests)
MayAnswer input s bound (Wave Full) = IsOutOfNodes input s
MayAnswer input s bound (Wave TooManyRequests) =
    (order : Order) × IsNamedIn input s.matching s.order order × IsSomeAnd bound.requests (AreTooWide input s.matching order)
MayAnswer input s bound (Wave Stopped) = IsStopped s bound
MayAnswer input s bound GivenUp = IsGivenUpInEach input s bound
MayAnswer input s bound Write = ⊤
MayAnswer input s bound OutOfMemory = ⊤

-- The same as one statement for each fault that implies more than its cause.
pub record SaysOfEach (input : DeviceTexts) (s : Settings) (bound : WaveBound) (fault : CheckFault) : Type 0 where
  -- Full: the nodes are not within the limit in the order that is named, or in that of each candidate.
  pub full : fault ≡ Wave Full → InEachOrder input s.matching s.order (λ order. AreBeyond input s.matching order s.limit)
  -- GivenUp: orders are tried, no pair may be judged by its cones, and each attempt within the limit was given up, one
  -- of them for its requests or because the run may stop.
  pub given_up : fault ≡ GivenUp → IsGivenUpInEach input s bound
  -- If pairs may be judged by their cones, neither nodes nor requests are a cause of failure.
  pub by_cones : MayGoByCones s.order → (fault ≢ Wave Full) × (fault ≢ GivenUp)
  -- The whole netlists may then have any number of variables.
  pub any_number_of_inputs : MayGoByCones s.order → fault ≢ OrderRefused TooManyInputs
  -- A name of the filter is refused only if the first netlist has no such output or register.
  pub only : fault ≡ Only → IsUnknown input s.picked
  -- TooManyRequests: an order is named, and one wave in it has more requests than the monitor allows.
  pub past : fault ≡ Wave TooManyRequests → (order : Order) × IsNamedIn input s.matching s.order order × IsSomeAnd bound.requests (AreTooWide input s.matching order)
  -- Stopped: the run may stop, and no pair may be judged by its cones.
  pub stopped : fault ≡ Wave Stopped → IsStopped s bound
  -- A thread that cannot be started is no cause of failure if the monitor sets a bound, or an order is searched for, or
  -- pairs may be judged by their cones.
  pub needs_no_thread : most_of bound.requests < 2 ^ 64 - 1 → fault ≢ Wave NoWorker
  pub thread_for_named_order : fault ≡ Wave NoWorker → NamesOrder s.order

-- ---- printing an order

-- What a fault of printing an order implies. Only attempts build diagrams, and no pairs are selected.
abbrev pub MayList : DeviceTexts → Settings → (bound : WaveBound) → CheckFault → Type 0
MayList input s bound (First fault) = ⊤
MayList input s bound (Second fault) = ⊤
MayList input s bound (Given fault) = ⊤
MayList input s bound GivenOutputs = ⊤
MayList input s bound (OrderRefused fault) = ⊤
MayList input s bound Only = ⊥
MayList input s bound Explain = ⊤
MayList input s bound (Wave NoWaveMemory) = ⊤
MayList input s bound (Wave NoWorker) = ⊥
MayList input s bound (Wave Full) = IsOutOfNodes input s
MayList input s bound (Wave TooManyRequests) = ⊥
MayList input s bound (Wave Stopped) = IsStopped s bound
MayList input s bound GivenUp = IsGivenUpInEach input s bound
MayList input s bound Write = ⊤
MayList input s bound OutOfMemory = ⊤

-- The same as one statement for each fault that implies more than its cause.
pub record ListSaysOfEach (input : DeviceTexts) (s : Settings) (bound : WaveBound) (fault : CheckFault) : Type 0 where
  pub full : fault ≡ Wave Full → InEachOrder input s.matching s.order (λ order. AreBeyond input s.matching order s.limit)
  pub given_up : fault ≡ GivenUp → IsGivenUpInEach input s bound
  pub by_cones : MayGoByCones s.order → (fault ≢ Wave Full) × (fault ≢ GivenUp)
  pub stopped : fault ≡ Wave Stopped → IsStopped s bound
  pub never_too_many_requests : fault ≢ Wave TooManyRequests
  pub needs_no_thread : fault ≢ Wave NoWorker
  pub no_unknown_name : fault ≢ Only
