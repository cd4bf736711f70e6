-- The values at the first difference, as a VCD (value change dump).
use Rattle.std.specs.Prelude.{◌≡◌, ℕ, Bool, true, false, List, [], ◌∷◌, Option, Some, None, IsSomeAnd, option_map}
use Rattle.std.specs.declared.alloc.Global.{Global}
use Rattle.std.specs.declared.vec.Vec.{Vec}
use Rattle.expand_work.specs.Bounds.{WaveBound}
use Rattle.net_bench.specs.Circuit.{Circuit, Net, circuit}
use Rattle.net_bench.specs.Labels.{IsLabelling}
use Rattle.net_order.specs.declared.netlist_role.NetlistRole.TheVariants.{First, Second}
use Rattle.net_explain.specs.Vcd.{vcd_text}
use Rattle.net_order.specs.Order.{NamingModel, level_in}
use Rattle.report_text.specs.declared.outcome.Outcome.{Outcome}
use Rattle.report_text.specs.declared.verdict.Verdict.{Verdict}
use Rattle.report_text.specs.declared.verdict.Verdict.TheVariants.{Equal, Differs, Unmatched, Undecided}
use Rattle.report_text.specs.Lines.{Found}
use Rattle.compare_built.specs.declared.strategy.Attempt.{Attempt}
use Rattle.compare_built.specs.declared.settings.Settings.{Settings}
use Rattle.explain_report.specs.Deciding.{IsReportBy}
use Rattle.compare_built.specs.Devices.{DeviceTexts}
use Rattle.explain_report.specs.Explaining.{HaveReportedNaming}

-- the assignment of a verdict; None unless its pair differs
abbrev pub difference_of : Verdict → Option (List Bool)
difference_of (Equal role name size) = None
difference_of (Differs role name at first second extras) = Some at
difference_of (Unmatched side role name) = None
difference_of (Undecided role name) = None

-- the assignment of the first pair that differs, in the order of the report
abbrev pub first_difference_at : List Verdict → Option (List Bool)
first_difference_at [] = None
first_difference_at (Equal role name size ∷ vs) = first_difference_at vs
first_difference_at (Differs role name at first second extras ∷ vs) = Some at
first_difference_at (Unmatched side role name ∷ vs) = first_difference_at vs
first_difference_at (Undecided role name ∷ vs) = first_difference_at vs

-- The bytes are the values of all signals of two netlists, at an assignment of the variables of their naming, as a VCD.
pub record IsVcdAt (a b : Net) (p : NamingModel) (at : List Bool) (bytes : List ℕ) : Type 0 where
  pub values : List Bool
  pub others : List Bool
  pub first : IsLabelling (circuit a) (level_in p First) at values
  pub second : IsLabelling (circuit b) (level_in p Second) at others
  pub text : bytes ≡ vcd_text a.names values b.names others

-- The same for the netlists that the devices gave, at an assignment of the report.
pub record HasVcd (input : DeviceTexts) (s : Settings) (tried : Option Attempt) (found : Found) (at : List Bool) (bytes : List ℕ) : Type 0 where
  pub a : Net
  pub b : Net
  pub c : Option Circuit
  pub p : NamingModel
  pub named : HaveReportedNaming input s tried (circuit a) (circuit b) c p
  -- the bits of the assignment are those of the variables of this naming
  pub variables : found.variables ≡ p.names
  pub vcd : IsVcdAt a b p at bytes

-- a text in the form that a comparison returns
abbrev pub Bytes : Type 0
Bytes = Vec ℕ Global

-- its bytes, if there is one
abbrev pub bytes_in : Option Bytes → Option (List ℕ)
bytes_in text = option_map (λ (v : Bytes). v.items) text

-- there is a VCD exactly if there is an assignment
abbrev pub IsVcdDumpAt : Option (List Bool) → DeviceTexts → Settings → Option Attempt → Found → Option (List ℕ) → Type 0
IsVcdDumpAt None input s tried found vcd = vcd ≡ None
IsVcdDumpAt (Some at) input s tried found vcd = IsSomeAnd vcd (HasVcd input s tried found at)

-- the VCD of the first pair that differs, if it is wanted and one does
abbrev pub IsVcdDump : (wanted : Bool) → DeviceTexts → Settings → Option Attempt → Found → Option (List ℕ) → Type 0
IsVcdDump false input s tried found vcd = vcd ≡ None
IsVcdDump true input s tried found vcd = IsVcdDumpAt (first_difference_at found.verdicts) input s tried found vcd

-- The bytes are the report of what the devices gave, and this is the VCD of the first pair that differs in it.
pub record IsReportWithVcd (input : DeviceTexts) (s : Settings) (bound : WaveBound) (tried : Option Attempt) (o : Outcome) (bytes : List ℕ)
    (vcd : Option (List ℕ)) : Type 0 where
  pub report : IsReportBy input s bound tried o bytes
  pub dump : IsVcdDump s.vcd input s tried report.found vcd
