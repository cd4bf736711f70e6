-- The text of a report, with the explanations after it.
use Rattle.std.specs.Prelude.{◌≡◌, ◌++◌, ℕ, Bool, List, Option, is_some}
use Rattle.report_text.specs.Causes.{Caused}
use Rattle.report_text.specs.Lines.{Found}
use Rattle.compare_built.specs.Devices.{DeviceTexts}
use Rattle.compare_built.specs.declared.settings.Settings.{Settings}
use Rattle.compare_built.specs.declared.strategy.Attempt.{Attempt}
use Rattle.explain_report.specs.Causing.{AreCauses}
use Rattle.explain_report.specs.Deciding.{report_bytes}
use Rattle.explain_report.specs.Explaining.{IsAppended}

-- the bytes are the report of these findings in the form that is asked for, with the causes that are asked for, and after
-- it the explanations that are asked for
abbrev pub IsFullText : DeviceTexts → Settings → (tried : Option Attempt) → (stopped : Bool) → Found → List ℕ → Type 0
IsFullText input s tried stopped found bytes = (causes : Option (List Caused)) × AreCauses s.causes input s tried found causes
    × (explanations : List ℕ) × IsAppended s.explain.items input s tried found explanations
    × (bytes ≡ report_bytes s tried (is_some input.given) stopped causes found ++ explanations)
