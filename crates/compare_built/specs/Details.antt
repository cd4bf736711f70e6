-- What is reported besides verdicts, if it is asked for.
use Rattle.std.specs.Prelude.{Bool, true, false, Option, Some, None}
use Rattle.report_text.specs.declared.assignment.Assignment.{Assignment}
use Rattle.report_text.specs.declared.assignment.Assignment.TheVariants.{All, Support, Ones}
use Rattle.compare_built.specs.declared.settings.Settings.{Settings}
use Rattle.compare_built.specs.declared.verdict_order.Details.{Details}

-- whether the variables are reported on which the functions depend
abbrev pub wants_support : Option Assignment → Bool
wants_support None = false
wants_support (Some All) = false
wants_support (Some Support) = true
wants_support (Some Ones) = false

-- what the settings ask for
abbrev pub details_in : Settings → Details
details_in s = record { sizes = s.sizes; support = wants_support s.assignment }

-- the same without sizes
abbrev pub unsized : Option Assignment → Details
unsized which = record { sizes = false; support = wants_support which }
