-- The findings of a comparison, with its naming.
use Rattle.std.specs.Prelude.{List}
use Rattle.net_order.specs.Order.{NamingModel}
use Rattle.report_text.specs.declared.verdict.Verdict.{Verdict}
use Rattle.report_text.specs.Lines.{Found}

-- The verdicts in the order of the report, and the naming over whose variables their assignments are. The naming also
-- says which outputs and registers are compared.
pub record VerdictsModel : Type 0 where
  pub naming : NamingModel
  pub verdicts : List Verdict

-- the part of the findings that a report shows
abbrev pub found_of : VerdictsModel → Found
found_of v = record { variables = v.naming.names; verdicts = v.verdicts }
