use Rattle.std.proofs.Common.{refl, inr, arith}
use Rattle.check_tool.proofs.process.status_of.Goals as goal

pub returns-in-Ok-clause-ending : goal.returns-in-Ok-clause-ending
returns-in-Ok-clause-ending g c = rw (c.in-Ok.is, ← c.as_slice.ensures.value, ← c.after_name.ensures) c.run_tool.ensures.ending

pub returns-in-Err-clause-ending : goal.returns-in-Err-clause-ending
returns-in-Err-clause-ending g c = rw c.in-Err.is (c.refuse_without_arguments.ensures.reported, refl, refl, refl)

pub returns-in-Ok-clause-silent : goal.returns-in-Ok-clause-silent
returns-in-Ok-clause-silent g c = rw (c.in-Ok.is, ← c.as_slice.ensures.value, ← c.after_name.ensures) c.run_tool.ensures.silent

pub returns-in-Err-clause-silent : goal.returns-in-Err-clause-silent
returns-in-Err-clause-silent g c = inr (inr (λ low. absurd (omega (arith, low, c.refuse_without_arguments.ensures.refused))))
