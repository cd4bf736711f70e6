use Rattle.std.proofs.Common.{◌∙◌, ap, ℕ, List, Option, Err}
use Rattle.std.proofs.lemmas.Result.{err_from_is_err_and}
use Rattle.net_bench.specs.Circuit.{circuit}
use Rattle.compare_built.specs.Check.{IsConditionFault, IsFaultOfReading}
use Rattle.compare_built.specs.declared.fault.CheckFault.{CheckFault}
use Rattle.compare_built.specs.declared.fault.CheckFault.TheVariants.{First, Second, Given, GivenOutputs, Order, Only, Explain, Wave, GivenUp, Write, OutOfMemory}
use Rattle.explain_report.proofs.Trying.{condition_fault, one_output_of}
use Rattle.check_report.proofs.reading.read_netlists.Goals as goal

pub returns-in-Err-clause-fault : goal.returns-in-Err-clause-fault
returns-in-Err-clause-fault g c = λ choice how order. record { cause = c.in-Err.ensures.refused; read = λ e. c.read_bench.ensures.read (c.in-Err.is ∙ ap Err e) }

pub returns-in-Err-read_bench-clause-fault : goal.returns-in-Err-read_bench-clause-fault
returns-in-Err-read_bench-clause-fault g c = λ choice how order.
    (circuit c.in-Ok.net, c.in-Ok.ensures.accepted, record { cause = c.in-Err-read_bench.ensures.refused; read = λ e. c.read_bench-2.ensures.read (c.in-Err-read_bench.is ∙ ap Err e) })

-- ---- no condition

condition_early : (given : Option (Option (List ℕ))) (has_failed : Type 0) (fault : CheckFault) → IsConditionFault given has_failed fault → IsFaultOfReading fault
condition_early given has_failed (First fault) h = absurd h
condition_early given has_failed (Second fault) h = absurd h
condition_early given has_failed (Given fault) h = tt
condition_early given has_failed GivenOutputs h = tt
condition_early given has_failed (Order fault) h = absurd h
condition_early given has_failed Only h = absurd h
condition_early given has_failed Explain h = absurd h
condition_early given has_failed (Wave fault) h = absurd h
condition_early given has_failed GivenUp h = absurd h
condition_early given has_failed Write h = absurd h
condition_early given has_failed OutOfMemory h = absurd h

pub returns-in_err-given-clause-fault : goal.returns-in_err-given-clause-fault
returns-in_err-given-clause-fault g c = λ choice how order.
    let e = err_from_is_err_and c.from_residual.result c.from_residual.ensures.1 in
    rw (e.1, e.2)
    (condition_fault _ (circuit c.in-Ok.net) (circuit c.in-Ok-read_bench.net) _ _ _ choice how order c.in_err-given.field-0.0 c.in-Ok.ensures.accepted c.in-Ok-read_bench.ensures.accepted c.in_err-given.ensures.fault)

pub returns-in_err-given-clause-early : goal.returns-in_err-given-clause-early
returns-in_err-given-clause-early g c =
    let e = err_from_is_err_and c.from_residual.result c.from_residual.ensures.1 in
    rw (e.1, e.2) (condition_early _ _ _ c.in_err-given.ensures.fault)

pub invariant_of-result : goal.invariant_of-result
invariant_of-result g c = record { one_output = one_output_of _ _ c.in_ok-given.ensures.condition }
