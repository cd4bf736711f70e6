use Rattle.std.proofs.Common.{inr}
use Rattle.std.proofs.lemmas.Result.{err_from_is_err_and}
use Rattle.check_report.proofs.Flags.{no_flags}
use Rattle.check_report.proofs.pairs.cone_verdicts.Goals as goal

pub verdicts_by_cones-requires-clause-equal : goal.verdicts_by_cones-requires-clause-equal
verdicts_by_cones-requires-clause-equal g c κs within =
    rw c.as_slice.ensures.value (no_flags c.args.task.now c.args.naming c.in_ok-facts.facts c.in_ok-equal.equal.items c.in_ok-equal.ensures.each c.in_ok-equal.ensures.none)

pub returns-in_err-verdicts-clause-ends : goal.returns-in_err-verdicts-clause-ends
returns-in_err-verdicts-clause-ends g c =
    let e = err_from_is_err_and c.from_residual-in_err-verdicts.result c.from_residual-in_err-verdicts.ensures.1 in
    rw (e.1, e.2) (inr c.in_err-verdicts.ensures.ends)
