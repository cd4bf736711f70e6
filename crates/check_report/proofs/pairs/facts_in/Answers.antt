use Rattle.std.proofs.Common.{ap, Err}
use Rattle.std.proofs.lemmas.Result.{err_from_is_err_and}
use Rattle.check_report.proofs.Facts.{no_facts}
use Rattle.check_report.proofs.pairs.facts_in.Goals as goal

pub returns-clause-facts : goal.returns-clause-facts
returns-clause-facts g c = record { picked = c.in_ok-facts.ensures.picked; inside = c.in_ok-facts.ensures.inside; shown = c.in_ok-facts.ensures.shown }

pub returns-in_err-facts-clause-ends : goal.returns-in_err-facts-clause-ends
returns-in_err-facts-clause-ends g c =
    let has = c.in_err-facts.ensures in
    let e = err_from_is_err_and c.from_residual.result c.from_residual.ensures.1 in
    rw (e.1, e.2) (no_facts c.args.task.now c.in_err-facts.field-0.0 has.err (λ only. has.unknown (ap Err only)))
