use Rattle.std.proofs.Common.{refl}
use Rattle.req_table.proofs.Forming.{kept, absent_long}
use Rattle.req_table.proofs.table.Keys.admit.Goals as goal

pub returns-in-Some-clause-fitting : goal.returns-in-Some-clause-fitting
returns-in-Some-clause-fitting c =
    let held = rw c.in-Short.is at c.requires.fitting in
    let fits = rw (← c.in-Some.ensures.1) at c.in-Some.ensures.0 in
    kept c.in-Some.key c.in-Short.short.keys c.admit_short.new.short.keys c.admit_short.result held fits c.admit_short.ensures

pub returns-in-None-clause-admitted : goal.returns-in-None-clause-admitted
returns-in-None-clause-admitted c =
    let held = rw c.in-Short.is at c.requires.fitting in
    rw c.in-Short.is (tt, refl, absent_long c.args.key c.in-Short.short.keys held c.in-None.ensures)
