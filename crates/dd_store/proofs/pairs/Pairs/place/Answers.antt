use Rattle.std.proofs.Common.{refl}
use Rattle.dd_store.proofs.Narrowing.{absent, placed, kept}
use Rattle.dd_store.proofs.pairs.Pairs.place.Goals as goal

pub returns-in-Some-clause-valid : goal.returns-in-Some-clause-valid
returns-in-Some-clause-valid c =
    let valid = rw c.in-Narrow.is at c.requires.valid in
    kept c.in-Narrow.table valid c.args.room c.in-Some.words c.find_or_add.result c.find_or_add.new.self c.in-Some.ensures.0
    c.find_or_add.ensures

pub returns-in-Some-clause-placed : goal.returns-in-Some-clause-placed
returns-in-Some-clause-placed c =
    let valid = rw c.in-Narrow.is at c.requires.valid in
    rw c.in-Narrow.is
    (placed c.in-Narrow.table valid c.args.room c.args.pair c.in-Some.words c.find_or_add.result
    c.find_or_add.new.self c.in-Some.ensures c.find_or_add.ensures)

pub returns-in-None-clause-placed : goal.returns-in-None-clause-placed
returns-in-None-clause-placed c =
    let valid = rw c.in-Narrow.is at c.requires.valid in
    rw c.in-Narrow.is (tt, refl, absent c.in-Narrow.table valid c.args.pair c.in-None.ensures)
