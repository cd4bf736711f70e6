use Rattle.dd_store.proofs.Narrowing.{found, absent}
use Rattle.dd_store.proofs.pairs.PairTable.find.Goals as goal

pub returns-in-Some : goal.returns-in-Some
returns-in-Some c =
    let valid = rw c.in-Narrow.is at c.self.invariant in
    rw (← c.self.view_is, c.in-Narrow.is)
    (found c.in-Narrow.table valid c.args.pair c.in-Some.words c.find.result c.in-Some.ensures c.find.ensures)

pub returns-in-None : goal.returns-in-None
returns-in-None c =
    let valid = rw c.in-Narrow.is at c.self.invariant in
    rw (← c.self.view_is, c.in-Narrow.is) (absent c.in-Narrow.table valid c.args.pair c.in-None.ensures)
