use Rattle.dd_store.proofs.Narrowing.{read}
use Rattle.dd_store.proofs.pairs.PairTable.at.Goals as goal

pub returns-in-Narrow : goal.returns-in-Narrow
returns-in-Narrow c =
    let valid = rw c.in-Narrow.is at c.self.invariant in
    rw (← c.self.view_is, c.in-Narrow.is, c.references.ensures)
    (read c.in-Narrow.table valid c.args.place c.at.result c.at.ensures)

pub references-requires : goal.references-requires
references-requires c = (rw c.in-Narrow.is at c.self.invariant) c.args.place c.at.result c.at.ensures
