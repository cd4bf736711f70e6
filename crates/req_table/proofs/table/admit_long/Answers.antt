use Rattle.std.proofs.lemmas.Result.{err_from_is_err_and}
use Rattle.req_table.proofs.Keyed.{offered, absent_from, stored}
use Rattle.req_table.proofs.table.admit_long.Goals as goal

pub returns-in_err-place : goal.returns-in_err-place
returns-in_err-place c =
    let p = err_from_is_err_and c.from_residual.result c.from_residual.ensures.1 in
    rw (p.1, p.2) (c.in_err-place.ensures.err, absent_from c.args.long.now.keys c.args.key c.in_err-place.ensures.absent)

pub returns : goal.returns
returns c =
    let s = c.in_ok-place.ensures.stored in (
      offered c.args.long.now.keys c.insert_full.new.self.keys c.args.key c.in_ok-place.new c.in_ok-place.ensures.added
          c.in_ok-place.ensures.keys,
      stored c.insert_full.new.self.keys c.args.key s.0 c.in_ok-place.place s.1 s.2,
    )
