use Rattle.std.proofs.Common.{sym, arith, ap, length, ◌≡◌}
use Rattle.gate_plan.proofs.Picking.{no_folds}
use Rattle.gate_plan.proofs.sides.PlannedNetlist.folds.Goals as goal

pub returns-else-rank-ranks : goal.returns-else-rank-ranks
returns-else-rank-ranks c =
    let net = c.args.self.now.net in
    let e = c.requires.plan.ranks in
    let same : length c.self.inside.plan ≡ length c.args.self.now.plan = ap (λ s. length s.plan) c.self.view_is in
    sym (no_folds net c.args.rank net.gates (omega arith))
