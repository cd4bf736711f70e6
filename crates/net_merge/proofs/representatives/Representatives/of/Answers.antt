use Rattle.std.proofs.Common.{length, ap, sym, arith}
use Rattle.net_merge.proofs.Representing.{representative-past}
use Rattle.net_merge.proofs.representatives.Representatives.of.Goals as goal

pub returns-else-node-len : goal.returns-else-node-len
returns-else-node-len c = sym (representative-past c.args.self.now c.args.literal (omega (arith, ap length c.self.view_is)))
