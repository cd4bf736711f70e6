use Rattle.std.proofs.Common.{◌++◌}
use Rattle.net_explain.specs.Vcd.{code}
use Rattle.net_explain.proofs.Codes.{begun, ended, next_byte}
use Rattle.net_explain.proofs.vcd.add_code.Goals as goal

pub loop-left-init : goal.loop-left-init
loop-left-init c = begun c.args.text.now.items c.args.number

pub loop-left-preserved : goal.loop-left-preserved
loop-left-preserved c =
    next_byte (c.args.text.now.items ++ code c.args.number) c.loop-left.text.items c.push.new.self.items c.loop-left.left c.loop-left-test.true c.in_ok-push.ensures.items c.loop-left.invariant

pub returns : goal.returns
returns c =
    ended (c.args.text.now.items ++ code c.args.number) c.loop-left.text.items c.push-2.new.self.items c.loop-left.left c.loop-left-test.false c.in_ok-push-2.ensures.items c.loop-left.invariant
