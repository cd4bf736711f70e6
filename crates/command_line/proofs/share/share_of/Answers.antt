use Rattle.command_line.proofs.Sharing.{unshared, no_number, no_count, read}
use Rattle.command_line.proofs.share.share_of.Goals as goal

pub returns-in_default : goal.returns-in_default
returns-in_default c = unshared c.args.text.now c.in_default.ensures

pub returns-in_default-decimal : goal.returns-in_default-decimal
returns-in_default-decimal c = no_number c.args.text.now c.in-Some.number.now c.in-Some.count.now c.in-Some.ensures.0 c.in-Some.ensures.1 c.in_default-decimal.ensures

pub returns-in_default-decimal-2 : goal.returns-in_default-decimal-2
returns-in_default-decimal-2 c = no_count c.args.text.now c.in-Some.number.now c.in-Some.count.now c.in-Some.ensures.0 c.in-Some.ensures.1 c.in_default-decimal-2.ensures

pub returns : goal.returns
returns c =
    read c.args.text.now c.in-Some.number.now c.in-Some.count.now c.in-Some.ensures.0 c.in-Some.ensures.1 c.in-Some-decimal.number c.in-Some-decimal-2.of c.in-Some-decimal.ensures c.in-Some-decimal-2.ensures c.share.result c.share.ensures
