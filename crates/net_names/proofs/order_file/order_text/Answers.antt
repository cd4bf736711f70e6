use Rattle.std.proofs.Common.{◌<◌, length, arith}
use Rattle.net_names.proofs.Written.{line_more}
use Rattle.net_names.proofs.order_file.order_text.Goals as goal

pub loop-place-preserved : goal.loop-place-preserved
loop-place-preserved c =
    let lt : c.loop-place.place < length c.args.names.now = omega arith in
    line_more c.args.names.now c.loop-place.place c.at.result.now _ _ lt c.at.ensures c.loop-place.invariant c.in_ok-push_line.ensures
