use Rattle.std.proofs.Common.{◌∙◌, ◌++◌, [], ap, subst, append-nil}
use Rattle.std.specs.Prelude.{codes, decimal}
use Rattle.check_tool.specs.Ending.{Written, Says, stop_unit}
use Rattle.check_tool.proofs.say.say_stop.Goals as goal

pub returns : goal.returns
returns g c =
    let w : Written = record {
      held = g.E.Sink.contents c.args.errors.now;
      holds = g.E.Sink.contents c.say_parts.new.errors;
      has_failed = g.E.Sink.has_failed c.say_parts.new.errors;
      has_stopped = g.E.Sink.has_stopped c.say_parts.new.errors;
    } in
    let number = ap (λ n. codes "bddcheck: stopped after " ++ (n ++ (c.unit_of.result.now ++ []))) c.format.ensures.text in
    let unit = ap (λ l. codes "bddcheck: stopped after " ++ (decimal c.args.seconds ++ (l ++ []))) c.unit_of.ensures in
    let end = ap (λ l. codes "bddcheck: stopped after " ++ (decimal c.args.seconds ++ l)) (append-nil (stop_unit c.args.seconds)) in
    subst (Says w) (number ∙ unit ∙ end) c.say_parts.ensures
