use Rattle.std.proofs.Common.{◌∙◌, ◌++◌, [], ap, subst, append-nil}
use Rattle.std.specs.Prelude.{codes, decimal}
use Rattle.check_tool.specs.Ending.{Written, Says}
use Rattle.check_tool.proofs.verbose.say_plain_cause.Goals as goal

pub returns : goal.returns
returns g c =
    let w : Written = record {
      held = g.E.Sink.contents c.args.errors.now;
      holds = g.E.Sink.contents c.say_parts.new.errors;
      has_failed = g.E.Sink.has_failed c.say_parts.new.errors;
      has_stopped = g.E.Sink.has_stopped c.say_parts.new.errors;
    } in
    let number = ap (λ n. codes "bddcheck: the number of undecided pairs is " ++ (n ++ (c.args.cause.now ++ []))) c.format.ensures.text in
    let end = ap (λ l. codes "bddcheck: the number of undecided pairs is " ++ (decimal c.args.undecided ++ l)) (append-nil c.args.cause.now) in
    subst (Says w) (number ∙ end) c.say_parts.ensures
