use Rattle.std.proofs.Common.{◌∙◌, ◌++◌, ℕ, List, [], ap, subst}
use Rattle.std.specs.Prelude.{codes, decimal}
use Rattle.compare_built.specs.Cones.{cone_limit}
use Rattle.command_line.specs.declared.options.Options.{Options}
use Rattle.check_tool.specs.Faults.{number_text}
use Rattle.check_tool.specs.Running.{limit_of}
use Rattle.check_tool.specs.Ending.{Written, Says, after_wide, before_wide}
use Rattle.check_tool.proofs.verbose.say_given_up.Goals as goal

-- the line from its parts
abbrev line : (pairs before wide after variables nodes larger : List ℕ) → List ℕ
line pairs before wide after variables nodes larger =
    codes "bddcheck: the number of undecided pairs is " ++ (pairs ++ (before ++ (wide ++ (after ++ (codes " has more than " ++ (variables
    ++ (codes " variables, and each was given up in three orders within " ++ (nodes ++ (codes " nodes or two requests for each of them; a larger "
    ++ (larger ++ (codes ", a list by --order-file, or a condition by --given may help\n" ++ [])))))))))))

pub returns : goal.returns
returns g c =
    let w : Written = record {
      held = g.E.Sink.contents c.args.errors.now;
      holds = g.E.Sink.contents c.say_parts.new.errors;
      has_failed = g.E.Sink.has_failed c.say_parts.new.errors;
      has_stopped = g.E.Sink.has_stopped c.say_parts.new.errors;
    } in
    let o : Options = c.args.options.now in
    let some = c.args.wide in
    let pairs = decimal c.args.undecided in
    let nodes = decimal (cone_limit (limit_of o)) in
    let before = c.before_wide.result.now in
    let wide = c.digits.result.now in
    let after = c.after_wide.result.now in
    let larger = c.larger_option.result.now in
    let first = ap (λ n. line n before wide after c.format-2.result.now c.format-3.result.now larger) c.format.ensures.text in
    let second = ap (λ l. line pairs l wide after c.format-2.result.now c.format-3.result.now larger) c.before_wide.ensures in
    let third = ap (λ l. line pairs (before_wide some) l after c.format-2.result.now c.format-3.result.now larger) c.digits.ensures in
    let fourth = ap (λ l. line pairs (before_wide some) (number_text some) l c.format-2.result.now c.format-3.result.now larger) c.after_wide.ensures in
    let fifth = ap (λ n. line pairs (before_wide some) (number_text some) (after_wide some) n c.format-3.result.now larger) c.format-2.ensures.text in
    let most = decimal c.args.variables in
    let sixth = ap (λ n. line pairs (before_wide some) (number_text some) (after_wide some) most n larger) c.format-3.ensures.text in
    let seventh = ap (λ n. line pairs (before_wide some) (number_text some) (after_wide some) most (decimal n) larger) (c.cone_limit.ensures ∙ ap cone_limit c.limit_of.ensures.limit) in
    let eighth = ap (λ l. line pairs (before_wide some) (number_text some) (after_wide some) most nodes l) c.larger_option.ensures in
    subst (Says w) (first ∙ second ∙ third ∙ fourth ∙ fifth ∙ sixth ∙ seventh ∙ eighth) c.say_parts.ensures
