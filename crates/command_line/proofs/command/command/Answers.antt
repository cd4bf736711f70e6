use Rattle.std.proofs.Common.{◌∙◌, ap₂}
use Rattle.clap.specs.Words.{with_rule}
use Rattle.command_line.proofs.command.command.Goals as goal

pub returns : goal.returns
returns c =
    let one = c.in_ok-arg.ensures.shape c.matching.ensures.local ∙ ap₂ with_rule c.bare.ensures c.matching.ensures.rule in
    let two = c.in_ok-arg-2.ensures.shape c.order.ensures.local ∙ ap₂ with_rule one c.order.ensures.rule in
    let three = c.in_ok-arg-3.ensures.shape c.order_file.ensures.local ∙ ap₂ with_rule two c.order_file.ensures.rule in
    let four = c.in_ok-arg-4.ensures.shape c.extend.ensures.local ∙ ap₂ with_rule three c.extend.ensures.rule in
    let five = c.in_ok-arg-5.ensures.shape c.given.ensures.local ∙ ap₂ with_rule four c.given.ensures.rule in
    let six = c.in_ok-arg-6.ensures.shape c.only.ensures.local ∙ ap₂ with_rule five c.only.ensures.rule in
    let seven = c.in_ok-arg-7.ensures.shape c.share.ensures.local ∙ ap₂ with_rule six c.share.ensures.rule in
    let eight = c.in_ok-command.ensures.shape c.explain.ensures.local ∙ ap₂ with_rule seven c.explain.ensures.rule in
    let nine = c.in_ok-arg-8.ensures.shape c.vcd.ensures.local ∙ ap₂ with_rule eight c.vcd.ensures.rule in
    let ten = c.in_ok-arg-9.ensures.shape c.workers.ensures.local ∙ ap₂ with_rule nine c.workers.ensures.rule in
    let eleven = c.in_ok-arg-10.ensures.shape c.limit.ensures.local ∙ ap₂ with_rule ten c.limit.ensures.rule in
    let twelve = c.in_ok-arg-11.ensures.shape c.memory.ensures.local ∙ ap₂ with_rule eleven c.memory.ensures.rule in
    let thirteen = c.in_ok-arg-12.ensures.shape c.seconds.ensures.local ∙ ap₂ with_rule twelve c.seconds.ensures.rule in
    let fourteen = c.in_ok-arg-13.ensures.shape c.sizes.ensures.local ∙ ap₂ with_rule thirteen c.sizes.ensures.rule in
    let fifteen = c.in_ok-command-2.ensures.shape c.print_order.ensures.local ∙ ap₂ with_rule fourteen c.print_order.ensures.rule in
    let sixteen = c.in_ok-arg-14.ensures.shape c.format.ensures.local ∙ ap₂ with_rule fifteen c.format.ensures.rule in
    let seventeen = c.in_ok-arg-15.ensures.shape c.assignment.ensures.local ∙ ap₂ with_rule sixteen c.assignment.ensures.rule in
    let eighteen = c.in_ok-arg-16.ensures.shape c.causes.ensures.local ∙ ap₂ with_rule seventeen c.causes.ensures.rule in
    let nineteen = c.in_ok-arg-17.ensures.shape c.difference.ensures.local ∙ ap₂ with_rule eighteen c.difference.ensures.rule in
    let twenty = c.in_ok-arg-18.ensures.shape c.verbose.ensures.local ∙ ap₂ with_rule nineteen c.verbose.ensures.rule in
    let twenty_one = c.in_ok-arg-19.ensures.shape c.pairs.ensures.local ∙ ap₂ with_rule twenty c.pairs.ensures.rule in
    let twenty_two = c.in_ok-arg-20.ensures.shape c.first.ensures.local ∙ ap₂ with_rule twenty_one c.first.ensures.rule in
    let twenty_three = c.in_ok-command-3.ensures.shape c.second.ensures.local ∙ ap₂ with_rule twenty_two c.second.ensures.rule in
    (c.matching.result.value_parser, c.order.result.value_parser, c.format.result.value_parser, c.assignment.result.value_parser, c.difference.result.value_parser, c.matching.ensures.parser, c.order.ensures.parser, c.format.ensures.parser, c.assignment.ensures.parser, c.difference.ensures.parser, twenty_three)
