use Rattle.std.proofs.Common.{◌∙◌, ◌++◌, ap}
use Rattle.net_bench.specs.Circuit.{circuit}
use Rattle.net_order.specs.Order.{NamingModel, condition}
use Rattle.report_text.specs.declared.outcome.Side.TheVariants.{First, Second}
use Rattle.compare_built.specs.Comparing.{details_of}
use Rattle.compare_built.specs.Report.{unmatched_of_side}
use Rattle.compare_built.proofs.Adding.{whole}
use Rattle.compare_built.proofs.verdicts.verdicts_of.Goals as goal

pub returns : goal.returns
returns c =
    let of = c.args.of.now in
    let pairs = c.in_ok-verdicts.verdicts.items in
    let first = c.in_ok-add_first_unmatched.ensures ∙ ap (λ (p : NamingModel). pairs ++ unmatched_of_side First (circuit of.first.now) p.outputs.only_first p.registers.only_first) c.naming-naming.ensures in
    let second = c.in_ok-add_second_unmatched.ensures ∙ ap (λ (p : NamingModel). c.add_first_unmatched.new.verdicts.items ++ unmatched_of_side Second (circuit of.second.now) p.outputs.only_second p.registers.only_second) c.naming-naming.ensures in
    whole (details_of of.verdict_order) (circuit of.first.now) (circuit of.second.now) (condition of.given) of.pairing.now pairs _ _ c.in_ok-verdicts.ensures first second
