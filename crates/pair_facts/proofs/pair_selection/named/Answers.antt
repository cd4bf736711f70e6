use Rattle.std.proofs.Common.{◌∙◌, List, ap}
use Rattle.std.specs.Prelude.{filter}
use Rattle.net_bench.specs.Circuit.{circuit}
use Rattle.report_text.specs.declared.cause.PairName.{PairName}
use Rattle.report_text.specs.declared.outcome.Side.TheVariants.{First}
use Rattle.compare_built.specs.PairSelection.{is_unmatched_of, is_pair_of}
use Rattle.compare_built.specs.Report.{unmatched_of_side}
use Rattle.compare_built.proofs.Picks.{picked_named}
use Rattle.pair_facts.proofs.pair_selection.named.Goals as goal

pub returns : goal.returns
returns g c =
    let a = circuit c.args.task.now.first.now in
    let p = c.args.naming.now in
    picked_named a (circuit c.args.task.now.second.now) p c.args.pairs.items c.in_ok-subjects.subjects.items c.in_ok-unmatched_lines.unmatched_lines.items c.requires.all c.args.patterns.now c.requires.known
    (c.in_ok-subjects.ensures ∙ ap (λ (ns : List PairName). filter (is_pair_of a ns) c.as_slice-2.result.now) c.as_slice.ensures.value ∙ ap (filter (is_pair_of a c.args.patterns.now.items)) c.as_slice-2.ensures.value)
    (c.in_ok-unmatched_lines.ensures ∙ ap (λ (ns : List PairName). filter (is_unmatched_of ns) (unmatched_of_side First a p.outputs.only_first p.registers.only_first)) c.as_slice-3.ensures.value)
