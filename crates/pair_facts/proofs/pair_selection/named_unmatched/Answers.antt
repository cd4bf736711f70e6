use Rattle.std.proofs.Common.{◌∙◌, ◌<◌, All, ap, length, subst, sym}
use Rattle.std.specs.Prelude.{filter}
use Rattle.std.proofs.lemmas.List.Elements.{All-filter}
use Rattle.net_bench.specs.Circuit.{circuit}
use Rattle.report_text.specs.declared.outcome.PairKind.TheVariants.{Output, NextState}
use Rattle.compare_built.specs.PairSelection.{is_one_of}
use Rattle.compare_built.proofs.Picks.{unmatched_by_name}
use Rattle.pair_facts.proofs.pair_selection.named_unmatched.Goals as goal

pub add_unmatched-requires : goal.add_unmatched-requires
add_unmatched-requires c =
    let p = is_one_of (circuit c.args.net.now) c.args.patterns.now Output in
    subst (All (λ s. s < length c.args.net.now.names)) (sym (c.as_slice.ensures.value ∙ c.in_ok-outputs.ensures ∙ ap (filter p) c.only_first.ensures))
    (All-filter p (λ s. s < length c.args.net.now.names) c.args.naming.now.outputs.only_first c.requires.outputs)

pub add_unmatched-requires-2 : goal.add_unmatched-requires-2
add_unmatched-requires-2 c =
    let p = is_one_of (circuit c.args.net.now) c.args.patterns.now NextState in
    subst (All (λ s. s < length c.args.net.now.names)) (sym (c.as_slice-2.ensures.value ∙ c.in_ok-registers.ensures ∙ ap (filter p) c.only_first_next.ensures))
    (All-filter p (λ s. s < length c.args.net.now.names) c.args.naming.now.registers.only_first c.requires.registers)

pub returns : goal.returns
returns c =
    let p = is_one_of (circuit c.args.net.now) c.args.patterns.now Output in
    let q = is_one_of (circuit c.args.net.now) c.args.patterns.now NextState in
    unmatched_by_name (circuit c.args.net.now) c.args.patterns.now c.args.naming.now.outputs.only_first c.args.naming.now.registers.only_first c.as_slice.result.now c.as_slice-2.result.now
    c.new-unmatched_lines.result.items c.add_unmatched.new.verdicts.items c.add_unmatched-2.new.verdicts.items
    (c.as_slice.ensures.value ∙ c.in_ok-outputs.ensures ∙ ap (filter p) c.only_first.ensures) (c.as_slice-2.ensures.value ∙ c.in_ok-registers.ensures ∙ ap (filter q) c.only_first_next.ensures)
    c.new-unmatched_lines.ensures.items c.in_ok-add_unmatched.ensures c.in_ok-add_unmatched-2.ensures
