use Rattle.std.proofs.Common.{◌∙◌, inl, inr}
use Rattle.clap.specs.Words.{found_of, rows_of}
use Rattle.command_line.proofs.Finding.{no_flags, picked_order}
use Rattle.command_line.proofs.from_matches.options_of.Goals as goal

pub invariant_of-result-clause-no_sizes : goal.invariant_of-result-clause-no_sizes
invariant_of-result-clause-no_sizes c = λ auto.
    c.is_asked.ensures ∙ (no_flags (rows_of (found_of c.args.matches.now)) c.order_in-order.result c.order_in-order.ensures c.requires.without_conflict (inl auto)).0

pub invariant_of-result-clause-no_cones_sizes : goal.invariant_of-result-clause-no_cones_sizes
invariant_of-result-clause-no_cones_sizes c = λ cones.
    c.is_asked.ensures ∙ (no_flags (rows_of (found_of c.args.matches.now)) c.order_in-order.result c.order_in-order.ensures c.requires.without_conflict (inr (inl cones))).0

pub invariant_of-result-clause-no_cones_in_print : goal.invariant_of-result-clause-no_cones_in_print
invariant_of-result-clause-no_cones_in_print c = λ cones.
    c.is_asked-2.ensures ∙ (no_flags (rows_of (found_of c.args.matches.now)) c.order_in-order.result c.order_in-order.ensures c.requires.without_conflict (inr (inl cones))).1

pub invariant_of-result-clause-no_merge_sizes : goal.invariant_of-result-clause-no_merge_sizes
invariant_of-result-clause-no_merge_sizes c = λ merge.
    c.is_asked.ensures ∙ (no_flags (rows_of (found_of c.args.matches.now)) c.order_in-order.result c.order_in-order.ensures c.requires.without_conflict (inr (inr merge))).0

pub invariant_of-result-clause-no_merge_in_print : goal.invariant_of-result-clause-no_merge_in_print
invariant_of-result-clause-no_merge_in_print c = λ merge.
    c.is_asked-2.ensures ∙ (no_flags (rows_of (found_of c.args.matches.now)) c.order_in-order.result c.order_in-order.ensures c.requires.without_conflict (inr (inr merge))).1

pub invariant_of-result-clause-picks_by_cones : goal.invariant_of-result-clause-picks_by_cones
invariant_of-result-clause-picks_by_cones c = λ some.
    picked_order (rows_of (found_of c.args.matches.now)) c.args.picks c.order_in-order.result c.requires.picks c.order_in-order.ensures some
