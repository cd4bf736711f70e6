use Rattle.std.proofs.Common.{◌≡◌, inl, inr, refl}
use Rattle.std.specs.Prelude.{codes}
use Rattle.clap.specs.Words.{found_of, rows_of}
use Rattle.command_line.specs.Conflicts.{IsFixedOrderOption, IsMemoryConflict, IsPickingOption, IsReportConflict, IsSearchOption}
use Rattle.command_line.proofs.Finding.{both_said, passes, fails, holding, failing, no_conflict}
use Rattle.command_line.proofs.conflicts.conflict_in.Goals.{then-has_two_orders, else-has_two_orders+then-has_two_picks, else-has_two_orders+else-has_two_picks+then-gives_search_with, else-has_two_orders+else-has_two_picks+else-gives_search_with+then-gives_search_with-2, else-has_two_orders+else-has_two_picks+else-gives_search_with+else-gives_search_with-2+then-picks_with_fixed_order, else-has_two_orders+else-has_two_picks+else-gives_search_with+else-gives_search_with-2+else-picks_with_fixed_order+then-has_unused_memory, else-has_two_orders+else-has_two_picks+else-gives_search_with+else-gives_search_with-2+else-picks_with_fixed_order+else-has_unused_memory+then-has_unused_extend, else-has_two_orders+else-has_two_picks+else-gives_search_with+else-gives_search_with-2+else-picks_with_fixed_order+else-has_unused_memory+else-has_unused_extend+then-has_explain_conflict, else-has_two_orders+else-has_two_picks+else-gives_search_with+else-gives_search_with-2+else-picks_with_fixed_order+else-has_unused_memory+else-has_unused_extend+else-has_explain_conflict+then-has_unused_vcd, else-has_two_orders+else-has_two_picks+else-gives_search_with+else-gives_search_with-2+else-picks_with_fixed_order+else-has_unused_memory+else-has_unused_extend+else-has_explain_conflict+else-has_unused_vcd+then-has_causes_conflict, else-has_two_orders+else-has_two_picks+else-gives_search_with+else-gives_search_with-2+else-picks_with_fixed_order+else-has_unused_memory+else-has_unused_extend+else-has_explain_conflict+else-has_unused_vcd+else-has_causes_conflict+then-has_pairs_by_position}
use Rattle.command_line.proofs.conflicts.conflict_in.Goals as goal

pub returns-else-has_pairs_by_position-clause-any : goal.returns-else-has_pairs_by_position-clause-any
returns-else-has_pairs_by_position-clause-any c =
    no_conflict (rows_of (found_of c.args.matches.now))
    (fails c.has_two_orders.result c.if-has_two_orders.false c.has_two_orders.ensures)
    (fails c.has_two_picks.result c.if-has_two_picks.false c.has_two_picks.ensures)
    (fails c.gives_search_with.result c.if-gives_search_with.false c.gives_search_with.ensures)
    (fails c.gives_search_with-else-gives_search_with.result c.if-gives_search_with-2.false c.gives_search_with-else-gives_search_with.ensures)
    (fails c.picks_with_fixed_order.result c.if-picks_with_fixed_order.false c.picks_with_fixed_order.ensures)
    (fails c.has_unused_memory.result c.if-has_unused_memory.false c.has_unused_memory.ensures)
    (fails c.has_unused_extend.result c.if-has_unused_extend.false c.has_unused_extend.ensures)
    (fails c.has_explain_conflict.result c.if-has_explain_conflict.false c.has_explain_conflict.ensures)
    (fails c.has_unused_vcd.result c.if-has_unused_vcd.false c.has_unused_vcd.ensures)
    (fails c.has_causes_conflict.result c.if-has_causes_conflict.false c.has_causes_conflict.ensures)
    (fails c.has_pairs_by_position.result c.if-has_pairs_by_position.false c.has_pairs_by_position.ensures)

pub returns-clause-any : goal.returns-clause-any
returns-clause-any c = elim c.if-has_two_orders.branch [
  | then-has_two_orders w ↦ inl (passes c.has_two_orders.result w.if-has_two_orders.true c.has_two_orders.ensures)
  | else-has_two_orders+then-has_two_picks w ↦ inr (inl (passes w.has_two_picks.result w.if-has_two_picks.true w.has_two_picks.ensures))
  | else-has_two_orders+else-has_two_picks+then-gives_search_with w ↦ inr (inr (inl (passes w.gives_search_with.result w.if-gives_search_with.true w.gives_search_with.ensures)))
  | else-has_two_orders+else-has_two_picks+else-gives_search_with+then-gives_search_with-2 w ↦
      inr (inr (inr (inl (passes w.gives_search_with-else-gives_search_with.result w.if-gives_search_with-2.true w.gives_search_with-else-gives_search_with.ensures))))
  | else-has_two_orders+else-has_two_picks+else-gives_search_with+else-gives_search_with-2+then-picks_with_fixed_order w ↦
      inr (inr (inr (inr (inl (passes w.picks_with_fixed_order.result w.if-picks_with_fixed_order.true w.picks_with_fixed_order.ensures)))))
  | else-has_two_orders+else-has_two_picks+else-gives_search_with+else-gives_search_with-2+else-picks_with_fixed_order+then-has_unused_memory w ↦
      inr (inr (inr (inr (inr (inl (passes w.has_unused_memory.result w.if-has_unused_memory.true w.has_unused_memory.ensures))))))
  | else-has_two_orders+else-has_two_picks+else-gives_search_with+else-gives_search_with-2+else-picks_with_fixed_order+else-has_unused_memory+then-has_unused_extend w ↦
      inr (inr (inr (inr (inr (inr (inl (passes w.has_unused_extend.result w.if-has_unused_extend.true w.has_unused_extend.ensures)))))))
  | else-has_two_orders+else-has_two_picks+else-gives_search_with+else-gives_search_with-2+else-picks_with_fixed_order+else-has_unused_memory+else-has_unused_extend+then-has_explain_conflict w ↦
      inr (inr (inr (inr (inr (inr (inr (inl (passes w.has_explain_conflict.result w.if-has_explain_conflict.true w.has_explain_conflict.ensures))))))))
  | else-has_two_orders+else-has_two_picks+else-gives_search_with+else-gives_search_with-2+else-picks_with_fixed_order+else-has_unused_memory+else-has_unused_extend+else-has_explain_conflict+then-has_unused_vcd w ↦
      inr (inr (inr (inr (inr (inr (inr (inr (inl (passes w.has_unused_vcd.result w.if-has_unused_vcd.true w.has_unused_vcd.ensures)))))))))
  | else-has_two_orders+else-has_two_picks+else-gives_search_with+else-gives_search_with-2+else-picks_with_fixed_order+else-has_unused_memory+else-has_unused_extend+else-has_explain_conflict+else-has_unused_vcd+then-has_causes_conflict w ↦
      inr (inr (inr (inr (inr (inr (inr (inr (inr (inl (passes w.has_causes_conflict.result w.if-has_causes_conflict.true w.has_causes_conflict.ensures))))))))))
  | else-has_two_orders+else-has_two_picks+else-gives_search_with+else-gives_search_with-2+else-picks_with_fixed_order+else-has_unused_memory+else-has_unused_extend+else-has_explain_conflict+else-has_unused_vcd+else-has_causes_conflict+then-has_pairs_by_position w ↦
      inr (inr (inr (inr (inr (inr (inr (inr (inr (inr (passes w.has_pairs_by_position.result w.if-has_pairs_by_position.true w.has_pairs_by_position.ensures))))))))))
]

pub returns-clause-first : goal.returns-clause-first
returns-clause-first c = let rows = rows_of (found_of c.args.matches.now) in elim c.if-has_two_orders.branch [
  | then-has_two_orders w ↦
      holding (passes c.has_two_orders.result w.if-has_two_orders.true c.has_two_orders.ensures) (both_said (λ text. text ≡ codes "--order <ORDER>") (λ text. text ≡ codes "'--order-file <F>'") _ _ _ w.named-is refl refl)
  | else-has_two_orders+then-has_two_picks w ↦
      failing (fails c.has_two_orders.result w.if-has_two_orders.false c.has_two_orders.ensures) (holding (passes w.has_two_picks.result w.if-has_two_picks.true w.has_two_picks.ensures) (both_said (λ text. text ≡ codes "--only <NAME>") (λ text. text ≡ codes "'--share <K/N>'") _ _ _ w.named-is refl refl))
  | else-has_two_orders+else-has_two_picks+then-gives_search_with w ↦
      failing (fails c.has_two_orders.result w.if-has_two_orders.false c.has_two_orders.ensures) (failing (fails w.has_two_picks.result w.if-has_two_picks.false w.has_two_picks.ensures) (holding (passes w.gives_search_with.result w.if-gives_search_with.true w.gives_search_with.ensures) (both_said (IsSearchOption rows) (λ text. text ≡ codes "'--sizes'") _ _ _ w.named-is w.search_option.ensures refl)))
  | else-has_two_orders+else-has_two_picks+else-gives_search_with+then-gives_search_with-2 w ↦
      failing (fails c.has_two_orders.result w.if-has_two_orders.false c.has_two_orders.ensures) (failing (fails w.has_two_picks.result w.if-has_two_picks.false w.has_two_picks.ensures) (failing (fails w.gives_search_with.result w.if-gives_search_with.false w.gives_search_with.ensures) (holding (passes w.gives_search_with-else-gives_search_with.result w.if-gives_search_with-2.true w.gives_search_with-else-gives_search_with.ensures) (both_said (IsSearchOption rows) (λ text. text ≡ codes "'--print-order'") _ _ _ w.named-is w.search_option-then-gives_search_with-2.ensures refl))))
  | else-has_two_orders+else-has_two_picks+else-gives_search_with+else-gives_search_with-2+then-picks_with_fixed_order w ↦
      failing (fails c.has_two_orders.result w.if-has_two_orders.false c.has_two_orders.ensures) (failing (fails w.has_two_picks.result w.if-has_two_picks.false w.has_two_picks.ensures) (failing (fails w.gives_search_with.result w.if-gives_search_with.false w.gives_search_with.ensures) (failing (fails w.gives_search_with-else-gives_search_with.result w.if-gives_search_with-2.false w.gives_search_with-else-gives_search_with.ensures) (holding (passes w.picks_with_fixed_order.result w.if-picks_with_fixed_order.true w.picks_with_fixed_order.ensures) (both_said (IsPickingOption rows) (IsFixedOrderOption rows) _ _ _ w.named-is w.picking_option.ensures w.fixed_order.ensures)))))
  | else-has_two_orders+else-has_two_picks+else-gives_search_with+else-gives_search_with-2+else-picks_with_fixed_order+then-has_unused_memory w ↦
      failing (fails c.has_two_orders.result w.if-has_two_orders.false c.has_two_orders.ensures) (failing (fails w.has_two_picks.result w.if-has_two_picks.false w.has_two_picks.ensures) (failing (fails w.gives_search_with.result w.if-gives_search_with.false w.gives_search_with.ensures) (failing (fails w.gives_search_with-else-gives_search_with.result w.if-gives_search_with-2.false w.gives_search_with-else-gives_search_with.ensures) (failing (fails w.picks_with_fixed_order.result w.if-picks_with_fixed_order.false w.picks_with_fixed_order.ensures) (holding (passes w.has_unused_memory.result w.if-has_unused_memory.true w.has_unused_memory.ensures) (both_said (λ text. text ≡ codes "--memory <SIZE>") (IsMemoryConflict rows) _ _ _ w.named-is refl w.memory_conflict.ensures))))))
  | else-has_two_orders+else-has_two_picks+else-gives_search_with+else-gives_search_with-2+else-picks_with_fixed_order+else-has_unused_memory+then-has_unused_extend w ↦
      failing (fails c.has_two_orders.result w.if-has_two_orders.false c.has_two_orders.ensures) (failing (fails w.has_two_picks.result w.if-has_two_picks.false w.has_two_picks.ensures) (failing (fails w.gives_search_with.result w.if-gives_search_with.false w.gives_search_with.ensures) (failing (fails w.gives_search_with-else-gives_search_with.result w.if-gives_search_with-2.false w.gives_search_with-else-gives_search_with.ensures) (failing (fails w.picks_with_fixed_order.result w.if-picks_with_fixed_order.false w.picks_with_fixed_order.ensures) (failing (fails w.has_unused_memory.result w.if-has_unused_memory.false w.has_unused_memory.ensures) (holding (passes w.has_unused_extend.result w.if-has_unused_extend.true w.has_unused_extend.ensures) (both_said (λ text. text ≡ codes "--extend") (λ text. text ≡ codes "an order other than that of '--order-file <F>'") _ _ _ w.named-is refl refl)))))))
  | else-has_two_orders+else-has_two_picks+else-gives_search_with+else-gives_search_with-2+else-picks_with_fixed_order+else-has_unused_memory+else-has_unused_extend+then-has_explain_conflict w ↦
      failing (fails c.has_two_orders.result w.if-has_two_orders.false c.has_two_orders.ensures) (failing (fails w.has_two_picks.result w.if-has_two_picks.false w.has_two_picks.ensures) (failing (fails w.gives_search_with.result w.if-gives_search_with.false w.gives_search_with.ensures) (failing (fails w.gives_search_with-else-gives_search_with.result w.if-gives_search_with-2.false w.gives_search_with-else-gives_search_with.ensures) (failing (fails w.picks_with_fixed_order.result w.if-picks_with_fixed_order.false w.picks_with_fixed_order.ensures) (failing (fails w.has_unused_memory.result w.if-has_unused_memory.false w.has_unused_memory.ensures) (failing (fails w.has_unused_extend.result w.if-has_unused_extend.false w.has_unused_extend.ensures) (holding (passes w.has_explain_conflict.result w.if-has_explain_conflict.true w.has_explain_conflict.ensures) (both_said (λ text. text ≡ codes "--explain <NAME>") (IsReportConflict (codes "'--format json'") rows) _ _ _ w.named-is refl w.explain_conflict.ensures))))))))
  | else-has_two_orders+else-has_two_picks+else-gives_search_with+else-gives_search_with-2+else-picks_with_fixed_order+else-has_unused_memory+else-has_unused_extend+else-has_explain_conflict+then-has_unused_vcd w ↦
      failing (fails c.has_two_orders.result w.if-has_two_orders.false c.has_two_orders.ensures) (failing (fails w.has_two_picks.result w.if-has_two_picks.false w.has_two_picks.ensures) (failing (fails w.gives_search_with.result w.if-gives_search_with.false w.gives_search_with.ensures) (failing (fails w.gives_search_with-else-gives_search_with.result w.if-gives_search_with-2.false w.gives_search_with-else-gives_search_with.ensures) (failing (fails w.picks_with_fixed_order.result w.if-picks_with_fixed_order.false w.picks_with_fixed_order.ensures) (failing (fails w.has_unused_memory.result w.if-has_unused_memory.false w.has_unused_memory.ensures) (failing (fails w.has_unused_extend.result w.if-has_unused_extend.false w.has_unused_extend.ensures) (failing (fails w.has_explain_conflict.result w.if-has_explain_conflict.false w.has_explain_conflict.ensures) (holding (passes w.has_unused_vcd.result w.if-has_unused_vcd.true w.has_unused_vcd.ensures) (both_said (λ text. text ≡ codes "--vcd <FILE>") (λ text. text ≡ codes "'--print-order'") _ _ _ w.named-is refl refl)))))))))
  | else-has_two_orders+else-has_two_picks+else-gives_search_with+else-gives_search_with-2+else-picks_with_fixed_order+else-has_unused_memory+else-has_unused_extend+else-has_explain_conflict+else-has_unused_vcd+then-has_causes_conflict w ↦
      failing (fails c.has_two_orders.result w.if-has_two_orders.false c.has_two_orders.ensures) (failing (fails w.has_two_picks.result w.if-has_two_picks.false w.has_two_picks.ensures) (failing (fails w.gives_search_with.result w.if-gives_search_with.false w.gives_search_with.ensures) (failing (fails w.gives_search_with-else-gives_search_with.result w.if-gives_search_with-2.false w.gives_search_with-else-gives_search_with.ensures) (failing (fails w.picks_with_fixed_order.result w.if-picks_with_fixed_order.false w.picks_with_fixed_order.ensures) (failing (fails w.has_unused_memory.result w.if-has_unused_memory.false w.has_unused_memory.ensures) (failing (fails w.has_unused_extend.result w.if-has_unused_extend.false w.has_unused_extend.ensures) (failing (fails w.has_explain_conflict.result w.if-has_explain_conflict.false w.has_explain_conflict.ensures) (failing (fails w.has_unused_vcd.result w.if-has_unused_vcd.false w.has_unused_vcd.ensures) (holding (passes w.has_causes_conflict.result w.if-has_causes_conflict.true w.has_causes_conflict.ensures) (both_said (λ text. text ≡ codes "--causes") (IsReportConflict (codes "a report other than that of '--format json'") rows) _ _ _ w.named-is refl w.causes_conflict.ensures))))))))))
  | else-has_two_orders+else-has_two_picks+else-gives_search_with+else-gives_search_with-2+else-picks_with_fixed_order+else-has_unused_memory+else-has_unused_extend+else-has_explain_conflict+else-has_unused_vcd+else-has_causes_conflict+then-has_pairs_by_position w ↦
      failing (fails c.has_two_orders.result w.if-has_two_orders.false c.has_two_orders.ensures) (failing (fails w.has_two_picks.result w.if-has_two_picks.false w.has_two_picks.ensures) (failing (fails w.gives_search_with.result w.if-gives_search_with.false w.gives_search_with.ensures) (failing (fails w.gives_search_with-else-gives_search_with.result w.if-gives_search_with-2.false w.gives_search_with-else-gives_search_with.ensures) (failing (fails w.picks_with_fixed_order.result w.if-picks_with_fixed_order.false w.picks_with_fixed_order.ensures) (failing (fails w.has_unused_memory.result w.if-has_unused_memory.false w.has_unused_memory.ensures) (failing (fails w.has_unused_extend.result w.if-has_unused_extend.false w.has_unused_extend.ensures) (failing (fails w.has_explain_conflict.result w.if-has_explain_conflict.false w.has_explain_conflict.ensures) (failing (fails w.has_unused_vcd.result w.if-has_unused_vcd.false w.has_unused_vcd.ensures) (failing (fails w.has_causes_conflict.result w.if-has_causes_conflict.false w.has_causes_conflict.ensures) (both_said (λ text. text ≡ codes "--pairs <FILE>") (λ text. text ≡ codes "'--match position'") _ _ _ w.named-is refl refl))))))))))
]
