use Rattle.std.proofs.Common.{◌≡◌, ℕ, ◌<◌, ◌≤◌, None, Option, get_or, length}
use Rattle.net_bench.specs.Circuit.{circuit}
use Rattle.net_order.specs.Order.{condition}
use Rattle.net_patterns.specs.declared.counterexample.ShownPattern.{ShownPattern}
use Rattle.compare_built.specs.declared.subject.Subject.{Subject}
use Rattle.cone_check.specs.ConeRounds.{IsShownElse}
use Rattle.cone_check.proofs.at_once.put_all_shown.Given as goal

abbrev pub invariant-loop-place : goal.invariant-loop-place
invariant-loop-place g l = record {
  each : length l.known.items ≡ length l.fn.known.items;
  made : (i : ℕ) (s : Subject) (pattern : Option ShownPattern) → i < l.place →
      IsShownElse (circuit l.task.first.now) (circuit l.task.second.now) (condition l.task.given) l.naming (get_or l.subjects i s) (get_or l.shown i pattern) (get_or l.fn.known.items i None) (get_or l.known.items i None);
  rest : (i : ℕ) → l.place ≤ i → get_or l.known.items i None ≡ get_or l.fn.known.items i None;
}
