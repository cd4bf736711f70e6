use Rattle.std.proofs.Common.{◌≤◌, sym, ◌∙◌, subst}
use Rattle.dd_store.proofs.View.{cofactor-step, top-part}
use Rattle.counter_walk.proofs.step_down.Goals as goal

pub cofactor-requires-clause-not_above : goal.cofactor-requires-clause-not_above
cofactor-requires-clause-not_above c = subst (λ n. c.args.level ≤ n) (sym (top-part c.args.store.now c.args.store.now.levels c.args.r c.requires.in_store)) c.requires.above

pub returns : goal.returns
returns c = record { value = c.cofactor.ensures ∙ cofactor-step c.args.store.now c.args.r c.args.level c.args.bit c.requires.in_store }
