use Rattle.net_patterns.proofs.Differing.{first_shown, shown}
use Rattle.net_patterns.proofs.sides.evaluate.Goals as goal

pub returns-clause-shown : goal.returns-clause-shown
returns-clause-shown c = λ a b given p of.
    shown a b given p c.args.sides.now (record { first = c.evaluate.new.self; second = c.evaluate-2.new.self; given = c.evaluate_condition.new.given }) c.args.at.now c.evaluate_condition.result of
    (record { first = c.evaluate.ensures.kept; second = c.evaluate-2.ensures.kept; condition = c.evaluate_condition.ensures.kept })
    c.evaluate.ensures.sound c.evaluate-2.ensures.sound c.evaluate.ensures.values c.evaluate-2.ensures.values (c.evaluate_condition.ensures.holds given p of.condition)

pub returns-clause-first : goal.returns-clause-first
returns-clause-first c = λ a b given p of.
    first_shown a b given p c.args.sides.now (record { first = c.evaluate.new.self; second = c.evaluate-2.new.self; given = c.evaluate_condition.new.given }) c.args.at.now of c.evaluate.ensures.values
