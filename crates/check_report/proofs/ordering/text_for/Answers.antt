use Rattle.check_report.proofs.Printing.{list_of, never_tried, nothing_to_write}
use Rattle.check_report.proofs.ordering.text_for.Goals as goal

pub returns-in-One-clause-earlier_given_up : goal.returns-in-One-clause-earlier_given_up
returns-in-One-clause-earlier_given_up g c = λ input ga. never_tried _ c.given_text.result c.given_text.ensures.no_attempt

pub returns-in-One-clause-answer : goal.returns-in-One-clause-answer
returns-in-One-clause-answer g c = λ input ga. list_of input c.args.task.now.settings.now (g.G.Monitor.bound c.args.monitor.now) c.given_text.result c.given_text.ensures.ends

pub returns-in-One-clause-unwritten : goal.returns-in-One-clause-unwritten
returns-in-One-clause-unwritten g c = nothing_to_write c.given_text.result c.given_text.ensures.ends

pub returns-in-Computed-clause-earlier_given_up : goal.returns-in-Computed-clause-earlier_given_up
returns-in-Computed-clause-earlier_given_up g c = λ input ga. never_tried _ c.computed_text.result c.computed_text.ensures.no_attempt

pub returns-in-Computed-clause-answer : goal.returns-in-Computed-clause-answer
returns-in-Computed-clause-answer g c = λ input ga. list_of input c.args.task.now.settings.now (g.G.Monitor.bound c.args.monitor.now) c.computed_text.result c.computed_text.ensures.ends

pub returns-in-Computed-clause-unwritten : goal.returns-in-Computed-clause-unwritten
returns-in-Computed-clause-unwritten g c = nothing_to_write c.computed_text.result c.computed_text.ensures.ends
