use Rattle.std.proofs.Common.{◌∙◌, subst}
use Rattle.check_tool.specs.Ending.{IsUndecidedSaid, written}
use Rattle.check_tool.proofs.verbose.say_done.Goals as goal

pub returns-clause-said : goal.returns-clause-said
returns-clause-said g c =
    let between = c.say_if_verbose.new.errors in
    let w = written g.E.Sink.contents g.E.Sink.has_failed g.E.Sink.has_stopped between c.say_undecided.new.errors in (
      record { holds = g.E.Sink.contents between; has_failed = g.E.Sink.has_failed between; has_stopped = g.E.Sink.has_stopped between },
      c.say_if_verbose.ensures.said,
      subst (λ n. IsUndecidedSaid c.args.options.now c.args.cause n w) c.undecided_of.ensures c.say_undecided.ensures.said,
    )

pub returns-clause-silent : goal.returns-clause-silent
returns-clause-silent g c = λ quiet none. c.say_undecided.ensures.silent (c.undecided_of.ensures ∙ none) ∙ c.say_if_verbose.ensures.silent quiet
