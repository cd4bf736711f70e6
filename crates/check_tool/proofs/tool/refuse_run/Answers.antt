use Rattle.check_tool.proofs.tool.refuse_run.Goals as goal

pub returns-clause-said : goal.returns-clause-said
returns-clause-said g c =
    let between = c.refuse-status.new.errors in (
      record { holds = g.E.Sink.contents between; has_failed = g.E.Sink.has_failed between; has_stopped = g.E.Sink.has_stopped between },
      c.refuse-status.ensures.said,
      c.help.ensures.said.0,
      c.help.ensures.said.1,
      c.help.ensures.said.2,
    )
