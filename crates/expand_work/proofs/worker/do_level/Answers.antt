use Rattle.std.proofs.Common.{ap, ◌∙◌}
use Rattle.lane_queue.specs.PortView.{PortView}
use Rattle.expand_work.proofs.worker.do_level.Goals as goal

pub expand_level-requires-clause-closing : goal.expand_level-requires-clause-closing
expand_level-requires-clause-closing g c κs within =
    let sent_level = c.in_ok-send_level.ensures in
    let took = c.in_ok-take_until_closed.ensures in
    record {
      before = c.args.worker;
      after_sending = c.send_level.new.worker;
      working = c.requires.working;
      has_sent_level = sent_level;
      same = took.same;
      received = took.received;
      stays = took.stays;
      noted = took.noted;
      closed = took.closed;
      rows = sent_level.rows;
      due = sent_level.due;
    }

pub returns : goal.returns
returns g c =
    let sent_level = c.in_ok-send_level.ensures in
    let done = c.in_ok-expand_level.ensures in
    (done.working, done.number ∙ ap (λ (q : PortView). q.number) c.in_ok-take_until_closed.ensures.same ∙ sent_level.is_ended.port.0 ∙ sent_level.is_kept.port.0 ∙ sent_level.is_sent.port.0)
