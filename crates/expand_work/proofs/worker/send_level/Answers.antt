use Rattle.std.proofs.Common.{length, set, subst, sym, ap, ◌∙◌, [], refl}
use Rattle.std.proofs.lemmas.Result.{on_ok_weaker}
use Rattle.expand_work.specs.PlacesBySender.{IsNoted}
use Rattle.expand_work.specs.Work.{IsReceived}
use Rattle.lane_queue.specs.PortView.{lanes_scope}
use Rattle.expand_work.proofs.Sending.{none_due, still_of}
use Rattle.expand_work.proofs.Rounds.{due_may, own_may, own_taken, ended_before, port_kept}
use Rattle.expand_work.proofs.worker.send_level.Goals as goal

pub send_due-requires-clause-may : goal.send_due-requires-clause-may
send_due-requires-clause-may g c = due_may c.args.context.lanes.now c.args.context.store.now c.args.context.roots.now c.args.level c.args.worker.now c.requires.working

pub keep_own-requires-clause-may : goal.keep_own-requires-clause-may
keep_own-requires-clause-may g c = own_may c.args.context.lanes.now c.args.context.store.now c.args.context.roots.now c.args.level c.args.worker.now c.requires.working c.send_due.new.port c.send_due.new.due c.in_ok-send_due.ensures.sent c.in_ok-send_due.ensures.left

pub keep_own-requires-clause-taken : goal.keep_own-requires-clause-taken
keep_own-requires-clause-taken g c = own_taken c.args.context.lanes.now c.args.context.store.now c.args.context.roots.now c.args.level c.args.worker.now c.requires.working c.send_due.new.port c.send_due.new.due c.in_ok-send_due.ensures.sent c.in_ok-send_due.ensures.left c.number.ensures.own

pub keep_own-requires-clause-noted : goal.keep_own-requires-clause-noted
keep_own-requires-clause-noted g c = subst (λ xs. IsNoted (length c.args.context.lanes.now.lanes) xs c.args.worker.now.tables c.args.worker.now.senders.noted) (sym c.in_ok-send_due.ensures.sent.taken) c.requires.working.noted

pub send_ends-requires-clause-ended : goal.send_ends-requires-clause-ended
send_ends-requires-clause-ended g c = ended_before c.args.context.lanes.now c.args.context.store.now c.args.context.roots.now c.args.level c.args.worker.now c.requires.working c.send_due.new.port c.send_due.new.due c.in_ok-send_due.ensures.sent c.in_ok-send_due.ensures.left c.keep_own.new.port c.in_ok-keep_own.ensures.kept

pub returns : goal.returns
returns g c =
    let l = c.args.context.lanes.now in
    let w = c.args.worker.now in
    let sent = c.in_ok-send_due.ensures in
    let own = c.in_ok-keep_own.ensures in
    on_ok_weaker c.send_ends.result (λ e. record {
      sent = c.send_due.new.port;
      left = c.send_due.new.due;
      kept = c.keep_own.new.port;
      is_sent = sent.sent;
      is_left = sent.left;
      is_kept = own.kept;
      stays = own.stays;
      is_ended = e;
      port = still_of l c.keep_own.new.port c.send_ends.new.port e.port (port_kept c.args.context.lanes.now c.args.context.store.now c.args.context.roots.now c.args.level c.args.worker.now c.requires.working c.send_due.new.port c.send_due.new.due sent.sent sent.left c.keep_own.new.port own.kept);
      received = subst (λ xs. IsReceived (lanes_scope l) xs c.keep_own.new.senders.clock c.keep_own.new.tables) (sym e.taken) own.received;
      noted = subst (λ xs. IsNoted (length l.lanes) xs c.keep_own.new.tables c.keep_own.new.senders.noted) (sym e.taken) own.noted;
      rows = refl;
      due = none_due w.port.number (length l.lanes) w.due c.send_due.new.due c.keep_own.new.due c.requires.working.many_due c.requires.working.within sent.left (own.removed ∙ ap (λ n. set c.send_due.new.due n []) sent.sent.port.0);
    }) c.send_ends.ensures
