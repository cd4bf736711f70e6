use Rattle.std.proofs.Common.{◌≡◌, ◌+◌, ◌++◌, ◌∷◌, [], length, sym, subst, length-append}
use Rattle.expand_work.proofs.Zips.{turned}
use Rattle.reduce_up.specs.Steps.{AreRead}
use Rattle.reduce_up.proofs.Joined.{read_one, reads_more}
use Rattle.reduce_up.proofs.reads.join_reads.Goals as goal

pub loop-task-preserved : goal.loop-task-preserved
loop-task-preserved c =
    let done = c.loop-task.yielded in
    let taken_so_far = turned done c.loop-task.task-iterator.rest.items c.next.new.self.rest.items c.args.tasks.items c.in-Some.task c.in-Some.ensures.steps.0 c.loop-task.invariant.taken_so_far in
    let one = read_one c.args.level.now c.args.tasks.items done c.next.new.self.rest.items c.in-Some.task _ c.requires taken_so_far c.in_ok-done.was in
    let more : length (done ++ c.in-Some.task ∷ []) ≡ length done + 1 = length-append done (c.in-Some.task ∷ []) in
    record {
      taken_so_far = taken_so_far;
      read = subst (λ z. AreRead c.args.level.now z c.push.new.self.items c.push-in-loop-task.new.self.items) (sym more)
          (reads_more c.args.level.now (length done) c.loop-task.parts.items c.loop-task.origins.items c.loop-task.invariant.read c.in-Some.task.divided one
          c.push.new.self.items c.push-in-loop-task.new.self.items c.in_ok-push.ensures.items c.in_ok-push-2.ensures.items);
    }
