use Rattle.std.proofs.Common.{◌≡◌, ◌+◌, ◌++◌, ◌∷◌, [], length, sym, subst, length-append}
use Rattle.expand_work.proofs.Zips.{turned}
use Rattle.reduce_up.specs.Division.{ArePicked}
use Rattle.reduce_up.proofs.Joined.{picked_one, picked_more}
use Rattle.reduce_up.proofs.picking.join_picked.Goals as goal

pub loop-task-preserved : goal.loop-task-preserved
loop-task-preserved c =
    let parts = c.args.parts.now in let origins = c.args.origins.now in let refs = c.args.refs.now in
    let done = c.loop-task.yielded in
    let taken_so_far = turned done c.loop-task.task-iterator.rest.items c.next.new.self.rest.items c.args.tasks.items c.in-Some.task c.in-Some.ensures.steps.0 c.loop-task.invariant.taken_so_far in
    let one = picked_one parts origins refs c.args.tasks.items done c.next.new.self.rest.items c.in-Some.task _ c.requires taken_so_far c.in_ok-done.was in
    let more : length (done ++ c.in-Some.task ∷ []) ≡ length done + 1 = length-append done (c.in-Some.task ∷ []) in
    record {
      taken_so_far = taken_so_far;
      picked = subst (λ z. ArePicked parts origins refs z c.push.new.self.items) (sym more)
          (picked_more parts origins refs (length done) c.loop-task.answers.items c.push.new.self.items c.in-Some.task.answers c.loop-task.invariant.picked one c.in_ok-push.ensures.items);
    }
