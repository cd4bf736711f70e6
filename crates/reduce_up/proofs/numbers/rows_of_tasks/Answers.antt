use Rattle.std.proofs.Common.{◌≡◌, ◌+◌, ◌++◌, ◌∷◌, [], length, sym, subst, length-append}
use Rattle.expand_work.proofs.Zips.{turned}
use Rattle.reduce_up.specs.Numbers.{AreRowsNumbered}
use Rattle.reduce_up.proofs.Numbered.{task_at, rows_more}
use Rattle.reduce_up.proofs.numbers.rows_of_tasks.Goals as goal

pub loop-task-preserved : goal.loop-task-preserved
loop-task-preserved c =
    let f = c.args.input in let done = c.loop-task.yielded in let task = c.in-Some.task in
    let taken_so_far = turned done c.loop-task.task-iterator.rest.items c.next.new.self.rest.items c.args.tasks.items task c.in-Some.ensures.steps.0 c.loop-task.invariant.taken_so_far in
    let own = task_at f c.args.tasks.items done c.next.new.self.rest.items task c.in_ok-into_rows.field-0 c.requires taken_so_far c.in_ok-into_rows.ensures in
    let more : length (done ++ task ∷ []) ≡ length done + 1 = length-append done (task ∷ []) in
    record {
      taken_so_far = taken_so_far;
      rows = subst (λ z. AreRowsNumbered f z c.push.new.self.items) (sym more)
          (rows_more f (length done) c.loop-task.all.items c.push.new.self.items c.in_ok-into_rows.field-0 c.loop-task.invariant.rows own c.in_ok-push.ensures.items);
    }
