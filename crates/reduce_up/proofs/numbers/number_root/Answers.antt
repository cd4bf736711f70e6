use Rattle.std.proofs.Common.{ℕ, ◌+◌, ◌%◌, ◌≡◌, false, get_or, refl, ap, ◌∙◌}
use Rattle.req_table.specs.declared.Child.TheVariants.{Ask}
use Rattle.req_table.specs.declared.packed_child.PlacedChild.TheVariants as by_number
use Rattle.reduce_up.specs.declared.numbers.NumberingTask.{NumberingTask}
use Rattle.reduce_up.specs.Numbers.{IsNext, asked_after}
use Rattle.reduce_up.proofs.Numbered.{root_next, tasks_next, root_placed}
use Rattle.reduce_up.proofs.numbers.number_root.Goals as goal
use Rattle.reduce_up.proofs.numbers.number_root.Goals.{After-index-tasks-sender}

-- the task of the root's sender, whose next request is the root
module _ (c : After-index-tasks-sender) where
  abbrev s : ℕ
  s = c.args.root % c.args.input.workers

  abbrev task : NumberingTask
  task = get_or c.args.tasks.now s c.index-tasks-sender.result

  task-is : task ≡ get_or c.args.tasks.now s task
  task-is = ap (get_or c.args.tasks.now s) c.index-tasks-sender.is

  next : IsNext c.args.input task.left.items c.ask-child.result (Ask c.level_of.result c.index-roots-root.result false) (asked_after c.args.input c.args.roots.now s (c.args.root + 1))
  next = root_next _ c.requires.input.some _ _ _ c.requires.tasks c.requires.root _ c.index-roots-root.is task task-is c.level_of.result c.ask-child.result c.level_of.ensures
      (c.ask-child.ensures ∙ ap (λ z. by_number.Ask c.level_of.result z false) c.owner.ensures)

pub number-requires-clause-child : goal.number-requires-clause-child
number-requires-clause-child c = let w = (goal.at.number-requires-clause-child c).After-index-tasks-sender in (_, _, next w)

pub returns-clause-tasks : goal.returns-clause-tasks
returns-clause-tasks c =
    let w = (goal.at.returns-clause-tasks c).After-index-tasks-sender in
    tasks_next _ c.requires.input.some _ _ _ c.requires.tasks c.requires.root _ c.index-roots-root.is (task w) (task-is w) (record (task w) { left = c.number.new.left }) refl refl (c.number.ensures.left _ _ (next w))

pub returns-clause-placed : goal.returns-clause-placed
returns-clause-placed c =
    let w = (goal.at.returns-clause-placed c).After-index-tasks-sender in
    root_placed _ c.requires.input.some _ _ _ c.requires.tasks c.requires.root _ c.index-roots-root.is c.level_of.result c.number.result c.level_of.ensures (c.number.ensures.placed _ _ (next w))
