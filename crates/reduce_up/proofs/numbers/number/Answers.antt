use Rattle.std.proofs.Common.{arith, sym, ◌∙◌, subst}
use Rattle.std.proofs.lemmas.List.{take_all, length-drop}
use Rattle.req_table.specs.Places.{IsPlaced}
use Rattle.reduce_up.specs.Numbers.{keys_in}
use Rattle.reduce_up.proofs.Numbering.{start_within, sum_fits, one_asked, child_placed}
use Rattle.reduce_up.proofs.numbers.number.Goals as goal

pub bounds-input-level : goal.bounds-input-level
bounds-input-level c = start_within _ c.requires.input _ _ _ _ c.requires.child.2 _ _ _ (sym c.view.ensures ∙ c.in-Ask.is) _ c.index-noted.ensures

pub overflow_add-start-in-Ask : goal.overflow_add-start-in-Ask
overflow_add-start-in-Ask c = let fits = sum_fits _ c.requires.input _ _ _ _ c.requires.child.2 _ _ _ (sym c.view.ensures ∙ c.in-Ask.is) _ c.index-noted.ensures in omega arith

pub returns-in-Ask-clause-left : goal.returns-in-Ask-clause-left
returns-in-Ask-clause-left c = λ k rest i. one_asked _ c.requires.input _ _ _ _ i _ _ _ (sym c.view.ensures ∙ c.in-Ask.is) _ c.index-noted.ensures _ (take_all _ _ (let e = length-drop 1 c.index-noted.result.now.now in omega (arith, e)))

pub returns-in-Ask-clause-placed : goal.returns-in-Ask-clause-placed
returns-in-Ask-clause-placed c = λ k rest i.
    subst (λ z. IsPlaced (keys_in c.args.input) z k) (sym c.ask.ensures)
    (child_placed _ c.requires.input _ _ _ _ i _ _ _ (sym c.view.ensures ∙ c.in-Ask.is) _ c.index-noted.ensures)
