use Rattle.std.proofs.Common.{◌∙◌, ◌++◌, [], ap, subst}
use Rattle.std.specs.Prelude.{codes}
use Rattle.check_tool.specs.Ending.{Says}
use Rattle.check_tool.specs.Faults.{number_text}
use Rattle.check_tool.proofs.Saying.{line_of_parts}
use Rattle.check_tool.proofs.tool.refuse.Goals as goal

pub returns-clause-said : goal.returns-clause-said
returns-clause-said g c =
    let w = c.words_of-words.result in
    let number = ap (λ n. codes "bddcheck: " ++ (w.place.now ++ (w.before.now ++ (n ++ (w.following.now ++ (codes "\n" ++ [])))))) c.digits-number.ensures in
    let text = ap (λ l. codes "bddcheck: " ++ (l ++ codes "\n")) c.words_of-words.ensures in
    record {
      line = subst (Says _) (number ∙ line_of_parts (codes "bddcheck: ") w.place.now w.before.now (number_text w.number) w.following.now (codes "\n") ∙ text) c.say_parts.ensures;
      code = c.status_of_fault.ensures.status;
    }
