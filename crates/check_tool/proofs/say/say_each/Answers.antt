use Rattle.std.proofs.Common.{inr, subst}
use Rattle.std.proofs.lemmas.List.{get_or_default}
use Rattle.report_text.specs.Writing.{AppendsFront}
use Rattle.check_tool.proofs.Saying.{front_taken}
use Rattle.check_tool.proofs.say.say_each.Goals as goal

pub returns-in-Err : goal.returns-in-Err
returns-in-Err g c =
    let low = c.loop-part-test.true in
    inr (front_taken _ _ _ c.args.parts.now c.loop-part.part-index _ low (get_or_default _ _ _ _ low) _ _ c.loop-part.invariant (subst (AppendsFront _ _ _ _) c.as_bytes.ensures.value c.in-Err.ensures.err))
