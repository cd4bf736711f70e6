use Rattle.std.proofs.Common.{◌%◌, ◌∙◌, subst}
use Rattle.std.specs.Prelude.{Result, IfOk}
use Rattle.std.proofs.lemmas.List.Elements.{All-push}
use Rattle.dd_store.specs.declared.StoreFault.{StoreFault}
use Rattle.dd_store.specs.declared.reference.Ref.{Ref}
use Rattle.dd_store.specs.View.{Has, IsMade}
use Rattle.wave_tests.proofs.same_store.same_store.Goals as goal

pub loop-preserved : goal.loop-preserved
loop-preserved g c =
    let made : IsMade c.loop.store c.make.new.self (c.next-x.result % 8) c.below-lo.result c.below-hi.result c.expect-answer.result =
    subst (λ (z : Result Ref StoreFault). IfOk z (λ r. IsMade c.loop.store c.make.new.self (c.next-x.result % 8) c.below-lo.result c.below-hi.result r)) c.expect-answer.ensures c.make.ensures.made in
    record {
      levels = made.keeps.levels ∙ c.loop.invariant.levels;
      number = c.next-x-in-loop-2.ensures;
      known = rw c.in_ok-push-3.ensures.items
          (All-push (Has c.make.new.self) c.loop.known.items c.expect-answer.result (λ i d lt. made.keeps.has _ (c.loop.invariant.known i d lt)) made.has);
    }
