use Rattle.std.proofs.Common.{◌∙◌, sym, subst}
use Rattle.req_table.specs.declared.Child.{Child}
use Rattle.req_table.specs.Places.{IsPlaced, AdmitsChild}
use Rattle.expand_work.proofs.expand.WaitingChildSink.ask.Goals as goal

pub returns-in_ok-place-in-Ask-clause-accepts : goal.returns-in_ok-place-in-Ask-clause-accepts
returns-in_ok-place-in-Ask-clause-accepts c = (c.admit.ensures.admits c.in-Ask.complement).levels ∙ c.requires.accepts

pub returns-in_ok-place-in-Ask-clause-takes : goal.returns-in_ok-place-in-Ask-clause-takes
returns-in_ok-place-in-Ask-clause-takes c = (
  subst (λ z. IsPlaced c.admit.new.self z c.args.asked) (sym c.ask.ensures) (c.in-Ask.key, c.in_ok-place-in-Ask.ensures.at_place, c.in-Ask.is),
  subst (λ (z : Child). AdmitsChild c.args.self.now z c.admit.new.self) (sym c.in-Ask.is) (c.admit.ensures.admits c.in-Ask.complement),
)
