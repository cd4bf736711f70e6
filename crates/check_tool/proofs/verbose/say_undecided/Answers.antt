use Rattle.std.proofs.Common.{◌≢◌, ℕ, zero, suc, refl, sym, subst}
use Rattle.command_line.specs.declared.options.Options.{Options}
use Rattle.check_tool.specs.declared.undecided.UndecidedCause.{UndecidedCause}
use Rattle.check_tool.specs.declared.undecided.UndecidedCause.TheVariants.{Stopped, Wide, GivenUp, Both}
use Rattle.check_tool.specs.Ending.{Written, Says, IsUndecidedSaid, undecided_line, written}
use Rattle.check_tool.proofs.verbose.say_undecided.Goals as goal

-- some pairs are undecided
some : (o : Options) (cause : UndecidedCause) (n : ℕ) (w : Written) → n ≢ 0 → Says w (undecided_line o cause n) → IsUndecidedSaid o cause n w
some o cause zero w not_none said = absurd (not_none refl)
some o cause (suc n) w not_none said = said

pub returns-in-Stopped-clause-said : goal.returns-in-Stopped-clause-said
returns-in-Stopped-clause-said g c =
    let o = c.args.options.now in
    let w = written g.E.Sink.contents g.E.Sink.has_failed g.E.Sink.has_stopped c.args.errors.now c.say_plain_cause.new.errors in
    subst (λ cause. IsUndecidedSaid o cause c.args.undecided w) (sym c.in-Stopped.is) (some o Stopped c.args.undecided w c.if-undecided-eq0.false c.say_plain_cause.ensures)

pub returns-in-Wide-clause-said : goal.returns-in-Wide-clause-said
returns-in-Wide-clause-said g c =
    let o = c.args.options.now in
    let w = written g.E.Sink.contents g.E.Sink.has_failed g.E.Sink.has_stopped c.args.errors.now c.say_plain_cause-in-Wide.new.errors in
    subst (λ cause. IsUndecidedSaid o cause c.args.undecided w) (sym c.in-Wide.is) (some o Wide c.args.undecided w c.if-undecided-eq0.false c.say_plain_cause-in-Wide.ensures)

pub returns-in-GivenUp-clause-said : goal.returns-in-GivenUp-clause-said
returns-in-GivenUp-clause-said g c =
    let o = c.args.options.now in
    let cause = GivenUp c.in-GivenUp.variables in
    let w = written g.E.Sink.contents g.E.Sink.has_failed g.E.Sink.has_stopped c.args.errors.now c.say_given_up.new.errors in
    subst (λ x. IsUndecidedSaid o x c.args.undecided w) (sym c.in-GivenUp.is) (some o cause c.args.undecided w c.if-undecided-eq0.false c.say_given_up.ensures)

pub returns-in-Both-clause-said : goal.returns-in-Both-clause-said
returns-in-Both-clause-said g c =
    let o = c.args.options.now in
    let cause = Both c.in-Both.wide c.in-Both.variables in
    let w = written g.E.Sink.contents g.E.Sink.has_failed g.E.Sink.has_stopped c.args.errors.now c.say_given_up-in-Both.new.errors in
    subst (λ x. IsUndecidedSaid o x c.args.undecided w) (sym c.in-Both.is) (some o cause c.args.undecided w c.if-undecided-eq0.false c.say_given_up-in-Both.ensures)
