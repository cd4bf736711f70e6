use Rattle.std.proofs.Common.{◌⊎◌, inl, inr}
use Rattle.check_tool.specs.Ending.{says_more}
use Rattle.check_tool.proofs.Composing.{asked_or, neither}
use Rattle.check_tool.proofs.tool.run_tool.Goals as goal

pub returns-in-Ok-clause-ending : goal.returns-in-Ok-clause-ending
returns-in-Ok-clause-ending g c = inl (c.in-Ok.options, c.in-Ok.ensures.options, c.run_with_options.ensures.ending, c.run_with_options.ensures.input_unread)

-- what the options of a run have, the arguments that ask for them have
asked_of : {W B : Type 0} {P Q : W → Type 0} (o : W) → P o → Q o ⊎ B → ((x : W) × P x × Q x) ⊎ B
asked_of o asks (inl left) = inl (o, asks, left)
asked_of o asks (inr same) = inr same

pub returns-in-Ok-clause-silent : goal.returns-in-Ok-clause-silent
returns-in-Ok-clause-silent g c =
    let more = says_more c.in-Ok.options in
    let on_terminal = g.E.TerminalSink.on_terminal c.args.errors.now in
    asked_or more (λ e. (c.in-Ok.options, c.in-Ok.ensures.options, e)) (λ e. asked_or on_terminal (λ s. s) (λ s low. asked_of c.in-Ok.options c.in-Ok.ensures.options (c.run_with_options.ensures.silent (neither more on_terminal e s) low)))

pub returns-in-Err-clause-silent : goal.returns-in-Err-clause-silent
returns-in-Err-clause-silent g c = inr (inr (λ low. inr (c.refuse_arguments.ensures.silent low)))
