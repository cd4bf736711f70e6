use Rattle.std.proofs.Common.{◌∙◌, [], List, ap₂, sym, ℕ}
use Rattle.std.proofs.lemmas.Option.{get_or_from_slice_get}
use Rattle.report_text.specs.declared.cause.PairName.{PairName}
use Rattle.report_text.specs.Causes.{Caused}
use Rattle.explain_report.proofs.causes.cause_of.Goals as goal

pub returns : goal.returns
returns c =
    let i = c.args.inner in
    let made = λ (signal : List ℕ) (pairs : List PairName). let cause : Caused = record { signal = signal; first_line = i.first_line; second_line = i.second_line; pairs = pairs } in cause in
    c.of.ensures ∙ ap₂ made (c.in_ok-signal.ensures ∙ sym (get_or_from_slice_get c.args.net.now.names i.first c.name.result.now [] c.name.ensures.value)) c.in_ok-pairs.ensures
