use Rattle.std.proofs.Common.{subst}
use Rattle.std.proofs.lemmas.Result.{err_from_is_err_and}
use Rattle.std.specs.Io.KnownBytes.{Appends}
use Rattle.compare_built.specs.Devices.{device_text, device_texts}
use Rattle.report_text.specs.Writing.{AppendsFront}
use Rattle.check_report.proofs.Printing.{listed_accepted}
use Rattle.check_report.proofs.listing.print_order.Goals as goal

pub returns-in-Ok-clause-order : goal.returns-in-Ok-clause-order
returns-in-Ok-clause-order g c =
    (c.in_ok-text.text.items, c.in_ok-text.ensures.text, subst (Appends _ _) c.as_slice.ensures.value c.in-Ok.ensures.ok)

pub returns-clause-fault : goal.returns-clause-fault
returns-clause-fault g c =
    let input = device_texts (g.R1.Source.remaining c.args.first.now) (g.R2.Source.remaining c.args.second.now) (device_text g.R3.Source.remaining c.args.given.now) in
    let s = c.args.context.now.settings.now in
    let w = c.in_ok-text.ensures.text in
    listed_accepted input s.matching s.order s.limit c.in_ok-text.tried w.0 w.1.a w.1.b w.1.c w.1.p w.1.paired w.2

pub returns-clause-unwritten : goal.returns-clause-unwritten
returns-clause-unwritten g c = λ _.
    (c.in_ok-text.tried, c.in_ok-text.text.items, c.in_ok-text.ensures.text, subst (AppendsFront _ _ _ _) c.as_slice.ensures.value c.in-Err.ensures.err)

pub returns-in_err-text-clause-answer : goal.returns-in_err-text-clause-answer
returns-in_err-text-clause-answer g c =
    let r = err_from_is_err_and c.from_residual.result c.from_residual.ensures.1 in
    rw (r.1, r.2) c.in_err-text.ensures.answer
