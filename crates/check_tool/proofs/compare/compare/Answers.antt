use Rattle.std.proofs.Common.{IsTrue, IfOk, IfErr, inl, inr, None, Some, false, subst}
use Rattle.std.proofs.lemmas.Result.{err_from_is_err_and}
use Rattle.compare_built.specs.Devices.{HasFailedIn, device_text, device_texts}
use Rattle.check_tool.specs.Comparing.{IsChecked, IsUnchecked}
use Rattle.check_tool.specs.Ending.{written}
use Rattle.check_tool.specs.Opening.{HasFailedAt}
use Rattle.check_tool.specs.Running.{bound_of}
use Rattle.check_tool.proofs.Comparing.{compared, of_fault, of_texts, ready_none, ready_some, some_read, uncompared}
use Rattle.check_tool.proofs.Composing.{read_itself}
use Rattle.check_tool.proofs.Failing.{given_failed, never}
use Rattle.check_tool.proofs.compare.compare.Goals as goal

pub returns-in_err-given-clause-fault : goal.returns-in_err-given-clause-fault
returns-in_err-given-clause-fault g c =
    let r = err_from_is_err_and c.from_residual.result c.from_residual.ensures.1 in
    rw (r.1, r.2) (inl c.in_err-given.ensures.fault)

-- ---- no pairs: the devices themselves are compared

pub returns-in_default-clause-report : goal.returns-in_default-clause-report
returns-in_default-clause-report g c =
    let prepared = c.in_ok-given.field-0 in
    let given = device_text g.F.File.Source.remaining prepared.given in
    let ready = ready_none (g.F.Folder.bytes_at c.args.folder.now) c.args.run.now.options.now (g.F.Folder.tries c.args.folder.now) (g.F.Folder.tries c.ready.new.folder) given prepared.pairs prepared.settings c.in_default.is c.in_ok-given.ensures.ready in
    of_texts _ _ _ _ _ (read_itself _) (read_itself _) c.check_or_print.result
    (compared _ _ _ c.args.run.now.options.now _ _ _ None prepared.settings ready _ tt c.check_or_print.result c.check_or_print.ensures.report)

pub returns-in_default-clause-fault : goal.returns-in_default-clause-fault
returns-in_default-clause-fault g c =
    let origin = g.F.File.Source.origin in
    let has_failed = g.F.File.Source.has_failed in
    let prepared = c.in_ok-given.field-0 in
    let given = device_text g.F.File.Source.remaining prepared.given in
    let ready = ready_none (g.F.Folder.bytes_at c.args.folder.now) c.args.run.now.options.now (g.F.Folder.tries c.args.folder.now) (g.F.Folder.tries c.ready.new.folder) given prepared.pairs prepared.settings c.in_default.is c.in_ok-given.ensures.ready in
    of_fault _ _ _ _ _ _ _ (read_itself _) (read_itself _) c.check_or_print.result
    (uncompared _ _ _ c.args.run.now.options.now _ _ _ None prepared.settings ready _ (HasFailedAt origin has_failed) (IsTrue (g.R1.Source.has_failed c.check_or_print.new.first)) (IsTrue (g.R2.Source.has_failed c.check_or_print.new.second)) (HasFailedIn has_failed c.check_or_print.new.given)
    _ _ tt (λ x. x) (λ x. x)
    (given_failed origin has_failed c.args.run.now.options.now.given prepared.given c.check_or_print.new.given c.in_ok-given.ensures.named c.check_or_print.ensures.origins.2) c.check_or_print.result c.check_or_print.ensures.fault)

-- ---- pairs: texts in memory are compared, the second one with the first netlist's names

pub returns-clause-report : goal.returns-clause-report
returns-clause-report g c =
    let o = c.args.run.now.options.now in
    let prepared = c.in_ok-given.field-0 in
    let given = device_text g.F.File.Source.remaining prepared.given in
    let pairs = c.as_slice.result.now in
    let ready = ready_some (g.F.Folder.bytes_at c.args.folder.now) o (g.F.Folder.tries c.args.folder.now) (g.F.Folder.tries c.ready.new.folder) given prepared.pairs c.in-Some.pairs pairs prepared.settings c.in-Some.is c.as_slice.ensures.value c.in_ok-given.ensures.ready in
    let n = c.in_ok-texts.ensures.named in
    let w = written g.W.Sink.contents g.W.Sink.has_failed g.W.Sink.has_stopped c.args.out.now c.check_or_print_named.new.out in
    let report = subst (λ t. IfOk c.check_or_print_named.result (IsChecked (device_texts (Some c.in_ok-texts.texts.first.items) (Some t) given) prepared.settings (bound_of o) o.print_order w)) n.renamed c.check_or_print_named.ensures.report in
    of_texts _ _ (Some c.in_ok-texts.texts.first.items) (Some n.two) _ (some_read _ _ c.in_ok-texts.ensures.first) (some_read _ _ n.read) c.check_or_print_named.result
    (compared _ _ _ o _ _ given (Some pairs) prepared.settings ready w n.paired c.check_or_print_named.result report)

pub returns-clause-fault : goal.returns-clause-fault
returns-clause-fault g c =
    let o = c.args.run.now.options.now in
    let origin = g.F.File.Source.origin in
    let has_failed = g.F.File.Source.has_failed in
    let prepared = c.in_ok-given.field-0 in
    let given = device_text g.F.File.Source.remaining prepared.given in
    let pairs = c.as_slice.result.now in
    let ready = ready_some (g.F.Folder.bytes_at c.args.folder.now) o (g.F.Folder.tries c.args.folder.now) (g.F.Folder.tries c.ready.new.folder) given prepared.pairs c.in-Some.pairs pairs prepared.settings c.in-Some.is c.as_slice.ensures.value c.in_ok-given.ensures.ready in
    let n = c.in_ok-texts.ensures.named in
    let w = written g.W.Sink.contents g.W.Sink.has_failed g.W.Sink.has_stopped c.args.out.now c.check_or_print_named.new.out in
    let condition = HasFailedIn has_failed c.check_or_print_named.new.given in
    let fault = subst (λ t. IfErr c.check_or_print_named.result (IsUnchecked (device_texts (Some c.in_ok-texts.texts.first.items) (Some t) given) prepared.settings (bound_of o) o.print_order (IsTrue false) (IsTrue false) condition w)) n.renamed c.check_or_print_named.ensures.fault in
    of_fault _ _ (Some c.in_ok-texts.texts.first.items) (Some n.two) _ _ _ (some_read _ _ c.in_ok-texts.ensures.first) (some_read _ _ n.read) c.check_or_print_named.result
    (uncompared _ _ _ o _ _ given (Some pairs) prepared.settings ready w (HasFailedAt origin has_failed) (IsTrue false) (IsTrue false) condition
    (IsTrue (g.R1.Source.has_failed c.named_texts.new.first)) (IsTrue (g.R2.Source.has_failed c.named_texts.new.second)) n.paired (λ x. never _ x) (λ x. never _ x)
    (given_failed origin has_failed o.given prepared.given c.check_or_print_named.new.given c.in_ok-given.ensures.named c.check_or_print_named.ensures.origin) c.check_or_print_named.result fault)

-- a text is not one of a netlist, or the pairs are not pairs of both netlists
pub returns-in_err-texts-clause-fault : goal.returns-in_err-texts-clause-fault
returns-in_err-texts-clause-fault g c =
    let r = err_from_is_err_and c.from_residual-in_err-texts.result c.from_residual-in_err-texts.ensures.1 in
    let prepared = c.in_ok-given.field-0 in
    let given = device_text g.F.File.Source.remaining prepared.given in
    let pairs = c.as_slice.result.now in
    let ready = ready_some (g.F.Folder.bytes_at c.args.folder.now) c.args.run.now.options.now (g.F.Folder.tries c.args.folder.now) (g.F.Folder.tries c.ready.new.folder) given prepared.pairs c.in-Some.pairs pairs prepared.settings c.in-Some.is c.as_slice.ensures.value c.in_ok-given.ensures.ready in
    rw (r.1, r.2) (inr (g.R1.Source.remaining c.args.first.now, g.R2.Source.remaining c.args.second.now, read_itself _, read_itself _, inl (record { given = given; pairs = pairs; settings = prepared.settings; ready = ready; cause = c.in_err-texts.ensures.fault })))
