use Rattle.std.proofs.Common.{◌∙◌, IsTrue, ap, inl}
use Rattle.std.proofs.lemmas.Result.{err_from_is_err_and}
use Rattle.command_line.specs.declared.options.Texts.TheVariants.{Files}
use Rattle.check_tool.specs.declared.fault.FileRole.TheVariants.{First, Second}
use Rattle.check_tool.specs.Opening.{HasFailedAt}
use Rattle.check_tool.specs.Running.{first_paths}
use Rattle.check_tool.proofs.Comparing.{failed, ran, failed_before_check}
use Rattle.check_tool.proofs.Composing.{both_opened, files_texts, first_unopened, second_unopened}
use Rattle.check_tool.proofs.Failing.{failed_at, first_failed, second_failed}
use Rattle.check_tool.proofs.run.by_files.Goals as goal

pub returns-in_err-first-clause-fault : goal.returns-in_err-first-clause-fault
returns-in_err-first-clause-fault g c = λ input input_failed.
    let input_broken = IsTrue input_failed in
    let o = c.args.run.now.options.now in
    let broken = HasFailedAt g.F.File.Source.origin g.F.File.Source.has_failed in
    let is = c.in_err-first.ensures in
    let r = err_from_is_err_and c.from_residual.result c.from_residual.ensures.1 in
    rw (r.1, r.2) (inl (failed_before_check _ broken input_broken input o _ _ First _ is.fault (first_unopened o c.args.first.now (ap first_paths c.requires.texts) _ broken input_broken input _ _ _ is.fault is.tried)))

pub returns-in_err-second-clause-fault : goal.returns-in_err-second-clause-fault
returns-in_err-second-clause-fault g c = λ input input_failed.
    let input_broken = IsTrue input_failed in
    let o = c.args.run.now.options.now in
    let broken = HasFailedAt g.F.File.Source.origin g.F.File.Source.has_failed in
    let is = c.in_err-second.ensures in
    let r = err_from_is_err_and c.from_residual-in_err-second.result c.from_residual-in_err-second.ensures.1 in
    rw (r.1, r.2) (inl (failed_before_check _ broken input_broken input o _ _ Second _ is.fault (second_unopened o c.args.first c.args.second c.requires.texts _ broken input_broken input _ _ _ _ is.fault c.in_ok-first.ensures.tried is.tried)))

pub returns-clause-report : goal.returns-clause-report
returns-clause-report g c = λ input.
    let o = c.args.run.now.options.now in
    let one = c.in_ok-first.ensures in
    let two = c.in_ok-second.ensures in
    ran _ input o _ (two.files_unchanged ∙ one.files_unchanged) _ _ (files_texts _ _ one.files_unchanged input o c.args.first c.args.second c.requires.texts _ _ one.file two.file) _ _ _ (both_opened o c.args.first c.args.second c.requires.texts _ _ _ one.tried two.tried) _ c.compare.result c.compare.ensures.report

pub returns-clause-fault : goal.returns-clause-fault
returns-clause-fault g c = λ input input_failed.
    let input_broken = IsTrue input_failed in
    let o = c.args.run.now.options.now in
    let origin = g.F.File.Source.origin in
    let has_failed = g.F.File.Source.has_failed in
    let broken = HasFailedAt origin has_failed in
    let texts = Files c.args.first c.args.second in
    let one = c.in_ok-first.ensures in
    let two = c.in_ok-second.ensures in
    failed _ input o _ (two.files_unchanged ∙ one.files_unchanged) _ _ (files_texts _ _ one.files_unchanged input o c.args.first c.args.second c.requires.texts _ _ one.file two.file) _ _ _ (both_opened o c.args.first c.args.second c.requires.texts _ _ _ one.tried two.tried) _ broken input_broken
    (IsTrue (has_failed c.compare.new.first)) (IsTrue (has_failed c.compare.new.second))
    (λ x. first_failed broken input_broken o.texts texts c.requires.texts (failed_at origin has_failed c.args.first.now _ c.compare.new.first one.named c.compare.ensures.origins.0 x))
    (λ x. second_failed broken input_broken o.texts texts c.requires.texts (failed_at origin has_failed c.args.second.now _ c.compare.new.second two.named c.compare.ensures.origins.1 x))
    c.compare.result c.compare.ensures.fault
