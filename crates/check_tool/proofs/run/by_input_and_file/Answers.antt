use Rattle.std.proofs.Common.{IsTrue, ap, inl}
use Rattle.std.proofs.lemmas.Result.{err_from_is_err_and}
use Rattle.command_line.specs.declared.options.Texts.TheVariants.{InputAndFile}
use Rattle.check_tool.specs.declared.fault.FileRole.TheVariants.{Second}
use Rattle.check_tool.specs.Opening.{HasFailedAt}
use Rattle.check_tool.specs.Running.{text_paths}
use Rattle.check_tool.proofs.Comparing.{failed, ran, failed_before_check}
use Rattle.check_tool.proofs.Composing.{input_and_file, one_opened, second_unopened_beside}
use Rattle.check_tool.proofs.Failing.{failed_at, first_failed, second_failed}
use Rattle.check_tool.proofs.run.by_input_and_file.Goals as goal

pub returns-in_err-file-clause-fault : goal.returns-in_err-file-clause-fault
returns-in_err-file-clause-fault g c =
    let o = c.args.run.now.options.now in
    let broken = HasFailedAt g.F.File.Source.origin g.F.File.Source.has_failed in
    let input_broken = IsTrue (g.R.Source.has_failed c.args.input.now) in
    let input = g.R.Source.remaining c.args.input.now in
    let is = c.in_err-file.ensures in
    let r = err_from_is_err_and c.from_residual.result c.from_residual.ensures.1 in
    rw (r.1, r.2) (inl (failed_before_check _ broken input_broken input o _ _ Second _ is.fault (second_unopened_beside o c.args.path c.requires.texts _ broken input_broken input _ _ _ is.fault is.tried)))

pub returns-clause-report : goal.returns-clause-report
returns-clause-report g c =
    let o = c.args.run.now.options.now in
    let input = g.R.Source.remaining c.args.input.now in
    let is = c.in_ok-file.ensures in
    ran _ input o _ is.files_unchanged _ _ (input_and_file _ input o c.args.path c.requires.texts _ is.file) _ _ _ (one_opened o c.args.path.now (ap text_paths c.requires.texts) _ _ is.tried) _ c.compare.result c.compare.ensures.report

pub returns-clause-fault : goal.returns-clause-fault
returns-clause-fault g c =
    let o = c.args.run.now.options.now in
    let origin = g.F.File.Source.origin in
    let has_failed = g.F.File.Source.has_failed in
    let broken = HasFailedAt origin has_failed in
    let input = g.R.Source.remaining c.args.input.now in
    let is = c.in_ok-file.ensures in
    let input_broken = IsTrue (g.R.Source.has_failed c.compare.new.first) in
    let texts = InputAndFile c.args.path in
    failed _ input o _ is.files_unchanged _ _ (input_and_file _ input o c.args.path c.requires.texts _ is.file) _ _ _ (one_opened o c.args.path.now (ap text_paths c.requires.texts) _ _ is.tried) _ broken input_broken
    (IsTrue (g.R.Source.has_failed c.compare.new.first)) (IsTrue (has_failed c.compare.new.second))
    (first_failed broken input_broken o.texts texts c.requires.texts)
    (λ x. second_failed broken input_broken o.texts texts c.requires.texts (failed_at origin has_failed c.args.path.now _ c.compare.new.second is.named c.compare.ensures.origins.1 x))
    c.compare.result c.compare.ensures.fault
