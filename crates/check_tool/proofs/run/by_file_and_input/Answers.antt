use Rattle.std.proofs.Common.{IsTrue, ap, inl}
use Rattle.std.proofs.lemmas.Result.{err_from_is_err_and}
use Rattle.command_line.specs.declared.options.Texts.TheVariants.{FileAndInput}
use Rattle.check_tool.specs.declared.fault.FileRole.TheVariants.{First}
use Rattle.check_tool.specs.Opening.{HasFailedAt}
use Rattle.check_tool.specs.Running.{first_paths, text_paths}
use Rattle.check_tool.proofs.Comparing.{failed, ran, failed_before_check}
use Rattle.check_tool.proofs.Composing.{file_and_input, first_unopened, one_opened}
use Rattle.check_tool.proofs.Failing.{failed_at, first_failed, second_failed}
use Rattle.check_tool.proofs.run.by_file_and_input.Goals as goal

pub returns-in_err-file-clause-fault : goal.returns-in_err-file-clause-fault
returns-in_err-file-clause-fault g c =
    let o = c.args.run.now.options.now in
    let broken = HasFailedAt g.F.File.Source.origin g.F.File.Source.has_failed in
    let input_broken = IsTrue (g.R.Source.has_failed c.args.input.now) in
    let input = g.R.Source.remaining c.args.input.now in
    let is = c.in_err-file.ensures in
    let r = err_from_is_err_and c.from_residual.result c.from_residual.ensures.1 in
    rw (r.1, r.2) (inl (failed_before_check _ broken input_broken input o _ _ First _ is.fault (first_unopened o c.args.path.now (ap first_paths c.requires.texts) _ broken input_broken input _ _ _ is.fault is.tried)))

pub returns-clause-report : goal.returns-clause-report
returns-clause-report g c =
    let o = c.args.run.now.options.now in
    let input = g.R.Source.remaining c.args.input.now in
    let is = c.in_ok-file.ensures in
    ran _ input o _ is.files_unchanged _ _ (file_and_input _ input o c.args.path c.requires.texts _ is.file) _ _ _ (one_opened o c.args.path.now (ap text_paths c.requires.texts) _ _ is.tried) _ c.compare.result c.compare.ensures.report

pub returns-clause-fault : goal.returns-clause-fault
returns-clause-fault g c =
    let o = c.args.run.now.options.now in
    let origin = g.F.File.Source.origin in
    let has_failed = g.F.File.Source.has_failed in
    let broken = HasFailedAt origin has_failed in
    let input = g.R.Source.remaining c.args.input.now in
    let is = c.in_ok-file.ensures in
    let input_broken = IsTrue (g.R.Source.has_failed c.compare.new.second) in
    let texts = FileAndInput c.args.path in
    failed _ input o _ is.files_unchanged _ _ (file_and_input _ input o c.args.path c.requires.texts _ is.file) _ _ _ (one_opened o c.args.path.now (ap text_paths c.requires.texts) _ _ is.tried) _ broken input_broken
    (IsTrue (has_failed c.compare.new.first)) (IsTrue (g.R.Source.has_failed c.compare.new.second))
    (λ x. first_failed broken input_broken o.texts texts c.requires.texts (failed_at origin has_failed c.args.path.now _ c.compare.new.first is.named c.compare.ensures.origins.0 x))
    (second_failed broken input_broken o.texts texts c.requires.texts)
    c.compare.result c.compare.ensures.fault
