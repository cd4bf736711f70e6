use Rattle.std.proofs.Common.{Err, IsTrue, Some, [], ap, false, inl, refl, rules, subst, sym}
use Rattle.std.proofs.lemmas.Result.{err_from_is_err_and}
use Rattle.check_tool.specs.Opening.{Extends, HasFailedAt, opened}
use Rattle.check_tool.specs.Running.{text_paths}
use Rattle.check_tool.proofs.Comparing.{failed, ran, unread}
use Rattle.check_tool.proofs.Composing.{extends_none, input_texts, split_none, split_parts, undivided}
use Rattle.check_tool.proofs.Failing.{never}
use Rattle.check_tool.proofs.run.by_input.Goals as goal

pub returns-in_err-text-clause-fault : goal.returns-in_err-text-clause-fault
returns-in_err-text-clause-fault g c =
    let r = err_from_is_err_and c.from_residual.result c.from_residual.ensures.1 in
    rw (r.1, r.2) (inl (unread _ _ _ _ _ _ c.requires.texts _ c.in_err-text.ensures.fault (λ e. c.in_err-text.ensures.read (ap Err e))))

pub returns-in_default-clause-fault : goal.returns-in_default-clause-fault
returns-in_default-clause-fault g c = inl (record {
  made = [];
  extended = extends_none (g.F.Folder.tries c.args.folder.now);
  cause = (c.requires.texts, refl, undivided (g.R.Source.remaining c.args.input.now) c.in_ok-text.text.items c.in_ok-text.ensures.text c.in_ok-text.ensures.short (split_none c.as_slice.result.now c.in_ok-text.text.items (search rules) c.in_default.ensures));
  unchecked = λ check e. cc;
  read = λ e. cc;
})

pub returns-clause-report : goal.returns-clause-report
returns-clause-report g c =
    let o = c.args.run.now.options.now in
    let input = g.R.Source.remaining c.args.input.now in
    let bytes_at = g.F.Folder.bytes_at c.args.folder.now in
    let tries = g.F.Folder.tries c.args.folder.now in
    let text = c.in_ok-text.text.items in
    let texts = input_texts bytes_at input o c.requires.texts text c.in-Some.one.now c.in-Some.two.now (Some c.new-first.result) (Some c.new-second.result) (search rules) (search rules) c.in_ok-text.ensures.text c.in_ok-text.ensures.short
    (split_parts _ _ c.split_input.result c.in-Some.one c.in-Some.two (search rules) (search rules) c.split_input.ensures) in
    ran bytes_at input o bytes_at refl _ _ texts tries tries _ (subst (λ t. Extends tries tries (opened (text_paths t))) (sym c.requires.texts) (extends_none tries)) _ c.compare.result c.compare.ensures.report

pub returns-clause-fault : goal.returns-clause-fault
returns-clause-fault g c =
    let o = c.args.run.now.options.now in
    let broken = HasFailedAt g.F.File.Source.origin g.F.File.Source.has_failed in
    let input = g.R.Source.remaining c.args.input.now in
    let bytes_at = g.F.Folder.bytes_at c.args.folder.now in
    let tries = g.F.Folder.tries c.args.folder.now in
    let text = c.in_ok-text.text.items in
    let texts = input_texts bytes_at input o c.requires.texts text c.in-Some.one.now c.in-Some.two.now (Some c.new-first.result) (Some c.new-second.result) (search rules) (search rules) c.in_ok-text.ensures.text c.in_ok-text.ensures.short
    (split_parts _ _ c.split_input.result c.in-Some.one c.in-Some.two (search rules) (search rules) c.split_input.ensures) in
    failed bytes_at input o bytes_at refl _ _ texts tries tries _ (subst (λ t. Extends tries tries (opened (text_paths t))) (sym c.requires.texts) (extends_none tries)) _ broken _ (IsTrue false) (IsTrue false) (never _) (never _) c.compare.result c.compare.ensures.fault
