use Rattle.std.proofs.Common.{[], inl, refl}
use Rattle.check_tool.proofs.Composing.{extends_none}
use Rattle.check_tool.proofs.run.run_by.Goals as goal

pub returns-in-One-clause-fault : goal.returns-in-One-clause-fault
returns-in-One-clause-fault g c = inl (record { made = []; extended = extends_none (g.F.Folder.tries c.args.folder.now); cause = (c.in-One.is, refl); unchecked = λ check e. cc; read = λ e. cc })

pub returns-in-InputTwice-clause-fault : goal.returns-in-InputTwice-clause-fault
returns-in-InputTwice-clause-fault g c = inl (record { made = []; extended = extends_none (g.F.Folder.tries c.args.folder.now); cause = (c.in-InputTwice.is, refl); unchecked = λ check e. cc; read = λ e. cc })

pub returns-in-Files-clause-report : goal.returns-in-Files-clause-report
returns-in-Files-clause-report g c = c.by_files.ensures.report (g.R.Source.remaining c.args.input.now)

pub returns-in-Files-clause-fault : goal.returns-in-Files-clause-fault
returns-in-Files-clause-fault g c = c.by_files.ensures.fault (g.R.Source.remaining c.args.input.now) (g.R.Source.has_failed c.args.input.now)
