use Rattle.std.proofs.Common.{rules, ◌≡◌, OnOk, Err, subst}
use Rattle.dd_store.specs.Nodes.{Nodes}
use Rattle.expand_work.specs.declared.fault.WaveFault.TheVariants.{NoWorker}
use Rattle.wave_engine.specs.Bounds.{AreAtMost}
use Rattle.wave_engine.proofs.workspace.Workspace.wave.Goals.{in-Err-NoWorker, in_default, in_default-2}
use Rattle.wave_engine.proofs.workspace.Workspace.wave.Goals as goal

pub returns-clause-within_bound : goal.returns-clause-within_bound
returns-clause-within_bound g c = λ bounded.
    let refused : c.attempt-result.result ≡ Err NoWorker = elim c.match-matches.branch [ in-Err-NoWorker w ↦ search rules | in_default w ↦ search rules | in_default-2 w ↦ search rules ] in
    let same = c.attempt-result.ensures.untouched refused in
    let at_most = c.attempt.ensures.within_bound bounded in
    subst (λ (z : Nodes). OnOk c.attempt.result (AreAtMost c.args.most z c.args.entries.now)) same at_most
