use Rattle.std.proofs.Common.{◌≡◌, arith}
use Rattle.req_table.specs.Keys.{wave_at}
use Rattle.wave_core.specs.MachineView.{state_of}
use Rattle.wave_core.specs.Counting.{noted}
use Rattle.wave_core.proofs.Cores.{start_keeps}
use Rattle.wave_core.proofs.Counted.{starts_at_none}
use Rattle.wave_core.proofs.waves.Core.new.Goals as goal

pub invariant_of-result : goal.invariant_of-result
invariant_of-result c = start_keeps c.args.store.now c.in_ok-machine.machine c.args.roots.now c.args.workers c.levels.ensures.sound c.requires.some c.requires.roots c.in_ok-machine.ensures

pub returns-clause-counts : goal.returns-clause-counts
returns-clause-counts c =
    let m = c.in_ok-machine.machine in
    let s = c.args.store.now in
    let none = starts_at_none (wave_at s s.levels c.args.workers) c.args.roots.now (state_of m) c.in_ok-machine.ensures.2 in
    let same : noted m.workers m.levels (state_of m) ≡ noted c.args.workers s.levels (state_of m) = (λ i. noted (c.in_ok-machine.ensures.0 i) (c.in_ok-machine.ensures.1 i) (state_of m)) in
    omega (arith, none, same)
