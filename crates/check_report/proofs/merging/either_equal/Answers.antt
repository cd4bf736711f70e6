use Rattle.std.proofs.Common.{◌∙◌, ◌≡◌, sym}
use Rattle.std.proofs.lemmas.Slice.Zip.{AllZip-long}
use Rattle.net_bench.specs.Circuit.{circuit}
use Rattle.compare_built.specs.Facts.{IsEqualInside}
use Rattle.cone_check.specs.ConeRounds.{IsEqualIf}
use Rattle.check_report.proofs.Flags.{either_flags}
use Rattle.check_report.proofs.merging.either_equal.Goals as goal

pub either-requires : goal.either-requires
either-requires g c =
    let task = c.args.task.now in
    let holds = IsEqualIf (circuit task.first.now) (circuit task.second.now) c.args.naming.now in
    AllZip-long holds c.args.facts.now.subjects.items c.args.other.now c.requires.other ∙ sym (AllZip-long holds c.args.facts.now.subjects.items c.args.one.now c.requires.one)

pub returns : goal.returns
returns g c =
    let task = c.args.task.now in
    either_flags (IsEqualInside (circuit task.first.now) (circuit task.second.now) c.args.naming.now) c.args.facts.now.subjects.items
    c.args.one.now c.args.other.now c.in_ok-flags.flags.items c.requires.one c.requires.other c.in_ok-flags.ensures.each c.in_ok-flags.ensures.flags
