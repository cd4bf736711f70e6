use Rattle.dd_store.specs.Functions.{Agree, IsLeastDifference}
use Rattle.dd_store.specs.Nodes.{den}
use Rattle.compare_built.specs.Report.IsVerdictOf.{where_equal, where_different}
use Rattle.compare_built.proofs.Restricting.{least_everywhere}
use Rattle.compare_built.proofs.verdicts.verdict_of.Goals as goal

pub returns-in_ok-size-in-None : goal.returns-in_ok-size-in-None
returns-in_ok-size-in-None c =
    let S = c.args.store.now in
    let agree : Agree S.levels (den S c.args.of.now.first) (den S c.args.of.now.second) = rw c.in-None.is at c.in_ok-least_difference.ensures.least in
    rw c.in_ok-name.ensures (where_equal (λ x len h. agree x len) c.in_ok-size-in-None.ensures)

pub returns-in_ok-extras-in-Some : goal.returns-in_ok-extras-in-Some
returns-in_ok-extras-in-Some c =
    let S = c.args.store.now in
    let least : IsLeastDifference S.levels (den S c.args.of.now.first) (den S c.args.of.now.second) c.in-Some.bits.items = rw c.in-Some.is at c.in_ok-least_difference.ensures.least in
    rw (c.in_ok-name.ensures, c.of.ensures, c.value-first.ensures.value, c.value-second.ensures.value, c.as_slice.ensures.value, c.as_slice-in-Some.ensures.value)
    (where_different (least_everywhere S.levels (den S c.args.of.now.first) (den S c.args.of.now.second) c.in-Some.bits.items least) c.in_ok-extras-in-Some.ensures)
