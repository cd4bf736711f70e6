use Rattle.std.proofs.Common.{◌≡◌, ◌<◌, length, sym, subst, Some}
use Rattle.std.specs.Prelude.{slice_get}
use Rattle.dd_store.specs.declared.reference.Reference.TheVariants.{False}
use Rattle.gate_plan.specs.Building.{reference_of}
use Rattle.compare_built.specs.declared.subject.Subject.{Subject}
use Rattle.compare_built.proofs.Subjects.{listed_more}
use Rattle.report_text.proofs.Wording.{there}
use Rattle.compare_built.proofs.compared_pairs.add_second.Goals as goal

pub loop-i-preserved : goal.loop-i-preserved
loop-i-preserved c =
    let lt : c.loop-i.i < length c.args.subjects.now = c.loop-i-test.true in
    let found : slice_get c.args.built.now.second c.index-subjects-i.result.second ≡ Some c.second.result = subst (λ (s : Subject). slice_get c.args.built.now.second s.second ≡ Some c.second.result) (sym c.index-subjects-i.is) c.second.ensures in
    listed_more (λ (s : Subject). reference_of c.args.built.now.second s.second) c.args.subjects.now c.loop-i.i c.index-subjects-i.result c.second.result c.loop-i.references.items _ _ lt (sym c.index-subjects-i.is)
    (sym (there c.args.built.now.second c.index-subjects-i.result.second c.second.result False found)) c.in_ok-push.ensures.items c.loop-i.invariant
