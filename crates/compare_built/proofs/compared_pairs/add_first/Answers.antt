use Rattle.std.proofs.Common.{◌≡◌, ◌<◌, length, sym, subst, Some}
use Rattle.std.specs.Prelude.{slice_get}
use Rattle.dd_store.specs.declared.reference.Reference.TheVariants.{False}
use Rattle.gate_plan.specs.Building.{reference_of}
use Rattle.compare_built.specs.declared.subject.Subject.{Subject}
use Rattle.compare_built.proofs.Subjects.{listed_more}
use Rattle.report_text.proofs.Wording.{there}
use Rattle.compare_built.proofs.compared_pairs.add_first.Goals as goal

pub loop-i-preserved : goal.loop-i-preserved
loop-i-preserved c =
    let lt : c.loop-i.i < length c.args.subjects.now = c.loop-i-test.true in
    let found : slice_get c.args.built.now.first c.index-subjects-i.result.first ≡ Some c.first.result = subst (λ (s : Subject). slice_get c.args.built.now.first s.first ≡ Some c.first.result) (sym c.index-subjects-i.is) c.first.ensures in
    listed_more (λ (s : Subject). reference_of c.args.built.now.first s.first) c.args.subjects.now c.loop-i.i c.index-subjects-i.result c.first.result c.loop-i.references.items _ _ lt (sym c.index-subjects-i.is)
    (sym (there c.args.built.now.first c.index-subjects-i.result.first c.first.result False found)) c.in_ok-push.ensures.items c.loop-i.invariant
