use Rattle.std.proofs.Common.{◌≡◌, ◌∙◌, ◌<◌, List, Option, Some, None, true, false, ap, get_or, inr, length, refl, subst, sym}
use Rattle.std.specs.Prelude.{is_some}
use Rattle.std.proofs.lemmas.List.{get_or_default}
use Rattle.report_text.specs.declared.verdict.Verdict.{Verdict}
use Rattle.compare_built.specs.declared.subject.Subject.{Subject}
use Rattle.cone_check.specs.ConeRounds.{IsInContext}
use Rattle.cone_check.specs.EqualCones.{HaveSameCones}
use Rattle.cone_check.proofs.equal_cones.number_for.Goals as goal

-- there is no verdict
none_if : (o : Option Verdict) → is_some o ≡ false → o ≡ None
none_if (Some v) is = absurd (let never : true ≡ false = is in cc)
none_if None is = refl

pub have_same_cones-requires-clause-one_in_range : goal.have_same_cones-requires-clause-one_in_range
have_same_cones-requires-clause-one_in_range g c =
    let number = c.in-Some.number in
    let one = c.index-judged-number.result in
    subst (IsInContext c.args.context.now) (sym (c.index-judged-number.is ∙ ap (λ (xs : List Subject). get_or xs number one) c.as_slice-judged.ensures.value))
    (c.requires.judged_in_range number one c.in-Some.ensures.judged)

pub returns-then-same : goal.returns-then-same
returns-then-same g c =
    let w = c.args.context.now in
    let judged : List Subject = c.args.distinct.now.subjects.items in
    let number = c.in-Some.number in
    let one = c.index-judged-number.result in
    let low : number < length judged = c.in-Some.ensures.judged in
    let less : number < length c.as_slice-judged.result.now = subst (λ (xs : List Subject). number < length xs) (sym c.as_slice-judged.ensures.value) low in
    record {
      unknown = none_if c.args.known.now (sym c.is_some.ensures ∙ c.if-is_some.false);
      judged_unknown = none_if (get_or c.args.distinct.now.known.items number None) c.in-Some.ensures.unknown;
      numbered = (
        low,
        λ t.
            let at : one ≡ get_or judged number t =
            c.index-judged-number.is ∙ get_or_default c.as_slice-judged.result.now number one t less ∙ ap (λ (xs : List Subject). get_or xs number t) c.as_slice-judged.ensures.value in
            inr (subst (λ u. HaveSameCones w u c.args.subject.now) at (c.in_ok-same.ensures c.if-same.true)),
      );
    }
