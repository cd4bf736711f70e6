use Rattle.std.proofs.Common.{◌≡◌, ◌∙◌, ◌+◌, ◌<◌, ◌++◌, ◌∷◌, [], ℕ, List, None, Option, ap, arith, get_or, inl, inr, length, length-append, subst, sym, take}
use Rattle.std.proofs.Math.Seq.{get_or-append_seam}
use Rattle.std.proofs.lemmas.Bool.{cases_eq}
use Rattle.std.proofs.lemmas.List.{get_or_append_left, get_or_default, length-take-le, take_all}
use Rattle.net_bench.specs.Circuit.{Circuit, circuit}
use Rattle.report_text.specs.declared.verdict.Verdict.{Verdict}
use Rattle.compare_built.specs.declared.subject.Subject.{Subject}
use Rattle.cone_check.specs.EqualCones.{verdict_for}
use Rattle.cone_check.proofs.equal_cones.verdicts_for.Goals as goal

-- one more pair takes a verdict
renamed_more : (a : Circuit) (ss : List Subject) (ns : List ℕ) (found old new : List (Option Verdict)) (k : ℕ) (s : Subject) (f o : Option Verdict) → length old ≡ k → k < length ss → s ≡ get_or ss k s →
    get_or ns k 0 < length found → f ≡ get_or found (get_or ns k 0) f → o ≡ verdict_for a s f → new ≡ old ++ o ∷ [] →
    ((i : ℕ) (t : Subject) → i < k → get_or old i None ≡ verdict_for a (get_or ss i t) (get_or found (get_or ns i 0) None)) →
    (i : ℕ) (t : Subject) → i < k + 1 → get_or new i None ≡ verdict_for a (get_or ss i t) (get_or found (get_or ns i 0) None)
renamed_more a ss ns found old new k s f o long low at inside found_at renamed grown made i t lt = elim (cases_eq i k) [
  | inl same ↦
      let here : get_or new k None ≡ o = ap (λ os. get_or os k None) grown ∙ ap (λ j. get_or (old ++ o ∷ []) j None) (sym long) ∙ get_or-append_seam old o [] None in
      let known : f ≡ get_or found (get_or ns k 0) None = found_at ∙ get_or_default found (get_or ns k 0) f None inside in
      subst (λ j. get_or new j None ≡ verdict_for a (get_or ss j t) (get_or found (get_or ns j 0) None)) (sym same)
      (here ∙ renamed ∙ ap (λ u. verdict_for a u f) (at ∙ get_or_default ss k s t low) ∙ ap (verdict_for a (get_or ss k t)) known)
  | inr other ↦
      let less : i < k = omega (arith, lt, other) in
      ap (λ os. get_or os i None) grown ∙ get_or_append_left old (o ∷ []) None i (omega (arith, less, long)) ∙ made i t less
]

pub loop-place-preserved : goal.loop-place-preserved
loop-place-preserved c =
    let ss = c.args.subjects.now in
    let ns = c.args.numbers.now in
    let found = c.args.found.now in
    let inv = c.loop-place.invariant in
    let place = c.loop-place.place in
    let old = c.loop-place.all.items in
    let new = c.push.new.self.items in
    let o = c.in_ok-one.one in
    let low : place < length ss = c.loop-place-test.true in
    let each = c.requires.one_for_each in
    let less : place < length ns = omega (arith, low, each) in
    let grown : new ≡ old ++ o ∷ [] = c.in_ok-push.ensures.items in
    let long : length old ≡ place = inv.each ∙ length-take-le place ss (omega (arith, low)) in
    let longer : length (take (place + 1) ss) ≡ place + 1 = length-take-le (place + 1) ss (omega (arith, low)) in
    let more : length (old ++ o ∷ []) ≡ length old + length (o ∷ []) = length-append old (o ∷ []) in
    let next : length (old ++ o ∷ []) ≡ length (take (place + 1) ss) = omega (arith, more, long, longer) in
    record {
      each = ap length grown ∙ next;
      made = renamed_more (circuit c.args.first.now) ss ns found old new place c.index-subjects-place.result c.index-found-number.result o long low c.index-subjects-place.is
          (c.requires.judged place 0 less) c.index-found-number.is c.in_ok-one.ensures grown inv.made;
    }

pub returns : goal.returns
returns c =
    let end = c.loop-place-test.false in
    let inv = c.loop-place.invariant in
    record {
      each = inv.each ∙ ap length (take_all c.loop-place.place c.args.subjects.now end);
      places = λ i s lt. inv.made i s (omega (arith, lt, end));
    }
