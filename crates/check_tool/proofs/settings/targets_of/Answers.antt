use Rattle.std.proofs.Common.{◌≡◌, ◌+◌, ◌∷◌, [], ◌++◌, ℕ, List, Bor, get_or, sym, subst, take}
use Rattle.std.proofs.lemmas.List.{take_more}
use Rattle.report_text.specs.declared.cause.PairName.{PairName}
use Rattle.compare_built.proofs.Adding.{zip_push}
use Rattle.check_tool.specs.Running.{AreTargetsOf, IsKindAndName}
use Rattle.check_tool.proofs.settings.targets_of.Goals as goal

pub loop-word-preserved : goal.loop-word-preserved
loop-word-preserved c =
    let words = c.args.words.now in
    let i : ℕ = c.loop-word.word-index in
    let none : Bor (List ℕ) = record { ref_ptr = (0, 0); now = [] } in
    let w : Bor (List ℕ) = get_or words i none in
    let e : take (i + 1) words ≡ take i words ++ w ∷ [] = take_more words i none c.loop-word-test.true in
    subst (λ ws. AreTargetsOf ws c.push.new.self.items) (sym e)
    (subst (AreTargetsOf (take i words ++ w ∷ [])) (sym c.in_ok-push.ensures.items)
    (zip_push (λ (v : Bor (List ℕ)) (t : PairName). IsKindAndName v.now t.role t.name) (take i words) c.loop-word.targets.items w _ c.loop-word.invariant c.in_ok-target_of.ensures))
