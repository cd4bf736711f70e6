use Rattle.std.proofs.Common.{◌∙◌, subst, sym}
use Rattle.dd_store.specs.Complements.{is_complement}
use Rattle.counter_walk.specs.Lines.{IsDiffPairOf}
use Rattle.counter_walk.proofs.Pairing.{pair_of_same, pair_of_opposite, pair_of_complemented, pair_of_swapped}
use Rattle.counter_walk.proofs.least.normal.Goals as goal

pub returns-then-same : goal.returns-then-same
returns-then-same c = λ S w hf hg. pair_of_same S w c.args.f c.args.g hf hg (c.same.ensures.references.0 c.if-same.true)

pub returns-then-same-2 : goal.returns-then-same-2
returns-then-same-2 c = λ S w hf hg. pair_of_opposite S w c.args.f c.args.g hf hg (c.same-2.ensures.references.0 c.if-same-2.true ∙ c.negate.ensures.value)

pub returns-then-lt : goal.returns-then-lt
returns-then-lt c = λ S w hf hg.
    pair_of_swapped S c.args.f c.args.g c.with_regular_first.result
    (subst (IsDiffPairOf S c.args.g c.args.f) (sym c.with_regular_first.ensures) (pair_of_complemented S c.args.g c.args.f (is_complement c.args.g) hg hf))

pub returns : goal.returns
returns c = λ S w hf hg. subst (IsDiffPairOf S c.args.f c.args.g) (sym c.with_regular_first-2.ensures) (pair_of_complemented S c.args.f c.args.g (is_complement c.args.f) hf hg)
