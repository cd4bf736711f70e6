use Rattle.std.proofs.Common.{rules, sym, ◌∙◌}
use Rattle.dd_store.proofs.WordFacts.{near_words, far_words, long_words, refers}
use Rattle.dd_store.proofs.words.node_word.Goals as goal

pub returns-then-is_near-clause-word : goal.returns-then-is_near-clause-word
returns-then-is_near-clause-word c = (near_words c.args.id (sym c.is_near.ensures ∙ c.if-is_near.true)).word

pub returns-then-is_near-clause-within : goal.returns-then-is_near-clause-within
returns-then-is_near-clause-within c = (near_words c.args.id (sym c.is_near.ensures ∙ c.if-is_near.true)).within

pub returns-then-is_near-clause-node : goal.returns-then-is_near-clause-node
returns-then-is_near-clause-node c = refers c.args.id _ (near_words c.args.id (sym c.is_near.ensures ∙ c.if-is_near.true))

pub returns-then-is_far-clause-word : goal.returns-then-is_far-clause-word
returns-then-is_far-clause-word c = (far_words c.args.id (sym c.is_far.ensures ∙ c.if-is_far.true)).word

pub returns-then-is_far-clause-within : goal.returns-then-is_far-clause-within
returns-then-is_far-clause-within c = (far_words c.args.id (sym c.is_far.ensures ∙ c.if-is_far.true)).within

pub returns-then-is_far-clause-node : goal.returns-then-is_far-clause-node
returns-then-is_far-clause-node c = refers c.args.id _ (far_words c.args.id (sym c.is_far.ensures ∙ c.if-is_far.true))

pub returns-else-is_far-clause-word : goal.returns-else-is_far-clause-word
returns-else-is_far-clause-word c = (long_words c.args.id (search rules) (search rules) (search rules)
    (sym c.is_near.ensures ∙ c.if-is_near.false) (sym c.is_far.ensures ∙ c.if-is_far.false)).word

pub returns-else-is_far-clause-within : goal.returns-else-is_far-clause-within
returns-else-is_far-clause-within c = (long_words c.args.id (search rules) (search rules) (search rules)
    (sym c.is_near.ensures ∙ c.if-is_near.false) (sym c.is_far.ensures ∙ c.if-is_far.false)).within

pub returns-else-is_far-clause-node : goal.returns-else-is_far-clause-node
returns-else-is_far-clause-node c = refers c.args.id _ (long_words c.args.id (search rules) (search rules) (search rules)
    (sym c.is_near.ensures ∙ c.if-is_near.false) (sym c.is_far.ensures ∙ c.if-is_far.false))
