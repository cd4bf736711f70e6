use Rattle.std.proofs.Common.{sym, ap, ◌∙◌}
use Rattle.req_table.specs.Words.{first_word}
use Rattle.req_table.specs.WordLaws.{first_word-back}
use Rattle.req_table.proofs.Key.first_word.Goals as goal

pub returns-clause-word : goal.returns-clause-word
returns-clause-word c =
    sym (first_word-back c.self.inside.first c.self.invariant.0) ∙ ap (λ k. first_word k.op k.f) c.self.view_is
