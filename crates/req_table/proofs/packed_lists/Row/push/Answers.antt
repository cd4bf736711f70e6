use Rattle.std.proofs.Common.{ℕ, List, sym, subst}
use Rattle.std.proofs.lemmas.List.Elements.{All-push}
use Rattle.req_table.specs.WordLists.{pairs_in, IsPair, AreChildren}
use Rattle.req_table.proofs.packed_lists.Row.push.Goals as goal

pub invariant_of-self : goal.invariant_of-self
invariant_of-self c = subst (λ (z : List (ℕ × ℕ)). AreChildren z) (sym c.in_err-push.ensures.refused) c.self.invariant

pub invariant_of-self-2 : goal.invariant_of-self-2
invariant_of-self-2 c =
    subst (λ (z : List (ℕ × ℕ)). AreChildren z) (sym c.in_ok-push.ensures.done)
    (All-push IsPair (pairs_in c.self.inside.pairs) (c.word.result, c.word-2.result) c.self.invariant
    (c.word.ensures.within, c.word-2.ensures.within))
