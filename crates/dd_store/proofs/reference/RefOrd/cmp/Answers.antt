use Rattle.std.proofs.Common.{rules, ◌∙◌, ap}
use Rattle.dd_store.specs.Order.{ref_cmp}
use Rattle.dd_store.specs.Words.{reference_of}
use Rattle.dd_store.proofs.WordOrder.{same_order}
use Rattle.dd_store.proofs.reference.RefOrd.cmp.Goals as goal

pub returns-then-other-lt-LONG : goal.returns-then-other-lt-LONG
returns-then-other-lt-LONG c =
    let a = c.self.inside.word in
    let b = c.other.inside.word in
    c.cmp.ensures ∙ same_order a b c.self.invariant c.other.invariant (search rules) (search rules)
    ∙ ap (λ z. ref_cmp z (reference_of b)) c.self.view_is ∙ ap (ref_cmp c.args.self.now) c.other.view_is
