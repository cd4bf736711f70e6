use Rattle.std.proofs.Common.{refl, sym, ◌∙◌, ap}
use Rattle.std.proofs.lemmas.Bool.{ne_eqb}
use Rattle.req_table.specs.contracts.OperationPartialEq.TheImpl.{eq-value as operation_eq}
use Rattle.req_table.specs.Words.{operation_of}
use Rattle.req_table.specs.WordLaws.{first_differs}
use Rattle.req_table.proofs.KeyPartialEq.eq.Goals as goal

pub returns-else-self-other : goal.returns-else-self-other
returns-else-self-other c =
    let a = c.self.inside in
    let b = c.other.inside in
    ne_eqb a.first b.first c.if-self-other.false
    ∙ sym (first_differs a.first b.first a.second b.second _ c.self.invariant.0 c.other.invariant.0 refl c.if-self-other.false)
    ∙ ap (λ z. operation_eq.it z (operation_of b.first b.second)) c.self.view_is
    ∙ ap (operation_eq.it c.args.self.now) c.other.view_is
