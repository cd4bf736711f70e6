use Rattle.std.proofs.Common.{◌∙◌, ap}
use Rattle.req_table.specs.contracts.OperationPartialEq.TheImpl.{eq-value as operation_eq}
use Rattle.req_table.specs.Short.{short_of}
use Rattle.req_table.specs.ShortLaws.{same_short}
use Rattle.req_table.proofs.short_key.ShortKeyPartialEq.eq.Goals as goal

pub returns : goal.returns
returns c =
    same_short c.self.inside.word c.other.inside.word c.self.invariant.0 c.other.invariant.0
    ∙ ap (λ z. operation_eq.it z (short_of c.other.inside.word)) c.self.view_is
    ∙ ap (operation_eq.it c.args.self.now) c.other.view_is
