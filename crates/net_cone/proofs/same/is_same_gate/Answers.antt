use Rattle.std.proofs.Common.{◌≡◌, ◌∙◌, sym, rules}
use Rattle.net_cone.proofs.Unique.{gate_is}
use Rattle.net_cone.proofs.same.is_same_gate.Goals as goal

pub returns : goal.returns
returns c = λ same.
    let one = c.args.one.now in
    let other = c.args.other.now in
    let out : one.out ≡ other.out = search rules in
    let kind : one.kind ≡ other.kind = c.is_same_kind.ensures c.if-not-is_same_kind.false in
    let line : one.line ≡ other.line = search rules in
    let operands : one.operands ≡ other.operands = sym c.as_slice.ensures ∙ c.are_same_signals.ensures same ∙ c.as_slice-2.ensures in
    gate_is one other out kind operands line
