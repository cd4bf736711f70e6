use Rattle.std.proofs.Common.{◌<◌, ◌++◌, length, ap, sym, ◌∙◌, append-nil, arith}
use Rattle.report_text.proofs.Wording.{moved}
use Rattle.report_text.proofs.Bundling.{bit_next}
use Rattle.report_text.proofs.buses.places_of.Goals as goal

pub returns-in_default : goal.returns-in_default
returns-in_default c =
    let lt : c.loop-bit.bit < length c.args.names.now = omega arith in
    let none = bit_next c.args.names.now c.args.base.now c.loop-bit.bit c.as_slice.result.now _ lt (c.as_slice.ensures.value ∙ c.in_ok-name.ensures) c.in_default.ensures in
    sym (append-nil c.loop-bit.places.items) ∙ ap (λ z. c.loop-bit.places.items ++ z) (sym none) ∙ c.loop-bit.invariant

pub loop-bit-preserved : goal.loop-bit-preserved
loop-bit-preserved c =
    let lt : c.loop-bit.bit < length c.args.names.now = omega arith in
    moved _ _ _ _ _ _ c.loop-bit.invariant
    (bit_next c.args.names.now c.args.base.now c.loop-bit.bit c.as_slice.result.now _ lt (c.as_slice.ensures.value ∙ c.in_ok-name.ensures) c.in-Some.ensures)
    c.in_ok-push.ensures.items
