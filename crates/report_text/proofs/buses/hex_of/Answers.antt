use Rattle.std.proofs.Common.{◌≡◌, ◌<◌, ◌∙◌, ◌++◌, ◌∷◌, [], ap, string_bytes, arith}
use Rattle.report_text.specs.Buses.{hex_digit}
use Rattle.report_text.proofs.Wording.{moved}
use Rattle.report_text.proofs.Bundling.{digit_next}
use Rattle.report_text.proofs.buses.hex_of.Goals as goal

pub nibble-requires : goal.nibble-requires
nibble-requires c = omega (arith, c.div_ceil-digits.ensures, c.len.type_inv)

pub loop-done-preserved : goal.loop-done-preserved
loop-done-preserved c =
    let lt : c.loop-done.done < c.div_ceil-digits.result = omega arith in
    let is : c.from.result ≡ c.hex_digit-digit.result = c.from.ensures in
    let low = c.hex_digit-digit.ensures.ascii in
    let small : c.from.result < 128 = omega arith in
    moved _ _ _ _ _ _ c.loop-done.invariant (digit_next c.args.bus.now c.args.at.now c.div_ceil-digits.result c.loop-done.done lt)
    (c.in_ok-push.ensures.bytes
    ∙ ap (λ z. string_bytes c.loop-done.text ++ z) (c.in_ok-push.ensures.ascii small ∙ ap (λ d. d ∷ []) (is ∙ c.hex_digit-digit.ensures.digit ∙ ap hex_digit c.nibble.ensures.value)))
