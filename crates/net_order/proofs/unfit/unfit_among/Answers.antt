use Rattle.std.proofs.Common.{◌<◌, ◌∙◌, ap, arith, length, sym}
use Rattle.std.specs.Prelude.{Some}
use Rattle.net_order.specs.Unfit.{Unfit}
use Rattle.net_order.proofs.Unfitting.{fits_here, foreign_here, repeated_here}
use Rattle.net_order.proofs.unfit.unfit_among.Goals as goal

pub returns-then-not-has : goal.returns-then-not-has
returns-then-not-has c =
    let low : c.loop-i.i < length c.args.list.now = omega (arith, c.loop-i-test.true, c.len-i-end.ensures.value) in
    ap (λ (u : Unfit). Some u) c.in_ok-unfit.ensures ∙ sym (foreign_here c.args.variables.now c.loop-i.before c.args.list.now c.loop-i.i c.at-name.result.now c.at-name.ensures low (sym c.if-not-has.ensures)) ∙
    c.loop-i.invariant

pub returns-then-has : goal.returns-then-has
returns-then-has c =
    let low : c.loop-i.i < length c.args.list.now = omega (arith, c.loop-i-test.true, c.len-i-end.ensures.value) in
    ap (λ (u : Unfit). Some u) c.in_ok-unfit-2.ensures ∙
    sym (repeated_here c.args.variables.now c.loop-i.before c.args.list.now c.loop-i.i c.at-name.result.now c.at-name.ensures low (sym c.if-not-has.ensures) (sym c.has-in-loop-i.ensures ∙ c.if-has.true)) ∙
    c.loop-i.invariant

pub loop-i-preserved : goal.loop-i-preserved
loop-i-preserved c =
    let low : c.loop-i.i < length c.args.list.now = omega (arith, c.loop-i-test.true, c.len-i-end.ensures.value) in
    fits_here c.args.variables.now c.loop-i.before c.args.list.now c.loop-i.i c.at-name.result.now c.at-name.ensures low (sym c.if-not-has.ensures) c.intern.new.self (sym c.has-in-loop-i.ensures ∙ c.if-has.false)
    c.in_ok-intern.ensures.added ∙
    c.loop-i.invariant
