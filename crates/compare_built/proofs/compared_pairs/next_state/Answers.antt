use Rattle.std.proofs.Common.{◌≡◌, ◌<◌, ◌∙◌, ap, arith, get_or, length, subst, sym, ℕ, List}
use Rattle.std.proofs.lemmas.Grind.{get_or_default_zero}
use Rattle.std.proofs.lemmas.Option.{get_or_from_slice_get, slice_get_within}
use Rattle.net_bench.specs.declared.netlist.GateLine.{GateLine}
use Rattle.compare_built.proofs.Subjects.{next_by_role, next_of_nothing, next_of_register}
use Rattle.compare_built.proofs.compared_pairs.next_state.Goals as goal

pub returns-then-count-number : goal.returns-then-count-number
returns-then-count-number c = c.of.ensures ∙ sym (next_of_nothing c.args.net.now c.count.ensures.sound c.args.register (omega arith))

pub bounds-registers-place : goal.bounds-registers-place
bounds-registers-place c =
    let (g, at, out) = c.in-Register.ensures.value in
    subst (λ gs. c.in-Register.place < length gs) (sym c.registers.ensures.value) (slice_get_within c.args.net.now.registers c.in-Register.place g at)

pub bounds-as_slice-0 : goal.bounds-as_slice-0
bounds-as_slice-0 c =
    let (g, at, out) = c.in-Register.ensures.value in
    let r : GateLine = c.index-registers-place.result in
    let p = c.in-Register.place in
    let here : r ≡ get_or c.args.net.now.registers p r = subst (λ gs. r ≡ get_or gs p r) c.registers.ensures.value c.index-registers-place.is in
    let one : length r.operands ≡ 1 =
    subst (λ (h : GateLine). length h.operands ≡ 1) (sym here) (c.role.ensures.sound.next p r (slice_get_within c.args.net.now.registers p g at)).1 in
    let its : length (get_or c.registers.result.now p r).operands ≡ 1 = subst (λ (h : GateLine). length h.operands ≡ 1) c.index-registers-place.is one in
    omega (arith, its, ap length c.as_slice.ensures)

pub returns-in-Register : goal.returns-in-Register
returns-in-Register c =
    let (g, at, out) = c.in-Register.ensures.value in
    let r : GateLine = c.index-registers-place.result in
    let p = c.in-Register.place in
    let xs = c.as_slice.result.now in
    let here : r ≡ get_or c.args.net.now.registers p r = subst (λ gs. r ≡ get_or gs p r) c.registers.ensures.value c.index-registers-place.is in
    let one : length r.operands ≡ 1 =
    subst (λ (h : GateLine). length h.operands ≡ 1) (sym here) (c.role.ensures.sound.next p r (slice_get_within c.args.net.now.registers p g at)).1 in
    let own : r ≡ get_or c.registers.result.now p r = c.index-registers-place.is in
    let its : length (get_or c.registers.result.now p r).operands ≡ 1 = subst (λ (h : GateLine). length h.operands ≡ 1) own one in
    let some : 0 < length xs = omega (arith, its, ap length c.as_slice.ensures) in
    let same : r ≡ g = here ∙ get_or_from_slice_get c.args.net.now.registers p g r at in
    let operands : xs ≡ g.operands = c.as_slice.ensures ∙ ap (λ (h : GateLine). h.operands) (sym own ∙ same) in
    c.index-as_slice-0.is ∙ get_or_default_zero xs 0 c.index-as_slice-0.result some ∙ ap (λ (ys : List ℕ). get_or ys 0 0) operands ∙
    sym (next_of_register c.args.net.now c.role.ensures.sound c.args.register p g at out)

pub returns-in_default : goal.returns-in_default
returns-in_default c =
    c.of-in_default.ensures ∙ sym (next_by_role c.args.net.now c.role.ensures.sound c.args.register c.role.result c.role.ensures.value c.in_default.not-Register)
