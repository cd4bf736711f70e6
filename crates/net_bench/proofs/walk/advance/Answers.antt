use Rattle.std.proofs.Common.{◌≡◌, ◌+◌, ◌<◌, ◌≤◌, ◌∙◌, ◌∷◌, List, inl, ap, sym, subst, arith, length, get_or, set, true}
use Rattle.std.specs.Prelude.{reverse}
use Rattle.net_bench.specs.declared.netlist.GateLine.{GateLine}
use Rattle.net_bench.specs.declared.walk.WaitingGate.{WaitingGate}
use Rattle.net_bench.specs.Heights.{IsRanking, steps_left}
use Rattle.net_bench.proofs.Deep.{all_passed, gate_is, next_down, next_down_fewer, next_endless, next_fewer, next_passed, past, pushed, step_left, within}
use Rattle.net_bench.proofs.walk.advance.Goals as goal

pub set_gate_height-requires-clause-all : goal.set_gate_height-requires-clause-all
set_gate_height-requires-clause-all c =
    let f = c.args.gate in
    let is = gate_is c.args.gates.now f.place c.index-gates-gate.result c.requires.ranking.chain.0.0 c.index-gates-gate.is in
    let high : length c.as_slice.result.now ≤ c.args.gate.passed = past c.args.gate.passed (length c.as_slice.result.now) c.in_default.ensures.lookup.0 in
    all_passed c.args.gates.now c.args.heights.now c.args.begun.now f (reverse c.args.waiting.now.items) c.requires.ranking (subst (λ os. length os ≤ c.args.gate.passed) (c.as_slice.ensures ∙ ap (λ (x : GateLine). x.operands) (sym c.index-gates-gate.is) ∙ sym is.0) high)

pub returns-in_default-clause-ranking : goal.returns-in_default-clause-ranking
returns-in_default-clause-ranking c =
    step_left c.args.gates.now c.args.heights.now c.args.begun.now c.args.gate (reverse c.args.waiting.now.items) c.requires.ranking c.set_gate_height.new.heights c.set_gate_height.ensures.kept c.set_gate_height.ensures.sound (inl c.set_gate_height.ensures.ranked)

pub returns-then-height_of-ne0-clause-ranking : goal.returns-then-height_of-ne0-clause-ranking
returns-then-height_of-ne0-clause-ranking c =
    let f = c.args.gate in
    let in_bounds = within f.passed (length c.as_slice.result.now) c.in-Some.ensures.lookup.0 in
    subst (IsRanking c.args.gates.now c.args.heights.now c.args.begun.now) (sym (ap (λ (xs : List WaitingGate). reverse xs) c.in_ok-push.ensures.items ∙ pushed c.args.waiting.now.items (record { place = f.place; passed = f.passed + 1 })))
    (next_passed c.args.gates.now c.args.symbols.now c.args.heights.now c.args.begun.now f (reverse c.args.waiting.now.items) c.requires.ranking c.index-gates-gate.result c.index-gates-gate.is c.as_slice.result.now (c.as_slice.ensures ∙ ap (λ (x : GateLine). x.operands) (sym c.index-gates-gate.is))
    c.in-Some.operand.now in_bounds c.in-Some.ensures.lookup.1 (omega (arith, c.height_of.ensures, c.if-height_of-ne0.true)))

pub returns-then-height_of-ne0-clause-fewer_steps_left : goal.returns-then-height_of-ne0-clause-fewer_steps_left
returns-then-height_of-ne0-clause-fewer_steps_left c =
    let f = c.args.gate in
    let in_bounds = within f.passed (length c.as_slice.result.now) c.in-Some.ensures.lookup.0 in
    subst (λ (xs : List WaitingGate). steps_left c.args.gates.now c.args.begun.now xs < steps_left c.args.gates.now c.args.begun.now (c.args.gate ∷ reverse c.args.waiting.now.items))
    (sym (ap (λ (xs : List WaitingGate). reverse xs) c.in_ok-push.ensures.items ∙ pushed c.args.waiting.now.items (record { place = f.place; passed = f.passed + 1 })))
    (next_fewer c.args.gates.now c.args.symbols.now c.args.heights.now c.args.begun.now f (reverse c.args.waiting.now.items) c.requires.ranking c.index-gates-gate.result c.index-gates-gate.is c.as_slice.result.now (c.as_slice.ensures ∙ ap (λ (x : GateLine). x.operands) (sym c.index-gates-gate.is))
    c.in-Some.operand.now in_bounds c.in-Some.ensures.lookup.1)

pub returns-then-begun-below-clause-ranking : goal.returns-then-begun-below-clause-ranking
returns-then-begun-below-clause-ranking c =
    let f = c.args.gate in
    let in_bounds = within f.passed (length c.as_slice.result.now) c.in-Some.ensures.lookup.0 in
    let none : get_or c.args.heights.now c.in-Some.operand.now 0 ≡ 0 = omega (arith, c.height_of.ensures, c.if-height_of-ne0.false) in
    next_endless c.args.gates.now c.args.symbols.now c.args.heights.now c.args.begun.now f (reverse c.args.waiting.now.items) c.requires.ranking c.index-gates-gate.result c.index-gates-gate.is c.as_slice.result.now (c.as_slice.ensures ∙ ap (λ (x : GateLine). x.operands) (sym c.index-gates-gate.is))
    c.in-Some.operand.now in_bounds c.in-Some.ensures.lookup.1 c.requires.operands c.requires.driven none c.in-Some-gate_of.below (sym c.gate_of.ensures ∙ c.in-Some-gate_of.is) c.if-begun-below.true

pub returns-clause-ranking : goal.returns-clause-ranking
returns-clause-ranking c =
    let f = c.args.gate in
    let in_bounds = within f.passed (length c.as_slice.result.now) c.in-Some.ensures.lookup.0 in
    let none : get_or c.args.heights.now c.in-Some.operand.now 0 ≡ 0 = omega (arith, c.height_of.ensures, c.if-height_of-ne0.false) in
    subst (IsRanking c.args.gates.now c.args.heights.now (set c.args.begun.now c.in-Some-gate_of.below true))
    (sym (ap (λ (xs : List WaitingGate). reverse xs) c.in_ok-push-3.ensures.items ∙ pushed c.push-2.new.self.items (record { place = c.in-Some-gate_of.below; passed = 0 }) ∙
    ap (λ (xs : List WaitingGate). record { place = c.in-Some-gate_of.below; passed = 0 } ∷ xs) (ap (λ (xs : List WaitingGate). reverse xs) c.in_ok-push-2.ensures.items ∙ pushed c.args.waiting.now.items f)))
    (next_down c.args.gates.now c.args.symbols.now c.args.heights.now c.args.begun.now f (reverse c.args.waiting.now.items) c.requires.ranking c.index-gates-gate.result c.index-gates-gate.is c.as_slice.result.now (c.as_slice.ensures ∙ ap (λ (x : GateLine). x.operands) (sym c.index-gates-gate.is))
    c.in-Some.operand.now in_bounds c.in-Some.ensures.lookup.1 c.requires.operands c.requires.driven none c.in-Some-gate_of.below (sym c.gate_of.ensures ∙ c.in-Some-gate_of.is))

pub returns-clause-fewer_steps_left : goal.returns-clause-fewer_steps_left
returns-clause-fewer_steps_left c =
    let f = c.args.gate in
    let in_bounds = within f.passed (length c.as_slice.result.now) c.in-Some.ensures.lookup.0 in
    let none : get_or c.args.heights.now c.in-Some.operand.now 0 ≡ 0 = omega (arith, c.height_of.ensures, c.if-height_of-ne0.false) in
    subst (λ (xs : List WaitingGate). steps_left c.args.gates.now (set c.args.begun.now c.in-Some-gate_of.below true) xs < steps_left c.args.gates.now c.args.begun.now (c.args.gate ∷ reverse c.args.waiting.now.items))
    (sym (ap (λ (xs : List WaitingGate). reverse xs) c.in_ok-push-3.ensures.items ∙ pushed c.push-2.new.self.items (record { place = c.in-Some-gate_of.below; passed = 0 }) ∙
    ap (λ (xs : List WaitingGate). record { place = c.in-Some-gate_of.below; passed = 0 } ∷ xs) (ap (λ (xs : List WaitingGate). reverse xs) c.in_ok-push-2.ensures.items ∙ pushed c.args.waiting.now.items f)))
    (next_down_fewer c.args.gates.now c.args.symbols.now c.args.heights.now c.args.begun.now f (reverse c.args.waiting.now.items) c.requires.ranking c.index-gates-gate.result c.index-gates-gate.is c.as_slice.result.now (c.as_slice.ensures ∙ ap (λ (x : GateLine). x.operands) (sym c.index-gates-gate.is))
    c.in-Some.operand.now in_bounds c.in-Some.ensures.lookup.1 c.requires.operands c.requires.driven none c.in-Some-gate_of.below (sym c.gate_of.ensures ∙ c.in-Some-gate_of.is) c.if-begun-below.false)
