use Rattle.std.proofs.Common.{◌+◌, ◌-◌, ◌++◌, ◌∙◌, ℕ, List, Vec, ap, arith, length, map, sym}
use Rattle.std.specs.declared.alloc.Global.{Global}
use Rattle.group_order.specs.Weights.{Placing, Weighing, begun, turns}
use Rattle.group_order.proofs.Turning.{after_turns, all_turns, assigned_live, before_turns, begun_live, turn_more}
use Rattle.group_order.proofs.weight_order.take_turns.Goals as goal

pub loop-turn-init : goal.loop-turn-init
loop-turn-init c =
    let operands = map (λ (w : Vec ℕ Global). w.items) c.args.operands.now in
    record {
      live = omega (arith, ap (λ (w : Weighing). length w.live) c.in_ok-state.ensures, begun_live (length c.args.operands.now) c.args.variables);
      rest = before_turns operands c.args.variables c.args.visits c.in_ok-state.state c.new-order.result.items (begun (length c.args.operands.now) c.args.variables) c.in_ok-state.ensures
          c.new-order.ensures.items;
    }

pub returns-then-visits-ge-MAX_VISITS : goal.returns-then-visits-ge-MAX_VISITS
returns-then-visits-ge-MAX_VISITS c =
    let operands = map (λ (w : Vec ℕ Global). w.items) c.args.operands.now in
    let made : List ℕ → Placing = λ z. record { order = z; visits = c.visits_after-visits.result } in
    ap made (c.in_ok-extend_from_slice.ensures.items ∙ ap (λ (z : List ℕ). c.loop-turn.order.items ++ z) c.as_slice.ensures.value) ∙
    sym (all_turns operands c.args.variables c.loop-turn._turn c.loop-turn-test.true c.loop-turn.state c.assign.new.self c.loop-turn.order.items c.loop-turn.visits c.visits_after-visits.result
    c.in_ok-assign.ensures c.visits_after-visits.ensures c.in_ok-rest.rest.items c.if-visits-ge-MAX_VISITS.true c.in_ok-rest.ensures) ∙
    c.loop-turn.invariant.rest

pub take_heaviest-requires : goal.take_heaviest-requires
take_heaviest-requires c =
    let operands = map (λ (w : Vec ℕ Global). w.items) c.args.operands.now in
    omega (
      arith,
      c.loop-turn.invariant.live,
      c.loop-turn-test.true,
      ap (λ (w : Weighing). length w.live) c.in_ok-assign.ensures,
      ap length (assigned_live operands c.loop-turn.state),
    )

pub loop-turn-preserved : goal.loop-turn-preserved
loop-turn-preserved c =
    let operands = map (λ (w : Vec ℕ Global). w.items) c.args.operands.now in
    record {
      live = omega (
        arith,
        c.loop-turn.invariant.live,
        c.loop-turn-test.true,
        ap (λ (w : Weighing). length w.live) c.in_ok-assign.ensures,
        ap length (assigned_live operands c.loop-turn.state),
        c.take_heaviest.ensures.fewer,
      );
      rest = ap
          (λ (z : List ℕ). turns operands (c.args.variables - (c.loop-turn._turn + 1)) c.take_heaviest.new.self (record { order = z; visits = c.visits_after-visits.result })) c.in_ok-push.ensures.items ∙
          turn_more operands c.args.variables c.loop-turn._turn c.loop-turn-test.true c.loop-turn.state c.assign.new.self c.loop-turn.order.items c.loop-turn.visits c.visits_after-visits.result
          c.in_ok-assign.ensures c.visits_after-visits.ensures c.take_heaviest.result c.take_heaviest.new.self c.if-visits-ge-MAX_VISITS.false c.take_heaviest.ensures.number
          c.take_heaviest.ensures.taken ∙
          c.loop-turn.invariant.rest;
    }

pub returns : goal.returns
returns c =
    let operands = map (λ (w : Vec ℕ Global). w.items) c.args.operands.now in
    after_turns operands c.args.variables c.loop-turn._turn c.loop-turn-test.false c.loop-turn.state (record { order = c.loop-turn.order.items; visits = c.loop-turn.visits }) ∙ c.loop-turn.invariant.rest
