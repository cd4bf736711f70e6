use Rattle.std.proofs.Common.{arith, ◌≡◌, ◌-◌, ◌<◌, ◌≤◌, ◌∷◌, ◌++◌, [], length, map, take, get_or, set, sym, ap, ◌∙◌, subst}
use Rattle.std.specs.Prelude.{Contains}
use Rattle.std.proofs.lemmas.List.{take_more, take_all, length-set, get_or_default}
use Rattle.net_bench.specs.Circuit.{greatest, rank_of}
use Rattle.gate_plan.specs.Plans.{AddsGate, Plans, rank_at, no_steps}
use Rattle.gate_plan.proofs.Planning.{plans_next}
use Rattle.gate_plan.proofs.Ranks.{above_none, rank_top}
use Rattle.gate_plan.proofs.steps.Plan.new.Goals as goal

pub index_mut-requires : goal.index_mut-requires
index_mut-requires c =
    let net = c.args.netlist.now in
    let g = c.gate-item.result in
    let among : Contains net.gates g = subst (λ gs. Contains gs g) c.gates-gate-items.ensures.value (c.loop-gate.gate-index, c.loop-gate-test.true, sym c.gate-item.is) in
    let low : 0 < rank_of net g = above_none net c.rank-rank.ensures.sound g among in
    let high : rank_of net g ≤ greatest (map (rank_of net) net.gates) = rank_top net g among in
    let count : length c.loop-gate.ranks.items ≡ greatest (map (rank_of net) net.gates) = c.loop-gate.invariant.count ∙ ap (λ gs. greatest (map (rank_of net) gs)) c.gates-gate-items.ensures.value in
    omega arith

pub loop-gate-preserved : goal.loop-gate-preserved
loop-gate-preserved c =
    let net = c.args.netlist.now in
    let g = c.gate-item.result in
    let i = c.loop-gate.gate-index in
    let gates = c.gates-gate-items.result.now in
    let ranks = c.loop-gate.ranks.items in
    let among : Contains net.gates g = subst (λ gs. Contains gs g) c.gates-gate-items.ensures.value (i, c.loop-gate-test.true, sym c.gate-item.is) in
    let low : 0 < rank_of net g = above_none net c.rank-rank.ensures.sound g among in
    let high : rank_of net g ≤ greatest (map (rank_of net) net.gates) = rank_top net g among in
    let count : length ranks ≡ greatest (map (rank_of net) net.gates) = c.loop-gate.invariant.count ∙ ap (λ gs. greatest (map (rank_of net) gs)) c.gates-gate-items.ensures.value in
    let row : AddsGate (rank_at ranks (rank_of net g)) g c.add_gate.new.self =
    subst (λ z. AddsGate z g c.add_gate.new.self)
    (c.index_mut.ensures.value ∙ ap (λ n. get_or ranks (n - 1) c.index_mut.result.now) c.rank-rank.ensures.value ∙ get_or_default ranks (rank_of net g - 1) c.index_mut.result.now no_steps (omega arith))
    c.in_ok-add_gate.ensures in
    let next : Plans net (take i gates ++ g ∷ []) (set ranks (rank_of net g - 1) c.add_gate.new.self) = plans_next net (take i gates) g ranks c.add_gate.new.self c.loop-gate.invariant.plans low (omega arith) row in
    record {
      count = length-set ranks (c.rank-rank.result - 1) c.add_gate.new.self ∙ c.loop-gate.invariant.count;
      plans = subst (λ z. Plans net z (set ranks (c.rank-rank.result - 1) c.add_gate.new.self)) (ap (λ z. take i gates ++ z ∷ []) c.gate-item.is ∙ sym (take_more gates i g c.loop-gate-test.true))
          (subst (λ z. Plans net (take i gates ++ g ∷ []) (set ranks (z - 1) c.add_gate.new.self)) (sym c.rank-rank.ensures.value) next);
    }

pub returns : goal.returns
returns c =
    let net = c.args.netlist.now in
    record {
      sound = c.gates-gate-items.ensures.sound;
      ranks = c.loop-gate.invariant.count ∙ ap (λ gs. greatest (map (rank_of net) gs)) c.gates-gate-items.ensures.value;
      gates = subst (λ gs. Plans net gs c.loop-gate.ranks.items) (take_all c.loop-gate.gate-index c.gates-gate-items.result.now c.loop-gate-test.false ∙ c.gates-gate-items.ensures.value) c.loop-gate.invariant.plans;
    }
