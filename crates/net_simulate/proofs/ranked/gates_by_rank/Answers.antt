use Rattle.std.proofs.Common.{◌≡◌, ◌==◌, ◌+◌, ◌-◌, ◌<◌, ◌≤◌, ◌∷◌, ◌++◌, [], length, map, take, get_or, set, sym, ap, ◌∙◌, subst, arith}
use Rattle.std.specs.Prelude.{Contains, filter}
use Rattle.std.proofs.lemmas.List.{get_or-map, length-map, length-set, map-set, take_all}
use Rattle.net_bench.specs.Circuit.{highest_rank, rank_of}
use Rattle.net_simulate.proofs.Lists.{taken_more}
use Rattle.net_simulate.proofs.Rows.{AreRowsOf, rank_low, rank_top, rows_more}
use Rattle.net_simulate.proofs.ranked.gates_by_rank.Goals as goal

pub index_mut-requires : goal.index_mut-requires
index_mut-requires c =
    let net = c.args.net.now in
    let g = c.gate-item.result in
    let among : Contains net.gates g = subst (λ gs. Contains gs g) c.gates-gates.ensures.value (c.loop-gate.gate-index, c.loop-gate-test.true, sym c.gate-item.is) in
    let low : 0 < rank_of net g = rank_low net c.gates-gates.ensures.sound g among in
    let high : rank_of net g ≤ highest_rank net = rank_top net g among in
    let count : length c.loop-gate.rows.items ≡ highest_rank net = sym (length-map c.loop-gate.rows.items (λ w. w.items)) ∙ c.loop-gate.invariant.count in
    omega arith

pub loop-gate-preserved : goal.loop-gate-preserved
loop-gate-preserved c =
    let net = c.args.net.now in
    let g = c.gate-item.result in
    let i = c.loop-gate.gate-index in
    let gates = c.gates-gates.result.now in
    let rows = c.loop-gate.rows.items in
    let among : Contains net.gates g = subst (λ gs. Contains gs g) c.gates-gates.ensures.value (i, c.loop-gate-test.true, sym c.gate-item.is) in
    let low : 0 < rank_of net g = rank_low net c.gates-gates.ensures.sound g among in
    let high : rank_of net g ≤ highest_rank net = rank_top net g among in
    let count : length rows ≡ highest_rank net = sym (length-map rows (λ w. w.items)) ∙ c.loop-gate.invariant.count in
    let rank : c.rank-rank.result ≡ rank_of net g = c.rank-rank.ensures.value in
    let spread : length (map (λ w. w.items) rows) ≡ length rows = length-map rows (λ w. w.items) in
    let old : c.index_mut.result.now.items ≡ get_or (map (λ w. w.items) rows) (rank_of net g - 1) [] =
    ap (λ w. w.items) c.index_mut.ensures.value ∙ ap (λ k. (get_or rows (k - 1) c.index_mut.result.now).items) rank ∙
    sym (get_or-map (λ w. w.items) rows (rank_of net g - 1) c.index_mut.result.now [] (omega arith)) in
    let size : length (set (map (λ w. w.items) rows) (rank_of net g - 1) c.push.new.self.items) ≡ length (map (λ w. w.items) rows) =
    length-set (map (λ w. w.items) rows) (rank_of net g - 1) c.push.new.self.items in
    let more : AreRowsOf net (take i gates ++ g ∷ []) (set (map (λ w. w.items) rows) (rank_of net g - 1) c.push.new.self.items) =
    rows_more net (take i gates) g (map (λ w. w.items) rows) c.push.new.self.items c.loop-gate.invariant.rows low (omega arith) (c.in_ok-push.ensures.items ∙ ap (λ z. z ++ g.out ∷ []) old) size in
    let e : map (λ w. w.items) (set rows (c.rank-rank.result - 1) c.push.new.self) ≡ set (map (λ w. w.items) rows) (rank_of net g - 1) c.push.new.self.items =
    map-set (λ w. w.items) rows (c.rank-rank.result - 1) c.push.new.self ∙ ap (λ k. set (map (λ w. w.items) rows) (k - 1) c.push.new.self.items) rank in
    record {
      count = ap length e ∙ size ∙ c.loop-gate.invariant.count;
      rows = subst (AreRowsOf net (take (i + 1) gates)) (sym e)
          (subst (λ gs. AreRowsOf net gs (set (map (λ w. w.items) rows) (rank_of net g - 1) c.push.new.self.items)) (sym (taken_more gates i g c.loop-gate-test.true c.gate-item.is)) more);
    }

pub returns-clause-rows : goal.returns-clause-rows
returns-clause-rows c = record {
  count = c.loop-gate.invariant.count;
  each = λ r low. c.loop-gate.invariant.rows r low ∙ ap (λ gs. map (λ h. h.out) (filter (λ h. rank_of c.args.net.now h == r + 1) gs)) (take_all c.loop-gate.gate-index c.gates-gates.result.now c.loop-gate-test.false ∙ c.gates-gates.ensures.value);
}
