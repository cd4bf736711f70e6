use Rattle.std.proofs.Common.{◌≡◌, ◌∙◌, ◌++◌, ◌+◌, ◌<◌, ap, length, map, subst, sym, arith}
use Rattle.std.specs.Prelude.{All, filter_map}
use Rattle.std.proofs.lemmas.List.{length-map}
use Rattle.net_explain.specs.Explaining.{inner_at, inner_to}
use Rattle.net_bench.specs.Circuit.{highest_rank}
use Rattle.net_simulate.specs.RankRows.{AreRows, rank_row}
use Rattle.net_explain.specs.declared.differing.InnerSignal.{InnerSignal}
use Rattle.net_explain.proofs.Inners.{all_first, all_second, row_added}
use Rattle.net_simulate.proofs.Rows.{row_is, row_low}
use Rattle.net_explain.proofs.differing.differing.Goals as goal

pub add_row-requires : goal.add_row-requires
add_row-requires c =
    let rows : AreRows c.args.first.now (map (λ w. w.items) c.as_slice-rows.result.now) =
    subst (λ rs. AreRows c.args.first.now (map (λ w. w.items) rs)) (sym c.as_slice-rows.ensures.value) c.in_ok-table.ensures.rows in
    let row : c.as_slice.result.now ≡ rank_row c.args.first.now (c.loop-place.place + 1) =
    row_is (λ w. w.items) c.args.first.now c.as_slice-rows.result.now c.loop-place.place c.index-rows-place.result c.as_slice.result.now rows c.loop-place-test.true c.index-rows-place.is c.as_slice.ensures.value in
    subst (All (λ s. s < length c.args.first.now.names)) (sym row) (row_low c.args.first.now c.gates_by_rank.ensures.sound (c.loop-place.place + 1))

pub loop-place-preserved : goal.loop-place-preserved
loop-place-preserved c =
    let rows : AreRows c.args.first.now (map (λ w. w.items) c.as_slice-rows.result.now) =
    subst (λ rs. AreRows c.args.first.now (map (λ w. w.items) rs)) (sym c.as_slice-rows.ensures.value) c.in_ok-table.ensures.rows in
    let row : c.as_slice.result.now ≡ rank_row c.args.first.now (c.loop-place.place + 1) =
    row_is (λ w. w.items) c.args.first.now c.as_slice-rows.result.now c.loop-place.place c.index-rows-place.result c.as_slice.result.now rows c.loop-place-test.true c.index-rows-place.is c.as_slice.ensures.value in
    c.in_ok-add_row.ensures ∙ ap (λ z. z ++ filter_map (inner_at c.args.first.now c.args.second.now c.args.seen.now c.args.other.now) c.as_slice.result.now) c.loop-place.invariant ∙
    row_added c.args.first.now c.args.second.now c.args.seen.now c.args.other.now c.loop-place.place c.as_slice.result.now row

pub returns-clause-inner : goal.returns-clause-inner
returns-clause-inner c =
    let rows : AreRows c.args.first.now (map (λ w. w.items) c.as_slice-rows.result.now) =
    subst (λ rs. AreRows c.args.first.now (map (λ w. w.items) rs)) (sym c.as_slice-rows.ensures.value) c.in_ok-table.ensures.rows in
    let spread : length (map (λ w. w.items) c.as_slice-rows.result.now) ≡ length c.as_slice-rows.result.now = length-map c.as_slice-rows.result.now (λ w. w.items) in
    let count : length (map (λ w. w.items) c.as_slice-rows.result.now) ≡ highest_rank c.args.first.now = rows.count in
    let top : c.loop-place.place ≡ highest_rank c.args.first.now = omega arith in
    c.loop-place.invariant ∙ ap (inner_to c.args.first.now c.args.second.now c.args.seen.now c.args.other.now) top

pub returns-clause-first : goal.returns-clause-first
returns-clause-first c =
    subst (All (λ (i : InnerSignal). i.first < length c.args.first.now.names)) (sym c.loop-place.invariant)
    (all_first c.args.first.now c.args.second.now c.gates_by_rank.ensures.sound c.args.seen.now c.args.other.now c.loop-place.place)

pub returns-clause-second : goal.returns-clause-second
returns-clause-second c =
    subst (All (λ (i : InnerSignal). i.second < length c.args.second.now.names)) (sym c.loop-place.invariant)
    (all_second c.args.first.now c.args.second.now c.gates_by_rank.ensures.sound c.args.seen.now c.args.other.now c.loop-place.place)
