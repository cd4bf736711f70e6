use Rattle.std.proofs.Common.{◌≡◌, [], map, replicate}
use Rattle.net_simulate.proofs.ranked.empty_rows.Given as goal

abbrev pub invariant-loop : goal.invariant-loop
invariant-loop l = map (λ w. w.items) l.rows.items ≡ replicate l.counter []
