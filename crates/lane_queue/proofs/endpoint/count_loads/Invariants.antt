use Rattle.std.proofs.Common.{◌≡◌, ◌≤◌, ◌*◌, take}
use Rattle.std.specs.List.{sum_by}
use Rattle.lane_queue.specs.declared.endpoint.Endpoint.{Endpoint}
use Rattle.lane_queue.proofs.endpoint.count_loads.Given as goal

abbrev pub invariant-loop-endpoint : goal.invariant-loop-endpoint
invariant-loop-endpoint l = (l.total ≡ sum_by (λ (x : Endpoint). x.put) (take l.endpoint-index l.endpoints.items)) × (l.total ≤ l.endpoint-index * 18446744073709551615)
