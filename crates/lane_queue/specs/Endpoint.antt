-- One port's end of one lane.
use Rattle.std.specs.Prelude.{◌≡◌}
use Rattle.crossbeam_queue.specs.SegTies.{SegId, IsSegPassOf}
use Rattle.std.specs.declared.alloc.Global.{Global}
use Rattle.lane_queue.specs.declared.rule.View.{View}
use Rattle.lane_queue.specs.declared.endpoint.PassState.{PassState}
use Rattle.lane_queue.specs.declared.endpoint.PassState.TheVariants.{Live, Joined}
use Rattle.lane_queue.specs.declared.endpoint.Endpoint.{Endpoint}
use Rattle.req_table.specs.Lanes.{ends}
use Rattle.lane_queue.specs.Rule.{own_sent, IsPort}

-- What the pass knows, or knew when it was joined.
abbrev pub pass_state_view : PassState → View
pass_state_view (Live pass) = pass.me.view.client
pass_state_view (Joined was) = was.value.me.view.client

-- What the endpoint's pass knows, or knew when it was joined.
abbrev pub endpoint_view : Endpoint → View
endpoint_view l = pass_state_view l.pass_state

-- The pass was not joined yet, and is of this queue.
abbrev pub IsLiveOn : SegId Global → PassState → Type 0
IsLiveOn q (Live pass) = IsSegPassOf q pass
IsLiveOn q (Joined was) = ⊥

-- The view is that of one port, and the number of Ends is that in the list that the port has sent.
abbrev pub IsEndpoint : Endpoint → Type 0
IsEndpoint l = IsPort (endpoint_view l) × (l.ends ≡ ends (own_sent (endpoint_view l)))
