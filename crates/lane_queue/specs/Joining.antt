-- The passes of all ports, joined one after the other.
use Rattle.std.specs.Prelude.{◌≡◌, ◌≢◌, ℕ, ◌+◌, ◌<◌, eqb, cond, List, [], ◌∷◌, ◌++◌, map, length, Some, None, slice_index_or}
use Rattle.crossbeam_queue.specs.SegTies.{SegId, IsSegPassOf}
use Rattle.std.specs.declared.alloc.Global.{Global}
use Rattle.req_table.specs.declared.Item.{Item}
use Rattle.req_table.specs.declared.Sizes.{Sizes}
use Rattle.lane_queue.specs.declared.load.Load.{Load}
use Rattle.lane_queue.specs.declared.rule.View.{View}
use Rattle.lane_queue.specs.declared.rule.Lane.{Lane}
use Rattle.lane_queue.specs.declared.make.RootPass.{RootPass}
use Rattle.lane_queue.specs.declared.endpoint.Endpoint.{Endpoint}
use Rattle.req_table.specs.Sizes.{scope_of}
use Rattle.req_table.specs.Lanes.{LaneLaw}
use Rattle.lane_queue.specs.Lists.{FairLane}
use Rattle.lane_queue.specs.Rule.{own_sent, port, joined, IsJoined}
use Rattle.lane_queue.specs.Endpoint.{endpoint_view, IsEndpoint, IsLiveOn}
use Rattle.lane_queue.specs.Ports.{terms_of, endpoint_queue}
use Rattle.lane_queue.specs.Loads.{flat}
use Rattle.lane_queue.specs.PortView.{PortView, sent_to, passed_to, AgreesWithOwnLane}

-- What the pass knows.
abbrev pub root_pass_view : RootPass → View
root_pass_view r = r.pass.me.view.client

-- The endpoint has given its pass away, and remembers what the pass knew.
abbrev pub Retired : Endpoint → Endpoint → Type 0
Retired old new = (endpoint_queue new ≡ None) × (endpoint_view new ≡ endpoint_view old) × (new.ends ≡ old.ends) × (new.put ≡ old.put)

-- The endpoint's pass can be joined to that of the ports with lower numbers.
pub record MayJoin (lane : Lane) (root : RootPass) (endpoint : Endpoint) : Type 0 where
  pub queue : IsSegPassOf lane.queue root.pass
  pub live : IsLiveOn lane.queue endpoint.pass_state
  pub below : IsJoined (root_pass_view root) × ((root_pass_view root).left ≡ [])
  pub one : IsEndpoint endpoint
  pub terms : (endpoint_view endpoint).terms ≡ (root_pass_view root).terms
  pub low : (endpoint_view endpoint).low ≡ (root_pass_view root).high
  pub next_took_nothing : (root_pass_view root).high ≢ (root_pass_view root).terms.owner → (endpoint_view endpoint).taken ≡ []
  pub root_took_nothing : (¬ (root_pass_view root).terms.owner < (root_pass_view root).high) → (root_pass_view root).taken ≡ []

-- What the pass of the ports with lower numbers knows after the next port's was joined to it.
abbrev pub JoinedTo : View → View → View
JoinedTo v w = joined v.terms (v.high + 1) (v.sent ++ own_sent w ∷ []) (v.taken ++ w.taken) []

-- The endpoint's pass was joined.
abbrev pub HasJoined : Lane → RootPass → RootPass → Endpoint → Endpoint → Type 0
HasJoined lane root root' endpoint endpoint' =
    IsSegPassOf lane.queue root'.pass × (root_pass_view root' ≡ JoinedTo (root_pass_view root) (endpoint_view endpoint))
    × Retired endpoint endpoint'

-- The passes of n endpoints can be joined.
abbrev pub MayJoinAll : ℕ → List Lane → List RootPass → List Endpoint → Type 0
MayJoinAll n lanes roots endpoints =
    (i : ℕ) (d : Lane) (e : RootPass) (f : Endpoint) → i < n
    → MayJoin (slice_index_or lanes i d) (slice_index_or roots i e) (slice_index_or endpoints i f)

-- The passes of n endpoints were joined.
abbrev pub HaveJoined : ℕ → List Lane → List RootPass → List RootPass → List Endpoint → List Endpoint → Type 0
HaveJoined n lanes roots roots' endpoints endpoints' =
    (i : ℕ) (d : Lane) (e : RootPass) (f : Endpoint) → i < n
    → HasJoined (slice_index_or lanes i d) (slice_index_or roots i e) (slice_index_or roots' i e)
    (slice_index_or endpoints i f) (slice_index_or endpoints' i f)

-- The passes of the first port are those that the others will be joined to.
abbrev pub HaveBegun : ℕ → List Lane → List RootPass → List Endpoint → List Endpoint → Type 0
HaveBegun n lanes roots endpoints endpoints' =
    (i : ℕ) (d : Lane) (e : RootPass) (f : Endpoint) → i < n
    → IsSegPassOf (slice_index_or lanes i d).queue (slice_index_or roots i e).pass
    × (root_pass_view (slice_index_or roots i e) ≡ endpoint_view (slice_index_or endpoints i f))
    × Retired (slice_index_or endpoints i f) (slice_index_or endpoints' i f)

-- None of the n endpoints has given its pass away.
abbrev pub AllLive : ℕ → List Lane → List Endpoint → Type 0
AllLive n lanes endpoints =
    (i : ℕ) (d : Lane) (f : Endpoint) → i < n
    → IsLiveOn (slice_index_or lanes i d).queue (slice_index_or endpoints i f).pass_state

-- ---- the same by ports
-- What the port took from this lane.
abbrev pub popped_on : PortView → ℕ → List Item
popped_on p i = cond (eqb i p.number) p.popped []

-- What the port's pass of the lane i knows, if there are this many workers.
abbrev pub pass_view : ℕ → PortView → ℕ → View
pass_view workers p i = port (terms_of workers i p.sizes) p.number (passed_to p i) (popped_on p i)

-- The port after it was joined: it has no lanes any more.
abbrev pub retired : PortView → PortView
retired p = record p { lanes = map (λ q. None) p.lanes }

-- The passes of one port, by lane.
abbrev pub ArePassesOf : ℕ → PortView → List Lane → List RootPass → Type 0
ArePassesOf workers p lanes roots =
    (i : ℕ) (d : Lane) (e : RootPass) → i < workers
    → IsSegPassOf (slice_index_or lanes i d).queue (slice_index_or roots i e).pass
    × (root_pass_view (slice_index_or roots i e) ≡ pass_view workers p i)

-- The joined pass of the lane i knows the lists of the ports with lower numbers.
abbrev pub IsBelow : ℕ → PortView → ℕ → View → Type 0
IsBelow workers p i v =
    IsJoined v × (v.left ≡ []) × (v.terms ≡ terms_of workers i p.sizes) × (v.high ≡ p.number)
    × ((i < p.number → ⊥) → v.taken ≡ [])

-- The joined passes of the ports with lower numbers, by lane.
abbrev pub ArePassesBelow : ℕ → PortView → List Lane → List RootPass → Type 0
ArePassesBelow workers p lanes roots =
    (i : ℕ) (d : Lane) (e : RootPass) → i < workers
    → IsSegPassOf (slice_index_or lanes i d).queue (slice_index_or roots i e).pass
    × IsBelow workers p i (root_pass_view (slice_index_or roots i e))

-- The joined passes after those of this port were joined to them.
abbrev pub ArePassesJoinedWith : ℕ → PortView → List Lane → List RootPass → List RootPass → Type 0
ArePassesJoinedWith workers p lanes roots roots' =
    (i : ℕ) (d : Lane) (e : RootPass) → i < workers
    → IsSegPassOf (slice_index_or lanes i d).queue (slice_index_or roots' i e).pass
    × (root_pass_view (slice_index_or roots' i e)
    ≡ joined (root_pass_view (slice_index_or roots i e)).terms ((root_pass_view (slice_index_or roots i e)).high + 1)
    ((root_pass_view (slice_index_or roots i e)).sent ++ passed_to p i ∷ [])
    ((root_pass_view (slice_index_or roots i e)).taken ++ popped_on p i) [])

-- ---- all ports
-- What the pass of the lane i knows after all these ports were joined.
abbrev pub all_ports_view : ℕ → Sizes → List PortView → ℕ → View
all_ports_view workers sizes ports i =
    joined (terms_of workers i sizes) (length ports) (map (λ p. passed_to p i) ports)
    (slice_index_or (map (λ (p : PortView). p.popped) ports) i []) []

-- The passes after all these ports were joined, by lane.
abbrev pub ArePassesOfAll : ℕ → Sizes → List PortView → List Lane → List RootPass → Type 0
ArePassesOfAll workers sizes ports lanes roots =
    (length roots ≡ workers)
    × ((i : ℕ) (d : Lane) (e : RootPass) → i < workers
    → IsSegPassOf (slice_index_or lanes i d).queue (slice_index_or roots i e).pass
    × (root_pass_view (slice_index_or roots i e) ≡ all_ports_view workers sizes ports i))

-- The ports of these lanes, by number, none of them joined.
abbrev pub ArePorts : ℕ → Sizes → List (SegId Global) → List PortView → Type 0
ArePorts workers sizes lanes ports =
    (length ports ≡ workers)
    × ((i : ℕ) (d : PortView) → i < workers
    → ((slice_index_or ports i d).lanes ≡ map (λ q. Some q) lanes) × ((slice_index_or ports i d).sizes ≡ sizes)
    × ((slice_index_or ports i d).number ≡ i))

-- Each port is as before, but has no lanes any more.
abbrev pub AreRetired : ℕ → List PortView → List PortView → Type 0
AreRetired workers old new =
    (length new ≡ workers)
    × ((i : ℕ) (d : PortView) → i < workers → slice_index_or new i d ≡ retired (slice_index_or old i d))

-- Of each port, what it has sent to itself and taken is what went through its lane and what it has kept.
abbrev pub AllAgreeWithOwnLane : ℕ → List PortView → Type 0
AllAgreeWithOwnLane workers ports = (i : ℕ) (d : PortView) → i < workers → AgreesWithOwnLane (slice_index_or ports i d)

-- What the port s put on the lane k.
abbrev pub passed_from : List PortView → ℕ → ℕ → List Item
passed_from ports k s = slice_index_or (map (λ p. passed_to p k) ports) s []

-- What the port k took from its lane.
abbrev pub popped_by : List PortView → ℕ → List Item
popped_by ports k = slice_index_or (map (λ (p : PortView). p.popped) ports) k []

-- The law holds of what went through each lane and what is left there, and these lists are fair.
abbrev pub LawOfLanes : ℕ → Sizes → List PortView → List (List Load) → Type 0
LawOfLanes workers sizes ports left =
    (k : ℕ) → k < workers
    → LaneLaw (scope_of workers sizes) (passed_from ports k) (popped_by ports k) (flat (slice_index_or left k []))
    × FairLane (scope_of workers sizes) (passed_from ports k)

-- What the port s sent to the worker k.
abbrev pub sent_from : List PortView → ℕ → ℕ → List Item
sent_from ports k s = slice_index_or (map (λ p. sent_to p k) ports) s []

-- What the port k took.
abbrev pub taken_by : List PortView → ℕ → List Item
taken_by ports k = slice_index_or (map (λ (p : PortView). p.taken) ports) k []

-- The law holds of each lane, with what is left in it, and its lists are fair.
abbrev pub LawOfAll : ℕ → Sizes → List PortView → List (List Load) → Type 0
LawOfAll workers sizes ports left =
    (k : ℕ) → k < workers
    → LaneLaw (scope_of workers sizes) (sent_from ports k) (taken_by ports k) (flat (slice_index_or left k []))
    × FairLane (scope_of workers sizes) (sent_from ports k)
