-- The rule of a lane: it relates what the lane's queue holds with what each pass knows.
use Rattle.std.specs.Prelude.{◌≡◌, ℕ, ◌+◌, ◌<◌, ◌≤◌, ◌-◌, ◌⊎◌, true, false, List, [], ◌∷◌, ◌++◌, length, slice_index_or, All}
use mathlib.Core.Option.{some}
use lib.ListN.{get_elem?}
use Rattle.req_table.specs.declared.Item.{Item}
use Rattle.lane_queue.specs.declared.load.Load.{Load}
use Rattle.lane_queue.specs.declared.rule.Terms.{Terms}
use Rattle.lane_queue.specs.declared.rule.View.{View}
use Rattle.req_table.specs.Wave.{Scope}
use Rattle.req_table.specs.Sizes.{scope_of}
use Rattle.req_table.specs.Lanes.{sent_by, IsFair, LaneLaw}
use Rattle.lane_queue.specs.Lists.{FairLane, IsPrefix}
use Rattle.lane_queue.specs.Loads.{load_from, items_in, flat, IsNonEmpty}

-- The terms of a pass that is of no lane.
abbrev pub no_terms : Terms
no_terms = record { workers = 0; owner = 0; sizes = record { levels = 0; counts = [] } }

-- The scope by which the lists of a lane with these terms are fair.
abbrev pub scope : Terms → Scope
scope c = scope_of c.workers c.sizes

-- The view of a pass whose lane has no terms yet.
abbrev pub blank : View
blank = record { begun = false; terms = no_terms; low = 0; high = 0; sent = []; taken = []; left = [] }

-- The view that a pass has after it was joined to another; it is of no port.
abbrev pub spent : View
spent = record { begun = true; terms = no_terms; low = 0; high = 0; sent = []; taken = []; left = [] }

-- The view of the pass that issues the others: it is of the ports from `low` on, whose passes were not issued yet.
abbrev pub issuer : Terms → ℕ → View
issuer c low = record { begun = true; terms = c; low = low; high = c.workers; sent = []; taken = []; left = [] }

-- The view of the ports below `high`, with what each has sent, what the owner has taken, and what was read out of the
-- lane at the end.
abbrev pub joined : Terms → ℕ → List (List Item) → List Item → List Item → View
joined c high sent taken left =
    record { begun = true; terms = c; low = 0; high = high; sent = sent; taken = taken; left = left }

-- The view of one port.
abbrev pub port : Terms → ℕ → List Item → List Item → View
port c s sent taken =
    record { begun = true; terms = c; low = s; high = s + 1; sent = sent ∷ []; taken = taken; left = [] }

-- The view is one of the port p.
abbrev pub CoversPort : View → ℕ → Type 0
CoversPort v p = (v.low ≤ p) × (p < v.high)

-- What the port p has sent, by the view.
abbrev pub sent_of : View → ℕ → List Item
sent_of v p = slice_index_or v.sent (p - v.low) []

-- The pass i, with the view v, is the one of the port p, and knows of it what these lists say.
pub record Fits (c : Terms) (pass_index : ℕ → ℕ) (sent : ℕ → List Item) (taken left : List Item) (i : ℕ) (v : View) (p : ℕ) : Type 0 where
  pub terms : v.terms ≡ c
  pub within : p < c.workers
  pub has_pass_index : pass_index p ≡ i
  pub sends : sent_of v p ≡ sent p
  pub takes : p ≡ c.owner → (v.taken ≡ taken) × (v.left ≡ left)

-- The owner is a worker, and each port has one pass. Of each port, what was taken and then what waits is what it has
-- sent, and this list is fair.
pub record Ruled (items : List Item) (views : List View) : Type 0 where
  pub c : Terms
  pub pass_index : ℕ → ℕ
  pub sent : ℕ → List Item
  pub taken : List Item
  pub left : List Item
  pub owned : c.owner < c.workers
  pub law : LaneLaw (scope c) sent taken (left ++ items)
  pub fair : FairLane (scope c) sent
  pub present : (p : ℕ) → p < c.workers → (v : View) × (get_elem? views (pass_index p) ≡ some v) × CoversPort v p
  pub begun : (i : ℕ) (v : View) → get_elem? views i ≡ some v → v.begun ≡ true
  pub fits : (i : ℕ) (v : View) (p : ℕ) → get_elem? views i ≡ some v → CoversPort v p
      → Fits c pass_index sent taken left i v p

-- Nothing has begun in the lane, or the rule holds of its items.
abbrev pub NotBegunOrRuled : List Item → List View → Type 0
NotBegunOrRuled items views = ((items ≡ []) × (views ≡ blank ∷ [])) ⊎ Ruled items views

-- The rule of loads: none is empty, and their items obey the rule.
abbrev pub Holds : List Load → List View → Type 0
Holds loads views = All IsNonEmpty loads × NotBegunOrRuled (flat loads) views

-- ---- what a pass learns by each step
-- The lists, with these items added at the end of the first.
abbrev pub append_to_first : List (List Item) → List Item → List (List Item)
append_to_first [] xs = []
append_to_first (l ∷ ls) xs = (l ++ xs) ∷ ls

-- The sender has put a load: its items are at the end of its list.
abbrev pub Sends : View → Load → View → Type 0
Sends v x w = w ≡ record v { sent = append_to_first v.sent (items_in x) }

-- The load is the next of what its sender had sent by then; that list is fair, and it is the port's own if the port is
-- the sender.
abbrev pub IsNext : View → Load → Type 0
IsNext v x =
    (sent : List Item) × IsNonEmpty x × (load_from x < v.terms.workers) × IsFair (scope v.terms) sent
    × IsPrefix (sent_by (load_from x) (v.taken ++ items_in x)) sent
    × (load_from x ≡ v.low → sent ≡ slice_index_or v.sent 0 [])

-- The owner has taken the load x, the next of its sender.
abbrev pub Takes : View → Load → View → Type 0
Takes v x w = (w ≡ record v { taken = v.taken ++ items_in x }) × IsNext v x

-- What the owner has sent to itself is what it has taken of that, and then what waits of it.
abbrev pub OwnSentInOrder : View → List Load → Type 0
OwnSentInOrder v loads = sent_by v.low (v.taken ++ flat loads) ≡ slice_index_or v.sent 0 []

-- The load was read out at the end.
abbrev pub Reads : View → Load → View → Type 0
Reads v x w = w ≡ record v { left = v.left ++ items_in x }

-- The lists of all ports, by number, obey the law with what was taken and what is left, and are fair.
abbrev pub AllPortsLawful : View → List Load → Type 0
AllPortsLawful v loads =
    LaneLaw (scope v.terms) (λ s. slice_index_or v.sent s []) v.taken (v.left ++ flat loads)
    × FairLane (scope v.terms) (λ s. slice_index_or v.sent s [])

-- ---- the kinds of view that each step asks for
-- What the one port of the view has sent.
abbrev pub own_sent : View → List Item
own_sent v = slice_index_or v.sent 0 []

-- The view is that of one port.
abbrev pub IsPort : View → Type 0
IsPort v = v ≡ port v.terms v.low (own_sent v) v.taken

-- The view is that of the ports below `v.high`, with a list for each.
abbrev pub IsJoined : View → Type 0
IsJoined v = (v ≡ joined v.terms v.high v.sent v.taken v.left) × (length v.sent ≡ v.high)

-- The view is that of all ports, one of which takes from the lane.
abbrev pub IsOfAllPorts : View → Type 0
IsOfAllPorts v = (v ≡ joined v.terms v.terms.workers v.sent v.taken v.left) × (v.terms.owner < v.terms.workers)

-- The next pass can be issued: the lane has no terms yet, or these, and its owner is one of the workers.
abbrev pub MayIssue : Terms → View → Type 0
MayIssue c v = ((v ≡ blank) ⊎ (v ≡ issuer c v.low)) × (v.low < c.workers) × (c.owner < c.workers)
