-- What the rule says of a lane between any two atomic steps.
use Rattle.std.specs.Prelude.{◌≡◌, ℕ, ◌<◌, ◌⊎◌, List, [], ◌∷◌, ◌++◌, All}
use mathlib.Core.Option.{some}
use lib.ListN.{get_elem?}
use Rattle.req_table.specs.declared.Item.{Item}
use Rattle.lane_queue.specs.declared.load.Load.{Load}
use Rattle.lane_queue.specs.Loads.{flat, IsNonEmpty}
use Rattle.lane_queue.specs.declared.rule.Terms.{Terms}
use Rattle.lane_queue.specs.declared.rule.View.{View}
use Rattle.req_table.specs.Lanes.{LaneLaw}
use Rattle.lane_queue.specs.Lists.{FairLane}
use Rattle.lane_queue.specs.Rule.{scope, blank, CoversPort, sent_of}

-- A pass is that of the port p, and this is what the port has sent.
abbrev pub HasSent : List View → ℕ → List Item → Type 0
HasSent views p xs = (i : ℕ) × (v : View) × (get_elem? views i ≡ some v) × CoversPort v p × (xs ≡ sent_of v p)

-- Each pass of a port has these terms, and the port is a worker's.
abbrev pub AreTerms : List View → Terms → Type 0
AreTerms views c =
    (i p : ℕ) (v : View) → get_elem? views i ≡ some v → CoversPort v p → (v.terms ≡ c) × (p < c.workers)

-- The passes have these terms, by which the lane's owner is a worker. Each worker's port has a pass. Whatever the
-- passes know that the ports have sent obeys the law and is fair, with what the owner's pass knows that it has taken.
abbrev pub Lawful : Terms → List Load → List View → Type 0
Lawful c loads views =
    (c.owner < c.workers) × AreTerms views c
    × ((p : ℕ) → p < c.workers → (xs : List Item) × HasSent views p xs)
    × ((sent : ℕ → List Item) (i : ℕ) (o : View) → ((p : ℕ) → p < c.workers → HasSent views p (sent p))
    → get_elem? views i ≡ some o → CoversPort o c.owner
    → LaneLaw (scope c) sent o.taken (o.left ++ flat loads) × FairLane (scope c) sent)

-- No load is empty, and either nothing has begun in the lane or it is lawful by some terms.
abbrev pub Between : List Load → List View → Type 0
Between loads views =
    All IsNonEmpty loads × (((loads ≡ []) × (views ≡ blank ∷ [])) ⊎ ((c : Terms) × Lawful c loads views))
