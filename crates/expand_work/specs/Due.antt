-- What is due from a worker, in bundles.
use Rattle.std.specs.Prelude.{◌≡◌, ◌≢◌, ℕ, ◌<◌, Bool, List, [], ◌∷◌, ◌++◌, take, drop, length, filter, All, Option, None, Some}
use Rattle.req_table.specs.declared.Key.{Key}
use Rattle.req_table.specs.declared.Child.{Child}
use Rattle.req_table.specs.declared.Child.TheVariants.{Done, Ask}
use Rattle.req_table.specs.declared.packed_child.PackedChild.{PackedChild}
use Rattle.lane_queue.specs.declared.load.TheConstants.Bundle.{CAPACITY}
use Rattle.expand_work.specs.declared.expand.DueByOwner.{DueByOwner}
use Rattle.expand_work.specs.OwnerRows.{by_owner}
use Rattle.expand_work.specs.Work.{at, owned_by}

-- the requests of the bundle that is not full, none if there is no such bundle
abbrev pub in_partial : Option (List (ℕ × Key)) → List (ℕ × Key)
in_partial None = []
in_partial (Some b) = b

-- each of the bundles is full
abbrev pub AreFull : List (List (ℕ × Key)) → Type 0
AreFull bundles = All (λ b. length b ≡ CAPACITY) bundles

-- the bundle that is not full has a request, and room for one more
abbrev pub IsBegun : Option (List (ℕ × Key)) → Type 0
IsBegun None = Unit {0}
IsBegun (Some b) = (0 < length b) × (length b < CAPACITY)

-- The bundle has the first of these requests, as many as fit, and the others are left.
pub record IsCut (asks bundle left : List (ℕ × Key)) : Type 0 where
  pub some : 0 < length asks
  pub first : bundle ≡ take CAPACITY asks
  pub rest : left ≡ drop CAPACITY asks

-- worker k, of `workers`, owns the request
abbrev pub asked_of : ℕ → ℕ → ℕ × Key → Bool
asked_of workers k a = owned_by workers k a.1

-- the request that becomes due by a child, if the child is no answer
abbrev pub due_by : Child → List (ℕ × Key)
due_by (Done r) = []
due_by (Ask l x m) = (l, x) ∷ []

-- Only what is due from worker s is left.
pub record IsLeft (s : ℕ) (due left : List (List (ℕ × Key))) : Type 0 where
  pub long : length left ≡ length due
  pub own : at left s ≡ at due s
  pub others : (k : ℕ) → k ≢ s → at left k ≡ []

-- A child that is a request became due from its owner, after what was due from that worker, and the row has the owner
-- for it; a child that is an answer has changed nothing.
pub record BecomesDue (a : DueByOwner) (c : Child) (d : PackedChild) (b : DueByOwner) : Type 0 where
  pub is_placed : d ≡ by_owner a.workers c
  pub workers : b.workers ≡ a.workers
  pub long : length b.due ≡ a.workers
  pub grown : (k : ℕ) → k < a.workers → at b.due k ≡ at a.due k ++ filter (asked_of a.workers k) (due_by c)
