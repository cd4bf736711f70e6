-- The places of the requests that a worker has taken, in the tables of their levels, by sender.
use Rattle.std.specs.Prelude.{◌≡◌, ◌≢◌, ℕ, ◌<◌, List, [], ◌∷◌, ◌++◌, length, slice_get, slice_set, Some}
use Rattle.std.specs.List.{AllZip}
use Rattle.req_table.specs.declared.Key.{Key}
use Rattle.req_table.specs.declared.Item.{Item}
use Rattle.req_table.specs.declared.Item.TheVariants.{Ask, End}
use Rattle.req_table.specs.Lanes.{sent_by, asks}
use Rattle.req_table.specs.Settled.{Admits}
use Rattle.expand_work.specs.Work.{at}

-- the key is at place p in the table `new`, which is the table `old`, or `old` with the key added at the end if it was
-- not there
abbrev pub Enters : List Key → Key → ℕ → List Key → Type 0
Enters old x p new = Admits old (x ∷ []) new × (slice_get new p ≡ Some x)

-- the key is at place p in the new table of level l, into which it was admitted; all other tables are as before
abbrev pub EntersAt : List (List Key) → ℕ → Key → ℕ → List (List Key) → Type 0
EntersAt old l x p new = (keys : List Key) × Enters (at old l) x p keys × (new ≡ slice_set old l keys)

-- a request, with its level, is at this place in the table of the level
abbrev pub HasPlace : (ℕ → List Key) → ℕ × Key → ℕ → Type 0
HasPlace tables a p = slice_get (tables a.0) p ≡ Some a.1

-- the requests of a list of items, each with its level
abbrev pub with_their_levels : List Item → List (ℕ × Key)
with_their_levels [] = []
with_their_levels (Ask s l x ∷ xs) = (l, x) ∷ with_their_levels xs
with_their_levels (End s l ∷ xs) = with_their_levels xs

-- for each sender, the places of its requests in the tables of their levels, in the order in which they were taken
pub record IsNoted (workers : ℕ) (taken : List Item) (tables : List (List Key)) (noted : List (List ℕ)) : Type 0 where
  pub long : length noted ≡ workers
  pub each : (s : ℕ) → s < workers → AllZip (HasPlace (at tables)) (with_their_levels (sent_by s taken)) (at noted s)

-- these requests of one sender were admitted, and their places added at the end of those noted for it; a request that
-- had a place still has it
pub record NotesPlaces (from : ℕ) (requests : List (ℕ × Key)) (tables tables' : List (List Key)) (old new : List (List ℕ)) : Type 0 where
  pub places : List ℕ
  pub have_places : AllZip (HasPlace (at tables')) requests places
  pub stay : (a : ℕ × Key) (p : ℕ) → HasPlace (at tables) a p → HasPlace (at tables') a p
  pub long : length new ≡ length old
  pub own : at new from ≡ at old from ++ places
  pub others : (s : ℕ) → s ≢ from → at new s ≡ at old s

-- for each sender, the places of its requests in the rows of their levels, in the order in which they were taken
pub record ArePlaces (level : Key → ℕ) (workers : ℕ) (taken : List Item) (rows : ℕ → List Key) (noted : List (List ℕ)) : Type 0 where
  pub long : length noted ≡ workers
  pub each : (s : ℕ) → s < workers → AllZip (λ x p. slice_get (rows (level x)) p ≡ Some x) (asks (sent_by s taken)) (at noted s)
