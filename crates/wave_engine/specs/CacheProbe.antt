-- What is known of a wave's entries before it begins, and what the wave leaves in the computed table.
use Rattle.std.specs.Prelude.{◌≡◌, ℕ, ◌+◌, List, [], ◌∷◌, ◌++◌, drop, slice_index_or, map, Option, None, Some}
use Rattle.dd_store.specs.declared.reference.Ref.{Ref}
use Rattle.dd_store.specs.declared.reference.Reference.TheVariants.{False}
use Rattle.dd_store.specs.Complements.{complement_by}
use Rattle.req_table.specs.Keys.{normal_of}
use Rattle.req_table.specs.ComputedTables.{ComputedView, KeepsAnswer, terminal_or_computed_of}
use Rattle.reduce_up.specs.Waves.{Entry}

-- what is known of an entry: its terminal case, or the answer of its key in the computed table
abbrev pub known_entry : ComputedView → Entry → Option Ref
known_entry m e = terminal_or_computed_of m e.0 e.1 e.2

-- an entry, if nothing is known of it
abbrev pub unless_known : Option Ref → Entry → List Entry
unless_known None e = e ∷ []
unless_known (Some r) e = []

-- the requests of a wave: the entries of which nothing is known when it begins
abbrev pub unknown : ComputedView → List Entry → List Entry
unknown m [] = []
unknown m (e ∷ es) = unless_known (known_entry m e) e ++ unknown m es

-- what is known of each entry, and the entries of which nothing is known
pub record ProbeView : Type 0 where
  pub known : List (Option Ref)
  pub requests : List Entry

-- all that is known of these entries
pub record IsProbed (m : ComputedView) (entries : List Entry) (s : ProbeView) : Type 0 where
  pub known : s.known ≡ map (known_entry m) entries
  pub requests : s.requests ≡ unknown m entries

-- how many are not known
abbrev pub missing : List (Option Ref) → ℕ
missing [] = 0
missing (Some r ∷ known) = missing known
missing (None ∷ known) = missing known + 1

-- the answers: what is known, and what was found for the others, in order; if as many were found as are missing, False
-- is never taken
abbrev pub merged : List (Option Ref) → List Ref → List Ref
merged [] found = []
merged (Some r ∷ known) found = r ∷ merged known found
merged (None ∷ known) found = slice_index_or found 0 False ∷ merged known (drop 1 found)

-- the computed table after the requests of these entries were kept with their answers, in order
abbrev pub AreKept : ComputedView → List Entry → List Ref → ComputedView → Type 0
AreKept old [] answers new = new ≡ old
AreKept old (e ∷ es) [] new = new ≡ old
AreKept old (e ∷ es) (r ∷ answers) new = (m : ComputedView) × KeepsAnswer old (normal_of e.0 e.1 e.2).0 (complement_by (normal_of e.0 e.1 e.2).1 r) m
    × AreKept m es answers new

-- the answer of an entry, if nothing was known of it
abbrev pub unless_known_answer : Option Ref → Ref → List Ref
unless_known_answer None r = r ∷ []
unless_known_answer (Some k) r = []

-- of the answers of these entries, those of entries of which nothing was known
abbrev pub found_of : ComputedView → List Entry → List Ref → List Ref
found_of m [] answers = []
found_of m (e ∷ es) [] = []
found_of m (e ∷ es) (r ∷ answers) = unless_known_answer (known_entry m e) r ++ found_of m es answers

-- the computed table after a wave: the key of each entry of which nothing was known is kept with its answer, in the
-- entries' order
abbrev pub IsKeptWave : ComputedView → List Entry → List Ref → ComputedView → Type 0
IsKeptWave old entries answers new = AreKept old (unknown old entries) (found_of old entries answers) new
