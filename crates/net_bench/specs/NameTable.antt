-- The names of a table, whose bytes are in one list, and where the search of the slots for a name ends.
use Rattle.std.specs.Prelude.{◌≡◌, ℕ, ◌+◌, ◌*◌, ◌/◌, ◌%◌, ◌^◌, ◌≤◌, List, fold, length, map, take, drop, slice_get, Some, All, bit_xor}
use Rattle.slot_table.specs.Probes.{home_of, IsFree, Probes}
use Rattle.net_bench.specs.declared.name_table.Span.{Span}
use Rattle.net_bench.specs.declared.name_table.Probe.{Probe}
use Rattle.net_bench.specs.declared.name_table.Probe.TheVariants.{Number, Slot}

-- the name whose bytes are in a span
abbrev pub name_in : List ℕ → Span → List ℕ
name_in bytes s = take s.len (drop s.start bytes)

-- the names whose bytes are in the spans
abbrev pub names_in : List ℕ → List Span → List (List ℕ)
names_in bytes spans = map (name_in bytes) spans

-- the span is within the bytes
abbrev pub IsInside : List ℕ → Span → Type 0
IsInside bytes s = s.start + s.len ≤ length bytes

-- one step of the hash FNV-1a (Fowler, Noll and Vo)
abbrev pub mix : ℕ → ℕ → ℕ
mix hash byte = bit_xor hash byte * 1099511628211 % 2 ^ 64

-- the hash of a name, from which its slot follows; no proof uses more of it than that each name has one
unfoldable pub hash_of : List ℕ → ℕ
hash_of name = fold mix 14695981039346656037 name

-- the hash with its upper half folded into the lower
unfoldable pub folded_hash_of : List ℕ → ℕ
folded_hash_of name = bit_xor (hash_of name) (hash_of name / 2 ^ 32)

-- no two numbers have the same name
abbrev pub NamesAreDistinct : List (List ℕ) → Type 0
NamesAreDistinct names = (i j : ℕ) (name : List ℕ) → slice_get names i ≡ Some name → slice_get names j ≡ Some name → i ≡ j

-- where the search for a name ends: at its number, or if it has none at the first empty slot
abbrev pub IsProbe : List (List ℕ) → List ℕ → List ℕ → Probe → Type 0
IsProbe names ts name (Number i) = slice_get names i ≡ Some name
IsProbe names ts name (Slot j) = ((i : ℕ) → slice_get names i ≡ Some name → ⊥)
    × IsFree (length ts) (home_of folded_hash_of (length ts) name) ts j

-- what is true of each table
pub record IsTable (bytes : List ℕ) (spans : List Span) (ts : List ℕ) : Type 0 where
  pub in_bounds : All (IsInside bytes) spans
  pub once : NamesAreDistinct (names_in bytes spans)
  pub probes : Probes folded_hash_of (length ts) (names_in bytes spans) ts
  pub half : 2 * length spans ≤ length ts
