-- The first of several numbers.
use Rattle.std.specs.Prelude.{◌≡◌, ◌<◌, ◌+◌, ◌*◌, ℕ, Bool, Option, Some, None}
use Rattle.net_patterns.specs.declared.counterexample.ShownPattern.{ShownPattern}

-- o is the first number below count for which D is true, and None only if there is none
abbrev pub IsFirst : (ℕ → Type 0) → ℕ → Option ℕ → Type 0
IsFirst D count None = (k : ℕ) → k < count → D k → ⊥
IsFirst D count (Some n) = (n < count) × D n × ((k : ℕ) → k < n → D k → ⊥)

-- s has the first number below count for which D is true, with a value for which W is true; None only if D is true of no number
abbrev pub IsFirstWith : (ℕ → Type 0) → (ℕ → Bool → Type 0) → ℕ → Option ShownPattern → Type 0
IsFirstWith D W count None = IsFirst D count None
IsFirstWith D W count (Some s) = IsFirst D count (Some s.number) × W s.number s.first

-- s has the number of a pattern in a block of 512, the first for whose bit A is true, and the value that V has for that bit
pub record IsFirstOfBlock (A : ℕ → Type 0) (V : ℕ → Bool) (block : ℕ) (s : ShownPattern) : Type 0 where
  pub bit : ℕ
  pub number : s.number ≡ 512 * block + bit
  pub within : bit < 512
  pub holds : A bit
  pub before : (k : ℕ) → k < bit → A k → ⊥
  pub value : s.first ≡ V bit

-- o is what was found earlier; if nothing was, it is what is found in this block
abbrev pub IsNext : (ℕ → Type 0) → (ℕ → Bool) → ℕ → Option ShownPattern → Option ShownPattern → Type 0
IsNext A V block (Some s) o = o ≡ Some s
IsNext A V block None None = (i : ℕ) → i < 512 → A i → ⊥
IsNext A V block None (Some s) = IsFirstOfBlock A V block s
