-- Conditions: where a condition holds, and when two functions agree or differ there.
use Rattle.std.specs.Prelude.{◌≡◌, ◌≢◌, ◌&&◌, ℕ, Bool, true, List, length, Option, Some, None, IfSome, slice_index, IsTrue, ⊤}
use Rattle.std.specs.Option.{MatchOption-prop}
use Rattle.std.proofs.Math.Nat.{ℕ_set}
use Rattle.net_bench.specs.Circuit.{Circuit}
use Rattle.net_bench.specs.Labels.{IsFunctionOf}
use Rattle.net_order.specs.Order.{NamingModel}
use Rattle.dd_store.specs.Functions.{Before}

-- a condition has exactly one output
abbrev pub HasOneOutput : Circuit → Type 0
HasOneOutput c = length c.outputs ≡ 1

-- the output of a condition
abbrev pub output_of : Circuit → ℕ
output_of c = slice_index c.outputs 0

-- if there is no condition, each assignment satisfies it
abbrev pub everywhere : List Bool → Bool
everywhere x = true

-- The condition holds where its output is 1, over the variables of the pairing. If there is none, it holds everywhere.
abbrev pub HoldsWhere : Option Circuit → NamingModel → (List Bool → Bool) → Type 0
HoldsWhere None p holds = holds ≡ everywhere
HoldsWhere (Some c) p holds = IsFunctionOf c (slice_index p.given) (length p.names) (output_of c) holds

-- f restricted to the condition: f where it holds, and 0 elsewhere
abbrev pub restricted : (holds f : List Bool → Bool) → List Bool → Bool
restricted holds f x = holds x && f x

-- f and g agree at each assignment of n bits that satisfies the condition
abbrev pub AgreeWhere : ℕ → (holds f g : List Bool → Bool) → Type 0
AgreeWhere n holds f g = (x : List Bool) → length x ≡ n → IsTrue (holds x) → f x ≡ g x

-- x is the least difference: it satisfies the condition, f and g differ at it, and they agree at each assignment before
-- it that satisfies the condition
pub record IsLeastWhere (n : ℕ) (holds f g : List Bool → Bool) (x : List Bool) : Type 0 where
  pub bits : length x ≡ n
  pub satisfies : IsTrue (holds x)
  pub differ : f x ≢ g x
  pub least : (y : List Bool) → length y ≡ n → Before y x → IsTrue (holds y) → f y ≡ g y

-- x satisfies the condition, and f and g differ at x
pub record IsDifferenceWhere (n : ℕ) (holds f g : List Bool → Bool) (x : List Bool) : Type 0 where
  pub bits : length x ≡ n
  pub satisfies : IsTrue (holds x)
  pub differ : f x ≢ g x

-- to have one output is a proposition, as an invariant of a struct has to be
pub one_output-prop : (given : Option Circuit) → IsProp (IfSome given HasOneOutput)
one_output-prop given = MatchOption-prop given ⊤ HasOneOutput (λ a b i. tt) (λ c. ℕ_set (length c.outputs) 1)
