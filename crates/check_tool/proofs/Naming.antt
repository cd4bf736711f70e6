-- The netlist that is read again for a name that it does not have.
use Rattle.std.proofs.Common.{◌≡◌, ◌+◌, ◌<◌, ℕ, List, [], Bor, Option, Some, None, arith, get_or, inl, inr, length, subst, sym}
use Rattle.std.specs.Prelude.{IfSome}
use Rattle.std.proofs.lemmas.Bool.{cases_eq}
use Rattle.std.proofs.lemmas.List.{get_or_default}
use Rattle.net_bench.specs.Circuit.{Circuit}
use Rattle.compare_built.specs.Check.{Gives}
use Rattle.command_line.specs.declared.options.Options.{Options}
use Rattle.check_tool.specs.Helping.{IsFirstCircuit, IsFirstWord, IsKnownPattern, IsKnownTarget, IsUnknownPattern, IsUnknownPick, IsUnknownTarget}
use Rattle.check_tool.specs.Helping.{IsUnknownTargetWord, picked_names}
use Rattle.check_tool.specs.Running.{IsReadOf}

-- the circuit of a file that is opened again is that of the bytes that are known of it
pub gives_again : (known read : Option (List ℕ)) (a : Circuit) → IsReadOf known read → Gives read a → Gives known a
gives_again None read a is g = tt
gives_again (Some text) read a is g = subst (λ r. Gives r a) is g

-- a word, for a place that a list does not have
abbrev pub no_word : Bor (List ℕ)
no_word = record { ref_ptr = (0, 0); now = [] }

-- a fact of the words before one holds of one more
pub one_more_word : (before : List ℕ → Type 0) (words : List (Bor (List ℕ))) (i : ℕ) → i < length words → ((k : ℕ) (d : Bor (List ℕ)) → k < i → before (get_or words k d).now)
    → before (get_or words i no_word).now → (k : ℕ) (d : Bor (List ℕ)) → k < i + 1 → before (get_or words k d).now
one_more_word before words i low held here k d lt = elim (cases_eq k i) [
  | inl same ↦
      subst (λ j. before (get_or words j d).now) (sym same) (subst (λ (w : Bor (List ℕ)). before w.now) (get_or_default words i no_word d low) here)
  | inr other ↦ held k d (omega (arith, lt, other))
]

-- this word is the first
pub first_word : (before this : List ℕ → Type 0) (words : List (Bor (List ℕ))) (i : ℕ) → i < length words → ((k : ℕ) (d : Bor (List ℕ)) → k < i → before (get_or words k d).now)
    → this (get_or words i no_word).now → IsFirstWord before this words (get_or words i no_word)
first_word before this words i low held here = (i, low, get_or_default words i (get_or words i no_word) no_word low, held, here)

-- the first of the words that the options have
pub some_pick : (bytes_at : List ℕ → Option (List ℕ)) (o : Options) (a : Circuit) → IsFirstCircuit bytes_at o a → (found : Option (Bor (List ℕ)))
    → IfSome found (IsFirstWord (IsKnownPattern a) (IsUnknownPattern a) (picked_names o.picks)) → IfSome found (IsUnknownPick bytes_at o)
some_pick bytes_at o a is None h = tt
some_pick bytes_at o a is (Some word) h = (a, is, h)

pub some_target : (bytes_at : List ℕ → Option (List ℕ)) (o : Options) (a : Circuit) → IsFirstCircuit bytes_at o a → (found : Option (Bor (List ℕ)))
    → IfSome found (IsFirstWord (IsKnownTarget a) (IsUnknownTarget a) o.explain.items) → IfSome found (IsUnknownTargetWord bytes_at o)
some_target bytes_at o a is None h = tt
some_target bytes_at o a is (Some word) h = (a, is, h)
