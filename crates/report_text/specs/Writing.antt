-- What a device holds after bytes were written, whether all of them or not.
use Rattle.std.specs.Prelude.{◌≡◌, ◌≢◌, ◌⊎◌, ℕ, List, [], ◌++◌, Option, Bool, IsTrue}
use Rattle.std.specs.Io.KnownBytes.{Appends}

-- A front part of the bytes was appended, and the device shows why not more: it has failed, or it has taken none of a
-- rest that there is.
pub record AppendsFront (held now : Option (List ℕ)) (has_failed has_stopped : Bool) (bytes : List ℕ) : Type 0 where
  pub front : List ℕ
  pub back : List ℕ
  pub parts : bytes ≡ front ++ back
  pub appends : Appends held now front
  pub why : IsTrue has_failed ⊎ (IsTrue has_stopped × (back ≢ []))
