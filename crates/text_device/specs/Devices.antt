-- What reading a text leaves of a device, what a write may refuse, and how a failure is printed.
use Rattle.std.specs.Prelude.{ℕ, zero, suc, ◌≤◌, Bool, true, false, List, [], ◌∷◌, length, Option, Result, Ok, Err, codes}
use Rattle.std.specs.Io.KnownBytes.{Consumes}

-- At most so many bytes are taken, from the front of those that the device still gives.
abbrev pub TakesAtMost : ℕ → Option (List ℕ) → Option (List ℕ) → Type 0
TakesAtMost most before left = (bytes : List ℕ) × Consumes before left bytes × (length bytes ≤ most)

-- A write took none of the bytes that it was given, though there were some.
abbrev pub took_none : {E : Type 0} → Result ℕ E → List ℕ → Bool
took_none (Ok zero) (b ∷ bytes) = true
took_none (Ok zero) [] = false
took_none (Ok (suc n)) bytes = false
took_none (Err e) bytes = false

-- What is printed of a device that has failed.
abbrev pub failed_text : List ℕ
failed_text = codes "the device has failed"
