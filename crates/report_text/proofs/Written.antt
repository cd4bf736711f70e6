-- One more write of a list of bytes.
use Rattle.std.proofs.Common.{◌≡◌, ◌≢◌, ◌∙◌, ap, sym, ℕ, zero, suc, Bool, true, false, refl, ◌||◌, List, [], ◌∷◌, ◌++◌, Some, None, Option, Ok, append_assoc, append-nil}
use Rattle.std.specs.Io.KnownBytes.{Appends, Keeps}
use Rattle.text_device.specs.Devices.{took_none}
use Rattle.text_device.specs.declared.device.Failed.{Failed}

pub appends_more : (held middle now : Option (List ℕ)) (front part bytes rest after : List ℕ) → bytes ≡ front ++ rest → rest ≡ part ++ after
    → Appends held middle front → Appends middle now part → (x : List ℕ) × (bytes ≡ x ++ after) × Appends held now x
appends_more None middle now front part bytes rest after whole split first second =
    (front ++ part, whole ∙ ap (λ r. front ++ r) split ∙ sym (append_assoc front part after), tt)
appends_more (Some held) None now front part bytes rest after whole split first second = absurd first
appends_more (Some held) (Some middle) None front part bytes rest after whole split first second = absurd second
appends_more (Some held) (Some middle) (Some now) front part bytes rest after whole split first second =
    (front ++ part, whole ∙ ap (λ r. front ++ r) split ∙ sym (append_assoc front part after), second ∙ ap (λ m. m ++ part) first ∙ append_assoc held front part)

-- a device that keeps what it holds holds what was appended before
pub kept_after : (held middle now : Option (List ℕ)) (front : List ℕ) → Appends held middle front → Keeps middle now → Appends held now front
kept_after None middle now front a k = tt
kept_after (Some held) None now front a k = absurd a
kept_after (Some held) (Some middle) None front a k = absurd k
kept_after (Some held) (Some middle) (Some now) front a k = k ∙ a

-- nothing was appended yet
pub none_yet : (held : Option (List ℕ)) → Appends held held []
none_yet None = tt
none_yet (Some held) = sym (append-nil held)

-- after a call that has not failed, a device has failed only if it had before
pub still : (now before : Bool) → now ≡ (before || false) → now ≡ before
still now true e = e
still now false e = e

-- after a write that took some bytes, a device has stopped only if it had before
pub goes_on : (now before : Bool) (n : ℕ) (bytes : List ℕ) → n ≢ 0 → now ≡ (before || took_none {E = Failed} (Ok n) bytes) → now ≡ before
goes_on now before zero bytes some e = absurd (some refl)
goes_on now before (suc n) bytes some e = still now before e

-- after a write that took none of some bytes, a device has stopped
pub has_taken_none : (now before : Bool) (n : ℕ) (bytes : List ℕ) → n ≡ 0 → bytes ≢ [] → now ≡ (before || took_none {E = Failed} (Ok n) bytes) → now ≡ true
has_taken_none now before zero [] none some e = absurd (some refl)
has_taken_none now true zero (b ∷ bytes) none some e = e
has_taken_none now false zero (b ∷ bytes) none some e = e
has_taken_none now before (suc n) bytes none some e = cc
