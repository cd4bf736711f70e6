-- What the devices of a comparison give, and whether they have failed. There may be no device of a condition.
use Rattle.std.specs.Prelude.{ℕ, Bool, List, Option, Some, None, IsTrue}

-- what the device gives, if there is one
abbrev pub device_text : {R : Type 0} → (R → Option (List ℕ)) → Option R → Option (Option (List ℕ))
device_text text_of None = None
device_text text_of (Some device) = Some (text_of device)

-- there is a device, and it has failed
abbrev pub HasFailedIn : {R : Type 0} → (R → Bool) → Option R → Type 0
HasFailedIn failed None = ⊥
HasFailedIn failed (Some device) = IsTrue (failed device)

-- what the devices of the two netlists give, and that of the condition if there is one
pub record DeviceTexts : Type 0 where
  pub first : Option (List ℕ)
  pub second : Option (List ℕ)
  pub given : Option (Option (List ℕ))

-- the same, from what each device gives
abbrev pub device_texts : (first second : Option (List ℕ)) → Option (Option (List ℕ)) → DeviceTexts
device_texts first second given = record { first = first; second = second; given = given }
