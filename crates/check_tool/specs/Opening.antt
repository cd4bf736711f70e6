-- Files that are opened and saved: their paths, and the sequence.
use Rattle.std.specs.Prelude.{◌≡◌, ℕ, Bool, true, false, List, [], ◌∷◌, ◌++◌, map, Option, Some, None, IfSome, IsTrue, ⊤}

-- the path of an opening, and whether the file was opened
abbrev pub Try : Type 0
Try = List ℕ × Bool

-- a file that was to be saved: its path, its bytes, and whether it has taken all of them
abbrev pub Save : Type 0
Save = List ℕ × List ℕ × Bool

-- openings or savings have grown by these, if they are known
abbrev pub Extends : {A : Type 0} → Option (List A) → Option (List A) → List A → Type 0
Extends None now more = ⊤
Extends (Some before) None more = ⊥
Extends (Some before) (Some now) more = now ≡ before ++ more

-- the files of all these paths were opened
abbrev pub opened : List (List ℕ) → List Try
opened paths = map (λ path. (path, true)) paths

-- the paths were tried in their sequence, and none after one that was not opened
abbrev pub AreTried : List (List ℕ) → List Try → Type 0
AreTried paths [] = ⊤
AreTried [] (t ∷ ts) = ⊥
AreTried (path ∷ paths) ((asked, true) ∷ ts) = (asked ≡ path) × AreTried paths ts
AreTried (path ∷ paths) ((asked, false) ∷ ts) = (asked ≡ path) × (ts ≡ [])

-- the files of these paths were opened again, up to one that could not be
abbrev pub OpensAgain : (tried tries : Option (List Try)) → List (List ℕ) → Type 0
OpensAgain tried tries paths = (again : List Try) × Extends tried tries again × AreTried paths again

-- a file that was opened at this path has failed, if files know their paths
abbrev pub HasFailedAt : {File : Type 0} → (origin : File → Option (List ℕ)) → (has_failed : File → Bool) → List ℕ → Type 0
HasFailedAt {File} origin has_failed path = (file : File) × IfSome (origin file) (λ from. from ≡ path) × IsTrue (has_failed file)
