-- A VCD that could not be saved: no file is opened again for this fault.
use Rattle.std.proofs.Common.{◌≡◌, ◌∙◌, ◌++◌, List, [], ◌∷◌, Option, refl, sym, ap, subst, append-nil}
use Rattle.command_line.specs.declared.options.Options.{Options}
use Rattle.check_tool.specs.declared.folder.Obstacle.{Obstacle}
use Rattle.check_tool.specs.declared.fault.ToolFault.{ToolFault}
use Rattle.check_tool.specs.declared.fault.ToolFault.TheVariants.{CannotSave}
use Rattle.check_tool.specs.Helping.{refused_paths}
use Rattle.check_tool.specs.Opening.{AreTried, Extends, Try}
use Rattle.check_tool.proofs.Composing.{extends_more, extends_none}

no_tries : (again : List Try) → AreTried [] again → again ≡ []
no_tries [] tried = refl
no_tries (t ∷ ts) tried = absurd tried

-- no more files were opened
pub none_opened : (o : Options) (obstacle : Obstacle) (fault : ToolFault) → fault ≡ CannotSave obstacle → (a b c : Option (List Try)) (before again : List Try) → Extends a b before → Extends b c again
    → AreTried (refused_paths o fault) again → Extends a c before
none_opened o obstacle fault is a b c before again e f tried =
    let paths : refused_paths o fault ≡ [] = ap (refused_paths o) is in
    let none : again ≡ [] = no_tries again (subst (λ p. AreTried p again) paths tried) in
    subst (λ l. Extends a c l) (ap (λ l. before ++ l) none ∙ append-nil before) (extends_more a b c before again e f)

-- a list that is unchanged has grown by nothing
pub grows_none : {A : Type 0} (a b : Option (List A)) → b ≡ a → Extends a b []
grows_none a b same = subst (λ x. Extends a x []) (sym same) (extends_none a)
