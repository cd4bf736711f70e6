-- What a run saves in the file for its VCD.
use Rattle.std.specs.Prelude.{◌≡◌, ℕ, Bool, List, [], ◌∷◌, Option, Some, None}
use Rattle.std.specs.Borrow.{Bor}
use Rattle.explain_report.specs.Dumping.{bytes_in}
use Rattle.command_line.specs.declared.options.Options.{Options}
use Rattle.check_tool.specs.declared.done.Done.{Done}
use Rattle.check_tool.specs.declared.done.Done.TheVariants.{Compared, OrderPrinted}
use Rattle.check_tool.specs.declared.fault.ToolFault.{ToolFault}
use Rattle.check_tool.specs.declared.fault.ToolFault.TheVariants.{CannotSave}
use Rattle.check_tool.specs.declared.folder.Obstacle.{Obstacle}
use Rattle.check_tool.specs.Opening.{Save}

-- the VCD of a run, if it has one
abbrev pub vcd_in : Done → Option (List ℕ)
vcd_in (Compared outcome tried vcd) = bytes_in vcd
vcd_in (OrderPrinted tried) = None

-- bytes are saved if there are a path and bytes; `whole` says whether the file has taken all of them
abbrev pub saves_in : (path : Option (Bor (List ℕ))) → (bytes : Option (List ℕ)) → (whole : Bool) → List Save
saves_in None bytes whole = []
saves_in (Some path) None whole = []
saves_in (Some path) (Some bytes) whole = (path.now, bytes, whole) ∷ []

-- what is saved of a run: its VCD in the file that the options name
abbrev pub saves_of : Options → Done → (whole : Bool) → List Save
saves_of o done whole = saves_in o.vcd (vcd_in done) whole

-- Why it was not saved: the obstacle of this file, if there is a VCD for it.
pub record IsSaveFault (o : Options) (done : Done) (fault : ToolFault) : Type 0 where
  pub obstacle : Obstacle
  pub path : Bor (List ℕ)
  pub bytes : List ℕ
  pub is : fault ≡ CannotSave obstacle
  pub named : o.vcd ≡ Some path
  pub wanted : vcd_in done ≡ Some bytes
