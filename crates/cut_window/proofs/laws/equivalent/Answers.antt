use Rattle.cut_window.proofs.Over.{holds_from_over}
use Rattle.cut_window.proofs.laws.equivalent.Goals as goal

pub returns : goal.returns
returns c = holds_from_over
