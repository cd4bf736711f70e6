use Rattle.std.proofs.Common.{IsTrue}
use Rattle.check_tool.proofs.Answering.{from_each, to_each}
use Rattle.check_tool.proofs.laws.failures.Goals as goal

pub returns : goal.returns
returns c = λ bytes_at input_failed input o fault. (to_each bytes_at (IsTrue input_failed) input o fault, from_each bytes_at (IsTrue input_failed) input o fault)
