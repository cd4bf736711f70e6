use Rattle.std.proofs.Common.{◌≡◌, arith}
use Rattle.command_line.proofs.Sizing.{same_size}
use Rattle.command_line.proofs.size.memory_of.Goals as goal

pub returns-in_default : goal.returns-in_default
returns-in_default c = λ n m. let same : n ≡ c.in-Some.size = same_size c.args.text.now n c.in-Some.size m.0 c.in-Some.ensures in absurd (omega (arith, m.1))

pub returns-in_default-2 : goal.returns-in_default-2
returns-in_default-2 c = λ n m. c.in_default.ensures n m.0 m.2
