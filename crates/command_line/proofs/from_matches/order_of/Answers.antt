use Rattle.std.proofs.Common.{option_map}
use Rattle.command_line.proofs.from_matches.order_of.Goals as goal

pub returns-in-Some : goal.returns-in-Some
returns-in-Some c = rw c.in-Some.is (c.order_in_file.ensures (option_map (λ s. s.now) c.args.word) c.args.default_order)
