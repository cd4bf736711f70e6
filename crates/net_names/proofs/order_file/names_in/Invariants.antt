use Rattle.std.proofs.Common.{◌≡◌, ◌++◌, map, length}
use Rattle.net_bench.specs.Text.{Tokens}
use Rattle.net_bench.specs.Pieces.{tokens_at}
use Rattle.net_names.specs.OrderText.{AreNames}
use Rattle.net_names.proofs.order_file.names_in.Given as goal

abbrev pub invariant-tokens : goal.invariant-tokens
invariant-tokens l = (taken : Tokens) × (tokens_at 1 l.text ≡ taken ++ l.scanner) × AreNames taken (map (λ n. n.items) l.names.items)

abbrev pub decreases-tokens : goal.decreases-tokens
decreases-tokens l = length l.scanner
