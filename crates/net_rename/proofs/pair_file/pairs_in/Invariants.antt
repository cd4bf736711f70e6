use Rattle.std.proofs.Common.{◌≡◌, ◌++◌, length}
use Rattle.net_bench.specs.Text.{Tokens}
use Rattle.net_bench.specs.Pieces.{tokens_at}
use Rattle.net_rename.specs.PairText.{ArePairNames}
use Rattle.net_rename.proofs.pair_file.pairs_in.Given as goal

abbrev pub invariant-tokens : goal.invariant-tokens
invariant-tokens l = (taken : Tokens) × (tokens_at 1 l.text ≡ taken ++ l.scanner) × ArePairNames taken l.pairs.items

abbrev pub decreases-tokens : goal.decreases-tokens
decreases-tokens l = length l.scanner
