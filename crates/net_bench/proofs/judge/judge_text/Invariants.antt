use Rattle.std.proofs.Common.{◌≡◌, List, [], length}
use Rattle.net_bench.specs.Pieces.{tokens_at}
use Rattle.net_bench.specs.Statement.{Statement}
use Rattle.net_bench.specs.Machine.{Between, tokens_of}
use Rattle.net_bench.specs.ParsedStatement.{state_of}
use Rattle.net_bench.specs.Judge.{judge}
use Rattle.net_bench.specs.Symbols.{IsTableOf}
use Rattle.net_bench.proofs.judge.judge_text.Given as goal

-- the judge has come to the token that the scanner returns next, and the table is that of its state
abbrev pub invariant-tokens : goal.invariant-tokens
invariant-tokens l =
    (done : List Statement) × (judge (state_of done l.part) (tokens_of (state_of done l.part)) l.scanner ≡ judge (Between []) [] (tokens_at 1 l.text)) ×
    IsTableOf done (state_of done l.part) l.symbols

abbrev pub decreases-tokens : goal.decreases-tokens
decreases-tokens l = length l.scanner
