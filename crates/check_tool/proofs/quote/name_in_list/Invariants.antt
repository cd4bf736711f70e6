use Rattle.std.proofs.Common.{◌≡◌, ◌-◌}
use Rattle.net_bench.specs.Pieces.{tokens_at}
use Rattle.check_tool.specs.Quoting.{name_remark}
use Rattle.check_tool.proofs.quote.name_in_list.Given as goal

abbrev pub invariant-loop : goal.invariant-loop
invariant-loop l = name_remark (l.place - 1) (tokens_at 1 l.text) ≡ name_remark (l.place - 1 - l.counter) l.scanner
