use Rattle.std.proofs.Common.{List, ℕ, Bor, subst}
use Rattle.std.specs.Prelude.{IfSome}
use Rattle.net_bench.specs.Circuit.{circuit}
use Rattle.check_tool.specs.Helping.{IsFirstWord, IsKnownPattern, IsUnknownPattern}
use Rattle.check_tool.proofs.Naming.{some_pick}
use Rattle.check_tool.proofs.names.unknown_pick.Goals as goal

pub returns-clause-unknown : goal.returns-clause-unknown
returns-clause-unknown g c =
    let a = circuit c.in-Some.net in
    some_pick (g.F.Folder.bytes_at c.args.folder.now) c.args.options.now a c.in-Some.ensures.read c.unknown_pattern_in.result
    (subst (λ (ws : List (Bor (List ℕ))). IfSome c.unknown_pattern_in.result (IsFirstWord (IsKnownPattern a) (IsUnknownPattern a) ws)) c.picked_names.ensures c.unknown_pattern_in.ensures)
