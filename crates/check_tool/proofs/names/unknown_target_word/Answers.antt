use Rattle.std.proofs.Common.{List, ℕ, Bor, subst}
use Rattle.std.specs.Prelude.{IfSome}
use Rattle.net_bench.specs.Circuit.{circuit}
use Rattle.check_tool.specs.Helping.{IsFirstWord, IsKnownTarget, IsUnknownTarget}
use Rattle.check_tool.proofs.Naming.{some_target}
use Rattle.check_tool.proofs.names.unknown_target_word.Goals as goal

pub returns-clause-unknown : goal.returns-clause-unknown
returns-clause-unknown g c =
    let a = circuit c.in-Some.net in
    some_target (g.F.Folder.bytes_at c.args.folder.now) c.args.options.now a c.in-Some.ensures.read c.unknown_target_in.result
    (subst (λ (ws : List (Bor (List ℕ))). IfSome c.unknown_target_in.result (IsFirstWord (IsKnownTarget a) (IsUnknownTarget a) ws)) c.as_slice.ensures.value c.unknown_target_in.ensures)
