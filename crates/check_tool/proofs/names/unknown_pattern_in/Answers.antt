use Rattle.std.proofs.Common.{◌≡◌, ◌∙◌, false, true, sym}
use Rattle.net_bench.specs.Circuit.{circuit}
use Rattle.check_tool.specs.Helping.{IsKnownPattern, IsUnknownPattern}
use Rattle.check_tool.proofs.Naming.{first_word, one_more_word}
use Rattle.check_tool.proofs.names.unknown_pattern_in.Goals as goal

pub loop-word-preserved : goal.loop-word-preserved
loop-word-preserved c =
    one_more_word (IsKnownPattern (circuit c.args.net.now)) c.args.words.now c.loop-word.word-index c.loop-word-test.true c.loop-word.invariant
    (c.in-Ok.pattern, c.in-Ok.ensures, c.has_picked.ensures.0 c.if-not-has_picked.false)

pub returns-then-not-has_picked : goal.returns-then-not-has_picked
returns-then-not-has_picked c =
    let a = circuit c.args.net.now in
    first_word (IsKnownPattern a) (IsUnknownPattern a) c.args.words.now c.loop-word.word-index c.loop-word-test.true c.loop-word.invariant
    (c.in-Ok.pattern, c.in-Ok.ensures, λ has. absurd (let never : true ≡ false = sym (c.has_picked.ensures.1 has) ∙ c.if-not-has_picked.true in cc))
