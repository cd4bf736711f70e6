use Rattle.std.proofs.Common.{◌≡◌, ◌∙◌, false, true, sym}
use Rattle.net_bench.specs.Circuit.{circuit}
use Rattle.check_tool.specs.Helping.{IsKnownTarget, IsUnknownTarget}
use Rattle.check_tool.proofs.Naming.{first_word, one_more_word}
use Rattle.check_tool.proofs.names.unknown_target_in.Goals as goal

pub loop-word-preserved : goal.loop-word-preserved
loop-word-preserved c =
    one_more_word (IsKnownTarget (circuit c.args.net.now)) c.args.words.now c.loop-word.word-index c.loop-word-test.true c.loop-word.invariant
    (c.in-Ok.target, c.in-Ok.ensures, c.has_pair.ensures.0 c.if-not-has_pair.false)

pub returns-then-not-has_pair : goal.returns-then-not-has_pair
returns-then-not-has_pair c =
    let a = circuit c.args.net.now in
    first_word (IsKnownTarget a) (IsUnknownTarget a) c.args.words.now c.loop-word.word-index c.loop-word-test.true c.loop-word.invariant
    (c.in-Ok.target, c.in-Ok.ensures, λ has. absurd (let never : true ≡ false = sym (c.has_pair.ensures.1 has) ∙ c.if-not-has_pair.true in cc))
