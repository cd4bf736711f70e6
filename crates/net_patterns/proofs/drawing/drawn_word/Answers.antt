use Rattle.std.proofs.Common.{◌∙◌}
use Rattle.net_patterns.proofs.Drawn.{drawn}
use Rattle.net_patterns.proofs.drawing.drawn_word.Goals as goal

pub returns : goal.returns
returns c =
    c.combined.ensures ∙
    drawn c.args.word c.args.level c.next_u64-one.result c.next_u64-two.result c.seed_from_u64-generator.result c.next_u64-one.new.self c.next_u64-two.new.self
    c.seed_from_u64-generator.ensures.same c.next_u64-one.ensures c.next_u64-two.ensures
