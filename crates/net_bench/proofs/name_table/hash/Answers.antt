use Rattle.std.proofs.Common.{◌∙◌, ap, arith}
use Rattle.std.specs.Prelude.{fold}
use Rattle.std.proofs.lemmas.List.{take_all}
use Rattle.net_bench.specs.NameTable.{hash_of, mix}
use Rattle.net_bench.proofs.name_table.hash.Goals as goal

pub returns : goal.returns
unfolding hash_of
returns c = c.loop-byte.invariant ∙ ap (fold mix 14695981039346656037) (take_all c.loop-byte.byte-index c.args.name.now (omega arith))
