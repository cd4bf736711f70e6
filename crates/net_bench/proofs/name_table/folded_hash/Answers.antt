use Rattle.std.proofs.Common.{rules}
use Rattle.net_bench.specs.NameTable.{folded_hash_of}
use Rattle.net_bench.proofs.name_table.folded_hash.Goals as goal

pub returns : goal.returns
unfolding folded_hash_of
returns c = search rules
