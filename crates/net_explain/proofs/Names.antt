-- Names by signal.
use Rattle.std.proofs.Common.{◌≡◌, ℕ, List, [], sym, get_or}
use Rattle.std.specs.Prelude.{Some, slice_get}
use Rattle.std.proofs.lemmas.Option.{get_or_from_slice_get}
use Rattle.net_bench.specs.Circuit.{Net}

pub name_at : (n : Net) (s : ℕ) (name : List ℕ) → slice_get n.names s ≡ Some name → name ≡ get_or n.names s []
name_at n s name at = sym (get_or_from_slice_get n.names s name [] at)
