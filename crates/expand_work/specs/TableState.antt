-- The requests of a level of a worker, whether its own table has them or only contracts do.
use Rattle.std.specs.Prelude.{List, []}
use Rattle.req_table.specs.declared.Key.{Key}
use Rattle.expand_work.specs.declared.tables.TableState.{TableState}
use Rattle.expand_work.specs.declared.tables.TableState.TheVariants.{Empty, InUse, Recycled}

-- the requests of a level
abbrev pub keys_of_state : TableState → List Key
keys_of_state Empty = []
keys_of_state (InUse keys) = keys
keys_of_state (Recycled snapshot) = snapshot.value
