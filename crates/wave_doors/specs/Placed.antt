-- Diagrams by level: the level of a request, and what all levels have together.
use Rattle.std.specs.Prelude.{◌≡◌, List, length, map}
use Rattle.req_table.specs.declared.Key.{Key}
use Rattle.req_table.specs.declared.Record.{Record}
use Rattle.req_table.specs.Settled.{key_of}

-- if there are as many keys as records, they are the records' keys, in order
abbrev pub IsIndexOf : List Record → List Key → Type 0
IsIndexOf row keys = length keys ≡ length row → keys ≡ map key_of row
