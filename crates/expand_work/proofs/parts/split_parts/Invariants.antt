use Rattle.std.proofs.Common.{◌≡◌, ◌++◌, map}
use Rattle.expand_work.specs.declared.part.Part.{Part}
use Rattle.expand_work.specs.MemoryPool.{rows_in, without_rows}
use Rattle.expand_work.proofs.parts.split_parts.Given as goal

abbrev pub invariant-loop-part : goal.invariant-loop-part
invariant-loop-part l = record {
  all : l.yielded ++ l.part-iterator.rest.items ≡ l.fn.parts.items;
  ports : l.ports.items ≡ map (λ (p : Part). p.port) l.yielded;
  rows : l.rows.items ≡ map (λ (p : Part). rows_in p.space) l.yielded;
  spaces : l.spaces.items ≡ map (λ (p : Part). without_rows p.space) l.yielded;
}
