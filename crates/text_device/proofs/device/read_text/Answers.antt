use Rattle.std.proofs.Common.{◌++◌, take, arith}
use Rattle.std.proofs.KnownBytes.{Consumes-trans}
use Rattle.std.proofs.lemmas.List.{length-append, length-take}
use Rattle.text_device.proofs.device.read_text.Goals as goal

-- what came before, and what this read has given
pub returns-then-is_err-clause-taken : goal.returns-then-is_err-clause-taken
returns-then-is_err-clause-taken g c = (
  c.loop-chunk.text.items ++ take c.in-Ok.taken c.read.new.buf,
  Consumes-trans _ _ _ _ _ c.loop-chunk.invariant.bytes c.in-Ok.ensures.bytes.0,
  omega (
    arith,
    c.read.auto.buf,
    length-append c.loop-chunk.text.items (take c.in-Ok.taken c.read.new.buf),
    length-take c.in-Ok.taken c.read.new.buf,
    length-take c.min-room.result c.loop-chunk.chunk,
  ),
)
