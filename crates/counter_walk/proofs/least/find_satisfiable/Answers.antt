use Rattle.std.proofs.Common.{◌∙◌, arith}
use Rattle.std.proofs.lemmas.List.{length-set}
use Rattle.std.proofs.lemmas.Option.{slice_get_within, slice_get-get_or}
use Rattle.counter_walk.proofs.LineDenotes.{marked_more}
use Rattle.counter_walk.proofs.least.find_satisfiable.Goals as goal

pub loop-place-preserved : goal.loop-place-preserved
loop-place-preserved c = record {
  each = length-set c.loop-place.satisfiable c.loop-place.place c.is_satisfiable.result ∙ c.loop-place.invariant.each;
  done = marked_more c.args.lines.now c.args.bits.now c.loop-place.satisfiable c.loop-place.place c.is_satisfiable.result _ c.requires.lines
      (slice_get-get_or c.args.lines.now c.loop-place.place _ c.loop-place-test.true) (omega arith) c.is_satisfiable.ensures c.loop-place.invariant.done;
}

pub returns : goal.returns
returns c = λ p l e.
    let within = slice_get_within c.args.lines.now p l e in
    c.loop-place.invariant.done p l (omega arith) e
