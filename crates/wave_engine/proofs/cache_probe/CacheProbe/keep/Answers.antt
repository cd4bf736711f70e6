use Rattle.std.proofs.Common.{◌∙◌, ap, subst, arith}
use Rattle.std.specs.Prelude.{◌<◌, List, length, slice_index_or}
use Rattle.req_table.specs.ComputedTables.{KeepsAnswer}
use Rattle.reduce_up.specs.Waves.{Entry}
use Rattle.wave_engine.proofs.Probing.{kept_more}
use Rattle.wave_engine.proofs.cache_probe.CacheProbe.keep.Goals as goal

pub loop-place-preserved : goal.loop-place-preserved
loop-place-preserved c =
    let here = c.index.ensures ∙ ap (λ s. slice_index_or s.requests c.loop-place.place c.index.result.now) c.self.view_is in
    let keeps = subst (λ r. KeepsAnswer c.loop-place.computed c.normal-key.result.0 r c.keep.new.self) c.complement_if.ensures c.keep.ensures in
    λ new more. c.loop-place.invariant new (kept_more c.loop-place.computed c.keep.new.self new c.args.self.now.requests c.args.found.now c.loop-place.place
    c.index.result.now c.index-found-place.result c.normal-key.result (subst (λ (r : List Entry). c.loop-place.place < length r) (ap (λ s. s.requests) c.self.view_is) (omega (arith, c.loop-place-test.true, c.len-place-end.ensures))) c.requires.one_answer_per_request here c.index-found-place.is c.normal-key.ensures.key keeps more)
