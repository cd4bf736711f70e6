use Rattle.std.proofs.Common.{◌≡◌, ◌∙◌, All, sym, subst, arith}
use Rattle.req_table.specs.Keys.{IsKey}
use Rattle.reduce_up.specs.Waves.{requests_of, IsClosureOf}
use Rattle.reduce_up.proofs.Rooted.{requests_good}
use Rattle.wave_doors.proofs.waves.wave_without_computed.Goals as goal

pub closure_of-requires-clause-roots : goal.closure_of-requires-clause-roots
closure_of-requires-clause-roots g c =
    let roots : c.as_slice.result.now ≡ requests_of c.args.entries.now = c.as_slice.ensures.value ∙ c.in-Ok.ensures in
    subst (All (IsKey c.args.store.now)) (sym roots) (requests_good c.args.store.now c.args.entries.now c.requires.operands)

pub answer_closure-requires-clause-closure : goal.answer_closure-requires-clause-closure
answer_closure-requires-clause-closure g c κs within =
    let roots : c.as_slice.result.now ≡ requests_of c.args.entries.now = c.as_slice.ensures.value ∙ c.in-Ok.ensures in
    (c.count-workers.result, (let e = c.count-workers.ensures.some in omega (arith, e)), subst (λ z. IsClosureOf c.args.store.now c.count-workers.result z c.in-Ok-closure_of.records) roots c.in-Ok-closure_of.ensures)
