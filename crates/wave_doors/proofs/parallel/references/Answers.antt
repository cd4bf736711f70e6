use Rattle.std.proofs.Common.{◌∙◌, sym, subst}
use Rattle.rayon.proofs.ListFacts.{IfOk-then}
use Rattle.rayon.proofs.ToStd.{slice-AllZip}
use Rattle.dd_store.specs.Nodes.{IsThere}
use Rattle.wave_doors.specs.Sharing.{HasPair}
use Rattle.wave_doors.proofs.parallel.references.Goals as goal

pub returns : goal.returns
returns g c =
    IfOk-then c.collect.result _ _ c.collect.ensures (λ v h.
    let chain = rw (c.map.ensures.base, c.map.ensures.f) at h.1 in
    rw h.2 (slice-AllZip chain.0 c.args.pairs.now (chain.1 ∙ c.par_iter.ensures) (λ p r. IsThere c.args.store.now c.args.level p.0 p.1 r) h.0 chain.2))

pub collect-requires-clause-ready : goal.collect-requires-clause-ready
collect-requires-clause-ready g c κs within =
    rw (c.map.ensures.base, c.map.ensures.f, c.par_iter.ensures)
    (λ k d lt x e. ((c.requires.level, subst (HasPair c.args.store.now c.args.level) (sym e) (c.requires.there k d lt)), λ y p. tt))
