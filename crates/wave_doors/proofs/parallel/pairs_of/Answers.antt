use Rattle.std.proofs.Common.{◌∙◌}
use Rattle.rayon.proofs.ListFacts.{IfOk-then}
use Rattle.rayon.proofs.ToStd.{slice-AllZip}
use Rattle.reduce_up.specs.Sharing.{IsPairOf}
use Rattle.wave_doors.proofs.parallel.pairs_of.Goals as goal

pub returns : goal.returns
returns g c =
    IfOk-then c.collect.result _ _ c.collect.ensures (λ v h.
    let chain = rw (c.map.ensures.base, c.map.ensures.f) at h.1 in
    rw h.2 (slice-AllZip chain.0 c.args.row.now (chain.1 ∙ c.par_iter.ensures) (IsPairOf c.args.results.now) h.0 chain.2))
