use Rattle.std.proofs.Common.{sym, subst, arith, Contains}
use Rattle.wave_tests.proofs.reduced.only.Goals as goal

pub get-requires : goal.get-requires
get-requires g c =
    let here : Contains c.level-row.result.now c.index-row-0.result = (0, omega arith, sym c.index-row-0.is) in
    c.requires c.args.level c.index-row-0.result (subst (λ z. Contains z c.index-row-0.result) c.level-row.ensures here)
