use Rattle.std.proofs.Common.{◌≡◌, rules}
use Rattle.std.specs.Prelude.{◌↔◌, IsTrue}
use Rattle.dd_store.proofs.Storing.{IsCanonical-sound}
use Rattle.counter_walk.proofs.same.Goals as goal

pub returns-clause-functions : goal.returns-clause-functions
returns-clause-functions c =
    let equal : IsTrue c.eq.result ↔ (c.args.f ≡ c.args.g) = search rules in
    λ S sound f_here g_here.
    let canonical = IsCanonical-sound S sound c.args.f c.args.g f_here g_here in
    (λ t. canonical.0 (equal.0 t), λ agree. equal.1 (canonical.1 agree))
