use Rattle.std.proofs.Common.{subst, sym}
use Rattle.cone_check.specs.ConeLevels.{AreSetAt, given_levels}
use Rattle.cone_check.proofs.ConeLevels.{none_set}
use Rattle.cone_check.proofs.pair_cones.add_given_levels.Goals as goal

pub returns-in-Some : goal.returns-in-Some
returns-in-Some c =
    subst (λ o. AreSetAt (given_levels c.args.naming.now o) c.args.has_level.now.items c.add_levels.new.has_level.items) (sym c.in-Some.is) c.add_levels.ensures

pub returns-in-None : goal.returns-in-None
returns-in-None c =
    subst (λ o. AreSetAt (given_levels c.args.naming.now o) c.args.has_level.now.items c.args.has_level.now.items) (sym c.in-None.is) (none_set c.args.has_level.now.items)
