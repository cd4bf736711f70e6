use Rattle.dd_store.specs.Levels.{all_at, regular_lists}
use Rattle.dd_store.proofs.AddingAll.{Extends-grown}
use Rattle.dd_store.proofs.store.Store.make_all.Goals as goal

pub returns-in-None-clause-extends : goal.returns-in-None-clause-extends
returns-in-None-clause-extends g c =
    Extends-grown c.args.self.now c.make_level_parts.new.self c.args.level (regular_lists (all_at c.args.parts.now)) c.make_level_parts.ensures.grows

pub returns-in-Some-clause-extends : goal.returns-in-Some-clause-extends
returns-in-Some-clause-extends g c =
    Extends-grown c.args.self.now c.make_level_parts.new.self c.args.level (regular_lists (all_at c.args.parts.now)) c.make_level_parts.ensures.grows
