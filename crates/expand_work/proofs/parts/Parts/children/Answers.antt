use Rattle.std.proofs.Common.{subst, ◌∙◌}
use Rattle.expand_work.specs.WaveParts.{PartsView}
use Rattle.expand_work.specs.OwnerRows.{AreRowsByOwner}
use Rattle.expand_work.proofs.OwnerRows.{row_of_all}
use Rattle.expand_work.proofs.parts.Parts.children.Goals as goal

pub row-requires : goal.row-requires
row-requires c =
    (row_of_all c.args.self.now.rows c.self.inside.rows.items c.args.worker c.args.level c.index.result.now (subst (λ (q : PartsView). AreRowsByOwner q.rows c.self.inside.rows.items) c.self.view_is c.self.invariant) c.requires.worker c.requires.level c.index.ensures).0

pub returns : goal.returns
returns c =
    c.row.ensures ∙ (row_of_all c.args.self.now.rows c.self.inside.rows.items c.args.worker c.args.level c.index.result.now (subst (λ (q : PartsView). AreRowsByOwner q.rows c.self.inside.rows.items) c.self.view_is c.self.invariant) c.requires.worker c.requires.level c.index.ensures).1
