use Rattle.std.proofs.Common.{ap, ◌∙◌, sym}
use Rattle.std.proofs.lemmas.Option.{IfSome_then}
use Rattle.expand_work.specs.WaveParts.{PartsView}
use Rattle.expand_work.proofs.OwnerRows.{keys_of_all}
use Rattle.expand_work.proofs.parts.WorkerNotes.keys.Goals as goal

pub keys-requires : goal.keys-requires
keys-requires c =
    (keys_of_all c.self.inside.store.value c.args.self.now.rows c.self.inside.spaces.items c.args.worker c.args.level c.index.result.now (ap (λ (q : PartsView). q.rows) (sym c.self.view_is)) c.requires.worker c.requires.level c.index.ensures).0

pub returns : goal.returns
returns c =
    IfSome_then c.keys.result c.keys.ensures
    (λ keys own. own ∙ (keys_of_all c.self.inside.store.value c.args.self.now.rows c.self.inside.spaces.items c.args.worker c.args.level c.index.result.now (ap (λ (q : PartsView). q.rows) (sym c.self.view_is)) c.requires.worker c.requires.level c.index.ensures).1)
