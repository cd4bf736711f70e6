use Rattle.dd_store.specs.WordLaws.{word_is}
use Rattle.dd_store.proofs.reference.RefSlotHash.slot_hash.Goals as goal

pub returns : goal.returns
returns c = word_is c.self.inside.word c.args.self.now c.self.invariant c.self.view_is
