use Rattle.std.proofs.Common.{◌∙◌, sym}
use Rattle.net_rename.proofs.Renamed.{all_written}
use Rattle.net_rename.proofs.renaming.renamed_text.Goals as goal

pub returns : goal.returns
returns c pairs one two =
    all_written pairs c.args.text.now c.pieces.rest.now c.pieces.out.items (sym c.is_empty.ensures ∙ c.pieces-test.false) (c.pieces.invariant.1 pairs one two)
