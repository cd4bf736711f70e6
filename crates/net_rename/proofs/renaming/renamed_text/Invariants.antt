use Rattle.std.proofs.Common.{◌≡◌, ◌≤◌, ◌++◌, List, length}
use Rattle.net_rename.specs.declared.pair.NamePair.{NamePair}
use Rattle.net_rename.specs.Renaming.{firsts, renamed_text, seconds}
use Rattle.net_rename.proofs.renaming.renamed_text.Given as goal

-- what is still to be renamed completes the text
abbrev pub invariant-pieces : goal.invariant-pieces
invariant-pieces l = (length l.rest ≤ length l.text) × ((pairs : List NamePair) → l.tables.firsts ≡ firsts pairs → l.tables.seconds ≡ seconds pairs →
    l.out.items ++ renamed_text pairs l.rest ≡ renamed_text pairs l.text)

abbrev pub decreases-pieces : goal.decreases-pieces
decreases-pieces l = length l.rest
