use Rattle.std.proofs.Common.{◌∙◌, ap}
use Rattle.std.specs.Option.{option_map}
use Rattle.std.proofs.lemmas.Option.{slice_get-map}
use Rattle.req_table.specs.WordLists.{pairs_in, both_at}
use Rattle.req_table.proofs.packed_lists.Row.at.Goals as goal

pub returns : goal.returns
returns c =
    rw (← c.self.view_is, c.of_word.ensures, c.of_word-2.ensures)
    (slice_get-map both_at (pairs_in c.self.inside.pairs) c.args.place ∙ ap (option_map both_at) c.at-low.ensures)
