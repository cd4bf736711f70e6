use Rattle.std.proofs.Common.{◌≡◌, ◌∙◌, List, [], All, sym, ap, subst}
use Rattle.std.proofs.lemmas.List.{get_or_default}
use Rattle.std.specs.Prelude.{OnOk}
use Rattle.dd_store.specs.Graph.{Pair}
use Rattle.req_table.specs.declared.packed_child.PackedChild.{PackedChild}
use Rattle.req_table.specs.Places.{row}
use Rattle.reduce_up.specs.Steps.{BothResolveTo, IsPartRead}
use Rattle.reduce_up.proofs.reads.ReadTask.read.Goals as goal

pub read_part-self-requires : goal.read_part-self-requires
read_part-self-requires c =
    let L = c.args.level.now in
    let part : List (List (PackedChild × PackedChild)) = c.index-level-part.result in
    record { resolvable = subst (λ z. All (λ d. (p : Pair) × BothResolveTo L.answers.now d p) z) (sym c.row-children.ensures) (c.requires.may c.args.part part c.requires.part).resolvable }

pub returns : goal.returns
returns c =
    let L = c.args.level.now in
    let part : List (List (PackedChild × PackedChild)) = c.index-level-part.result in
    let same : c.row-children.result.now ≡ row (row L.parts.now c.args.part) L.number =
    c.row-children.ensures ∙ ap (λ (z : List (List (PackedChild × PackedChild))). row z L.number) (get_or_default L.parts.now c.args.part part [] c.requires.part) in
    subst (λ z. OnOk c.read_part-self.result (IsPartRead L.answers.now z c.read_part-self.new.divided.lists c.read_part-self.new.divided.origins)) same c.read_part-self.ensures
