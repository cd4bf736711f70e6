use Rattle.std.proofs.Common.{◌≡◌, ◌<◌, slice_get, Some, List, length, sym, ◌∙◌, subst}
use Rattle.std.proofs.lemmas.Option.{slice_get_within}
use Rattle.dd_store.specs.declared.reference.Ref.{Ref}
use Rattle.req_table.specs.declared.packed_child.PlacedChild.TheVariants.{Ask}
use Rattle.req_table.specs.Places.{row, IsAtPlace}
use Rattle.reduce_up.specs.ReductionPhase.{ResolvesTo}
use Rattle.req_table.proofs.AtPlace.{row_read, in_lists}
use Rattle.reduce_up.proofs.up.resolve.Goals as goal

pub at-requires : goal.at-requires
at-requires c =
    let s : (r : Ref) × ResolvesTo c.args.answers.now (Ask c.in-Ask.level c.in-Ask.place c.in-Ask.complement) r = subst (λ z. (r : Ref) × ResolvesTo c.args.answers.now z r) (sym c.view.ensures ∙ c.in-Ask.is) c.requires in
    let fits : c.in-Ask.level < length c.args.answers.now = in_lists c.args.answers.now c.in-Ask.level c.in-Ask.place s.1.0 s.1.1 in
    subst (λ (z : List Ref). c.in-Ask.place < length z) (sym (row_read c.args.answers.now c.in-Ask.level c.index-answers-level.result fits c.index-answers-level.is)) (slice_get_within (row c.args.answers.now c.in-Ask.level) c.in-Ask.place s.1.0 s.1.1)

pub returns-in-Ask : goal.returns-in-Ask
returns-in-Ask c =
    let s : (r : Ref) × ResolvesTo c.args.answers.now (Ask c.in-Ask.level c.in-Ask.place c.in-Ask.complement) r = subst (λ z. (r : Ref) × ResolvesTo c.args.answers.now z r) (sym c.view.ensures ∙ c.in-Ask.is) c.requires in
    let fits : c.in-Ask.level < length c.args.answers.now = in_lists c.args.answers.now c.in-Ask.level c.in-Ask.place s.1.0 s.1.1 in
    let there : IsAtPlace c.args.answers.now c.in-Ask.level c.in-Ask.place c.at.result =
    subst (λ (z : List Ref). slice_get z c.in-Ask.place ≡ Some c.at.result) (row_read c.args.answers.now c.in-Ask.level c.index-answers-level.result fits c.index-answers-level.is) c.at.ensures in
    subst (λ z. ResolvesTo c.args.answers.now z c.complement_if.result) (sym c.in-Ask.is ∙ c.view.ensures) (c.at.result, there, c.complement_if.ensures)
