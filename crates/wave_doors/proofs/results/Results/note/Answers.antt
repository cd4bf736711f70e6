use Rattle.std.proofs.Common.{set, sym, ◌∙◌, subst}
use Rattle.std.specs.Prelude.{OnOk}
use Rattle.reduce_up.specs.Reducing.{NotesAnswer}
use Rattle.reduce_up.specs.AnswersByLevel.{joined}
use Rattle.wave_doors.proofs.Placing.{noted_in, placed_in}
use Rattle.wave_doors.proofs.results.Results.note.Goals as goal

pub invariant_of-self-2 : goal.invariant_of-self-2
invariant_of-self-2 c =
    placed_in c.grow.new.rows.items c.level_of_request-place.result c.index_mut.result.now c.note.new.self c.args.key c.args.answer c.in_ok-grow.ensures.long c.index_mut.ensures.value c.note.result c.note.ensures.noted c.note.ensures.refused c.grow.ensures.placed (sym c.level_of_request-place.ensures)

pub returns-clause-noted : goal.returns-clause-noted
returns-clause-noted c =
    let rows = c.grow.new.rows.items in
    subst (λ l. OnOk c.note.result (NotesAnswer l c.args.key c.args.answer (joined (set rows c.level_of_request-place.result c.note.new.self)))) (c.grow.ensures.same ∙ c.self.view_is)
    (noted_in rows c.level_of_request-place.result c.index_mut.result.now c.note.new.self c.args.key c.args.answer c.in_ok-grow.ensures.long c.index_mut.ensures.value c.note.result c.note.ensures.noted)
