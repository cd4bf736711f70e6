use Rattle.std.proofs.Common.{◌≡◌, ◌+◌, ◌++◌, ◌∷◌, [], rules, sym, subst, length, length-append}
use Rattle.std.specs.Iterator.Adapters.{zip_first, zip_second}
use Rattle.std.specs.Slice.Iter.{iter_rest}
use Rattle.std.proofs.lemmas.Slice.Zip.{zip_turn}
use Rattle.reduce_up.specs.Sharing.{NotesFirst}
use Rattle.reduce_up.specs.Reducing.{NotesAnswer}
use Rattle.wave_doors.proofs.Shared.{notes_none, notes_fewer, notes_next}
use Rattle.wave_doors.proofs.parallel.note_all.Goals as goal

pub loop-entry-init : goal.loop-entry-init
loop-entry-init c = notes_none c.args.results.now c.args.row.now c.args.answers.now

pub loop-entry-preserved : goal.loop-entry-preserved
loop-entry-preserved c =
    let first : iter_rest (zip_first c.into_iter-entry-iterator.result) ≡ c.args.row.now = search rules in
    let second : iter_rest (zip_second c.into_iter-entry-iterator.result) ≡ c.args.answers.now = search rules in
    let notes : NotesAnswer c.loop-entry.results c.in-Some.entry.now.key c.in-Some.answer.now c.note.new.self = search rules in
    let turn = zip_turn c.args.row.now c.args.answers.now c.loop-entry.yielded c.into_iter-entry-iterator.result c.loop-entry.entry-iterator c.next.new.self c.next.result first second c.loop-entry.yielded_by (c.in-Some.entry, c.in-Some.answer) c.in-Some.is c.next.ensures.steps in
    let more : length (c.loop-entry.yielded ++ (c.in-Some.entry, c.in-Some.answer) ∷ []) ≡ length c.loop-entry.yielded + 1 = length-append c.loop-entry.yielded ((c.in-Some.entry, c.in-Some.answer) ∷ []) in
    subst (λ n. NotesFirst c.args.results.now c.args.row.now c.args.answers.now n c.note.new.self) (sym more)
    (notes_next c.args.results.now c.args.row.now c.args.answers.now (length c.loop-entry.yielded) c.loop-entry.results c.in-Some.entry.now c.in-Some.answer.now c.note.new.self turn.0 turn.2 turn.3 c.loop-entry.invariant notes)

pub returns-in_err-note-clause-first_noted : goal.returns-in_err-note-clause-first_noted
returns-in_err-note-clause-first_noted c =
    let same : c.note.new.self ≡ c.loop-entry.results = search rules in
    subst (NotesFirst c.args.results.now c.args.row.now c.args.answers.now 0) (sym same)
    (notes_fewer c.args.results.now c.args.row.now c.args.answers.now (length c.loop-entry.yielded) c.loop-entry.results c.loop-entry.invariant)
