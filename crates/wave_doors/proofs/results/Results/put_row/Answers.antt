use Rattle.std.proofs.Common.{◌≡◌, rules, [], get_or, set, length, sym, ◌∙◌, subst, arith}
use Rattle.reduce_up.specs.Sharing.{NotesFirst}
use Rattle.reduce_up.specs.AnswersByLevel.{joined, ArePlaced}
use Rattle.reduce_up.proofs.Placing.{row_notes, row_placed}
use Rattle.wave_doors.proofs.Placing.{row_read}
use Rattle.wave_doors.proofs.results.Results.put_row.Goals as goal

pub invariant_of-self-then-is_empty : goal.invariant_of-self-then-is_empty
invariant_of-self-then-is_empty c =
    let rows = c.grow.new.rows.items in
    let lev = c.args.level in
    let same : length c.args.keys ≡ length c.args.row.now = let e = c.len.ensures in omega (arith, e) in
    let none : c.index.result.now ≡ [] = search rules in
    let empty : get_or rows lev [] ≡ [] = row_read rows lev c.index.result.now c.in_ok-grow.ensures.long c.index.ensures ∙ none in
    subst (λ z. ArePlaced (set rows lev z)) (sym c.of.ensures)
    (row_placed rows lev c.args.row.now c.args.answers.items c.args.keys c.in_ok-grow.ensures.long empty c.requires.long (c.requires.index same) c.grow.ensures.placed c.requires.placed)

pub returns-then-is_empty-clause-first_noted : goal.returns-then-is_empty-clause-first_noted
returns-then-is_empty-clause-first_noted c =
    let rows = c.grow.new.rows.items in
    let lev = c.args.level in
    let same : length c.args.keys ≡ length c.args.row.now = let e = c.len.ensures in omega (arith, e) in
    let none : c.index.result.now ≡ [] = search rules in
    let empty : get_or rows lev [] ≡ [] = row_read rows lev c.index.result.now c.in_ok-grow.ensures.long c.index.ensures ∙ none in
    subst (λ l. NotesFirst l c.args.row.now c.args.answers.items 0 (joined (set rows lev c.of.result))) (c.grow.ensures.same ∙ c.self.view_is)
    (subst (λ z. NotesFirst (joined rows) c.args.row.now c.args.answers.items 0 (joined (set rows lev z))) (sym c.of.ensures)
    (row_notes rows lev c.args.row.now c.args.answers.items c.args.keys c.in_ok-grow.ensures.long empty c.requires.long (c.requires.index same) 0 (omega arith)))

pub returns-then-is_empty-clause-all_noted : goal.returns-then-is_empty-clause-all_noted
returns-then-is_empty-clause-all_noted c =
    let rows = c.grow.new.rows.items in
    let lev = c.args.level in
    let n = length c.args.row.now in
    let same : length c.args.keys ≡ length c.args.row.now = let e = c.len.ensures in omega (arith, e) in
    let none : c.index.result.now ≡ [] = search rules in
    let empty : get_or rows lev [] ≡ [] = row_read rows lev c.index.result.now c.in_ok-grow.ensures.long c.index.ensures ∙ none in
    subst (λ l. NotesFirst l c.args.row.now c.args.answers.items n (joined (set rows lev c.of.result))) (c.grow.ensures.same ∙ c.self.view_is)
    (subst (λ z. NotesFirst (joined rows) c.args.row.now c.args.answers.items n (joined (set rows lev z))) (sym c.of.ensures)
    (row_notes rows lev c.args.row.now c.args.answers.items c.args.keys c.in_ok-grow.ensures.long empty c.requires.long (c.requires.index same) n (omega arith)))
