use Rattle.std.proofs.Common.{rules, ◌≡◌, ℕ, [], ◌∷◌, ◌++◌, take, sym, subst}
use Rattle.std.specs.List.{AllZip}
use Rattle.std.proofs.lemmas.List.Elements.{All-contains}
use Rattle.std.proofs.lemmas.Slice.Zip.{all_zipped_more}
use Rattle.dd_store.specs.declared.reference.Ref.{Ref}
use Rattle.req_table.specs.Keys.{normal_of}
use Rattle.req_table.specs.TerminalCase.{terminal_of}
use Rattle.reduce_up.specs.Reducing.{HasAnswer}
use Rattle.reduce_up.specs.Waves.{Entry, requests_of, IsTakenFrom}
use Rattle.reduce_up.proofs.Rooted.{to_request, item_at, item_next}
use Rattle.wave_doors.proofs.waves.answers_of.Goals as goal

pub answer_of-requires : goal.answer_of-requires
answer_of-requires c long =
    let i : ℕ = c.loop-entry.entry-index in
    let e : Entry = c.entry-item.result in
    All-contains (HasAnswer c.args.results.now) (requests_of c.args.entries.now) (normal_of e.0 e.1 e.2).0 c.requires
    (to_request c.args.entries.now e (item_at c.args.entries.now i e c.loop-entry-test.true c.entry-item.is) long)

pub loop-entry-preserved : goal.loop-entry-preserved
loop-entry-preserved c =
    let i : ℕ = c.loop-entry.entry-index in
    let e : Entry = c.entry-item.result in
    let grown : c.push.new.self.items ≡ c.loop-entry.answers.items ++ c.answer_of.result ∷ [] = search rules in
    rw (item_next c.args.entries.now i e c.loop-entry-test.true c.entry-item.is)
    (subst (AllZip (λ (e : Entry) (r : Ref). IsTakenFrom c.args.results.now (terminal_of e.0 e.1 e.2) e r) (take i c.args.entries.now ++ e ∷ [])) (sym grown)
    (all_zipped_more (λ (e : Entry) (r : Ref). IsTakenFrom c.args.results.now (terminal_of e.0 e.1 e.2) e r) (take i c.args.entries.now) c.loop-entry.answers.items e c.answer_of.result c.loop-entry.invariant c.answer_of.ensures))
