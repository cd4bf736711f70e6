use Rattle.std.proofs.Common.{◌∙◌, inl, inr, sym, ap}
use Rattle.std.proofs.lemmas.Result.{err_from_is_err_and}
use Rattle.net_bench.specs.Scan.{seen}
use Rattle.net_bench.specs.ParsedStatement.{statement_of, state_of, next_state, closing}
use Rattle.net_bench.proofs.Answering.{answers_lexical, answers_broken, answers_gate_word, answers_limit, goes_part, answers_close, goes_close, begun_some, begun_inside}
use Rattle.net_bench.proofs.judge.take_token.Goals as goal

pub returns-in-Some-clause-fault : goal.returns-in-Some-clause-fault
returns-in-Some-clause-fault c = inr (λ done table_matches. answers_lexical (state_of done c.args.part) c.args.line (seen c.args.line c.args.token) c.in-Some.fault c.in-Some.ensures)

pub returns-in_err-part-clause-fault : goal.returns-in_err-part-clause-fault
returns-in_err-part-clause-fault c =
    let p = err_from_is_err_and c.from_residual.result c.from_residual.ensures.1 in
    rw (p.1, p.2) (
    elim c.in_err-part.ensures.broken [
      | inl e ↦ inl e
      | inr h ↦ inr (λ done table_matches. answers_broken (state_of done c.args.part) c.args.line (seen c.args.line c.args.token) _ c.in_default.ensures (h.0, h.1 done))
    ]
    )

pub returns-in-Some-word_fault-clause-fault : goal.returns-in-Some-word_fault-clause-fault
returns-in-Some-word_fault-clause-fault c =
    inr (λ done table_matches.
    answers_gate_word done (state_of done c.args.part) c.args.line (seen c.args.line c.args.token) c.in-More.part c.in-Some-word_fault.fault
    c.in_default.ensures (ap (next_state done) (sym c.in-More.is) ∙ c.in_ok-part.ensures.step done) (c.in-Some-word_fault.ensures done))

pub returns-in_ok-intern_token-in-More-clause-continues : goal.returns-in_ok-intern_token-in-More-clause-continues
returns-in_ok-intern_token-in-More-clause-continues c =
    (λ done table_matches.
    goes_part done (state_of done c.args.part) c.args.line (seen c.args.line c.args.token) c.in-More.part c.args.symbols.now table_matches c.in_default.ensures
    (ap (next_state done) (sym c.in-More.is) ∙ c.in_ok-part.ensures.step done) (ap (closing done) (sym c.in-More.is) ∙ c.in_ok-part.ensures.closed done)
    (c.in_default-word_fault.ensures done) c.intern_token.new.self c.in_ok-intern_token-in-More.ensures.ok)

pub returns-in_err-intern_token-in-More-clause-fault : goal.returns-in_err-intern_token-in-More-clause-fault
returns-in_err-intern_token-in-More-clause-fault c =
    let p = err_from_is_err_and c.from_residual-in_err-intern_token-in-More.result c.from_residual-in_err-intern_token-in-More.ensures.1 in
    rw (p.1, p.2) (
    elim c.in_err-intern_token-in-More.ensures.err [
      | inl e ↦ inl e
      | inr h ↦ inr (λ done table_matches.
          answers_limit done (state_of done c.args.part) c.args.line (seen c.args.line c.args.token) c.in-More.part c.args.symbols.now table_matches c.in_default.ensures
          (ap (next_state done) (sym c.in-More.is) ∙ c.in_ok-part.ensures.step done) (ap (closing done) (sym c.in-More.is) ∙ c.in_ok-part.ensures.closed done)
          (c.in_default-word_fault.ensures done) _ h)
    ]
    )

pub close-requires-clause-some : goal.close-requires-clause-some
close-requires-clause-some c =
    let done = c.requires.table_matches.0 in
    begun_some done (state_of done c.args.part) (seen c.args.line c.args.token) (statement_of c.in-Complete.parsed) c.args.symbols.now c.requires.table_matches.1
    (ap (closing done) (sym c.in-Complete.is) ∙ c.in_ok-part.ensures.closed done)

pub close-requires-clause-in_bounds : goal.close-requires-clause-in_bounds
close-requires-clause-in_bounds c =
    let done = c.requires.table_matches.0 in
    begun_inside done (state_of done c.args.part) (seen c.args.line c.args.token) (statement_of c.in-Complete.parsed) c.args.symbols.now c.requires.table_matches.1
    (ap (closing done) (sym c.in-Complete.is) ∙ c.in_ok-part.ensures.closed done)

pub returns-in_ok-close-in-Complete-clause-continues : goal.returns-in_ok-close-in-Complete-clause-continues
returns-in_ok-close-in-Complete-clause-continues c =
    (λ done table_matches.
    goes_close done (state_of done c.args.part) c.args.line (seen c.args.line c.args.token) (statement_of c.in-Complete.parsed) c.args.symbols.now table_matches c.in_default.ensures
    (ap (next_state done) (sym c.in-Complete.is) ∙ c.in_ok-part.ensures.step done) (ap (closing done) (sym c.in-Complete.is) ∙ c.in_ok-part.ensures.closed done)
    c.close.new.symbols (c.in_ok-close-in-Complete.ensures.clean done) c.in_ok-close-in-Complete.ensures.closed)

pub returns-in_err-close-in-Complete-clause-fault : goal.returns-in_err-close-in-Complete-clause-fault
returns-in_err-close-in-Complete-clause-fault c =
    let p = err_from_is_err_and c.from_residual-in_err-close-in-Complete.result c.from_residual-in_err-close-in-Complete.ensures.1 in
    rw (p.1, p.2) (
    elim c.in_err-close-in-Complete.ensures.fault [
      | inl e ↦ inl e
      | inr h ↦ inr (λ done table_matches.
          answers_close done (state_of done c.args.part) c.args.line (seen c.args.line c.args.token) (statement_of c.in-Complete.parsed) c.args.symbols.now table_matches c.in_default.ensures
          (ap (next_state done) (sym c.in-Complete.is) ∙ c.in_ok-part.ensures.step done) (ap (closing done) (sym c.in-Complete.is) ∙ c.in_ok-part.ensures.closed done)
          _ (h done))
    ]
    )
