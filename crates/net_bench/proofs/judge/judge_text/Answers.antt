use Rattle.std.proofs.Common.{◌≡◌, [], inl, inr, ap, subst}
use Rattle.std.proofs.lemmas.Result.{err_from_is_err_and}
use Rattle.net_bench.specs.Pieces.{tokens_at}
use Rattle.net_bench.specs.Machine.{Between, tokens_of}
use Rattle.net_bench.specs.Scan.{seen}
use Rattle.net_bench.specs.ParsedStatement.{state_of}
use Rattle.net_bench.specs.Judge.{judge}
use Rattle.net_bench.specs.Symbols.{IsTableOf}
use Rattle.net_bench.proofs.Judged.{stops, goes_to, finishes, breaks, one_taken, end_taken, begins, ends_with, table_whole}
use Rattle.net_bench.proofs.judge.judge_text.Goals as goal

pub tokens-init : goal.tokens-init
tokens-init c = (
  [],
  ap (judge (Between []) []) c.new-scanner.ensures,
  begins c.new-symbols.result c.new-symbols.ensures.names c.new-symbols.ensures.symbols c.new-symbols.ensures.inputs c.new-symbols.ensures.outputs c.new-symbols.ensures.gates c.new-symbols.ensures.registers c.new-symbols.ensures.uses c.new-symbols.ensures.begun c.new-symbols.ensures.operands,
)

pub returns-in-End-clause-ok : goal.returns-in-End-clause-ok
returns-in-End-clause-ok c =
    ends_with c.args.text.now c.tokens.invariant.0
    (finishes (tokens_at 1 c.args.text.now) c.tokens.invariant.0 c.next-line.result.0 c.tokens.scanner c.tokens.symbols
    (end_taken c.tokens.scanner c.next-line.new.self c.next-line.result.0 c.next-line.result.1 c.in-End.is c.next-line.ensures)
    (subst (λ p. judge (state_of c.tokens.invariant.0 p) (tokens_of (state_of c.tokens.invariant.0 p)) c.tokens.scanner ≡ judge (Between []) [] (tokens_at 1 c.args.text.now))
    c.in-Nothing.is c.tokens.invariant.1)
    (subst (λ p. IsTableOf c.tokens.invariant.0 (state_of c.tokens.invariant.0 p) c.tokens.symbols) c.in-Nothing.is c.tokens.invariant.2))

pub returns-in-End-clause-table_matches : goal.returns-in-End-clause-table_matches
returns-in-End-clause-table_matches c =
    table_whole c.args.text.now c.tokens.invariant.0 c.tokens.symbols
    (finishes (tokens_at 1 c.args.text.now) c.tokens.invariant.0 c.next-line.result.0 c.tokens.scanner c.tokens.symbols
    (end_taken c.tokens.scanner c.next-line.new.self c.next-line.result.0 c.next-line.result.1 c.in-End.is c.next-line.ensures)
    (subst (λ p. judge (state_of c.tokens.invariant.0 p) (tokens_of (state_of c.tokens.invariant.0 p)) c.tokens.scanner ≡ judge (Between []) [] (tokens_at 1 c.args.text.now))
    c.in-Nothing.is c.tokens.invariant.1)
    (subst (λ p. IsTableOf c.tokens.invariant.0 (state_of c.tokens.invariant.0 p) c.tokens.symbols) c.in-Nothing.is c.tokens.invariant.2))
    (subst (λ p. IsTableOf c.tokens.invariant.0 (state_of c.tokens.invariant.0 p) c.tokens.symbols) c.in-Nothing.is c.tokens.invariant.2)

pub returns-in_default-part : goal.returns-in_default-part
returns-in_default-part c = record {
  ok = tt;
  table_matches = tt;
  fault = breaks (tokens_at 1 c.args.text.now) c.tokens.invariant.0 c.tokens.part c.next-line.result.0 c.tokens.scanner
      (end_taken c.tokens.scanner c.next-line.new.self c.next-line.result.0 c.next-line.result.1 c.in-End.is c.next-line.ensures)
      c.in_default-part.not-Nothing c.tokens.invariant.1;
}

pub take_token-requires-clause-table_matches : goal.take_token-requires-clause-table_matches
take_token-requires-clause-table_matches c = (c.tokens.invariant.0, c.tokens.invariant.2)

pub returns-in_err-part : goal.returns-in_err-part
returns-in_err-part c =
    let p = err_from_is_err_and c.from_residual.result c.from_residual.ensures.1 in
    rw (p.1, p.2) (record {
      ok = tt;
      table_matches = tt;
      fault = stops (tokens_at 1 c.args.text.now) (state_of c.tokens.invariant.0 c.tokens.part) c.next-line.result.0 (seen c.next-line.result.0 c.next-line.result.1)
          c.next-line.new.self c.tokens.scanner _
          (one_taken c.tokens.scanner c.next-line.new.self c.next-line.result.0 c.next-line.result.1 c.in_default.not-End c.next-line.ensures)
          c.tokens.invariant.1 (elim c.in_err-part.ensures.fault [ inl e ↦ inl e | inr h ↦ inr (h c.tokens.invariant.0 c.tokens.invariant.2) ]);
    })

pub tokens-preserved : goal.tokens-preserved
tokens-preserved c =
    let on = c.in_ok-part.ensures.continues c.tokens.invariant.0 c.tokens.invariant.2 in (
      on.1.0,
      goes_to (tokens_at 1 c.args.text.now) c.tokens.invariant.0 (state_of c.tokens.invariant.0 c.tokens.part) (state_of on.1.0 c.in_ok-part.part) c.next-line.result.0
          (seen c.next-line.result.0 c.next-line.result.1) c.next-line.new.self c.tokens.scanner c.tokens.symbols
          (one_taken c.tokens.scanner c.next-line.new.self c.next-line.result.0 c.next-line.result.1 c.in_default.not-End c.next-line.ensures)
          c.tokens.invariant.1 c.tokens.invariant.2 on.0 on.1.1,
      on.1.2,
    )
