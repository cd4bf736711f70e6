use Rattle.std.proofs.Common.{rules, ◌≡◌, ℕ, not, is_some, Option, [], ◌∷◌, ◌++◌, sym, ◌∙◌, ap}
use Rattle.std.proofs.lemmas.List.{append-nil}
use Rattle.dd_store.specs.declared.reference.Ref.{Ref}
use Rattle.req_table.specs.Keys.{normal_of}
use Rattle.req_table.specs.TerminalCase.{terminal_of}
use Rattle.reduce_up.specs.Waves.{Entry}
use Rattle.wave_doors.proofs.Rooted.{request_none, request_some, requests_next}
use Rattle.wave_doors.proofs.waves.requests_of.Goals.{then-is_none+in_ok-push, else-is_none}
use Rattle.wave_doors.proofs.waves.requests_of.Goals as goal

pub loop-entry-preserved : goal.loop-entry-preserved
loop-entry-preserved c =
    let i : ℕ = c.loop-entry.entry-index in
    let e : Entry = c.entry-item.result in
    let o : Option Ref = terminal_of e.0 e.1 e.2 in
    let s : is_some o ≡ not c.is_none.result = ap is_some (sym c.terminal_case.ensures.value) ∙ c.is_none.ensures in
    elim c.if-is_none.branch [
      | then-is_none+in_ok-push w ↦
          let grown : w.push.new.self.items ≡ c.loop-entry.keys.items ++ w.normal-key.result.0 ∷ [] = search rules in
          requests_next c.args.entries.now i e c.loop-entry.keys.items ((normal_of e.0 e.1 e.2).0 ∷ []) c.if-is_none.keys.items c.loop-entry-test.true c.entry-item.is c.loop-entry.invariant
          (request_none o c.is_none.result e s w.if-is_none.true) (ap (λ z. z.items) w.keys-is ∙ grown ∙ ap (λ z. c.loop-entry.keys.items ++ z.0 ∷ []) w.normal-key.ensures.key)
      | else-is_none w ↦
          requests_next c.args.entries.now i e c.loop-entry.keys.items [] c.if-is_none.keys.items c.loop-entry-test.true c.entry-item.is c.loop-entry.invariant
          (request_some o c.is_none.result e s w.if-is_none.false) (ap (λ z. z.items) w.keys-is ∙ sym (append-nil c.loop-entry.keys.items))
    ]
