use Rattle.std.proofs.Common.{◌≡◌, ◌∙◌, ◌<◌, ◌+◌, None, ap, arith, get_or, length, rules, sym}
use Rattle.std.specs.Prelude.{remove}
use Rattle.std.proofs.lemmas.List.{get_or_past}
use Rattle.std.proofs.lemmas.List.Edits.{get_or-remove_above}
use Rattle.order_search.proofs.ahead.next_run.Goals as goal

pub returns-clause-rest : goal.returns-clause-rest
returns-clause-rest c = λ i.
    let old = c.args.runs.now.items in
    let some : 0 < length old = search (rules, arith) in
    let left : c.remove.new.self.items ≡ remove old 0 = search rules in
    ap (λ xs. get_or xs i None) left ∙ get_or-remove_above old 0 None i (omega arith) some

pub returns-then-is_empty-clause-rest : goal.returns-then-is_empty-clause-rest
returns-then-is_empty-clause-rest c = λ i.
    let old = c.args.runs.now.items in
    let none : length old ≡ 0 = search (rules, arith) in
    get_or_past old i None (omega (arith, none)) ∙ sym (get_or_past old (i + 1) None (omega (arith, none)))
