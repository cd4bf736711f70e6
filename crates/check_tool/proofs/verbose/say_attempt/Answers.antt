use Rattle.std.proofs.Common.{◌∙◌, ◌++◌, ℕ, List, [], ap, sym, subst}
use Rattle.std.specs.Prelude.{codes, decimal}
use Rattle.std.proofs.lemmas.List.{append_assoc}
use Rattle.compare_built.specs.Attempts.{attempt_text}
use Rattle.check_tool.specs.Ending.{Written, Says, IsAttemptSaid}
use Rattle.check_tool.proofs.verbose.say_attempt.Goals as goal

pub returns : goal.returns
returns g c =
    let w : Written = record {
      held = g.E.Sink.contents c.args.errors.now;
      holds = g.E.Sink.contents c.say_parts.new.errors;
      has_failed = g.E.Sink.has_failed c.say_parts.new.errors;
      has_stopped = g.E.Sink.has_stopped c.say_parts.new.errors;
    } in
    let t = c.in-Some.attempt in
    let name = ap (λ n. codes "bddcheck: order " ++ (n ++ (codes " decided within " ++ (c.format.result.now ++ (codes " nodes\n" ++ []))))) c.name.ensures in
    let number = ap (λ n. codes "bddcheck: order " ++ (attempt_text t.order ++ (codes " decided within " ++ (n ++ codes " nodes\n")))) c.format.ensures.text in
    let front : List ℕ = attempt_text t.order ++ codes " decided within " in
    let line = ap (λ l. codes "bddcheck: order " ++ l) (sym (append_assoc front (decimal t.budget) (codes " nodes\n") ∙ append_assoc (attempt_text t.order) (codes " decided within ") (decimal t.budget ++ codes " nodes\n"))) in
    subst (λ a. IsAttemptSaid a w) (sym c.in-Some.is) (subst (Says w) (name ∙ number ∙ line) c.say_parts.ensures)
