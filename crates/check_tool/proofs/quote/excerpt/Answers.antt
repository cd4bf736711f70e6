use Rattle.std.proofs.Common.{rules, ◌≡◌, ◌∙◌, ◌++◌, ◌<◌, IfOk, length, map, string_bytes, take, ap, subst}
use Rattle.std.specs.Prelude.{codes}
use Rattle.check_tool.specs.Quoting.{shown, excerpt}
use Rattle.check_tool.proofs.Quoting.{excerpt_cut}
use Rattle.check_tool.proofs.quote.excerpt.Goals as goal

pub returns : goal.returns
returns c =
    let whole = c.args.whole.now in
    let long : 100 < length whole = search rules in
    let front : string_bytes c.in_ok-front.front ≡ map shown (take 100 whole) = search rules in
    let bytes_at : string_bytes c.in_ok-front.front ++ codes "... (cut)" ≡ excerpt whole = ap (λ b. b ++ codes "... (cut)") front ∙ excerpt_cut whole long in
    subst (λ b. IfOk c.format.result (λ s. string_bytes s ≡ b)) bytes_at c.format.ensures.ok
