use Rattle.std.proofs.Common.{◌≡◌, ◌+◌, ◌*◌, ◌/◌, ◌%◌, ◌∙◌, ◌∷◌, [], ◌++◌, sym, ap, map, arith}
use Rattle.std.specs.List.{range_with_len}
use Rattle.std.proofs.lemmas.List.FromFn.{map-range_with_len_more}
use Rattle.net_patterns.specs.Patterns.{pattern_bit}
use Rattle.net_patterns.proofs.patterns.Patterns.assignment.Goals as goal

pub loop-level-preserved : goal.loop-level-preserved
loop-level-preserved c =
    let p = c.args.self.now in
    let number = c.args.number in
    let level = c.loop-level.level in
    let at : 64 * (number / 64) + number % 64 ≡ number = omega arith in
    let bit : c.has_bit.result ≡ pattern_bit p number level = c.has_bit.ensures ∙ c.word-word.ensures (number % 64) (omega arith) ∙ ap (λ n. pattern_bit p n level) at in
    c.in_ok-push.ensures.items ∙ ap (λ xs. xs ++ c.has_bit.result ∷ []) c.loop-level.invariant ∙
    ap (λ b. map (pattern_bit p number) (range_with_len 0 level) ++ b ∷ []) bit ∙ sym (map-range_with_len_more (pattern_bit p number) 0 level level (omega arith))
