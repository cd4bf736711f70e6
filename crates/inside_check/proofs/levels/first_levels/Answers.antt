use Rattle.std.proofs.Common.{ℕ, ◌+◌, List, [], ◌∷◌, length, length-append, ap, ◌∙◌, arith}
use Rattle.std.specs.Prelude.{slice_index}
use Rattle.inside_check.proofs.EqualPairs.{level_more}
use Rattle.inside_check.proofs.levels.first_levels.Goals as goal

pub loop-number-preserved : goal.loop-number-preserved
loop-number-preserved c =
    let old = c.loop-number.levels.items in
    let y = c.first_level.result in
    record {
      each = ap length c.in_ok-push.ensures.items ∙ length-append old (y ∷ []) ∙ ap (λ (n : ℕ). n + 1) c.loop-number.invariant.each;
      same = λ s low. ap (λ (xs : List ℕ). slice_index xs s) c.in_ok-push.ensures.items ∙
          level_more old y c.loop-number.number (slice_index c.args.naming.now.first) c.loop-number.invariant.each c.loop-number.invariant.same
          (c.first_level.ensures ∙ ap (slice_index c.args.naming.now.first) c.of.ensures) s low;
    }

pub returns : goal.returns
returns c = λ s low. c.loop-number.invariant.same s (omega arith)
