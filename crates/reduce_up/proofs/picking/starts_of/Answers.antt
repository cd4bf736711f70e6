use Rattle.std.proofs.Common.{rules, ◌≡◌, ◌<◌, ◌++◌, ◌∷◌, [], length, get_or, sym, ap, ◌∙◌, arith}
use Rattle.std.proofs.lemmas.List.{get_or_append_left}
use Rattle.std.proofs.Math.Seq.{get_or-append_seam}
use mathlib.Core.Logic.{dite}
use native.Mathlib.Decide.{ℕ_discrete}
use Rattle.reduce_up.specs.Division.{begin_of}
use Rattle.reduce_up.proofs.Joined.{begin_none}
use Rattle.reduce_up.proofs.picking.starts_of.Goals as goal

pub returns-clause-starts : goal.returns-clause-starts
returns-clause-starts c = λ s l.
    let xs = c.loop-shard.starts.items in
    let done : c.loop-shard.shard ≡ 16 = omega arith in
    let long : length xs ≡ 16 = c.loop-shard.invariant.long ∙ done in
    let is : c.push-2.new.self.items ≡ xs ++ 0 ∷ [] = search rules in
    dite (ℕ_discrete s 16)
    (λ e. ap (λ z. get_or z s 0) is ∙ ap (λ z. get_or (xs ++ 0 ∷ []) z 0) (e ∙ sym long) ∙ get_or-append_seam xs 0 [] 0 ∙ sym (begin_none c.args.parts.now c.args.part c.requires.lists) ∙ ap (begin_of c.args.parts.now c.args.part) (sym e))
    (λ m. let lt : s < 16 = grind (arith, l, m) in
    ap (λ z. get_or z s 0) is ∙ get_or_append_left xs (0 ∷ []) 0 s (omega (arith, lt, long)) ∙ c.loop-shard.invariant.each s (omega (arith, lt, done)))
