use Rattle.std.proofs.Common.{◌≡◌, ℕ, ◌+◌, ◌<◌, ◌∷◌, [], List, length, get_or, sym, ap, ◌∙◌, subst, length-append}
use denote.Ref.{Bor}
use Rattle.expand_work.specs.WaveParts.{noted_of}
use Rattle.reduce_up.proofs.Numbered.{each_more}
use Rattle.reduce_up.proofs.numbers.all_noted.Goals as goal

pub loop-owner-preserved : goal.loop-owner-preserved
loop-owner-preserved c =
    let lists = c.args.input.notes.now.noted in let s : ℕ = c.args.sender in
    let old = c.loop-owner.left.items in let own = c.noted.result in
    let before = c.loop-owner.invariant in
    let long : length c.push.new.self.items ≡ c.loop-owner.owner + 1 = ap length c.in_ok-push.ensures.items ∙ length-append old (own ∷ []) ∙ ap (λ z. z + 1) before.long in
    record {
      long = long;
      each = λ k d l. subst (λ (z : List (Bor (List ℕ))). (get_or z k d).now ≡ noted_of lists k s) (sym c.in_ok-push.ensures.items)
          (each_more (λ j (b : Bor (List ℕ)). b.now ≡ noted_of lists j s) old own (λ j b jb. before.each j b (subst (λ z. j < z) before.long jb))
          (subst (λ z. own.now ≡ noted_of lists z s) (sym before.long) c.noted.ensures) k d (subst (λ z. k < z + 1) (sym before.long) l));
    }
