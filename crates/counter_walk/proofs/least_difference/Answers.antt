use Rattle.std.proofs.Common.{◌≡◌, ℕ, ◌+◌, ◌≤◌, suc, true, false, ◌∙◌, sym, ap, subst, arith}
use Rattle.dd_store.specs.declared.reference.Ref.{Ref}
use Rattle.dd_store.specs.Nodes.{Nodes, IsSound}
use Rattle.dd_store.specs.View.{Has}
use Rattle.counter_walk.specs.Walk.{top, step}
use Rattle.counter_walk.proofs.Plain.{step_next, next_one, next_zero, walk_done}
use Rattle.counter_walk.proofs.least_difference.Goals as goal
use Rattle.counter_walk.proofs.least_difference.Goals.{then-same-2+in_ok-push, else-same-2+in_ok-push-2}

pub loop-level-preserved : goal.loop-level-preserved
loop-level-preserved c =
    let s : Nodes = c.args.store.now in
    let S : IsSound s = c.levels-levels.ensures.sound in
    let v : ℕ = c.loop-level.level in
    let a : Ref = c.loop-level.first in
    let b : Ref = c.loop-level.second in
    let i = c.loop-level.invariant in
    let la : c.step_down-first_low.result ≡ step s v a false = c.step_down-first_low.ensures.value in
    let lb : c.step_down-second_low.result ≡ step s v b false = c.step_down-second_low.ensures.value in
    elim c.if-same-2.branch [
      | then-same-2+in_ok-push w ↦
          let ea : c.if-same-2.first ≡ step s v a true = w.first-is ∙ w.step_down-first.ensures.value in
          let eb : c.if-same-2.second ≡ step s v b true = w.second-is ∙ w.step_down-second.ensures.value in
          let na : Has s (step s v a true) × (suc v ≤ top s (step s v a true)) = step_next s S v a i.first_has (omega arith) i.first_above true in
          let nb : Has s (step s v b true) × (suc v ≤ top s (step s v b true)) = step_next s S v b i.second_has (omega arith) i.second_above true in
          record {
            walked = next_one s S c.levels-levels.result v a b c.if-same-2.first c.if-same-2.second c.loop-level.bits.items c.if-same-2.bits.items _ c.levels-levels.ensures.value (omega arith)
                (sym la ∙ c.same-in-loop-level.ensures.references.0 w.if-same-2.true ∙ lb) ea eb (ap (λ z. z.items) w.bits-is ∙ w.in_ok-push.ensures.items) i.walked;
            first_has = subst (Has s) (sym ea) na.0;
            first_above = subst (λ m. v + 1 ≤ top s m) (sym ea) (omega (arith, na.1));
            second_has = subst (Has s) (sym eb) nb.0;
            second_above = subst (λ m. v + 1 ≤ top s m) (sym eb) (omega (arith, nb.1));
          }
      | else-same-2+in_ok-push-2 w ↦
          let ea : c.if-same-2.first ≡ step s v a false = w.first-is ∙ la in
          let eb : c.if-same-2.second ≡ step s v b false = w.second-is ∙ lb in
          let na : Has s (step s v a false) × (suc v ≤ top s (step s v a false)) = step_next s S v a i.first_has (omega arith) i.first_above false in
          let nb : Has s (step s v b false) × (suc v ≤ top s (step s v b false)) = step_next s S v b i.second_has (omega arith) i.second_above false in
          record {
            walked = next_zero s S c.levels-levels.result v a b c.if-same-2.first c.if-same-2.second c.loop-level.bits.items c.if-same-2.bits.items _ c.levels-levels.ensures.value (omega arith)
                (λ e. let t : c.same-in-loop-level.result ≡ true = c.same-in-loop-level.ensures.references.1 (la ∙ e ∙ sym lb) in let f : c.same-in-loop-level.result ≡ false = w.if-same-2.false in cc) ea eb (ap (λ z. z.items) w.bits-is ∙ w.in_ok-push-2.ensures.items) i.walked;
            first_has = subst (Has s) (sym ea) na.0;
            first_above = subst (λ m. v + 1 ≤ top s m) (sym ea) (omega (arith, na.1));
            second_has = subst (Has s) (sym eb) nb.0;
            second_above = subst (λ m. v + 1 ≤ top s m) (sym eb) (omega (arith, nb.1));
          }
    ]

pub returns : goal.returns
returns c =
    let s : Nodes = c.args.store.now in
    record {
      least = walk_done s c.levels-levels.ensures.sound c.levels-levels.result c.loop-level.level c.loop-level.first c.loop-level.second c.args.f c.args.g c.loop-level.bits.items
          c.levels-levels.ensures.value (omega arith) c.loop-level.invariant.walked c.requires.first_in_store c.requires.second_in_store (λ e. let t : c.same.result ≡ true = c.same.ensures.references.1 e in let f : c.same.result ≡ false = c.if-same.false in cc);
    }
