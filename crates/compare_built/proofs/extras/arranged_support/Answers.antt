use Rattle.std.proofs.Common.{◌∙◌, ◌<◌, ℕ, List, All, ap, sym, subst, length, get_or}
use Rattle.dd_store.specs.Nodes.{den}
use Rattle.counter_walk.specs.DeclaredOrder.{by_declared}
use Rattle.counter_walk.specs.Support.{IsSupportOf}
use Rattle.net_order.proofs.Named.{same_item}
use Rattle.compare_built.specs.Scatter.{scattered}
use Rattle.compare_built.proofs.Supporting.{AreApart, levels_scattered}
use Rattle.compare_built.proofs.extras.arranged_support.Goals as goal

pub scatter_bits-requires : goal.scatter_bits-requires
scatter_bits-requires c =
    subst (All (λ place. place < length c.args.order.now)) (sym (c.as_slice-2.ensures.value ∙ c.in_ok-places.ensures)) (λ i d low.
    let order = c.args.order.now in
    let each = c.requires.order.each_level in
    let below : get_or order i 0 < c.args.store.now.levels = c.requires.order.declared i (subst (λ k. i < k) each low) in
    subst (λ k. get_or order i d < k) (sym each) (subst (λ k. k < c.args.store.now.levels) (sym (same_item order i d 0 low)) below))

pub returns : goal.returns
returns c =
    let S = c.args.store.now in
    let order = c.args.order.now in
    let each = c.requires.order.each_level in
    let f = den S c.args.of.now.first in
    let h = den S c.args.of.now.second in
    let bits = c.as_slice.result.now in
    let marks : IsSupportOf S.levels f h bits = subst (λ l. IsSupportOf S.levels f h l) (sym c.as_slice.ensures.value) c.in_ok-levels.ensures in
    let long : IsSupportOf (length order) f h bits = subst (λ n. IsSupportOf n f h bits) (sym each) marks in
    let are : AreApart (length order) order =
    record {
      below = λ i low. subst (λ k. get_or order i 0 < k) (sym each) (c.requires.order.declared i (subst (λ k. i < k) each low));
      apart = λ i j li lj e. c.requires.order.once i j (subst (λ k. i < k) each li) (subst (λ k. j < k) each lj) e;
    } in
    let whole = levels_scattered (length order) order are f h bits long in
    subst (λ l. IsSupportOf S.levels (by_declared order f) (by_declared order h) l) (sym (c.of.ensures ∙ c.in_ok-declared.ensures ∙ ap (λ (ps : List ℕ). scattered (length order) ps bits) (c.as_slice-2.ensures.value ∙ c.in_ok-places.ensures)))
    (subst (λ n. IsSupportOf n (by_declared order f) (by_declared order h) (scattered (length order) order bits)) each whole)
