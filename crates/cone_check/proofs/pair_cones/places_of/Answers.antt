use Rattle.std.proofs.Common.{◌≡◌, ◌∙◌, ◌++◌, ℕ, List, Bool, false, ap, arith, get_or, length, replicate, subst, sym}
use Rattle.std.specs.Prelude.{IfOk}
use Rattle.std.specs.List.{filter}
use Rattle.std.proofs.lemmas.List.{get_or-replicate, length-replicate}
use Rattle.std.proofs.lemmas.Result.{IfOk-weaker}
use Rattle.net_order.specs.Force.{numbers_below}
use Rattle.net_order.specs.declared.netlist_role.NetlistRole.TheVariants.{First, Second}
use Rattle.compare_built.specs.Scatter.{ArePlaces}
use Rattle.cone_check.specs.ConeLevels.{AreSetAt, among_below, cone_levels, given_levels}
use Rattle.cone_check.proofs.ConeLevels.{set_both, set_places}
use Rattle.cone_check.proofs.pair_cones.places_of.Goals as goal

pub true_places-requires : goal.true_places-requires
true_places-requires g c =
    let names = ap (λ (names : List (List ℕ)). length names) c.names.ensures in
    let many = c.len.ensures.value in
    let few = c.len.ensures.small in
    let none = ap (λ (xs : List Bool). length xs) c.in_ok-has_level.ensures ∙ length-replicate c.len.result false in
    let each = ap (λ (xs : List Bool). length xs) c.as_slice.ensures.value ∙ c.add_given_levels.ensures.each ∙ c.add_levels-2.ensures.each ∙ c.add_levels.ensures.each ∙ none in
    omega (arith, names, many, few, each)

pub returns-clause-levels : goal.returns-clause-levels
returns-clause-levels g c =
    let p = c.args.context.now.naming.now in
    let n = length p.names in
    let none = c.in_ok-has_level.has_level.items in
    let one = c.add_levels.new.has_level.items in
    let two = c.add_levels-2.new.has_level.items in
    let all = c.add_given_levels.new.has_level.items in
    let first = cone_levels First p c.args.cones.now.first in
    let second = cone_levels Second p c.args.cones.now.second in
    let given = given_levels p c.args.context.now.given.now in
    let are : AreSetAt (first ++ (second ++ given)) none all =
    set_both first (second ++ given) none one all c.add_levels.ensures (set_both second given one two all c.add_levels-2.ensures c.add_given_levels.ensures) in
    let many : c.len.result ≡ n = c.len.ensures.value ∙ ap (λ (names : List (List ℕ)). length names) c.names.ensures in
    let is : none ≡ replicate n false = c.in_ok-has_level.ensures ∙ ap (λ k. replicate k false) many in
    let long : length none ≡ n = ap (λ (xs : List Bool). length xs) is ∙ length-replicate n false in
    IfOk-weaker c.true_places.result _ _
    (λ v set. set ∙ subst (λ (xs : List Bool). filter (λ l. get_or xs l false) (numbers_below (length xs)) ≡ among_below n (first ++ (second ++ given))) (sym c.as_slice.ensures.value)
    (set_places (first ++ (second ++ given)) n none all long (λ l lt. ap (λ (xs : List Bool). get_or xs l false) is ∙ get_or-replicate n l false false lt) are)) c.true_places.ensures.set

pub returns-clause-places : goal.returns-clause-places
returns-clause-places g c =
    let many = c.len.ensures.value ∙ ap (λ (names : List (List ℕ)). length names) c.names.ensures in
    let none = ap (λ (xs : List Bool). length xs) c.in_ok-has_level.ensures ∙ length-replicate c.len.result false in
    let each = ap (λ (xs : List Bool). length xs) c.as_slice.ensures.value ∙ c.add_given_levels.ensures.each ∙ c.add_levels-2.ensures.each ∙ c.add_levels.ensures.each ∙ none ∙ many in
    subst (λ (n : ℕ). IfOk c.true_places.result (λ v. ArePlaces n v.items)) each c.true_places.ensures.places

pub returns-clause-few : goal.returns-clause-few
returns-clause-few g c =
    let names = ap (λ (names : List (List ℕ)). length names) c.names.ensures in
    let many = c.len.ensures.value in
    let most = c.len.ensures.small in
    let none = ap (λ (xs : List Bool). length xs) c.in_ok-has_level.ensures ∙ length-replicate c.len.result false in
    let each = ap (λ (xs : List Bool). length xs) c.as_slice.ensures.value ∙ c.add_given_levels.ensures.each ∙ c.add_levels-2.ensures.each ∙ c.add_levels.ensures.each ∙ none in
    IfOk-weaker c.true_places.result _ _ (λ v few. omega (arith, few, names, many, most, each)) c.true_places.ensures.few
