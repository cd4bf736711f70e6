use Rattle.std.proofs.Common.{◌≡◌, ◌∙◌, map, subst, sym, arith}
use Rattle.std.proofs.lemmas.List.{map-id}
use Rattle.net_bench.specs.Circuit.{circuit, variables_of}
use Rattle.net_bench.specs.Labels.{IsLabelling}
use Rattle.net_order.specs.Order.{level_in}
use Rattle.net_simulate.proofs.Setting.{function_value}
use Rattle.net_explain.proofs.Visiting.{written}
use Rattle.net_explain.proofs.evaluate.values.Goals as goal

-- the only bit of a value is the value
pub returns-clause-labelling : goal.returns-clause-labelling
returns-clause-labelling c =
    let n = c.args.net.now in
    let x = c.args.at.now in
    let new = c.simulate.new.values in
    let level = level_in c.args.naming.now c.args.which in
    let levels : map level (variables_of (circuit n)) ≡ c.as_slice.result.now = sym (c.as_slice.ensures.value ∙ c.in_ok-levels.ensures) in
    let labels : IsLabelling (circuit n) level (map (λ b. b) x) (map (λ b. b) new) = c.simulate.ensures.labelling level levels 0 (omega arith) in
    subst (IsLabelling (circuit n) level x)
    (map-id new ∙ sym (written c.in_ok-bits.bits.len new c.in_ok-bits.bits.items (c.simulate.auto.values ∙ c.as_mut_slice.ensures.len)))
    (subst (λ y. IsLabelling (circuit n) level y (map (λ b. b) new)) (map-id x) labels)

pub returns-clause-functions : goal.returns-clause-functions
returns-clause-functions c =
    function_value c.args.net.now c.schedule_of.ensures.sound (level_in c.args.naming.now c.args.which) c.args.at.now _ (returns-clause-labelling c)
