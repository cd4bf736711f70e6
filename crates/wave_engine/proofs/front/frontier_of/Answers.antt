use Rattle.std.proofs.Common.{◌∙◌, ◌<◌, ◌++◌, ℕ, List, length, ap, arith}
use Rattle.req_table.specs.declared.Key.{Key}
use Rattle.wave_engine.proofs.Fronting.{front_more}
use Rattle.wave_engine.proofs.front.frontier_of.Goals as goal

pub loop-level-preserved : goal.loop-level-preserved
loop-level-preserved c =
    let u : ℕ = c.loop-level.level in
    let fits : u < length c.args.requests.now = omega arith in
    record {
      listed = front_more c.args.requests.now c.args.from u c.loop-level.front.items c.push_all.new.front.items c.loop-level.invariant.bound fits c.loop-level.invariant.listed
          (c.in_ok-push_all.ensures ∙ ap (λ (z : List Key). c.loop-level.front.items ++ z) c.keys.ensures);
      bound = omega (arith, c.loop-level.invariant.bound);
    }
