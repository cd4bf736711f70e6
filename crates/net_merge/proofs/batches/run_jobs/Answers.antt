use Rattle.std.proofs.Common.{◌≡◌, length, rules, arith, vec_len}
use Rattle.net_merge.proofs.batches.run_jobs.Goals as goal

pub returns : goal.returns
returns g c =
    let long : vec_len c.args.jobs.now ≡ length c.args.jobs.now.items = search rules in
    let end : c.len-place-end.result ≡ length c.args.jobs.now.items = search rules in
    let last = c.loop-place-test.false in
    λ i t lt. c.loop-place.invariant.judged i t (omega (arith, lt, end, last, c.loop-place.invariant.each))
