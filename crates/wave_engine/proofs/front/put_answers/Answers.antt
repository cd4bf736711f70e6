use Rattle.std.proofs.Common.{◌≡◌, ◌∙◌, ◌<◌, ◌≤◌, ◌+◌, ℕ, length, ap, subst, arith}
use Rattle.req_table.specs.Places.{row}
use Rattle.wave_engine.specs.Front.{IsCopied, keys_from, count_before}
use Rattle.wave_engine.proofs.Fronting.{before_next, before_all, put_more}
use Rattle.wave_engine.proofs.front.put_answers.Goals as goal

pub put_level-requires : goal.put_level-requires
put_level-requires c =
    let u : ℕ = c.loop-level.level in
    let fits : u < length c.args.requests.now = omega arith in
    let count : c.len-count.result ≡ length (row c.args.requests.now u) = c.len-count.ensures.value ∙ ap length c.keys.ensures in
    let next : count_before c.args.from (u + 1) c.args.requests.now ≡ count_before c.args.from u c.args.requests.now + length (row c.args.requests.now u) = before_next c.args.requests.now c.args.from u c.loop-level.invariant.bound fits in
    let all : count_before c.args.from (u + 1) c.args.requests.now ≤ length (keys_from c.args.from c.args.requests.now) = before_all c.args.requests.now c.args.from (u + 1) in
    let so : c.loop-level.at ≡ count_before c.args.from u c.args.requests.now = c.loop-level.invariant.reached in
    omega (arith, count, next, all, so, c.requires.all)

pub loop-level-preserved : goal.loop-level-preserved
loop-level-preserved c =
    let u : ℕ = c.loop-level.level in
    let fits : u < length c.args.requests.now = omega arith in
    let count : c.len-count.result ≡ length (row c.args.requests.now u) = c.len-count.ensures.value ∙ ap length c.keys.ensures in
    let next : count_before c.args.from (u + 1) c.args.requests.now ≡ count_before c.args.from u c.args.requests.now + length (row c.args.requests.now u) = before_next c.args.requests.now c.args.from u c.loop-level.invariant.bound fits in
    let all : count_before c.args.from (u + 1) c.args.requests.now ≤ length (keys_from c.args.from c.args.requests.now) = before_all c.args.requests.now c.args.from (u + 1) in
    let so : c.loop-level.at ≡ count_before c.args.from u c.args.requests.now = c.loop-level.invariant.reached in
    record {
      bound = omega (arith, c.loop-level.invariant.bound);
      put = put_more c.args.requests.now c.args.from c.args.found.now u c.loop-level.answers.items c.loop-level.invariant.put c.loop-level.invariant.bound fits c.put_level.new.answers
          (subst (λ n. IsCopied c.args.found.now n (length (row c.args.requests.now u)) c.put_level.new.answers) so (subst (λ n. IsCopied c.args.found.now c.loop-level.at n c.put_level.new.answers) count c.in_ok-at.ensures.copied));
      reached = let n : c.in_ok-at.at ≡ c.loop-level.at + c.len-count.result = c.in_ok-at.ensures.next in omega (arith, so, count, next, n);
    }
