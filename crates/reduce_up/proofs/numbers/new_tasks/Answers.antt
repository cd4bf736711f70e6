use Rattle.std.proofs.Common.{◌∷◌, [], refl, subst, arith, length-append}
use Rattle.expand_work.proofs.Zips.{turned}
use Rattle.reduce_up.specs.Numbers.{AreNoted}
use Rattle.reduce_up.proofs.Numbered.{new_more}
use Rattle.reduce_up.proofs.numbers.new_tasks.Goals as goal

pub loop-own-preserved : goal.loop-own-preserved
loop-own-preserved c =
    let f = c.args.input in let done = c.loop-own.yielded in let own = c.in-Some.own in
    record {
      taken_so_far = turned done c.loop-own.own-iterator.rest.items c.next.new.self.rest.items c.args.rows.items own c.in-Some.ensures.steps.0 c.loop-own.invariant.taken_so_far;
      sender = (let e = c.loop-own.invariant.sender in let l = length-append done (own ∷ []) in omega (arith, e, l));
      new = new_more f done own c.loop-own.tasks.items c.push.new.self.items _ c.loop-own.invariant.new
          (record { same = refl; spare_row = c.new.ensures; noted = subst (λ z. AreNoted f z c.in_ok-left.left.items) c.loop-own.invariant.sender c.in_ok-left.ensures }) c.in_ok-push.ensures.items;
    }
