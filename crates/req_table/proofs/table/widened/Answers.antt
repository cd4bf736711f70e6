use Rattle.std.proofs.Common.{◌≡◌, ◌<◌, List, length, get_or, subst}
use Rattle.req_table.specs.declared.Key.{Key}
use Rattle.req_table.proofs.Keyed.{once, goes_last}
use Rattle.req_table.proofs.table.widened.Goals as goal

pub loop-key-preserved : goal.loop-key-preserved
loop-key-preserved c =
    let keys = c.args.short.now.keys in
    let i = c.loop-key.key-index in
    let k = c.key-item.result in
    let all = c.as_slice-key-items.ensures.keys in
    let within : i < length keys = subst (λ (z : List Key). i < length z) all c.loop-key-test.true in
    let is : k ≡ get_or keys i k = subst (λ (z : List Key). k ≡ get_or z i k) all c.key-item.is in
    goes_last keys i c.key.result (once keys c.len.ensures.unique) within (rw c.key.ensures is) c.loop-key.long.keys
    c.insert_full.new.self.keys c.loop-key.invariant c.in_ok-insert_full.ensures.keys
