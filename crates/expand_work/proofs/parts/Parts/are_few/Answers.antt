use Rattle.std.proofs.Common.{◌≡◌, ℕ, ◌+◌, ◌<◌, ◌-◌, ◌^◌, List, length, take, ap, sym, ◌∙◌, arith}
use Rattle.std.specs.List.{sum_by}
use Rattle.std.proofs.lemmas.List.Sums.{sum_by_more}
use Rattle.req_table.specs.declared.packed_child.PackedChild.{PackedChild}
use Rattle.expand_work.proofs.parts.Parts.are_few.Goals as goal

pub loop-rows-preserved : goal.loop-rows-preserved
loop-rows-preserved c = λ low.
    let f : List (List (PackedChild × PackedChild)) → ℕ = λ levels. sum_by (λ (row : List (PackedChild × PackedChild)). length row) levels in
    let xs = c.deref-rows-items.result.now in
    let i = c.loop-rows.rows-index in
    let lt : i < length xs = (let t = c.loop-rows-test.true in omega (arith, t)) in
    let more : sum_by f (take (i + 1) xs) ≡ sum_by f (take i xs) + f c.rows-item.result = sum_by_more f xs i c.rows-item.result lt ∙ ap (λ z. sum_by f (take i xs) + f z) (sym c.rows-item.is) in
    let sum = c.saturating_add-total.ensures in
    let first : c.loop-rows.total < 2 ^ 64 - 1 = grind (arith, sum, low) in
    let second : c.total.result < 2 ^ 64 - 1 = grind (arith, sum, low) in
    let before = c.loop-rows.invariant first in
    let own = c.total.ensures second in
    let plain : c.saturating_add-total.result ≡ c.loop-rows.total + c.total.result = grind (arith, sum, low) in
    omega (arith, more, before, own, plain)
