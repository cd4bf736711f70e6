use Rattle.std.proofs.Common.{◌≡◌, ℕ, ◌+◌, ◌<◌, ◌%◌, ◌^◌, List, length, take, ap, sym, ◌∙◌, subst, arith}
use Rattle.std.specs.List.{sum_by}
use Rattle.std.proofs.lemmas.List.{take_all}
use Rattle.std.proofs.lemmas.List.Sums.{sum_by_more}
use Rattle.req_table.specs.declared.packed_child.PackedChild.{PackedChild}
use Rattle.expand_work.specs.WaveParts.{PartsView}
use Rattle.expand_work.specs.OwnerRows.{AreRowsByOwner}
use Rattle.expand_work.proofs.OwnerRows.{by_owner_count}
use Rattle.expand_work.proofs.parts.Parts.count.Goals as goal

pub loop-rows-preserved : goal.loop-rows-preserved
loop-rows-preserved c =
    let f : List (List (PackedChild × PackedChild)) → ℕ = λ levels. sum_by (λ (row : List (PackedChild × PackedChild)). length row) levels in
    let xs = c.deref-rows-items.result.now in
    let i = c.loop-rows.rows-index in
    let lt : i < length xs = (let t = c.loop-rows-test.true in omega (arith, t)) in
    let more : sum_by f (take (i + 1) xs) ≡ sum_by f (take i xs) + f c.rows-item.result = sum_by_more f xs i c.rows-item.result lt ∙ ap (λ z. sum_by f (take i xs) + f z) (sym c.rows-item.is) in
    let before = c.loop-rows.invariant in
    let own = c.count-total.ensures in
    omega (arith, more, before, own)

pub returns : goal.returns
returns c =
    let rows = c.self.inside.rows.items in
    c.loop-rows.invariant
    ∙ ap (λ (xs : List (List (List (PackedChild × PackedChild)))). sum_by (λ (levels : List (List (PackedChild × PackedChild))). sum_by (λ (row : List (PackedChild × PackedChild)). length row) levels) xs % 2 ^ 64) (take_all c.loop-rows.rows-index c.deref-rows-items.result.now (let t = c.loop-rows-test.false in omega (arith, t)) ∙ c.deref-rows-items.ensures.value)
    ∙ ap (λ n. n % 2 ^ 64) (by_owner_count c.args.self.now.rows rows (subst (λ (q : PartsView). AreRowsByOwner q.rows rows) c.self.view_is c.self.invariant))
