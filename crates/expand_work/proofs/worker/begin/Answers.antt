use Rattle.std.proofs.Common.{◌≡◌, ℕ, ◌<◌, length, replicate, filter, refl, subst, ◌∙◌}
use Rattle.expand_work.specs.MemoryPool.{IsEmptyMemory}
use Rattle.req_table.specs.Settled.{round_robin_from}
use Rattle.expand_work.specs.Work.{at, owned_by, with_levels}
use Rattle.lane_queue.proofs.Endpoints.{port-lengths}
use Rattle.expand_work.proofs.Starting.{starts_working}
use Rattle.expand_work.proofs.worker.begin.Goals as goal

pub returns : goal.returns
returns c =
    let l = c.args.context.lanes.now in
    let s = c.args.context.store.now in
    let p = c.args.port in
    let w-is = c.count-workers.ensures.count in
    let n-is = c.levels-levels.ensures.value in
    let wide = port-lengths l p c.requires.port in
    let clock = c.in_ok-clock.clock in
    let clock-is : clock ≡ record { levels = s.levels; ended = replicate (length l.lanes) 0 } =
    subst (λ (n : ℕ). clock ≡ record { levels = n; ended = replicate (length l.lanes) 0 }) n-is
    (subst (λ (m : ℕ). clock ≡ record { levels = c.levels-levels.result; ended = replicate m 0 }) w-is c.in_ok-clock.ensures) in
    let space = c.in_ok-tables.field-0 in
    let empty : IsEmptyMemory s.levels (length l.lanes) space = subst (λ (y : ℕ × ℕ). IsEmptyMemory y.0 y.1 space) (λ i. (n-is i, w-is i)) c.in_ok-tables.ensures in
    let dealt = subst (λ n. (k : ℕ) → k < length l.lanes → at c.deal_roots.new.asks.due k ≡ with_levels s (filter (owned_by (length l.lanes) k) (round_robin_from (length l.lanes) n 0 c.args.context.roots.now))) c.number-number.ensures.number
    (subst (λ m. (k : ℕ) → k < m → at c.deal_roots.new.asks.due k ≡ with_levels s (filter (owned_by m k) (round_robin_from m c.number-number.result 0 c.args.context.roots.now))) w-is c.in_ok-deal_roots.ensures.due) in (
      starts_working l s c.args.context.roots.now p clock space.tables space.noted space.rows c.deal_roots.new.asks.due _ c.requires.port (subst (λ n. p.number < n) wide c.number-number.ensures.within) c.requires.fresh c.requires.sizes c.levels-levels.ensures.sound c.requires.roots
          clock-is empty.tables empty.noted empty.rows (c.in_ok-deal_roots.ensures.long ∙ w-is) dealt,
      refl,
    )
