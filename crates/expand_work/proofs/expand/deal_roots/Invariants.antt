use Rattle.std.proofs.Common.{◌≡◌, ℕ, ◌<◌, take, filter, length}
use Rattle.req_table.specs.Settled.{round_robin_from}
use Rattle.expand_work.specs.Work.{at, owned_by, with_levels}
use Rattle.expand_work.proofs.expand.deal_roots.Given as goal

abbrev pub invariant-loop-place : goal.invariant-loop-place
invariant-loop-place l = record {
  workers : l.asks.workers ≡ l.fn.asks.workers;
  dealt : (length l.asks.due ≡ l.fn.asks.workers)
      × ((k : ℕ) → k < l.fn.asks.workers → at l.asks.due k ≡ with_levels l.store (filter (owned_by l.fn.asks.workers k) (round_robin_from l.fn.asks.workers l.number 0 (take l.place l.roots))));
}
