use Rattle.req_table.specs.Sizes.{sizes_of}
use Rattle.lane_queue.specs.Ports.{terms_of}
use Rattle.lane_queue.proofs.Making.{Issued}
use Rattle.lane_queue.proofs.make.issue_endpoints.Given as goal

abbrev pub ghosts-issue_for : goal.ghosts-issue_for
ghosts-issue_for a = record { terms = terms_of a.workers a.owner (sizes_of a.store.now) }

abbrev pub invariant-loop-owner : goal.invariant-loop-owner
invariant-loop-owner l = Issued l.workers (sizes_of l.store) l.number l.owner l.lanes.items l.roots.items l.endpoints.items
