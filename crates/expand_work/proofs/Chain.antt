-- What `settle` and the parts of all workers say gives the closure of the roots, in the store's own wave.
use Rattle.std.proofs.Common.{ℕ, ◌<◌, List, []}
use Rattle.std.specs.Prelude.{slice_index_or}
use Rattle.dd_store.specs.Nodes.{Nodes, IsSound}
use Rattle.req_table.specs.declared.Key.{Key}
use Rattle.req_table.specs.declared.Record.{Record}
use Rattle.lane_queue.specs.declared.load.Load.{Load}
use Rattle.lane_queue.specs.Loads.{flat}
use Rattle.req_table.specs.Keys.{wave_of}
use Rattle.req_table.specs.Sizes.{sizes_of}
use Rattle.req_table.specs.Settled.{IsClosure, level_of_rows}
use Rattle.req_table.proofs.Waved.{is_wave}
use Rattle.req_table.proofs.Sized.{fair_in_wave, law_in_wave}
use Rattle.lane_queue.specs.PortView.{PortView}
use Rattle.lane_queue.specs.Joining.{LawOfAll, sent_from, taken_by}
use Rattle.expand_work.specs.Parts.{IsPart}
use Rattle.expand_work.proofs.Parting.{parts_close}

pub lanes_close : (S : Nodes) → IsSound S → (workers : ℕ) → 0 < workers → (roots : List Key) (ports : List PortView) (left : List (List Load)) (rows : ℕ → ℕ → List Record)
    → LawOfAll workers (sizes_of S) ports left
    → ((s : ℕ) → s < workers → IsPart (wave_of S workers) roots s (λ k. sent_from ports k s) (taken_by ports s) (rows s))
    → IsClosure (wave_of S workers) roots (level_of_rows workers rows)
lanes_close S w workers some roots ports left rows law parts =
    parts_close (wave_of S workers) roots (λ s k. sent_from ports k s) (λ k. taken_by ports k) (λ k. flat (slice_index_or left k [])) rows parts
    (λ k lt. law_in_wave S workers (sent_from ports k) (taken_by ports k) (flat (slice_index_or left k [])) (law k lt).0)
    (λ s k ls lk. fair_in_wave S workers 0 (sent_from ports k s) ((law k lk).1 s ls))
    (is_wave S w workers some)
