-- The wave over a store as its lanes know it has the laws of a wave, and says of a part what the wave over the store
-- says.
use Rattle.std.proofs.Common.{ℕ, ◌<◌, List}
use Rattle.dd_store.specs.Nodes.{Nodes, IsSound}
use Rattle.req_table.specs.declared.Key.{Key}
use Rattle.req_table.specs.declared.Record.{Record}
use Rattle.req_table.specs.declared.Item.{Item}
use Rattle.req_table.specs.Wave.{IsWave}
use Rattle.req_table.specs.Keys.{wave_of}
use Rattle.req_table.specs.Lanes.{sent_by}
use Rattle.req_table.proofs.Waved.{is_wave}
use Rattle.req_table.proofs.Sized.{key_of_sizes, sizes_of_key, fair_in_wave, closed_in_wave}
use Rattle.expand_work.specs.Parts.{IsPart}
use Rattle.expand_work.specs.Work.{lanes_wave}

pub lanes_laws : (S : Nodes) → IsSound S → (workers : ℕ) → 0 < workers → IsWave (lanes_wave S workers)
lanes_laws S sound workers some =
    let laws = is_wave S sound workers some in
    record {
      has_worker = some;
      bounded = λ x h. laws.bounded x (key_of_sizes S x h);
      owned = λ x. laws.owned x;
      child_level = λ x y b l m h e. laws.child_level x y b l m (key_of_sizes S x h) e;
      deeper = λ x y b l m h e. laws.deeper x y b l m (key_of_sizes S x h) e;
      held = λ x y b l m h e. sizes_of_key S y (laws.held x y b l m (key_of_sizes S x h) e);
    }

pub part_in_wave : (S : Nodes) (workers : ℕ) (roots : List Key) (s : ℕ) (sent : ℕ → List Item) (taken : List Item) (rows : ℕ → List Record) → IsPart (lanes_wave S workers) roots s sent taken rows → IsPart (wave_of S workers) roots s sent taken rows
part_in_wave S workers roots s sent taken rows p = record {
  fair = λ t tb. fair_in_wave S workers 0 (sent_by t taken) (p.fair t tb);
  ended = p.ended;
  sent_in = p.sent_in;
  closed = λ v vb. closed_in_wave S workers v taken (p.closed v vb);
  recorded = p.recorded;
  split = p.split;
}
