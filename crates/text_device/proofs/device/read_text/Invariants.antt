use Rattle.std.proofs.Common.{◌≡◌, ◌+◌, ◌-◌, ◌≤◌, vec_len}
use Rattle.std.specs.Io.KnownBytes.{Consumes}
use Rattle.text_device.proofs.device.read_text.Given as goal

abbrev pub invariant-loop-chunk : goal.invariant-loop-chunk
invariant-loop-chunk g l = record {
  bytes : Consumes (g.R.Source.remaining l.fn.device) (g.R.Source.remaining l.device) l.text.items;
  within : vec_len l.text ≤ l.limit + 1;
  kept : g.R.Source.has_failed l.device ≡ g.R.Source.has_failed l.fn.device;
  origin : g.R.Source.origin l.device ≡ g.R.Source.origin l.fn.device;
}

abbrev pub decreases-loop-chunk : goal.decreases-loop-chunk
decreases-loop-chunk g l = l.limit + 1 - vec_len l.text
