use Rattle.std.proofs.Common.{◌≡◌, All, take, length, get_or, []}
use Rattle.std.specs.Prelude.{slice_index}
use Rattle.net_bench.specs.Circuit.{circuit, variables_of}
use Rattle.cone_check.specs.ConeRounds.{levels_in, texts}
use Rattle.cone_check.proofs.variable_names.names_in.Given as goal

abbrev pub invariant-loop-place : goal.invariant-loop-place
invariant-loop-place l = record {
  each : length l.names.items ≡ length l.net.names;
  named : All (λ s. get_or (texts l.names.items) s [] ≡ get_or l.naming.names (slice_index (levels_in l.part l.naming) s) []) (take l.place (variables_of (circuit l.net)));
}
