-- Requests of a store, and their answers.
use Rattle.std.specs.Prelude.{Result, Ok, Err}
use Rattle.dd_store.specs.declared.StoreFault.{StoreFault}
use Rattle.expand_work.specs.declared.fault.WaveFault.{WaveFault}
use Rattle.expand_work.specs.Fault.{wave_fault}

-- the result of a wave whose store has this result
abbrev pub wave_result : Result (Unit {0}) StoreFault → Result (Unit {0}) WaveFault
wave_result (Ok u) = Ok u
wave_result (Err e) = Err (wave_fault e)
