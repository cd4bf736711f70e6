-- The number that decreases with every event of a core.
use Rattle.std.specs.Prelude.{ℕ}
use Rattle.req_table.specs.contracts.KeyPartialEq.TheImpl.{eq-value}
use Rattle.wave_core.specs.Measure.{measure}
use Rattle.wave_core.specs.Cores.{CoreView, core_wave, core_state}

abbrev pub core_measure : CoreView → ℕ
core_measure v = measure eq-value.it (core_wave v) (core_state v)
