use Rattle.wave_core.proofs.waves.Core.nth_allowed.Goals as goal

pub loop-event-init : goal.loop-event-init
loop-event-init c = record { numbers = λ e n. n; more = c.requires }
