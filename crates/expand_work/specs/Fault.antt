-- Which fault of a wave a store's is.
use Rattle.dd_store.specs.declared.StoreFault.{StoreFault}
use Rattle.dd_store.specs.declared.StoreFault.TheVariants as store_faults
use Rattle.expand_work.specs.declared.fault.WaveFault.{WaveFault}
use Rattle.expand_work.specs.declared.fault.WaveFault.TheVariants.{OutOfMemory, Full}

-- the fault of a wave whose store has refused a node
abbrev pub wave_fault : StoreFault → WaveFault
wave_fault store_faults.Full = Full
wave_fault store_faults.OutOfMemory = OutOfMemory
