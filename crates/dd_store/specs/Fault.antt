-- Why a node was not made.
use Rattle.slot_table.specs.declared.Refusal.{Refusal}
use Rattle.slot_table.specs.declared.Refusal.TheVariants as refusals
use Rattle.dd_store.specs.declared.StoreFault.{StoreFault}
use Rattle.dd_store.specs.declared.StoreFault.TheVariants.{Full, OutOfMemory}

-- the fault of a store whose table refused a pair
abbrev pub fault_of : Refusal → StoreFault
fault_of refusals.Full = Full
fault_of refusals.OutOfMemory = OutOfMemory
