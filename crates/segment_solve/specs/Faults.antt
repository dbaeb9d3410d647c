-- The fault of a store that a segment makes which can't be read (this project's own).
use Rattle.segment_solve.specs.declared.fault.SegFault.{SegFault}
use Rattle.segment_solve.specs.declared.fault.SegFault.TheVariants as segment
use Rattle.qic_base.specs.declared.store_fault.StoreFault.{StoreFault}
use Rattle.qic_base.specs.declared.store_fault.StoreFault.TheVariants as store

abbrev pub store_fault : SegFault → StoreFault
store_fault (segment.Lost number lost) = store.Lost number lost
store_fault (segment.Mismatch number) = store.Mismatch number
