pub mod Step
pub mod Sound
pub mod Measure
pub mod Drive
pub mod MachineView
pub mod Counting
pub mod Cores
pub mod CoreMeasure
