-- Laws of cuts, and of stores and readings in each region by its name.
pub mod Cuts
pub mod Regions
pub mod Contents
