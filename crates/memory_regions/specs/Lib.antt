-- What contracts over the two arrays cite.
pub mod Cuts
pub mod Regions
pub mod Contents
