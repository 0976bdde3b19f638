-- What the contracts of `tally` cite.
pub mod Sums
