-- What the contracts of `restarts` cite.
pub mod Restarts
