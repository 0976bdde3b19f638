-- What the contracts of `machine_flight` cite.
pub mod Flown
