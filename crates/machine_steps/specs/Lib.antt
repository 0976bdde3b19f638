-- What the contracts of `machine_steps` cite.
pub mod Moved
