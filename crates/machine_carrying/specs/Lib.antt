-- What the contracts of `machine_carrying` cite.
pub mod Carried
