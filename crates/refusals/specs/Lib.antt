-- What the contracts of `refusals` cite.
pub mod Refusals
