-- What the contracts of `open_calls` cite.
pub mod Calls
