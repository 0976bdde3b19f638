-- What the proofs of `machine` share.
pub mod Zeros
pub mod Assembling
pub mod Executing
pub mod Messages
pub mod Planning
pub mod Clusters
pub mod Executables
pub mod Performing
