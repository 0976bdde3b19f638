-- Why the calls of one bucket's history have one order.
pub mod MemberLaws
pub mod VersionLaws
pub mod Quorum
pub mod MajorityQuorums
pub mod Descent
pub mod Freshness
pub mod Sequence
pub mod Places
pub mod RealTime
pub mod Order
pub mod Theorem
pub mod Example
