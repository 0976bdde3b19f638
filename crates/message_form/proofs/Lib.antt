-- Why every message in flight has a datagram, and only its own.
pub mod Bodies
pub mod Theorem
