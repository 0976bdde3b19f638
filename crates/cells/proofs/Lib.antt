-- Laws of a server seen at one bucket.
pub mod Laws
