-- Laws that the tests' proofs cite.
mod Testing
mod Sounding
