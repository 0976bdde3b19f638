-- Laws of an input that arrives in parts: every way of cutting it gives what the whole of it gives.
pub mod Parts
pub mod Whole
pub mod Complete
