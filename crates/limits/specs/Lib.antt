-- What every script keeps: refusals, the tally, the measures of a cluster, and the sizes of what is printed.
pub mod Lists
pub mod Refusals
pub mod Tally
pub mod Measures
pub mod Stands
pub mod Starts
pub mod Printed
pub mod Prints
