-- Laws that belong to no one function: of contents, and of the list of messages in flight.
pub mod ContentLaws
pub mod MessageLaws
