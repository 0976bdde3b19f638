-- What the contracts of `server_requests` cite.
pub mod Requests
pub mod Replies
