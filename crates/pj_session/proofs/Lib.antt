pub mod Bytes
pub mod Chains
pub mod Spoken
pub mod Turns
pub mod Talks
pub mod FirstRequests
pub mod Accepting
pub mod Serving
