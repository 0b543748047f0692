-- Lists of calls of `add` of schur.rs, and what holds of every one.
pub mod Calls
pub mod Claim
