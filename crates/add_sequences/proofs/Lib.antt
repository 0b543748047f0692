-- The claim on every list of calls, proved.
pub mod Claim
