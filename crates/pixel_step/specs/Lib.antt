-- The outcome of the list over C.
pub mod Interface
