-- Laws of a record's form, of the numbers in its payloads, and of its points.
pub mod Forms
mod Headers
mod Numbers
pub mod Points
