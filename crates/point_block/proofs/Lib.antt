-- Laws of the point block's factor, which other crates cite.
pub mod Laws
