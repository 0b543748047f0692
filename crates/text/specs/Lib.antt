-- Text in a lent buffer, and numbers as hexadecimal digits. docs/SPECIFICATION.md, "List".
pub mod Text
pub mod Hex
