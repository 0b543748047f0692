-- Laws of a list's lines and of its length (`Bounds`), the first row that its run can meet
-- (`Rows`), and the prefix that decides it (`Prefix`).
mod Bits
mod Runs
mod Bounds
mod Rows
mod Prefix
