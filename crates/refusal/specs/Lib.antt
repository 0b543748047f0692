-- Refusals: their row numbers and rows, results one after the other, what stands beside a refusal,
-- and the first refusal of several checks. docs/SPECIFICATION.md, "Refusals".
pub mod RowNumbers
pub mod RefusalRow
pub mod Chain
pub mod Outcome
pub mod FirstRefusal
