-- `solve_positive_definite` of solver.rs, at 5 unknowns.
pub mod Solver
