use Rattle.std.proofs.Common.{◌∙◌, refl, arith}
use Rattle.numerics.proofs.Fill.{array_full, by_rows}
use Rattle.schur.specs.SchurComplement.{schur_term, reduced_hessian}
use Rattle.schur.proofs.elimination.reduced_hessian.Goals as goal

pub returns : goal.returns
unfolding by_rows schur_term reduced_hessian
returns c =
    array_full _ _ _ _ c.loop-i.invariant.1 (omega arith)
    ∙ rw (c.solve-x0.ensures, c.cross_row.ensures, c.solve-x1.ensures, c.cross_row-2.ensures, c.solve-x2.ensures, c.cross_row-3.ensures, c.solve-x3.ensures, c.cross_row-4.ensures, c.solve-x4.ensures, c.cross_row-5.ensures) refl
