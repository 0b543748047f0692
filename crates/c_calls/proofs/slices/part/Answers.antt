use Rattle.std.proofs.Common.{◌+◌, rules}
use Rattle.numerics.specs.Vectors.{◌!◌}
use Rattle.numerics.proofs.FromFn.{from_fn_tabulates}
use Rattle.c_calls.specs.Slices.{part}
use Rattle.c_calls.proofs.slices.part.Goals as goal

pub returns : goal.returns
unfolding part
returns g c =
    let x = c.args.x.now in
    let first = c.args.start in
    from_fn_tabulates _ (λ i. x ! (first + i)) (λ i y q k. search rules) g.row.N c.from_fn.ensures.items
