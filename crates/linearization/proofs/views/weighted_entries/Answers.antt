use Rattle.std.proofs.Common.{rules}
use Rattle.numerics.specs.Binary64.{◌⊗◌}
use Rattle.numerics.specs.Vectors.{◌!◌}
use Rattle.numerics.proofs.FromFn.{from_fn_tabulates}
use Rattle.linearization.proofs.views.weighted_entries.Goals as goal

pub returns : goal.returns
returns g c =
    let a = c.args in
    from_fn_tabulates _ (λ i. a.weight ⊗ a.numbers ! i) (λ i x q h. search rules) g.row.N c.from_fn.ensures.items
