use mathlib.Core.Path.{ap, ◌∙◌}
use lib.Ieee.{Float, binary64, mul, eq}
use Rattle.std.proofs.Common.{rules}
use Rattle.std.proofs.lemmas.Iterator.{YieldsList-from_slice}
use Rattle.std.proofs.lemmas.Iterator.Consumers.{fold_from_yields_List}
use Rattle.numerics.specs.Binary64.{zero}
use Rattle.numerics.proofs.Finite.{product_tells_all}
use Rattle.numerics.proofs.vectors.all_finite.Goals as goal

pub returns : goal.returns
returns c =
    let l = c.args.values.now in
    ap (λ (p : Float). eq p zero)
    (fold_from_yields_List _ (mul binary64) zero c.fold.result c.fold.ensures.ran (YieldsList-from_slice l cc) (λ p x q f k. search rules))
    ∙ product_tells_all binary64 l
