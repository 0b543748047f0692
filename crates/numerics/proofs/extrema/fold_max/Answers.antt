use Rattle.std.proofs.Common.{◌≡◌, ap, ◌∙◌, rules}
use Rattle.std.proofs.lemmas.Fn.{fold_over, fronts, slice_gives}
use Rattle.numerics.specs.Binary64.{zero}
use Rattle.numerics.specs.Extrema.{IsMaxNonnegative, fold_max}
use Rattle.numerics.proofs.Laws.{Found, found_none, found_more}
use Rattle.numerics.proofs.extrema.fold_max.Goals as goal

pub returns : goal.returns
returns g c =
    let s = c.iter.result in
    let found = fold_over fronts (λ y. y.now) _ Found _
    (λ ys low x r q f k. let h : IsMaxNonnegative low x.now r × (q ≡ _) = search rules in (found_more ys low x.now r f h.0, h.1))
    s s.rest.now zero c.fold.result (slice_gives s) found_none c.fold.ensures.ran in
    found.1 ∙ ap fold_max c.iter.ensures.rest
