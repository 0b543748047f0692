use Rattle.std.proofs.Common.{◌≡◌, refl, sym, ◌&&◌, ◌∙◌, rules, tests}
use Rattle.std.proofs.lemmas.Iterator.{YieldsList-from_slice}
use Rattle.std.proofs.lemmas.Iterator.Search.{all_from_yields_List}
use Rattle.std.proofs.lemmas.List.Recursion.{same_from_clauses}
use Rattle.std.specs.List.{list_all}
use lib.Ieee.{eq}
use Rattle.numerics.specs.Binary64.{◌⊗◌, zero, relative_tolerance}
use Rattle.numerics.specs.Vectors.{◌!◌, all_zero}
use Rattle.numerics.proofs.FromFn.{from_fn_tabulates}
use Rattle.numerics.proofs.Laws.{floor_clear}
use Rattle.schur.specs.GradientNorm.{scaled_entry, IsScaledEntry, scaled_gradient_inf_norm}
use Rattle.schur.proofs.gradient_norm.norm.Goals as goal

pub returns-then-not-is_positive_finite : goal.returns-then-not-is_positive_finite
unfolding all_zero scaled_gradient_inf_norm
returns-then-not-is_positive_finite g c =
    let zeros = all_from_yields_List (λ x. eq x zero) _ _ c.all.result c.all.ensures.ran (YieldsList-from_slice c.args.g cc) (λ x b q k. search (rules, tests))
    ∙ same_from_clauses (list_all (λ x. eq x zero)) all_zero (λ x b. eq x zero && b) refl (λ x xs. refl) (λ x xs. refl) c.args.g in
    rw (← c.fold_max-scale.ensures, sym c.is_positive_finite.ensures ∙ c.if-not-is_positive_finite.true, ← zeros) c.norm_without_scale.ensures

pub returns : goal.returns
unfolding scaled_gradient_inf_norm
returns g c =
    let a = c.args in
    let floor = relative_tolerance ⊗ c.fold_max-scale.result in
    let clear = floor_clear a.d _ c.fold_max-scale.ensures in
    let entries = from_fn_tabulates _ (λ i. scaled_entry (a.g ! i) (a.d ! i) floor) (λ i y q k. let h : (q ≡ _) × IsScaledEntry (a.g ! i) (a.d ! i) floor y = search rules in (h.0, h.1.is clear)) g.row.N c.from_fn.ensures.items in
    rw (← c.fold_max-scale.ensures, sym c.is_positive_finite.ensures ∙ c.if-not-is_positive_finite.false, ← entries) c.fold_max.ensures
