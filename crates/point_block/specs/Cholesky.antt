-- The scaled Cholesky factor of a symmetric 3 by 3 block m, and the block's inverse by it: the
-- arithmetic of `factor_damped` of point_block.rs (docs/SPECIFICATION.md, "Point block"). A matrix
-- is nine numbers, row by row.
use Rattle.std.specs.Prelude.{Bool, ◌&&◌, if◌then◌else◌, List, [], ◌∷◌, Float, Option, Some, None}
use Rattle.std.specs.Float.Ieee.{neg, lt}
use Rattle.numerics.specs.Binary64.{◌⊕◌, ◌⊖◌, ◌⊗◌, ◌⊘◌, half, relative_tolerance, recip}
use Rattle.std.specs.Float.{float_is_finite}
use Rattle.root.specs.Root.{sqrt}
use Rattle.numerics.specs.Vectors.{◌!◌}
use Rattle.point_block.specs.declared.cholesky.Scale.{Scale}
use Rattle.point_block.specs.declared.cholesky.Lower.{Lower}
use Rattle.point_block.specs.declared.cholesky.Factor.{Factor}

-- the Jacobi scale of a diagonal d: sᵢ = √dᵢ
unfoldable pub scale_of : List Float → Scale
scale_of d = record { s0 = sqrt (d ! 0); s1 = sqrt (d ! 1); s2 = sqrt (d ! 2) }

-- the lower triangle of the scaled matrix E, made symmetric: eᵢⱼ = ½ (mᵢⱼ + mⱼᵢ) ÷ (sᵢ sⱼ)
abbrev pub scaled_lower : List Float → Scale → Lower
scaled_lower m s = record {
  e00 = half ⊗ (m ! 0 ⊕ m ! 0) ⊘ (s.s0 ⊗ s.s0);
  e10 = half ⊗ (m ! 3 ⊕ m ! 1) ⊘ (s.s1 ⊗ s.s0);
  e11 = half ⊗ (m ! 4 ⊕ m ! 4) ⊘ (s.s1 ⊗ s.s1);
  e20 = half ⊗ (m ! 6 ⊕ m ! 2) ⊘ (s.s2 ⊗ s.s0);
  e21 = half ⊗ (m ! 7 ⊕ m ! 5) ⊘ (s.s2 ⊗ s.s1);
  e22 = half ⊗ (m ! 8 ⊕ m ! 8) ⊘ (s.s2 ⊗ s.s2);
}

-- L of E = L Lᵀ, and the pivots, whose roots are its diagonal:
--     p₀ = e₀₀                   l₀₀ = √p₀   l₁₀ = e₁₀ ÷ l₀₀   l₂₀ = e₂₀ ÷ l₀₀
--     p₁ = e₁₁ − l₁₀²            l₁₁ = √p₁   l₂₁ = (e₂₁ − l₂₀ l₁₀) ÷ l₁₁
--     p₂ = e₂₂ − l₂₀² − l₂₁²     l₂₂ = √p₂
unfoldable pub cholesky_of : Lower → Factor
cholesky_of a =
    let l₀₀ = sqrt a.e00 in
    let l₁₀ = a.e10 ⊘ l₀₀ in
    let p₁ = a.e11 ⊖ l₁₀ ⊗ l₁₀ in
    let l₁₁ = sqrt p₁ in
    let l₂₀ = a.e20 ⊘ l₀₀ in
    let l₂₁ = (a.e21 ⊖ l₂₀ ⊗ l₁₀) ⊘ l₁₁ in
    let p₂ = a.e22 ⊖ l₂₀ ⊗ l₂₀ ⊖ l₂₁ ⊗ l₂₁ in
    let l₂₂ = sqrt p₂ in
    record {
      p0 = a.e00;
      p1 = p₁;
      p2 = p₂;
      lower = record { e00 = l₀₀; e10 = l₁₀; e11 = l₁₁; e20 = l₂₀; e21 = l₂₁; e22 = l₂₂ };
    }

-- finite and above 64ε
abbrev pub is_valid_pivot : Float → Bool
is_valid_pivot p = float_is_finite p && lt relative_tolerance p

-- all three pivots are
unfoldable pub has_valid_pivots : Factor → Bool
has_valid_pivots c = is_valid_pivot c.p0 && is_valid_pivot c.p1 && is_valid_pivot c.p2

-- The block's inverse D (Nᵀ N) D, with N the inverse of L, and D the diagonal of dᵢ = 1 ÷ sᵢ:
--     nᵢᵢ = 1 ÷ lᵢᵢ   n₁₀ = −l₁₀ n₀₀ n₁₁   n₂₁ = −l₂₁ n₁₁ n₂₂   n₂₀ = −(l₂₀ n₀₀ + l₂₁ n₁₀) n₂₂
--     inverseᵢⱼ = (Σ nₖᵢ nₖⱼ over k ≥ i) (dᵢ dⱼ) for i ≥ j, packed: 00, 10, 11, 20, 21, 22
unfoldable pub inverse_of : Lower → Scale → List Float
inverse_of l s =
    let n₀₀ = recip l.e00 in
    let n₁₁ = recip l.e11 in
    let n₂₂ = recip l.e22 in
    let n₁₀ = neg l.e10 ⊗ n₀₀ ⊗ n₁₁ in
    let n₂₁ = neg l.e21 ⊗ n₁₁ ⊗ n₂₂ in
    let n₂₀ = neg (l.e20 ⊗ n₀₀ ⊕ l.e21 ⊗ n₁₀) ⊗ n₂₂ in
    let d₀ = recip s.s0 in
    let d₁ = recip s.s1 in
    let d₂ = recip s.s2 in
    (n₀₀ ⊗ n₀₀ ⊕ n₁₀ ⊗ n₁₀ ⊕ n₂₀ ⊗ n₂₀) ⊗ (d₀ ⊗ d₀)
    ∷ (n₁₁ ⊗ n₁₀ ⊕ n₂₁ ⊗ n₂₀) ⊗ (d₁ ⊗ d₀)
    ∷ (n₁₁ ⊗ n₁₁ ⊕ n₂₁ ⊗ n₂₁) ⊗ (d₁ ⊗ d₁)
    ∷ n₂₂ ⊗ n₂₀ ⊗ (d₂ ⊗ d₀)
    ∷ n₂₂ ⊗ n₂₁ ⊗ (d₂ ⊗ d₁)
    ∷ n₂₂ ⊗ n₂₂ ⊗ (d₂ ⊗ d₂)
    ∷ []

-- the factor of a matrix at the scale √d
abbrev pub factor_of : List Float → List Float → Factor
factor_of m d = cholesky_of (scaled_lower m (scale_of d))

-- the inverse by that factor: the formulas alone, whether the pivots are valid or not
unfoldable pub inverse_by : List Float → List Float → List Float
inverse_by m d = inverse_of (factor_of m d).lower (scale_of d)

-- that inverse, or none where a pivot is not valid
unfoldable pub invert : List Float → List Float → Option (List Float)
invert m d = if has_valid_pivots (factor_of m d) then Some (inverse_by m d) else None
