-- `root::sqrt` meets its contract: a guess that is the nearest root has the digits of the root of
-- a normal value, and every other value goes by `sqrt_by_search`. Assumes nothing.
use mathlib.Core.Path.{◌≡◌, refl, sym, ◌∙◌, subst}
use mathlib.Core.Bool.{true}
use Prim.Native.Nat.{ℕ, ◌+◌, ◌*◌, ◌/◌, ◌^◌, ◌<◌}
use native.Mathlib.Omega.{arith}
use lib.Dec.{T}
use lib.Ieee.{Float, binary64, fits, lt, of_bits, to_bits}
use Rattle.numerics.specs.Binary64 as Binary64
use Rattle.std.specs.Bool.{passes}
use Rattle.std.specs.Float.{float_is_finite}
use Rattle.root.specs.Root.{sqrt, IsCorrectlyRounded}
use Rattle.root.proofs.Correct.{sqrt_correct}
use Rattle.root.proofs.Read.{held, above_least, low_of_least, normal, no_nan, root}
use Rattle.root.proofs.Rounded.{root_pattern}
use Rattle.root.proofs.sqrt.Goals as goal

-- what is the definition's root is IEEE 754's, where x is finite and above zero
nearest : (x r : Float) → fits binary64 x ≡ true → r ≡ sqrt x → float_is_finite x ≡ true → T (lt Binary64.zero x) → IsCorrectlyRounded x r
nearest x r f e finite above = subst (IsCorrectlyRounded x) (sym e) (sqrt_correct x (held x f) (passes _ finite) above)

-- the guess is the nearest root
module _ (c : goal.Then-is_nearest) where
  abbrev b : ℕ
  b = to_bits binary64 c.args.x

  abbrev half : ℕ
  half = (b / 2 ^ 52 + 1021) / 2

  above : lt Binary64.zero c.args.x ≡ true
  above = above_least c.args.x c.if-x.true

  pattern : half * 2 ^ 52 + c.guess-root.result ≡ to_bits binary64 (sqrt (of_bits binary64 b))
  pattern =
      let s = c.radicand.ensures in
      sym (root_pattern _ c.radicand.result half c.guess-root.result s.same s.low s.high (c.if-is_nearest.ensures.nearest refl) (halved b c.if-b-lt-INFINITY.true))
      ∙ normal b (low_of_least c.args.x (held _ c.well_formed.0.1) c.if-x.true) c.if-b-lt-INFINITY.true
    where
      halved : (b : ℕ) → b < 0x7ff0_0000_0000_0000 → (b / 2 ^ 52 + 1021) / 2 < 2000
      halved b h = omega arith

  value : of_bits binary64 (half * 2 ^ 52 + c.guess-root.result) ≡ sqrt c.args.x
  value = root c.args.x (held _ c.well_formed.0.1) above c.if-b-lt-INFINITY.true _ pattern

pub float_from_bits-result : goal.float_from_bits-result
float_from_bits-result c = no_nan c.args.x (held _ c.well_formed.0.1) (above c) c.if-b-lt-INFINITY.true _ (pattern c)

pub returns-then-is_nearest : goal.returns-then-is_nearest
returns-then-is_nearest c = record { result = value c; nearest = nearest _ _ c.well_formed.0.1 (value c) }

pub returns : goal.returns
returns c = record { result = c.sqrt_by_search.ensures; nearest = nearest _ _ c.well_formed.0.1 c.sqrt_by_search.ensures }
