-- `root::root_of_digits` meets its contract. Assumes nothing.
use mathlib.Core.Path.{sym}
use Prim.Native.Nat.{ℕ, ◌/◌, ◌<◌}
use native.Mathlib.Omega.{arith}
use Rattle.root.proofs.Rounded.{root_pattern}
use Rattle.root.proofs.root_of_digits.Goals as goal

pub returns : goal.returns
returns c =
    let s = c.radicand.ensures in
    sym (root_pattern _ c.radicand.result (c.args.power / 2) c.search.result s.same s.low s.high c.search.ensures (halved c.args.power c.requires.2))
  where
    halved : (p : ℕ) → p < 4000 → p / 2 < 2000
    halved p h = omega arith
