use Rattle.std.proofs.Common.{◌≡◌, ◌-◌, ◌*◌, ◌/◌, ◌^◌, arith, rules}
use Rattle.numerics.proofs.FromFn.{from_fn_maps}
use Rattle.text.specs.Hex.{digit}
use Rattle.text.proofs.hex_digits.digits.Goals as goal

pub returns : goal.returns
returns c =
    let n = c.args.n in
    let last : n / 1 ≡ n = omega arith in
    rw last at (from_fn_maps _ (λ i. digit (n / 2 ^ (60 - 4 * i))) (λ i d q k. search rules) 16 c.from_fn.ensures.items)
