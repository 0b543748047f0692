-- `payload::numbers_at` meets its contract. Assumes nothing.
use Rattle.std.proofs.Common.{◌+◌, ◌*◌, rules}
use Rattle.numerics.proofs.FromFn.{from_fn_tabulates}
use Rattle.run_record.specs.Run.{number_at}
use Rattle.run_record.proofs.payload.numbers_at.Goals as goal

pub returns : goal.returns
returns g c =
    let p = c.args.payload.now in
    from_fn_tabulates _ (λ j. number_at p (c.args.at + 8 * j)) (λ j x q h. search rules) g.row.N c.from_fn.ensures.items
