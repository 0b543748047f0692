use Rattle.run_list.proofs.Bounds.{sums_are_numbers}
use Rattle.run_list.proofs.theorems.sums_are_never_nan.Goals as goal

pub returns : goal.returns
returns c = sums_are_numbers
