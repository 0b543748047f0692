use Rattle.run_list.proofs.Rows.{from_row_3}
use Rattle.run_list.proofs.theorems.no_row_before_3.Goals as goal

pub returns : goal.returns
returns c = from_row_3
