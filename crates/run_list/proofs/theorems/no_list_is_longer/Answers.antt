use Rattle.run_list.proofs.Bounds.{list_fits}
use Rattle.run_list.proofs.theorems.no_list_is_longer.Goals as goal

pub returns : goal.returns
returns c = list_fits
