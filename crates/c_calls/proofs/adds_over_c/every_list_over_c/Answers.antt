use Rattle.c_calls.proofs.ListsOverC.{every_list}
use Rattle.c_calls.proofs.adds_over_c.every_list_over_c.Goals as goal

pub returns : goal.returns
returns c = every_list
