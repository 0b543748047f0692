-- `record::list::write_list` meets its contract. Assumes nothing.
use Rattle.std.proofs.Common.{refl, sym, length-take-le}
use Rattle.run_list.proofs.Bounds.{made_length, not_written, written}
use Rattle.run_list.proofs.record.list.write_list.Goals as goal

pub returns-then-length-out : goal.returns-then-length-out
returns-then-length-out c = not_written c.args.«record».now _ _ _ refl c.put_list-length.ensures c.args.out.now c.if-length-out.true

pub slice_bounds-list-end : goal.slice_bounds-list-end
slice_bounds-list-end c = made_length c.args.«record».now _ _ _ refl c.put_list-length.ensures

pub slice_bounds-put-end : goal.slice_bounds-put-end
slice_bounds-put-end c = sym (length-take-le _ _ (made_length c.args.«record».now _ _ _ refl c.put_list-length.ensures))

pub returns : goal.returns
returns c = written c.args.«record».now _ _ _ refl c.put_list-length.ensures c.args.out.now c.if-length-out.false _ _ c.put.ensures
