use Rattle.std.proofs.Common.{rules, ◌-◌, length, take, sym, ap, subst, ◌∙◌, le_refl}
use Rattle.std.proofs.lemmas.Slice.{take-put_mid_below}
use Rattle.std.proofs.KnownBytes.{Consumes-trans, Consumes-kept}
use Rattle.std.specs.Io.KnownBytes.{Consumes}
use borrow.Rule.Slice.PartMut.{put_mid}
use Rattle.program_io.proofs.Filled.{filled}
use Rattle.program_io.proofs.stored_file.read_full.Goals.{in-Ok, in-Err+else-ne}
use Rattle.program_io.proofs.stored_file.read_full.Goals as goal

pub loop-preserved : goal.loop-preserved
loop-preserved g c =
    let at = c.loop.done in
    let all = put_mid at (length c.loop.buffer - at) c.loop.buffer c.read.new.buf in
    elim c.match-read.branch [
      | in-Ok w ↦ (search rules, subst (Consumes _ _) (sym (ap (λ n. take n all) w.done-is ∙ filled at w.in-Ok.n _ c.loop.buffer c.read.new.buf c.loop.invariant.0 (search rules))) (Consumes-trans _ _ _ _ _ c.loop.invariant.1 (search rules)))
      | in-Err+else-ne w ↦ (search rules, subst (Consumes _ _) (sym (ap (λ n. take n all) w.done-is ∙ take-put_mid_below _ _ _ _ _ (le_refl _) c.loop.invariant.0)) (Consumes-kept _ _ _ _ c.loop.invariant.1 (search rules)))
    ]
