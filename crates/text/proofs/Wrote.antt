-- Texts written one after the other. Assumes nothing.
use mathlib.Core.Path.{◌≡◌, refl, sym, ◌∙◌, subst}
use mathlib.Core.List.{List, [], ◌++◌, append_assoc}
use Prim.Native.Nat.{ℕ}
use Rattle.text.specs.Text.{AppendsText}
use Rattle.text.specs.declared.Writer.{Writer}
use Rattle.text.proofs.Puts.{put_none, put_put}

pub wrote_none : (w : Writer) → AppendsText [] w w
unfolding AppendsText
wrote_none w = (refl, put_none w.at w.out.now)

-- the same text by another name
pub wrote_same : (s t : List ℕ) (w v : Writer) → s ≡ t → AppendsText s w v → AppendsText t w v
wrote_same s t w v e p = subst (λ (x : List ℕ). AppendsText x w v) e p

pub wrote_both : (s t : List ℕ) (w v u : Writer) → AppendsText s w v → AppendsText t v u → AppendsText (s ++ t) w u
unfolding AppendsText
wrote_both s t w v u p q = (q.0 ∙ p.0, put_put s t w.at w.out.now v.at v.out.now u.at u.out.now p.1 q.1)

-- a text, and then two
pub wrote_then : (s t r : List ℕ) (w v u : Writer) → AppendsText s w v → AppendsText (t ++ r) v u → AppendsText (s ++ t ++ r) w u
wrote_then s t r w v u p q = wrote_same _ _ w u (sym (append_assoc s t r)) (wrote_both s (t ++ r) w v u p q)
