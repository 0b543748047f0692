-- An array that `from_fn` makes, by what its closure gives at each index, where each call leaves
-- the closure as it was. Assumes nothing.
use Rattle.std.proofs.Common.{◌≡◌, ℕ, zero, suc, ◌+◌, ◌<◌, List, get_or, map, sym, subst, ◌∙◌, add-zero, zero-add, arith}
use denote.Param.Members.{Mut}
use lib.Ieee.{Float}
use Rattle.std.specs.Array.{IsFromFnResult, IsFromFnResultFrom}
use Rattle.std.specs.Fn.{Called}
use Rattle.std.specs.List.{range_with_len}
use Rattle.std.proofs.lemmas.List.FromFn.{fill_by_all}
use Rattle.numerics.specs.Vectors.{tabulate}
use Rattle.numerics.proofs.Fill.{tabulate_maps}

module _ {F A : Type 0} {g : Mut F (ℕ × Unit {0}) A} {s : F} (l : List A) (f : ℕ → A)
    (gives : (i : ℕ) (x : A) (q : F) → Called g s (i, tt) x q → (q ≡ s) × (x ≡ f i)) where
  entry_from : (m i : ℕ) → IsFromFnResultFrom g s l i m → (k : ℕ) → k < m → get_or l (i + k) (f 0) ≡ f (i + k)
  entry_from zero i r k b = absurd (omega arith)
  entry_from (suc m) i (q, x, there, called, rest) zero b = rw (add-zero i) (there.1 (f 0) ∙ (gives i x q called).1)
  entry_from (suc m) i (q, x, there, called, rest) (suc k) b =
      let e : i + suc k ≡ i + 1 + k = omega arith in
      rw e (entry_from m (i + 1) (subst (λ (t : F). IsFromFnResultFrom g t l (i + 1) m) (gives i x q called).0 rest) k (omega arith))

  pub from_fn_maps : (n : ℕ) → IsFromFnResult g s l n → l ≡ map f (range_with_len 0 n)
  from_fn_maps n r = fill_by_all f l n (f 0) r.long (λ i a. rw (zero-add i) at (entry_from n 0 r.each i a))

pub from_fn_tabulates : {F : Type 0} {g : Mut F (ℕ × Unit {0}) Float} {s : F} (l : List Float) (f : ℕ → Float)
    → ((i : ℕ) (x : Float) (q : F) → Called g s (i, tt) x q → (q ≡ s) × (x ≡ f i)) → (n : ℕ) → IsFromFnResult g s l n → l ≡ tabulate n f
from_fn_tabulates l f gives n r = from_fn_maps l f gives n r ∙ sym (tabulate_maps n f)
