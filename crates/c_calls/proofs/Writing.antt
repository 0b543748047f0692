-- Lists written one behind the other into an array are their concatenation.
use Rattle.std.proofs.Common.{◌≡◌, refl, sym, ap, ◌∙◌, List, [], ◌++◌, ℕ, ◌+◌, ◌≤◌, length, drop_of_length-le, append-nil, length-append, zero-add, arith}
use lib.Seq.{paste}
use Rattle.std.proofs.lemmas.List.Edits.{paste_all, paste-paste}
use Rattle.std.specs.Prelude.{Float}
use Rattle.c_calls.specs.Slices.{put}

-- x is the array d with s written at its front, and n is how many numbers s has
pub record Front (d x s : List Float) (n : ℕ) : Type 0 where
  same : x ≡ put s 0 d
  long : length s ≡ n

pub nothing_written : (d : List Float) → Front d d [] 0
nothing_written d = record { same = refl; long = refl }

module _ (d x s v y : List Float) (n m : ℕ) (h : Front d x s n) (l : length v ≡ m) (e : y ≡ put v n x) where
  -- v is written behind s
  pub next_written : Front d y (s ++ v) (n + m)
  next_written = record {
    same = e ∙ rw (h.same, ← h.long, length-append)
        (ap (λ (k : ℕ). paste (put s 0 d) k v (length v)) (sym (zero-add (length s))) ∙ paste-paste d 0 s v (length s) (length v) refl refl (omega arith));
    long = omega (arith, length-append {A = Float});
  }

-- s fills the array
pub all_written : (d x s : List Float) (n : ℕ) → Front d x s n → length d ≡ n → x ≡ s
all_written d x s n h l =
    let m : length d ≤ 0 + length s = omega (arith, h.long) in
    h.same ∙ paste_all d 0 s (length s) refl ∙ rw (drop_of_length-le d m) (append-nil s)
