-- A system and a block are read back from the numbers that are written for them. Assumes nothing.
use Rattle.std.proofs.Common.{◌≡◌, refl, Bool, true, false, not, List, [], ◌∷◌, ◌++◌, append-nil, append_assoc, ℕ, ◌+◌, zero-add, eqb, length, length-append}
use lib.Ieee.{Float}
use Rattle.numerics.specs.Vectors.{◌!◌}
use Rattle.linearization.specs.declared.linearize.LocalLinearization.{LocalLinearization}
use Rattle.schur.specs.declared.reduced_system.ReducedSystem.{ReducedSystem}
use Rattle.c_calls.specs.Slices.{part}
use Rattle.c_calls.proofs.Reading.{From, from_start, from_next, part_from}
use Rattle.c_calls.specs.Layout.{block, system}
use Rattle.c_calls.specs.LayoutNumbers.{block_numbers, system_numbers, flag, system_counts}

-- ---- six lists one after the other

record Six (x a b c d e f : List Float) (i j k l m n : ℕ) : Type 0 where
  long : length x ≡ i + j + k + l + m + n
  first : part 0 i x ≡ a
  second : part i j x ≡ b
  third : part (i + j) k x ≡ c
  fourth : part (i + j + k) l x ≡ d
  fifth : part (i + j + k + l) m x ≡ e
  sixth : part (i + j + k + l + m) n x ≡ f

-- the same with nothing behind the last
nested : (a b c d e f : List Float) → a ++ b ++ c ++ d ++ e ++ f ≡ a ++ (b ++ (c ++ (d ++ (e ++ (f ++ [])))))
nested a b c d e f = simp (append_assoc, append-nil)

six : (a b c d e f : List Float) (i j k l m n : ℕ) → length a ≡ i → length b ≡ j → length c ≡ k → length d ≡ l → length e ≡ m → length f ≡ n
    → Six (a ++ b ++ c ++ d ++ e ++ f) a b c d e f i j k l m n
six a b c d e f i j k l m n p q r s t u =
    let x : List Float = a ++ b ++ c ++ d ++ e ++ f in
    -- what stands behind each
    let y6 : List Float = [] in
    let y5 : List Float = f ++ y6 in
    let y4 : List Float = e ++ y5 in
    let y3 : List Float = d ++ y4 in
    let y2 : List Float = c ++ y3 in
    let y1 : List Float = b ++ y2 in
    let from1 = from_start x (a ++ y1) (nested a b c d e f) in
    let from2 : From x i y1 = rw (zero-add i) at (from_next x a y1 0 i from1 p) in
    let from3 = from_next x b y2 i j from2 q in
    let from4 = from_next x c y3 (i + j) k from3 r in
    let from5 = from_next x d y4 (i + j + k) l from4 s in
    let from6 = from_next x e y5 (i + j + k + l) m from5 t in
    record {
      long = simp length-append (rw (p, q, r, s, t, u) refl);
      first = part_from x a y1 0 i from1 p;
      second = part_from x b y2 i j from2 q;
      third = part_from x c y3 (i + j) k from3 r;
      fourth = part_from x d y4 (i + j + k) l from4 s;
      fifth = part_from x e y5 (i + j + k + l) m from5 t;
      sixth = part_from x f y6 (i + j + k + l + m) n from6 u;
    }

-- ---- a system's numbers

pub record Sized (s : ReducedSystem) : Type 0 where
  pub hessian : length s.hessian ≡ 25
  pub gradient : length s.gradient ≡ 5
  pub full_gradient : length s.full_pose_gradient ≡ 5
  pub diagonal : length s.pose_diagonal ≡ 5

system_parts : (s : ReducedSystem) → Sized s
    → Six (system_numbers s) s.hessian s.gradient (s.cost ∷ s.squared_residual ∷ []) s.full_pose_gradient s.pose_diagonal
    (s.point_model_reduction ∷ s.scaled_point_gradient_inf_norm ∷ s.minimum_point_rcond ∷ []) 25 5 2 5 5 3
unfolding system_numbers
system_parts s k =
    six s.hessian s.gradient (s.cost ∷ s.squared_residual ∷ []) s.full_pose_gradient s.pose_diagonal
    (s.point_model_reduction ∷ s.scaled_point_gradient_inf_norm ∷ s.minimum_point_rcond ∷ []) 25 5 2 5 5 3
    k.hessian k.gradient refl k.full_gradient k.diagonal refl

pub numbers_long : (s : ReducedSystem) → Sized s → length (system_numbers s) ≡ 45
numbers_long s k = (system_parts s k).long

pub counts_long : (s : ReducedSystem) → length (system_counts s) ≡ 3
unfolding system_counts
counts_long s = refl

flag_read : (b : Bool) → not (eqb (flag b) 0) ≡ b
flag_read true = refl
flag_read false = refl

pub system_read : (s : ReducedSystem) → Sized s → system (system_numbers s) (system_counts s) ≡ s
unfolding system system_counts part
system_read s k =
    let p = system_parts s k in
    λ j. record {
      hessian = p.first j;
      gradient = p.second j;
      cost = p.third j ! 0;
      squared_residual = p.third j ! 1;
      full_pose_gradient = p.fourth j;
      pose_diagonal = p.fifth j;
      point_model_reduction = p.sixth j ! 0;
      scaled_point_gradient_inf_norm = p.sixth j ! 1;
      weak_point_count = s.weak_point_count;
      minimum_point_rcond = p.sixth j ! 2;
      valid = flag_read s.valid j;
      block_count = s.block_count;
    }

-- ---- a block's numbers

pub record SizedBlock (b : LocalLinearization) : Type 0 where
  pub pose_hessian : length b.pose_hessian ≡ 25
  pub cross_hessian : length b.cross_hessian ≡ 15
  pub point_hessian : length b.point_hessian ≡ 9
  pub pose_gradient : length b.pose_gradient ≡ 5
  pub point_gradient : length b.point_gradient ≡ 3

block_parts : (b : LocalLinearization) → SizedBlock b
    → Six (block_numbers b) b.pose_hessian b.cross_hessian b.point_hessian b.pose_gradient b.point_gradient
    (b.cost ∷ b.squared_residual ∷ []) 25 15 9 5 3 2
unfolding block_numbers
block_parts b k =
    six b.pose_hessian b.cross_hessian b.point_hessian b.pose_gradient b.point_gradient (b.cost ∷ b.squared_residual ∷ []) 25 15 9 5 3 2
    k.pose_hessian k.cross_hessian k.point_hessian k.pose_gradient k.point_gradient refl

pub block_long : (b : LocalLinearization) → SizedBlock b → length (block_numbers b) ≡ 59
block_long b k = (block_parts b k).long

pub block_read : (b : LocalLinearization) → SizedBlock b → block (block_numbers b) ≡ b
unfolding block part
block_read b k =
    let p = block_parts b k in
    λ j. record {
      pose_hessian = p.first j;
      cross_hessian = p.second j;
      point_hessian = p.third j;
      pose_gradient = p.fourth j;
      point_gradient = p.fifth j;
      cost = p.sixth j ! 0;
      squared_residual = p.sixth j ! 1;
    }
