-- A list that is filled from the front, entry by entry, with what a function gives. Assumes
-- nothing.
use mathlib.Core.Path.{◌≡◌, refl, sym, subst, ◌∙◌}
use mathlib.Core.List.{List, [], ◌++◌, map, append-nil}
use Prim.Native.Nat.{ℕ, zero, suc, ◌+◌, ◌*◌, ◌/◌, ◌%◌, ◌<◌}
use native.Mathlib.Nat.{add-zero, zero-add, add-suc, suc-add}
use native.Mathlib.Numerals.{add-one}
use native.Mathlib.Omega.{arith}
use lib.ListN.{length, drop, set}
use lib.Seq.{drop-cons, set_at, get_or_at, append_snoc, drop-length}
use lib.Ieee.{Float, nan}
use Rattle.std.specs.List.{range_with_len}
use Rattle.std.proofs.lemmas.List.FromFn.{length-map-range_with_len, map-range_with_len_more}
use Rattle.numerics.specs.Binary64 as Binary64
use Rattle.numerics.specs.Vectors.{◌!◌, tabulate}

-- `tabulate` in std's words: the map of f over the indexes
from_index : (a n : ℕ) (f : ℕ → Float) → tabulate n (λ i. f (a + i)) ≡ map f (range_with_len a n)
from_index a zero f = refl
from_index a (suc n) f = rw (add-zero a, ← from_index (a + 1) n f) (simp (add-suc, add-one, suc-add))

pub tabulate_maps : (n : ℕ) (f : ℕ → Float) → tabulate n f ≡ map f (range_with_len 0 n)
tabulate_maps n f = rw (← from_index 0 n f) (simp zero-add)

-- `tabulate n` has n entries
pub length_tabulate : (n : ℕ) (f : ℕ → Float) → length (tabulate n f) ≡ n
length_tabulate n f = rw tabulate_maps (length-map-range_with_len f 0 n)

-- k entries are filled, and the rest is l's
abbrev pub filled : List Float → (ℕ → Float) → ℕ → List Float
filled l f k = tabulate k f ++ drop k l

-- one entry more is filled
pub fill_next : (l h : List Float) (f : ℕ → Float) (k : ℕ) (v : Float) → h ≡ filled l f k → v ≡ f k → k < length l → set h k v ≡ filled l f (k + 1)
fill_next l h f k v e g i =
    rw (e, g, drop-cons l k nan i)
    (set_at (tabulate k f) (l ! k) (drop (suc k) l) (f k) k (length_tabulate k f)
    ∙ sym (rw (tabulate_maps (k + 1) f, map-range_with_len_more f 0 k k (zero-add k), ← tabulate_maps k f, add-one k) (append_snoc (tabulate k f) (f k) (drop (suc k) l))))

-- the entry that is filled next is still l's
pub fill_read : (l h : List Float) (f : ℕ → Float) (k : ℕ) → h ≡ filled l f k → k < length l → h ! k ≡ l ! k
fill_read l h f k e i = rw (e, drop-cons l k nan i) (get_or_at (tabulate k f) (l ! k) (drop (suc k) l) nan k (length_tabulate k f))

-- the whole list is filled
pub fill_all : (l h : List Float) (f : ℕ → Float) (k n : ℕ) → h ≡ filled l f k → k ≡ n → length l ≡ n → h ≡ tabulate n f
fill_all l h f k n e g i = let d : drop n l ≡ [] = rw i at (drop-length l) in rw (e, g, d, append-nil) refl

-- ---- an array of n entries that begins as +0 everywhere

abbrev cleared : ℕ → List Float
cleared n = tabulate n (λ i. Binary64.zero)

-- k of n entries are filled
unfoldable pub filled_of : ℕ → (ℕ → Float) → ℕ → List Float
filled_of n f k = filled (cleared n) f k

pub array_none : (n : ℕ) (f : ℕ → Float) → cleared n ≡ filled_of n f 0
unfolding filled_of
array_none n f = refl

array_next : (n : ℕ) (h : List Float) (f : ℕ → Float) (k : ℕ) (v : Float) → h ≡ filled_of n f k → v ≡ f k → k < n → set h k v ≡ filled_of n f (k + 1)
unfolding filled_of
array_next n h f k v e g i = fill_next (cleared n) h f k v e g (subst (λ (m : ℕ). k < m) (sym (length_tabulate n (λ i. Binary64.zero))) i)

pub array_full : (n : ℕ) (h : List Float) (f : ℕ → Float) (k : ℕ) → h ≡ filled_of n f k → k ≡ n → h ≡ tabulate n f
unfolding filled_of
array_full n h f k e g = fill_all (cleared n) h f k n e g (length_tabulate n (λ i. Binary64.zero))

-- ---- a matrix of n entries, filled row by row

-- entry k, by its row and column, where a row has w entries
unfoldable pub by_rows : ℕ → (ℕ → ℕ → Float) → ℕ → Float
by_rows w g k = g (k / w) (k % w)

-- entry k is row i's and column j's, and the next one to be filled
record Place (n w k i j next : ℕ) : Type 0 where
  row : k / w ≡ i
  column : k % w ≡ j
  inside : k < n
  then : next ≡ k + 1

place_next : (n w : ℕ) (h : List Float) (g : ℕ → ℕ → Float) (k i j next : ℕ) (v : Float) → h ≡ filled_of n (by_rows w g) k → v ≡ g i j → Place n w k i j next
    → set h k v ≡ filled_of n (by_rows w g) next
unfolding by_rows
place_next n w h g k i j next v e a p = rw p.then (array_next n h (by_rows w g) k v e (rw (p.row, p.column) a) p.inside)

pub row_of_three : (n : ℕ) (h : List Float) (g : ℕ → ℕ → Float) (i : ℕ) (u v w : Float) → h ≡ filled_of n (by_rows 3 g) (3 * i) → u ≡ g i 0 → v ≡ g i 1 → w ≡ g i 2
    → 3 * i + 2 < n → set (set (set h (3 * i) u) (3 * i + 1) v) (3 * i + 2) w ≡ filled_of n (by_rows 3 g) (3 * (i + 1))
row_of_three n h g i u v w e a b c l =
    let first = place_next n 3 h g (3 * i) i 0 (3 * i + 1) u e a (grind arith) in
    let second = place_next n 3 _ g (3 * i + 1) i 1 (3 * i + 2) v first b (grind arith) in
    place_next n 3 _ g (3 * i + 2) i 2 (3 * (i + 1)) w second c (grind arith)

pub row_of_five : (n : ℕ) (h : List Float) (g : ℕ → ℕ → Float) (i : ℕ) (u v w x y : Float) → h ≡ filled_of n (by_rows 5 g) (5 * i) → u ≡ g i 0 → v ≡ g i 1 → w ≡ g i 2
    → x ≡ g i 3 → y ≡ g i 4 → 5 * i + 4 < n
    → set (set (set (set (set h (5 * i) u) (5 * i + 1) v) (5 * i + 2) w) (5 * i + 3) x) (5 * i + 4) y ≡ filled_of n (by_rows 5 g) (5 * (i + 1))
row_of_five n h g i u v w x y e a b c d p l =
    let first = place_next n 5 h g (5 * i) i 0 (5 * i + 1) u e a (grind arith) in
    let second = place_next n 5 _ g (5 * i + 1) i 1 (5 * i + 2) v first b (grind arith) in
    let third = place_next n 5 _ g (5 * i + 2) i 2 (5 * i + 3) w second c (grind arith) in
    let fourth = place_next n 5 _ g (5 * i + 3) i 3 (5 * i + 4) x third d (grind arith) in
    place_next n 5 _ g (5 * i + 4) i 4 (5 * (i + 1)) y fourth p (grind arith)
