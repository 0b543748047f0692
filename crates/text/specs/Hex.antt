-- A number of 64 bits as sixteen capital hexadecimal digits, in ASCII. docs/SPECIFICATION.md,
-- "List".
use Rattle.std.specs.Prelude.{ℕ, ◌+◌, ◌/◌, ◌%◌, ◌^◌, if◌then◌else◌, List, [], ◌∷◌, nat_lt}

-- the last hexadecimal digit of n, where 48 is `0` and 55 + 10 is `A`
unfoldable pub digit : ℕ → ℕ
digit n = if nat_lt (n % 16) 10 then 48 + n % 16 else 55 + n % 16

-- the last sixteen hexadecimal digits of n, first to last: digit k from the end is
-- ⌊n / 16 ^ k⌋ mod 16
abbrev pub digits : ℕ → List ℕ
digits n =
    digit (n / 16 ^ 15)
    ∷ digit (n / 16 ^ 14)
    ∷ digit (n / 16 ^ 13)
    ∷ digit (n / 16 ^ 12)
    ∷ digit (n / 16 ^ 11)
    ∷ digit (n / 16 ^ 10)
    ∷ digit (n / 16 ^ 9)
    ∷ digit (n / 16 ^ 8)
    ∷ digit (n / 16 ^ 7)
    ∷ digit (n / 16 ^ 6)
    ∷ digit (n / 16 ^ 5)
    ∷ digit (n / 16 ^ 4)
    ∷ digit (n / 16 ^ 3)
    ∷ digit (n / 16 ^ 2)
    ∷ digit (n / 16)
    ∷ digit n
    ∷ []
