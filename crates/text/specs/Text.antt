-- Text in ASCII, and what a call leaves that puts one into a lent buffer. Of a text that is longer
-- than what is left of the buffer, as much is put as fits. docs/SPECIFICATION.md, "List".
use Rattle.std.specs.Prelude.{ℕ, ◌+◌, ◌-◌, ◌/◌, ◌%◌, ◌^◌, ◌≡◌}
use Rattle.std.specs.Prelude.{List, [], ◌∷◌, ◌++◌, length, take, drop}
use Rattle.text.specs.declared.Writer.{Writer}

abbrev pub space : ℕ
space = 32

abbrev pub line_feed : ℕ
line_feed = 10

-- the last decimal digit of n, of which 48 is `0`
abbrev pub digit : ℕ → ℕ
digit n = 48 + n % 10

-- the last ten decimal digits of n, first to last: digit k from the end is ⌊n / 10 ^ k⌋ mod 10
abbrev pub ten_digits : ℕ → List ℕ
ten_digits n =
    digit (n / 10 ^ 9)
    ∷ digit (n / 10 ^ 8)
    ∷ digit (n / 10 ^ 7)
    ∷ digit (n / 10 ^ 6)
    ∷ digit (n / 10 ^ 5)
    ∷ digit (n / 10 ^ 4)
    ∷ digit (n / 10 ^ 3)
    ∷ digit (n / 10 ^ 2)
    ∷ digit (n / 10)
    ∷ digit n
    ∷ []

-- out with a text in the place of what it held from offset at on: outₐₜ₊ᵢ = textᵢ
abbrev pub with_text : List ℕ → ℕ → List ℕ → List ℕ
with_text out at text = take at out ++ text ++ drop (at + length text) out

-- as much of a text, from its front, as fits into out from offset at on
abbrev pub text_that_fits : List ℕ → ℕ → List ℕ → List ℕ
text_that_fits out at text = take (length out - at) text

-- what a call leaves that puts a text into out from offset at on: the text that fits stands there
-- in after, the rest of out is unchanged, and next is the offset behind it
unfoldable pub PutsText : List ℕ → ℕ → List ℕ → ℕ → List ℕ → Type 0
PutsText text at out next after =
    let put = text_that_fits out at text in
    (next ≡ at + length put) × (after ≡ with_text out at put)

-- what a call leaves that puts a text into a writer's buffer from its place on: the same buffer
-- with the text that fits in it, and the place behind it
unfoldable pub AppendsText : List ℕ → Writer → Writer → Type 0
AppendsText text old new =
    (new.out.ghost_name ≡ old.out.ghost_name)
    × PutsText text old.at old.out.now new.at new.out.now
