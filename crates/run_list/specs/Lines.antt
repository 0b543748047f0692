-- The lines of a list but its sum: single spaces stand between words, and a line feed ends each
-- line. Met by src/lines.rt. docs/SPECIFICATION.md, "List".
use Rattle.std.specs.Prelude.{ℕ, List, [], ◌∷◌, ◌++◌, Float, codes}
use Rattle.std.specs.Float.{binary64}
use Rattle.std.specs.Float.Ieee.{to_bits}
use Rattle.std.specs.Fmt.{decimal}
use Rattle.refusal.specs.RefusalRow.{refusal_text}
use Rattle.refusal.specs.declared.Refusal.{Refusal}
use Rattle.text.specs.Hex.{digits}
use Rattle.text.specs.Text.{space, line_feed}

-- a space, the bits of a number as 16 capital hexadecimal digits, and the text behind them
unfoldable pub bits_then : Float → List ℕ → List ℕ
bits_then x after = codes " " ++ digits (to_bits binary64 x) ++ after

-- run N DAMPING, the damping by its bits
unfoldable pub run_line : ℕ → Float → List ℕ
run_line n damping = codes "run " ++ decimal n ++ bits_then damping (line_feed ∷ [])

-- p INDEX LETTER
unfoldable pub point_line : ℕ → ℕ → List ℕ
point_line i letter = codes "p " ++ decimal i ++ (space ∷ letter ∷ line_feed ∷ [])

-- refused NUMBER VIEW INDEX
unfoldable pub refused_line : Refusal → List ℕ
refused_line refusal = refusal_text refusal ++ (line_feed ∷ [])
