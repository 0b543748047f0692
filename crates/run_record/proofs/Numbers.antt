-- Numbers in bytes. Assumes nothing.
use Rattle.std.proofs.Common.{◌≡◌, ℕ, ◌+◌, List, [], ◌∷◌, arith}
use Rattle.std.specs.Int.{w64, from_le_bytes}
use Rattle.run_record.specs.Fields.{byte}
use Rattle.run_record.specs.Run.{u64_at}

-- eight bytes, low byte first
pub word_read : (p : List ℕ) (at : ℕ)
    → from_le_bytes w64 (byte p at ∷ byte p (at + 1) ∷ byte p (at + 2) ∷ byte p (at + 3) ∷ byte p (at + 4) ∷ byte p (at + 5) ∷ byte p (at + 6) ∷ byte p (at + 7) ∷ []) ≡ u64_at p at
unfolding u64_at
word_read p at =
    let e : at + 4 + 1 ≡ at + 5 = omega arith in
    let f : at + 4 + 2 ≡ at + 6 = omega arith in
    let g : at + 4 + 3 ≡ at + 7 = omega arith in
    rw (e, f, g) (omega arith)
