-- Units behind lengths of two bytes, as aggregation packets have them (RFC 6184, 5.7.1; RFC 7798,
-- 4.4.2; RFC 9328, 4.3.2).
use Rattle.std.specs.Prelude.{◌≡◌, ℕ, zero, suc, ◌+◌, ◌*◌, nat_le, if◌then◌else◌, List, [], ◌∷◌, ◌++◌, length, take, drop}
use Rattle.h26x_core.specs.Word.{word}

-- the bytes are these pieces, each behind its length, and then what is left
abbrev pub ArePieces : List ℕ → List (List ℕ) → List ℕ → Type 0
ArePieces bytes [] left = bytes ≡ left
ArePieces bytes (piece ∷ pieces) left =
    (high low : ℕ) × (behind : List ℕ) × (bytes ≡ high ∷ low ∷ piece ++ behind)
    × (high * 256 + low ≡ length piece) × ArePieces behind pieces left

-- no whole piece stands at the beginning
abbrev pub HasNoPiece : List ℕ → Type 0
HasNoPiece bytes = (high low : ℕ) (piece behind : List ℕ) → bytes ≡ high ∷ low ∷ piece ++ behind →
    high * 256 + low ≡ length piece → ⊥

-- the same, computed: whole pieces, and what is left
pub record Pieces : Type 0 where
  pub whole : List (List ℕ)
  pub left : List ℕ

-- one piece more before the others
abbrev pub with_piece : List ℕ → Pieces → Pieces
with_piece piece p = record { whole = piece ∷ p.whole; left = p.left }

-- at most so many pieces
abbrev pub pieces_within : ℕ → List ℕ → Pieces
pieces_within zero bytes = record { whole = []; left = bytes }
pieces_within (suc most) (high ∷ low ∷ bytes) =
    if nat_le (high * 256 + low) (length bytes)
    then with_piece (take (high * 256 + low) bytes) (pieces_within most
    (drop (high * 256 + low) bytes))
    else record { whole = []; left = high ∷ low ∷ bytes }
pieces_within (suc most) bytes = record { whole = []; left = bytes }

-- all whole pieces
abbrev pub pieces_of : List ℕ → Pieces
pieces_of bytes = pieces_within (length bytes) bytes

-- a piece behind its length
abbrev pub piece : List ℕ → List ℕ
piece bytes = word (length bytes) ++ bytes
