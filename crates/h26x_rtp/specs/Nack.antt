-- Generic NACKs: RTCP packets that ask for packets again (RFC 4585, 6.2.1).
use Rattle.std.specs.Prelude.{◌≡◌, ℕ, zero, suc, ◌+◌, ◌-◌, ◌*◌, ◌/◌, ◌%◌, ◌^◌, ◌<◌, ◌≤◌, ◌==◌, nat_le, ◌&&◌, min, if◌then◌else◌, List, [], ◌∷◌, ◌++◌, length, drop, Option, Some, None, Result, Ok, Err}
use Rattle.std.specs.List.{flat_map, AllByRecursion}
use Rattle.h26x_core.specs.Word.{word, long_word}
use Rattle.h26x_core.specs.Sequence.{next_sequence_number}
use Rattle.h26x_rtp.specs.declared.error.RtpWriteError.{RtpWriteError}
use Rattle.h26x_rtp.specs.declared.error.RtpWriteError.TheVariants.{NoRoom}
use Rattle.h26x_rtp.specs.declared.nack.NackPair.{NackPair}
use Rattle.h26x_rtp.specs.declared.nack.NackWritten.{NackWritten}
use Rattle.h26x_rtp.specs.Words.{word_at, long_at}
use Rattle.h26x_rtp.specs.Feedback.{rtcp_word, is_rtcp_of}

-- a generic NACK: who sends it, of which source, and the pairs (RFC 4585, 6.2.1)
pub record NackParts : Type 0 where
  pub sender : ℕ
  pub media : ℕ
  pub pairs : List NackPair

-- the numbers that so many bits ask for, the lowest bit first, which is for this number
abbrev pub bit_numbers : ℕ → ℕ → ℕ → List ℕ
bit_numbers zero number bits = []
bit_numbers (suc n) number bits = (if bits % 2 == 1 then number ∷ [] else [])
    ++ bit_numbers n (next_sequence_number number) (bits / 2)

-- those that a pair asks for: PID, and of the sixteen behind it those whose bit of BLP is set (RFC
-- 4585, 6.2.1)
abbrev pub pair_numbers : NackPair → List ℕ
pair_numbers it = it.first ∷ bit_numbers 16 (next_sequence_number it.first) it.following

-- a pair's bytes, PID before BLP
abbrev pub pair_bytes : NackPair → List ℕ
pair_bytes it = word it.first ++ word it.following

-- what stands before so many pairs: FMT 1 of transport layer feedback, PT 205 (RFC 4585, 6.1, 6.2)
abbrev pub nack_head : ℕ → ℕ → ℕ → List ℕ
nack_head sender media pairs =
    rtcp_word 1 205 (2 + pairs) ++ (long_word sender ++ long_word media)

-- the packet
abbrev pub nack_bytes : NackParts → List ℕ
nack_bytes it =
    nack_head it.sender it.media (length it.pairs) ++ flat_map pair_bytes it.pairs

-- the pairs of bytes, four each
abbrev pub pairs_in : List ℕ → List NackPair
pairs_in (a ∷ b ∷ c ∷ d ∷ bytes) = (record {
  first = a * 256 + b;
  following = c * 256 + d;
}) ∷ pairs_in bytes
pairs_in bytes = []

-- what bytes are read as; a packet without a pair is none
abbrev pub nack_of : List ℕ → Option NackParts
nack_of bytes =
    if nat_le 16 (length bytes) && is_rtcp_of 1 205 (word_at bytes 2) bytes then Some (record {
      sender = long_at bytes 4;
      media = long_at bytes 8;
      pairs = pairs_in (drop 12 bytes);
    })
    else None

-- so many bits, the lowest for this number, that ask for the first ones of a list as long as each is
-- the number of a bit, in their order
abbrev pub numbers_bits : ℕ → ℕ → List ℕ → ℕ
numbers_bits zero number numbers = 0
numbers_bits (suc n) number [] = 0
numbers_bits (suc n) number (it ∷ numbers) =
    if it == number then 1 + 2 * numbers_bits n (next_sequence_number number) numbers
    else 2 * numbers_bits n (next_sequence_number number) (it ∷ numbers)

-- and how many these are
abbrev pub bits_count : ℕ → ℕ → List ℕ → ℕ
bits_count zero number numbers = 0
bits_count (suc n) number [] = 0
bits_count (suc n) number (it ∷ numbers) =
    if it == number then 1 + bits_count n (next_sequence_number number) numbers
    else bits_count n (next_sequence_number number) (it ∷ numbers)

-- the pair of a number and those behind it in a list
abbrev pub pair_of : ℕ → List ℕ → NackPair
pair_of first numbers = record {
  first = first;
  following = numbers_bits 16 (next_sequence_number first) numbers;
}

-- and those that are left behind it
abbrev pub behind_pair : ℕ → List ℕ → List ℕ
behind_pair first numbers =
    drop (bits_count 16 (next_sequence_number first) numbers) numbers

-- the pairs that ask for numbers, at most so many
abbrev pub nack_pairs : ℕ → List ℕ → List NackPair
nack_pairs zero numbers = []
nack_pairs (suc n) [] = []
nack_pairs (suc n) (it ∷ numbers) = pair_of it numbers ∷ nack_pairs n (behind_pair it numbers)

-- and how many numbers they ask for
abbrev pub nack_count : ℕ → List ℕ → ℕ
nack_count zero numbers = 0
nack_count (suc n) [] = 0
nack_count (suc n) (it ∷ numbers) =
    1 + bits_count 16 (next_sequence_number it) numbers + nack_count n (behind_pair it numbers)

-- how many pairs have a place in so many bytes, and in what a packet's length can say (RFC 3550,
-- 6.4.1)
abbrev pub pairs_room : ℕ → ℕ
pairs_room room = min ((room - 12) / 4) 65533

-- the packet that asks for the first ones of numbers in so many bytes
abbrev pub nack_within : ℕ → ℕ → List ℕ → ℕ → NackParts
nack_within sender media numbers room = record {
  sender = sender;
  media = media;
  pairs = nack_pairs (pairs_room room) numbers;
}

-- a packet of the first ones of numbers, as many as have room, written to the front of memory; all
-- else stays; no numbers make none
abbrev pub IsNackWritten : ℕ → ℕ → List ℕ → List ℕ → List ℕ → Result NackWritten RtpWriteError →
    Type 0
IsNackWritten sender media [] old new result = (new ≡ old)
    × (result ≡ Ok (record { size = 0; count = 0 }))
IsNackWritten sender media (it ∷ numbers) old new (Ok written) = (16 ≤ length old)
    × (written.size ≡ length (nack_bytes (nack_within sender media (it ∷ numbers) (length old))))
    × (written.count ≡ nack_count (pairs_room (length old)) (it ∷ numbers))
    × (new ≡ nack_bytes (nack_within sender media (it ∷ numbers) (length old))
    ++ drop written.size old)
IsNackWritten sender media (it ∷ numbers) old new (Err e) = (new ≡ old) × (length old < 16)
    × (e ≡ NoRoom 16)

-- what has a place in a packet
pub record PairFits (it : NackPair) : Type 0 where
  pub number : it.first < 2 ^ 16
  pub bits : it.following < 2 ^ 16

pub record NackFits (it : NackParts) : Type 0 where
  pub from : it.sender < 2 ^ 32
  pub of_media : it.media < 2 ^ 32
  pub each : AllByRecursion PairFits it.pairs
  pub some : 1 ≤ length it.pairs
  pub most : length it.pairs ≤ 65533
