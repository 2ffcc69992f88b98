-- What the calls on elements of header extensions and on blocks of redundant payloads answer.
use Rattle.std.specs.Prelude.{ℕ, ◌+◌, ◌*◌, List, [], ◌∷◌, length, Some, None, Result, Ok, Err}
use Rattle.h26x_codes.specs.Codes.{ok}
use Rattle.h26x_codes.specs.Copies.{with_first}
use Rattle.h26x_rtp.specs.Elements.{PlacedParts, PlacedAnswer}
use Rattle.h26x_rtp.specs.Red.{BlockParts, RedParts}
use Rattle.h26x_rtp.specs.declared.elements.RtpElementError.TheVariants as element
use Rattle.h26x_rtp.specs.declared.red.RedError.{RedError}
use Rattle.h26x_c.specs.Rtp.{red_code}
use Rattle.h26x_c.specs.declared.parts.ElementPlace.{ElementPlace}
use Rattle.h26x_c.specs.declared.parts.BlockPlace.{BlockPlace}

-- no element begins from a place on
abbrev pub no_element : ℕ
no_element = 75

-- an element passes the end of its extension
abbrev pub element_past_the_end : ℕ
element_past_the_end = 76

-- an element in numbers
abbrev pub element_place : PlacedParts → ElementPlace
element_place it = record {
  begin = it.place;
  len = length it.parts.bytes;
  id = it.parts.id;
}

-- what the next element answers
abbrev pub element_answer : PlacedAnswer → ElementPlace → ℕ × ElementPlace
element_answer (Ok (Some it)) old = (ok, element_place it)
element_answer (Ok None) old = (no_element, old)
element_answer (Err element.PastTheEnd) old = (element_past_the_end, old)

-- a block that begins at a place, in numbers
abbrev pub block_place : ℕ → BlockParts → BlockPlace
block_place begin it = record {
  begin = begin;
  len = length it.bytes;
  timestamp_offset = it.offset;
  payload_type = it.payload_type;
}

-- blocks that stand one behind the other, the first at a place
abbrev pub block_places : ℕ → List BlockParts → List BlockPlace
block_places begin [] = []
block_places begin (it ∷ blocks) = block_place begin it ∷ block_places (begin + length it.bytes) blocks

-- where the first block begins: behind four bytes of header of each, and the one of the primary block
-- (RFC 2198, 3)
abbrev pub blocks_begin : List BlockParts → ℕ
blocks_begin blocks = 4 * length blocks + 1

-- what the blocks before the primary one answer
abbrev pub blocks_answer : Result RedParts RedError → List BlockPlace × ℕ → ℕ × (List BlockPlace × ℕ)
blocks_answer (Ok it) old = (
  ok,
  (with_first (block_places (blocks_begin it.blocks) it.blocks) old.0, length it.blocks),
)
blocks_answer (Err e) old = (red_code e, old)
