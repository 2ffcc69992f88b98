-- NAL units in base64 and their text.
use Rattle.std.proofs.Common.{◌≡◌, ℕ, zero, suc, ◌+◌, ◌*◌, ◌/◌, ◌%◌, ◌<◌, Bool, true, false, not, cond, List, [], ◌∷◌, ◌++◌, length, take, drop, get_or, map, replicate, Some, None, Result, Ok, Err, refl, sym, ap, ◌∙◌, arith}
use Rattle.std.specs.List.{onto_first, position_or_len, list_all, AllByRecursion, join_with_byte}
use Rattle.std.proofs.lemmas.List.{append_assoc}
use Rattle.std.proofs.lemmas.List.Splits.{slice_split-cons_yes, slice_split-cons_no, slice_split_first, join_with_byte-slice_split}
use Rattle.std.proofs.lemmas.List.Folds.{list_all-append}
use Rattle.std.proofs.lemmas.Bool.{and_parts, and_from, not-true}
use Rattle.memchr.specs.Find.{IsFirstByte, is_byte}
use Rattle.base64.specs.Engines.{standard}
use Rattle.base64.specs.GeneralPurpose.{encode_of, decode_of, IsBytes}
use Rattle.base64.specs.Rfc4648.{encode_symbols, padding_len}
use Rattle.base64.specs.declared.decode.DecodeError.{DecodeError}
use Rattle.base64.proofs.EngineFacts.{decode_of-encode_of, decode_of_strict}
use Rattle.h26x_fmtp.specs.declared.error.UnitsError.{UnitsError}
use Rattle.h26x_fmtp.specs.Units.{is_mark_of, pieces_at, pieces, units_text, unit_unless_empty, unit_in, unit_before, units_from, sprop_units, AreSpropUnits}
use Rattle.h26x_fmtp.proofs.PartLemmas.{by_test, first_at}

-- a text without a mark is one piece
no_piece_ends : (mark : ℕ) (text : List ℕ) → position_or_len (is_mark_of mark) text ≡ length text → pieces_at mark text ≡ text ∷ []
no_piece_ends mark [] e = refl
no_piece_ends mark (byte ∷ rest) e = by_test (is_mark_of mark byte)
    (λ found.
    let none : position_or_len (is_mark_of mark) (byte ∷ rest) ≡ 0 = ap (λ t. cond (not t) (1 + position_or_len (is_mark_of mark) rest) 0) found in
    absurd (omega (arith, e, none)))
    (λ other.
    let more : position_or_len (is_mark_of mark) (byte ∷ rest) ≡ 1 + position_or_len (is_mark_of mark) rest = ap (λ t. cond (not t) (1 + position_or_len (is_mark_of mark) rest) 0) other in
    slice_split-cons_no (is_mark_of mark) byte rest other ∙ ap (onto_first byte) (no_piece_ends mark rest (omega (arith, e, more))))

-- the pieces of a text round the mark that `memchr` finds
pub piece_at : (mark : ℕ) (text : List ℕ) (k : ℕ) → k < length text → IsFirstByte (is_byte mark) text (Some k) → pieces_at mark text ≡ take k text ∷ pieces_at mark (drop (k + 1) text)
piece_at mark text k within first =
    let place : k ≡ position_or_len (is_mark_of mark) text = first_at mark text (Some k) first in
    slice_split_first (is_mark_of mark) text 0 (omega (arith, place, within))
    ∙ ap (λ (n : ℕ). take n text ∷ pieces_at mark (drop (n + 1) text)) (sym place)

pub piece_alone : (mark : ℕ) (text : List ℕ) → IsFirstByte (is_byte mark) text None → pieces_at mark text ≡ text ∷ []
piece_alone mark text first = no_piece_ends mark text (sym (first_at mark text None first))

-- bytes that are none of a mark
abbrev pub no_mark : ℕ → ℕ → Bool
no_mark mark byte = not (is_mark_of mark byte)

-- a mark that is no byte of base64
pub record IsMark (mark : ℕ) : Type 0 where
  same : is_mark_of mark mark ≡ true
  zero_none : no_mark mark 0 ≡ true
  padding : no_mark mark 61 ≡ true
  table : list_all (no_mark mark) standard.encode_table ≡ true

pub comma : IsMark 44
comma = record { same = refl; zero_none = refl; padding = refl; table = refl }

pub colon : IsMark 58
colon = record { same = refl; zero_none = refl; padding = refl; table = refl }

plain_symbol : (mark : ℕ) (t : List ℕ) → no_mark mark 0 ≡ true → list_all (no_mark mark) t ≡ true → (i : ℕ) → no_mark mark (get_or t i 0) ≡ true
plain_symbol mark [] z h i = z
plain_symbol mark (x ∷ xs) z h zero = (and_parts (no_mark mark x) (list_all (no_mark mark) xs) h).0
plain_symbol mark (x ∷ xs) z h (suc i) = plain_symbol mark xs z (and_parts (no_mark mark x) (list_all (no_mark mark) xs) h).1 i

plain_places : (mark : ℕ) (t : List ℕ) → no_mark mark 0 ≡ true → list_all (no_mark mark) t ≡ true → (places rest : List ℕ) → list_all (no_mark mark) rest ≡ true → list_all (no_mark mark) (map (λ i. get_or t i 0) places ++ rest) ≡ true
plain_places mark t z h [] rest r = r
plain_places mark t z h (i ∷ places) rest r =
    and_from (no_mark mark (get_or t i 0)) (list_all (no_mark mark) (map (λ k. get_or t k 0) places ++ rest)) (plain_symbol mark t z h i) (plain_places mark t z h places rest r)

plain_symbols : (mark : ℕ) (t m : List ℕ) → no_mark mark 0 ≡ true → list_all (no_mark mark) t ≡ true → list_all (no_mark mark) (encode_symbols t m) ≡ true
unfolding encode_symbols
plain_symbols mark t [] z h = refl
plain_symbols mark t (a ∷ []) z h = plain_places mark t z h ((a / 4) ∷ (a % 4 * 16) ∷ []) [] refl
plain_symbols mark t (a ∷ b ∷ []) z h = plain_places mark t z h ((a / 4) ∷ (a % 4 * 16 + b / 16) ∷ (b % 16 * 4) ∷ []) [] refl
plain_symbols mark t (a ∷ b ∷ c ∷ rest) z h =
    plain_places mark t z h ((a / 4) ∷ (a % 4 * 16 + b / 16) ∷ (b % 16 * 4 + c / 64) ∷ (c % 64) ∷ []) (encode_symbols t rest) (plain_symbols mark t rest z h)

plain_padding : (mark : ℕ) → no_mark mark 61 ≡ true → (n : ℕ) → list_all (no_mark mark) (replicate n 61) ≡ true
plain_padding mark p zero = refl
plain_padding mark p (suc n) = and_from (no_mark mark 61) (list_all (no_mark mark) (replicate n 61)) p (plain_padding mark p n)

pub plain_encoding : (mark : ℕ) → IsMark mark → (unit : List ℕ) → list_all (no_mark mark) (encode_of standard unit) ≡ true
plain_encoding mark is unit =
    list_all-append (no_mark mark) (encode_symbols standard.encode_table unit) (replicate (padding_len (length unit)) 61)
    ∙ and_from _ _ (plain_symbols mark standard.encode_table unit is.zero_none is.table) (plain_padding mark is.padding (padding_len (length unit)))

-- such texts, alone and before a mark
one_piece : (mark : ℕ) (text : List ℕ) → list_all (no_mark mark) text ≡ true → pieces_at mark text ≡ text ∷ []
one_piece mark [] h = refl
one_piece mark (byte ∷ rest) h =
    let both = and_parts (no_mark mark byte) (list_all (no_mark mark) rest) h in
    slice_split-cons_no (is_mark_of mark) byte rest (not-true (is_mark_of mark byte) both.0) ∙ ap (onto_first byte) (one_piece mark rest both.1)

first_piece : (mark : ℕ) → is_mark_of mark mark ≡ true → (text more : List ℕ) → list_all (no_mark mark) text ≡ true → pieces_at mark (text ++ mark ∷ more) ≡ text ∷ pieces_at mark more
first_piece mark is [] more h = slice_split-cons_yes (is_mark_of mark) mark more is
first_piece mark is (byte ∷ rest) more h =
    let both = and_parts (no_mark mark byte) (list_all (no_mark mark) rest) h in
    slice_split-cons_no (is_mark_of mark) byte (rest ++ mark ∷ more) (not-true (is_mark_of mark byte) both.0) ∙ ap (onto_first byte) (first_piece mark is rest more both.1)

-- the pieces of texts with marks between them
pub joined_pieces : (mark : ℕ) → is_mark_of mark mark ≡ true → (text : List ℕ) (texts : List (List ℕ)) → AllByRecursion (λ t. list_all (no_mark mark) t ≡ true) (text ∷ texts)
    → pieces_at mark (join_with_byte mark (text ∷ texts)) ≡ text ∷ texts
joined_pieces mark is text [] h = one_piece mark text h.0
joined_pieces mark is text (next ∷ texts) h =
    first_piece mark is text (join_with_byte mark (next ∷ texts)) h.0
    ∙ ap (λ (l : List (List ℕ)). text ∷ l) (joined_pieces mark is next texts h.1)

-- the pieces of what is written
written_pieces : (unit : List ℕ) (units : List (List ℕ)) → pieces (units_text (unit ∷ units)) ≡ map (encode_of standard) (unit ∷ units)
written_pieces unit [] = one_piece 44 (encode_of standard unit) (plain_encoding 44 comma unit)
written_pieces unit (next ∷ units) =
    first_piece 44 refl (encode_of standard unit) (units_text (next ∷ units)) (plain_encoding 44 comma unit)
    ∙ ap (λ (l : List (List ℕ)). encode_of standard unit ∷ l) (written_pieces next units)

unit_kept : (place : ℕ) (unit : List ℕ) → 0 < length unit → unit_unless_empty place (Ok unit) ≡ Ok unit
unit_kept place [] some = absurd (omega arith)
unit_kept place (byte ∷ rest) some = refl

units_back : (place : ℕ) (units : List (List ℕ)) → AllByRecursion (λ unit. (0 < length unit) × IsBytes unit) units → units_from place (map (encode_of standard) units) ≡ Ok units
units_back place [] h = refl
units_back place (unit ∷ units) h =
    ap (λ r. unit_before (unit_unless_empty place r) (units_from (place + 1) (map (encode_of standard) units))) (decode_of-encode_of standard unit refl h.0.1)
    ∙ ap (λ r. unit_before r (units_from (place + 1) (map (encode_of standard) units))) (unit_kept place unit h.0.0)
    ∙ ap (unit_before (Ok unit)) (units_back (place + 1) units h.1)

pub units_written : (units : List (List ℕ)) → AreSpropUnits units → sprop_units (units_text units) ≡ Ok units
units_written [] are = absurd (omega (arith, are.some))
units_written (unit ∷ units) are = ap (units_from 0) (written_pieces unit units) ∙ units_back 0 (unit ∷ units) are.whole

-- the pieces of bytes are bytes
bytes_first : (byte : ℕ) (rest : List ℕ) → IsBytes (byte ∷ rest) → byte < 256
bytes_first byte rest h = h 0

bytes_rest : (byte : ℕ) (rest : List ℕ) → IsBytes (byte ∷ rest) → IsBytes rest
bytes_rest byte rest h i = h (suc i)

bytes_more : (byte : ℕ) (rest : List ℕ) → byte < 256 → IsBytes rest → IsBytes (byte ∷ rest)
bytes_more byte rest b h zero = b
bytes_more byte rest b h (suc i) = h i

bytes_none : IsBytes []
bytes_none i = omega arith

bytes_onto : (byte : ℕ) (ps : List (List ℕ)) → byte < 256 → AllByRecursion IsBytes ps → AllByRecursion IsBytes (onto_first byte ps)
bytes_onto byte [] b h = (bytes_more byte [] b bytes_none, tt)
bytes_onto byte (p ∷ ps) b h = (bytes_more byte p b h.0, h.1)

bytes_cut : (t : Bool) (byte : ℕ) (ps : List (List ℕ)) → byte < 256 → AllByRecursion IsBytes ps → AllByRecursion IsBytes (cond t ([] ∷ ps) (onto_first byte ps))
bytes_cut true byte ps b h = (bytes_none, h)
bytes_cut false byte ps b h = bytes_onto byte ps b h

pub bytes_pieces : (mark : ℕ) (text : List ℕ) → IsBytes text → AllByRecursion IsBytes (pieces_at mark text)
bytes_pieces mark [] h = (bytes_none, tt)
bytes_pieces mark (byte ∷ rest) h = bytes_cut (is_mark_of mark byte) byte (pieces_at mark rest) (bytes_first byte rest h) (bytes_pieces mark rest (bytes_rest byte rest h))

-- what is read was written so
unit_decoded : (place : ℕ) (r : Result (List ℕ) DecodeError) (unit : List ℕ) → unit_unless_empty place r ≡ Ok unit → r ≡ Ok unit
unit_decoded place (Err error) unit h = cc h
unit_decoded place (Ok []) unit h = cc h
unit_decoded place (Ok (byte ∷ rest)) unit h = let same : byte ∷ rest ≡ unit = cc h in ap (λ (l : List ℕ). Ok l) same

unit_before_parts : (r : Result (List ℕ) UnitsError) (rs : Result (List (List ℕ)) UnitsError) (units : List (List ℕ)) → unit_before r rs ≡ Ok units
    → (unit : List ℕ) × (rest : List (List ℕ)) × (r ≡ Ok unit) × (rs ≡ Ok rest) × (units ≡ unit ∷ rest)
unit_before_parts (Err error) rs units h = cc h
unit_before_parts (Ok unit) (Err error) units h = cc h
unit_before_parts (Ok unit) (Ok rest) units h = (unit, rest, refl, refl, cc h)

read_pieces : (place : ℕ) (ps units : List (List ℕ)) → AllByRecursion IsBytes ps → units_from place ps ≡ Ok units → map (encode_of standard) units ≡ ps
read_pieces place [] units bytes h = let none : units ≡ [] = cc h in ap (map (encode_of standard)) none
read_pieces place (p ∷ ps) units bytes h =
    let (unit, rest, first, others, same) = unit_before_parts (unit_in place p) (units_from (place + 1) ps) units h in
    let here : p ≡ encode_of standard unit = decode_of_strict standard p unit (refl, refl) bytes.0 (unit_decoded place (decode_of standard p) unit first) in
    ap (map (encode_of standard)) same
    ∙ ap (λ (l : List ℕ). l ∷ map (encode_of standard) rest) (sym here)
    ∙ ap (λ (l : List (List ℕ)). p ∷ l) (read_pieces (place + 1) ps rest bytes.1 others)

pub units_read : (text : List ℕ) (units : List (List ℕ)) → IsBytes text → sprop_units text ≡ Ok units → units_text units ≡ text
units_read text units bytes h =
    ap (join_with_byte 44) (read_pieces 0 (pieces text) units (bytes_pieces 44 text bytes) h) ∙ join_with_byte-slice_split 44 text

-- units that are read one by one: those before, and those of the pieces that are left
abbrev pub behind_units : List (List ℕ) → Result (List (List ℕ)) UnitsError → Result (List (List ℕ)) UnitsError
behind_units before (Err error) = Err error
behind_units before (Ok units) = Ok (before ++ units)

-- a text with units behind it
abbrev pub units_on : List ℕ → List (List ℕ) → List ℕ
units_on text [] = text
units_on text (unit ∷ rest) = units_on (text ++ 44 ∷ encode_of standard unit) rest

units_onto : (front text : List ℕ) (units : List (List ℕ)) → units_on (front ++ text) units ≡ front ++ units_on text units
units_onto front text [] = refl
units_onto front text (unit ∷ rest) =
    ap (λ t. units_on t rest) (append_assoc front text (44 ∷ encode_of standard unit)) ∙ units_onto front (text ++ 44 ∷ encode_of standard unit) rest

pub units_all : (unit : List ℕ) (units : List (List ℕ)) → units_on (encode_of standard unit) units ≡ units_text (unit ∷ units)
units_all unit [] = refl
units_all unit (next ∷ rest) =
    units_onto (encode_of standard unit) (44 ∷ encode_of standard next) rest
    ∙ ap (λ l. encode_of standard unit ++ l) (units_onto (44 ∷ []) (encode_of standard next) rest ∙ ap (λ (l : List ℕ). 44 ∷ l) (units_all next rest))
