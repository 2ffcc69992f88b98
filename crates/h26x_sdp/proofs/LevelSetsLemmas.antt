-- Parameter sets of levels and their text.
use Rattle.std.proofs.Common.{◌≡◌, ℕ, ◌+◌, ◌<◌, true, List, [], ◌∷◌, ◌++◌, length, Option, Some, None, Result, Ok, Err, refl, sym, ap, subst, ◌∙◌, arith}
use Rattle.std.specs.List.{onto_first, list_all, AllByRecursion}
use Rattle.std.proofs.lemmas.List.{append_assoc}
use Rattle.std.proofs.lemmas.List.Splits.{slice_split-cons_yes, slice_split-cons_no}
use Rattle.std.proofs.lemmas.List.Folds.{list_all-append}
use Rattle.std.proofs.lemmas.Bool.{and_from}
use Rattle.base64.specs.Engines.{standard}
use Rattle.base64.specs.GeneralPurpose.{encode_of, IsBytes}
use Rattle.hex.specs.Hex.{encode_lower, decode_sized}
use Rattle.hex.specs.declared.error.FromHexError.{FromHexError}
use Rattle.hex.proofs.HexLemmas.{decode_of-ok, decode_sized-twice, decode_sized-ok, decode_sized-encode_lower}
use Rattle.h26x_fmtp.specs.declared.error.UnitsError.{UnitsError}
use Rattle.h26x_sdp.specs.declared.error.LevelSetsError.{LevelSetsError}
use Rattle.h26x_fmtp.specs.Units.{is_mark_of, pieces_at, units_text, sprop_units}
use Rattle.h26x_fmtp.specs.UnitTypes.{of_types, unless_fault, fault_from, h264_sets}
use Rattle.h26x_sdp.specs.LevelSets.{LevelSets, level_of_parts, level_in, level_before, levels_from, level_sets_in, level_texts, level_sets_text, IsLevel, AreLevelSets}
use Rattle.h26x_fmtp.proofs.PartLemmas.{by_test}
use Rattle.h26x_fmtp.proofs.UnitsLemmas.{no_mark, colon, plain_encoding, joined_pieces, bytes_pieces, units_written, units_read}
use Rattle.h26x_sdp.proofs.DigitLemmas.{encoded_all}

-- levels that are read one by one: those before, and those of the texts that are left
abbrev pub behind_levels : List LevelSets → Result (List LevelSets) LevelSetsError → Result (List LevelSets) LevelSetsError
behind_levels before (Err error) = Err error
behind_levels before (Ok levels) = Ok (before ++ levels)

behind_more : (before : List LevelSets) (level : LevelSets) (r : Result (List LevelSets) LevelSetsError) → behind_levels (before ++ level ∷ []) r ≡ behind_levels before (level_before (Ok level) r)
behind_more before level (Err error) = refl
behind_more before level (Ok levels) = ap (λ (l : List LevelSets). Ok l) (append_assoc before (level ∷ []) levels)

-- one more of them
pub level_more : (before : List LevelSets) (place : ℕ) (level : LevelSets) (id sets : List ℕ) (texts more : List (List ℕ)) (all : Result (List LevelSets) LevelSetsError)
    → texts ≡ id ∷ sets ∷ more → level_in place id sets ≡ Ok level → behind_levels before (levels_from place texts) ≡ all
    → behind_levels (before ++ level ∷ []) (levels_from (place + 1) more) ≡ all
level_more before place level id sets texts more all are is so_far =
    behind_more before level (levels_from (place + 1) more)
    ∙ ap (λ r. behind_levels before (level_before r (levels_from (place + 1) more))) (sym is)
    ∙ ap (λ t. behind_levels before (levels_from place t)) (sym are)
    ∙ so_far

-- a text with levels behind it
abbrev pub level_text : LevelSets → List ℕ
level_text level = encode_lower level.profile_level_id ++ 58 ∷ units_text level.sets

abbrev pub levels_on : List ℕ → List LevelSets → List ℕ
levels_on text [] = text
levels_on text (level ∷ rest) = levels_on ((text ++ 58 ∷ []) ++ level_text level) rest

levels_onto : (front text : List ℕ) (levels : List LevelSets) → levels_on (front ++ text) levels ≡ front ++ levels_on text levels
levels_onto front text [] = refl
levels_onto front text (level ∷ rest) =
    ap (λ t. levels_on (t ++ level_text level) rest) (append_assoc front text (58 ∷ []))
    ∙ ap (λ t. levels_on t rest) (append_assoc front (text ++ 58 ∷ []) (level_text level))
    ∙ levels_onto front ((text ++ 58 ∷ []) ++ level_text level) rest

pub levels_all : (level : LevelSets) (levels : List LevelSets) → levels_on (level_text level) levels ≡ level_sets_text (level ∷ levels)
levels_all level [] = refl
levels_all level (next ∷ rest) =
    levels_onto (level_text level ++ 58 ∷ []) (level_text next) rest
    ∙ ap (λ l. (level_text level ++ 58 ∷ []) ++ l) (levels_all next rest)
    ∙ append_assoc (level_text level) (58 ∷ []) (level_sets_text (next ∷ rest))
    ∙ append_assoc (encode_lower level.profile_level_id) (58 ∷ units_text level.sets) (58 ∷ level_sets_text (next ∷ rest))

-- no colon stands in the texts of levels
plain_units : (units : List (List ℕ)) → list_all (no_mark 58) (units_text units) ≡ true
plain_units [] = refl
plain_units (unit ∷ []) = plain_encoding 58 colon unit
plain_units (unit ∷ next ∷ rest) =
    list_all-append (no_mark 58) (encode_of standard unit) (44 ∷ units_text (next ∷ rest))
    ∙ and_from _ _ (plain_encoding 58 colon unit) (plain_units (next ∷ rest))

-- a level whose text is read as the same
record IsReadLevel (level : LevelSets) : Type 0 where
  long : length level.profile_level_id ≡ 3
  bytes : IsBytes level.profile_level_id
  sets : of_types h264_sets (sprop_units (units_text level.sets)) ≡ Ok level.sets

plain_texts : (levels : List LevelSets) → AllByRecursion IsReadLevel levels → AllByRecursion (λ t. list_all (no_mark 58) t ≡ true) (level_texts levels)
plain_texts [] h = tt
plain_texts (level ∷ rest) h = (encoded_all (no_mark 58) level.profile_level_id refl h.0.bytes, (plain_units level.sets, plain_texts rest h.1))

levels_back : (place : ℕ) (levels : List LevelSets) → AllByRecursion IsReadLevel levels → levels_from place (level_texts levels) ≡ Ok levels
levels_back place [] h = refl
levels_back place (level ∷ rest) h =
    ap (λ r. level_before (level_of_parts place r (of_types h264_sets (sprop_units (units_text level.sets)))) (levels_from (place + 1) (level_texts rest)))
    (decode_sized-encode_lower level.profile_level_id 3 h.0.long h.0.bytes)
    ∙ ap (λ r. level_before (level_of_parts place (Ok level.profile_level_id) r) (levels_from (place + 1) (level_texts rest))) h.0.sets
    ∙ ap (level_before (Ok level)) (levels_back (place + 1) rest h.1)

read_back : (levels : List LevelSets) → 0 < length levels → AllByRecursion IsReadLevel levels → level_sets_in (level_sets_text levels) ≡ Ok levels
read_back [] some h = absurd (omega (arith, some))
read_back (level ∷ rest) some h =
    ap (levels_from 0) (joined_pieces 58 refl (encode_lower level.profile_level_id) (units_text level.sets ∷ level_texts rest) (plain_texts (level ∷ rest) h))
    ∙ levels_back 0 (level ∷ rest) h

level_is : (level : LevelSets) → IsLevel level → IsReadLevel level
level_is level is = record {
  long = is.long;
  bytes = is.bytes;
  sets = ap (of_types h264_sets) (units_written level.sets is.units) ∙ ap (unless_fault level.sets) is.types;
}

levels_are : (levels : List LevelSets) → AllByRecursion IsLevel levels → AllByRecursion IsReadLevel levels
levels_are [] h = tt
levels_are (level ∷ rest) h = (level_is level h.0, levels_are rest h.1)

pub levels_written : (levels : List LevelSets) → AreLevelSets levels → level_sets_in (level_sets_text levels) ≡ Ok levels
levels_written levels are = read_back levels are.some (levels_are levels are.whole)

-- what is read of a text
level_parts : (place : ℕ) (id : Result (List ℕ) FromHexError) (sets : Result (List (List ℕ)) UnitsError) (level : LevelSets) → level_of_parts place id sets ≡ Ok level
    → (id ≡ Ok level.profile_level_id) × (sets ≡ Ok level.sets)
level_parts place (Err error) sets level h = cc h
level_parts place (Ok id) (Err error) level h = cc h
level_parts place (Ok id) (Ok sets) level h =
    let same : record { profile_level_id = id; sets = sets } ≡ level = cc h in
    (ap (λ (l : LevelSets). Ok l.profile_level_id) same, ap (λ (l : LevelSets). Ok l.sets) same)

unless_parts : (units : List (List ℕ)) (fault : Option UnitsError) (sets : List (List ℕ)) → unless_fault units fault ≡ Ok sets → units ≡ sets
unless_parts units None sets h = cc h
unless_parts units (Some error) sets h = cc h

types_parts : (r : Result (List (List ℕ)) UnitsError) (sets : List (List ℕ)) → of_types h264_sets r ≡ Ok sets → r ≡ Ok sets
types_parts (Err error) sets h = cc h
types_parts (Ok units) sets h = ap (λ (l : List (List ℕ)). Ok l) (unless_parts units (fault_from h264_sets 0 units) sets h)

level_read : (place : ℕ) (id sets : List ℕ) (level : LevelSets) → IsBytes sets → level_in place id sets ≡ Ok level → IsReadLevel level
level_read place id sets level bytes h =
    let parts = level_parts place (decode_sized id 3) (of_types h264_sets (sprop_units sets)) level h in
    let len = decode_sized-ok id 3 level.profile_level_id parts.0 in
    let (even, digits, twice, are) = decode_of-ok id level.profile_level_id (sym (decode_sized-twice id 3 len) ∙ parts.0) in
    let text : units_text level.sets ≡ sets = units_read sets level.sets bytes (types_parts (sprop_units sets) level.sets parts.1) in
    record {
      long = omega (arith, len, twice);
      bytes = are;
      sets = ap (λ t. of_types h264_sets (sprop_units t)) text ∙ parts.1;
    }

before_parts : (r : Result LevelSets LevelSetsError) (rs : Result (List LevelSets) LevelSetsError) (levels : List LevelSets) → level_before r rs ≡ Ok levels
    → (level : LevelSets) × (rest : List LevelSets) × (r ≡ Ok level) × (rs ≡ Ok rest) × (levels ≡ level ∷ rest)
before_parts (Err error) rs levels h = cc h
before_parts (Ok level) (Err error) levels h = cc h
before_parts (Ok level) (Ok rest) levels h = (level, rest, refl, refl, cc h)

levels_read : (place : ℕ) (texts : List (List ℕ)) (levels : List LevelSets) → AllByRecursion IsBytes texts → levels_from place texts ≡ Ok levels → AllByRecursion IsReadLevel levels
levels_read place [] levels bytes h = let none : [] ≡ levels = cc h in subst (AllByRecursion IsReadLevel) none tt
levels_read place (id ∷ []) levels bytes h = cc h
levels_read place (id ∷ sets ∷ texts) levels bytes h =
    let (level, rest, first, others, same) = before_parts (level_in place id sets) (levels_from (place + 1) texts) levels h in
    subst (AllByRecursion IsReadLevel) (sym same) (level_read place id sets level bytes.1.0 first, levels_read (place + 1) texts rest bytes.1.1 others)

levels_some : (place : ℕ) (id : List ℕ) (texts : List (List ℕ)) (levels : List LevelSets) → levels_from place (id ∷ texts) ≡ Ok levels → 0 < length levels
levels_some place id [] levels h = cc h
levels_some place id (sets ∷ texts) levels h =
    let (level, rest, first, others, same) = before_parts (level_in place id sets) (levels_from (place + 1) texts) levels h in
    let long : length levels ≡ length (level ∷ rest) = ap length same in
    omega (arith, long)

-- a text has a piece
pub some_piece : (mark : ℕ) (text : List ℕ) → (first : List ℕ) × (rest : List (List ℕ)) × (pieces_at mark text ≡ first ∷ rest)
some_piece mark [] = ([], [], refl)
some_piece mark (byte ∷ text) = by_test (is_mark_of mark byte)
    (λ found. ([], pieces_at mark text, slice_split-cons_yes (is_mark_of mark) byte text found))
    (λ other.
    let (first, rest, e) = some_piece mark text in
    (byte ∷ first, rest, slice_split-cons_no (is_mark_of mark) byte text other ∙ ap (onto_first byte) e))

pub levels_again : (text : List ℕ) (levels : List LevelSets) → IsBytes text → level_sets_in text ≡ Ok levels → level_sets_in (level_sets_text levels) ≡ Ok levels
levels_again text levels bytes h =
    let (first, rest, e) = some_piece 58 text in
    let of : levels_from 0 (first ∷ rest) ≡ Ok levels = sym (ap (levels_from 0) e) ∙ h in
    read_back levels (levels_some 0 first rest levels of) (levels_read 0 (pieces_at 58 text) levels (bytes_pieces 58 text bytes) h)
