-- Capability points and their text.
use Rattle.std.proofs.Common.{◌≡◌, ℕ, zero, suc, ◌+◌, ◌-◌, ◌<◌, ◌≤◌, ◌^◌, Bool, true, not, ◌&&◌, cond, List, [], ◌∷◌, ◌++◌, length, take, drop, get_or, map, Option, Some, None, Result, Ok, Err, refl, sym, ap, subst, ◌∙◌, arith}
use Rattle.std.specs.Prelude.{◌==◌, nat_lt, nat_le, codes, decimal}
use Rattle.std.specs.List.{list_all, position_or_len, before_first, after_first, join_with_byte, AllByRecursion}
use Rattle.std.specs.Option.{option_map, option_and_then}
use Rattle.std.specs.Result.{result_ok}
use Rattle.std.specs.Char.{digit_value, is_ascii_whitespace}
use Rattle.std.specs.Str.Parse.{AllDigits, digits_value}
use Rattle.std.proofs.lemmas.Bool.{and_parts, and_from}
use Rattle.std.proofs.lemmas.Bool.Decides.{nat_tests}
use Rattle.std.proofs.lemmas.List.{append_assoc, length-append}
use Rattle.std.proofs.lemmas.List.Folds.{list_all-append}
use Rattle.std.proofs.Math.Seq.{take-append_seam, drop-append-add, get_or-append_seam}
use Rattle.std.proofs.lemmas.Str.Parse.{digit_from_value}
use Rattle.std.proofs.lemmas.Fmt.{decimal_is_IsNumeral}
use Rattle.h26x_fmtp.specs.declared.kind.Kind.TheVariants.{Number}
use Rattle.h26x_fmtp.specs.declared.error.Fault.{Fault}
use Rattle.h26x_fmtp.specs.declared.error.Fault.TheVariants.{NotANumber, OutOfRange}
use Rattle.h26x_fmtp.specs.declared.error.ParametersError.{ParametersError}
use Rattle.h26x_sdp.specs.declared.error.CapabilityPointsError.{CapabilityPointsError}
use Rattle.h26x_sdp.specs.declared.error.CapabilityPointsError.TheVariants.{NoBraces, NoTool, Segmentation, Limits, NoLimit, OutOfMemory}
use Rattle.h26x_sdp.specs.declared.capability_points.ParallelTool.{ParallelTool}
use Rattle.h26x_sdp.specs.declared.capability_points.ParallelTool.TheVariants.{Wavefronts, NoWavefronts}
use Rattle.h26x_sdp.specs.declared.capability_points.CapabilityPoint.{CapabilityPoint}
use Rattle.h26x_fmtp.specs.Kinds.{are_digits_of, number_in, range_fault, number_of}
use Rattle.h26x_fmtp.specs.Pairs.{Pair, trim_ascii}
use Rattle.h26x_fmtp.specs.Written.{text_of, IsTrimmed}
use Rattle.h26x_fmtp.specs.Tables.{ParameterRow, row_at}
use Rattle.h26x_fmtp.specs.Parameters.{is_mark, IsTable, IsValue, IsValueIfGiven, AreValues, AreParameters}
use Rattle.h26x_fmtp.specs.Reading.{FormatParameters, value_at, number_at, given_pairs, all_of, read_of}
use Rattle.h26x_fmtp.specs.Units.{is_mark_of, pieces}
use Rattle.h26x_sdp.specs.CapabilityPoints.{limit_rows, tool_name, tool_of, segmentation_of, segmentation_in, has_limit, limited, with_limits, with_segmentation, with_tool, before_limits, point_in, point_before, points_from, in_braces, points_of, capability_points_in, limit_parameters, limits_text, point_text, points_text, capability_points_text, IsAtMost, IsPoint, AreCapabilityPoints}
use Rattle.h26x_sdp.specs.CapabilityPointsViews.{FailsPoints}
use Rattle.h26x_fmtp.proofs.PartLemmas.{by_test}
use Rattle.h26x_fmtp.proofs.TrimLemmas.{trimmed_same}
use Rattle.h26x_fmtp.proofs.NumberLemmas.{number_fits}
use Rattle.h26x_fmtp.proofs.AgainLemmas.{read_again}
use Rattle.h26x_fmtp.proofs.FixedLemmas.{read_are}
use Rattle.h26x_fmtp.proofs.UnitsLemmas.{no_mark, joined_pieces}
use Rattle.h26x_sdp.proofs.LevelSetsLemmas.{some_piece}
use Rattle.h26x_fmtp.proofs.TestLemmas.{all_at, not_true, one_part_without_marks, all_below, below_at}

-- points that are read one by one: those before, and those of the pieces that are left
abbrev pub behind_points : List CapabilityPoint → Result (List CapabilityPoint) CapabilityPointsError → Result (List CapabilityPoint) CapabilityPointsError
behind_points before (Err error) = Err error
behind_points before (Ok points) = Ok (before ++ points)

behind_more : (before : List CapabilityPoint) (point : CapabilityPoint) (r : Result (List CapabilityPoint) CapabilityPointsError) → behind_points (before ++ point ∷ []) r ≡ behind_points before (point_before (Ok point) r)
behind_more before point (Err error) = refl
behind_more before point (Ok points) = ap (λ (l : List CapabilityPoint). Ok l) (append_assoc before (point ∷ []) points)

-- one more of them
pub point_more : (before : List CapabilityPoint) (place : ℕ) (point : CapabilityPoint) (text : List ℕ) (texts more : List (List ℕ)) (all : Result (List CapabilityPoint) CapabilityPointsError)
    → texts ≡ text ∷ more → point_in place text ≡ Ok point → behind_points before (points_from place texts) ≡ all
    → behind_points (before ++ point ∷ []) (points_from (place + 1) more) ≡ all
point_more before place point text texts more all are is so_far =
    behind_more before point (points_from (place + 1) more)
    ∙ ap (λ r. behind_points before (point_before r (points_from (place + 1) more))) (sym is)
    ∙ ap (λ t. behind_points before (points_from place t)) (sym are)
    ∙ so_far

-- or one that is refused
stopped : (before : List CapabilityPoint) (place : ℕ) (error : CapabilityPointsError) (text : List ℕ) (texts more : List (List ℕ)) (all : Result (List CapabilityPoint) CapabilityPointsError)
    → texts ≡ text ∷ more → point_in place text ≡ Err error → behind_points before (points_from place texts) ≡ all → all ≡ Err error
stopped before place error text texts more all are is so_far =
    sym so_far
    ∙ ap (λ t. behind_points before (points_from place t)) are
    ∙ ap (λ r. behind_points before (point_before r (points_from (place + 1) more))) is

pub point_stops : (before : List CapabilityPoint) (place : ℕ) (error : CapabilityPointsError) (text : List ℕ) (texts more : List (List ℕ)) (all : Result (List CapabilityPoint) CapabilityPointsError)
    → texts ≡ text ∷ more → FailsPoints error (point_in place text) → behind_points before (points_from place texts) ≡ all → FailsPoints error all
point_stops before place OutOfMemory text texts more all are is so_far = tt
point_stops before place NoBraces text texts more all are is so_far = stopped before place NoBraces text texts more all are is so_far
point_stops before place (NoTool at) text texts more all are is so_far = stopped before place (NoTool at) text texts more all are is so_far
point_stops before place (Segmentation at fault) text texts more all are is so_far = stopped before place (Segmentation at fault) text texts more all are is so_far
point_stops before place (Limits at fault) text texts more all are is so_far = stopped before place (Limits at fault) text texts more all are is so_far
point_stops before place (NoLimit at) text texts more all are is so_far = stopped before place (NoLimit at) text texts more all are is so_far

-- a text with others behind it, each behind a mark
abbrev pub texts_on : ℕ → List ℕ → List (List ℕ) → List ℕ
texts_on mark text [] = text
texts_on mark text (next ∷ rest) = texts_on mark ((text ++ mark ∷ []) ++ next) rest

join_front : (mark : ℕ) (front text : List ℕ) (rest : List (List ℕ)) → join_with_byte mark ((front ++ text) ∷ rest) ≡ front ++ join_with_byte mark (text ∷ rest)
join_front mark front text [] = refl
join_front mark front text (next ∷ rest) = append_assoc front text (mark ∷ join_with_byte mark (next ∷ rest))

pub texts_all : (mark : ℕ) (text : List ℕ) (texts : List (List ℕ)) → texts_on mark text texts ≡ join_with_byte mark (text ∷ texts)
texts_all mark text [] = refl
texts_all mark text (next ∷ rest) =
    texts_all mark ((text ++ mark ∷ []) ++ next) rest
    ∙ ap (λ (t : List ℕ). join_with_byte mark (t ∷ rest)) (append_assoc text (mark ∷ []) next)
    ∙ join_front mark text (mark ∷ next) rest
    ∙ ap (λ l. text ++ l) (join_front mark (mark ∷ []) next rest)

-- a number as it is written is read as the same
digits_test : (text : List ℕ) → AllDigits 10 text → are_digits_of 10 text ≡ true
digits_test [] h = refl
digits_test (c ∷ cs) h =
    let low : digit_value c < 10 = h.0 in
    let first : nat_lt (digit_value c) 10 ≡ true = grind (arith, nat_tests, low) in
    and_from (nat_lt (digit_value c) 10) (are_digits_of 10 cs) first (digits_test cs h.1)

pub number_back : (n : ℕ) → n < 2 ^ 64 → number_in (decimal n) ≡ Ok n
number_back n small =
    let is = decimal_is_IsNumeral n small in
    let value : digits_value 10 (decimal n) ≡ n = is.1 in
    let fits : digits_value 10 (decimal n) < 2 ^ 64 = subst (λ k. k < 2 ^ 64) (sym value) small in
    number_fits 10 NotANumber (decimal n) is.0.0 (digits_test (decimal n) is.0.1) fits ∙ ap (λ (k : ℕ). Ok k) value

-- what passes at each digit passes at each byte of it
digits_pass : (test : ℕ → Bool) → all_below (λ k. test (48 + k)) 10 ≡ true → (text : List ℕ) → AllDigits 10 text → list_all test text ≡ true
digits_pass test each [] h = refl
digits_pass test each (c ∷ cs) h =
    let within = digit_from_value c h.0 in
    let place : 48 + (c - 48) ≡ c = omega (arith, within) in
    let first : test c ≡ true = sym (ap test place) ∙ below_at (λ k. test (48 + k)) 10 (c - 48) each (omega (arith, within)) in
    and_from (test c) (list_all test cs) first (digits_pass test each cs h.1)

number_passes : (test : ℕ → Bool) → all_below (λ k. test (48 + k)) 10 ≡ true → (n : ℕ) → n < 2 ^ 64 → list_all test (decimal n) ≡ true
number_passes test each n small = digits_pass test each (decimal n) (decimal_is_IsNumeral n small).0.1

number_trimmed : (n : ℕ) → n < 2 ^ 64 → IsTrimmed (decimal n)
number_trimmed n small =
    let some : 0 < length (decimal n) = (decimal_is_IsNumeral n small).0.0 in
    let blank = number_passes (λ c. not (is_ascii_whitespace c)) refl n small in
    record {
      start = not_true _ (all_at (λ c. not (is_ascii_whitespace c)) (decimal n) 0 some blank);
      end = not_true _ (all_at (λ c. not (is_ascii_whitespace c)) (decimal n) (length (decimal n) - 1) (omega (arith, some)) blank);
    }

-- the limits of a point are values of the table's
pub number_value : (name : List ℕ) (default : Option (List ℕ)) (most n : ℕ) → n ≤ most → n < 2 ^ 64 → IsValue (record { name = name; kind = Number 0 most; default = default }) (decimal n)
number_value name default most n within small =
    let low : nat_le 0 n ≡ true = grind (arith, nat_tests) in
    let high : nat_le n most ≡ true = grind (arith, nat_tests, within) in
    record {
      fits = ap (range_fault 0 most) (number_back n small) ∙ ap (λ t. cond t None (Some OutOfRange)) (and_from (nat_le 0 n) (nat_le n most) low high);
      trimmed = number_trimmed n small;
      one_part = one_part_without_marks (decimal n) (number_passes (λ b. not (is_mark b)) refl n small);
    }

limit_small : (most n : ℕ) → most < 2 ^ 64 → n ≤ most → n < 2 ^ 64
limit_small most n small within = omega (arith, small, within)

pub limit_value : (name : List ℕ) (default : Option (List ℕ)) (most : ℕ) (limit : Option ℕ) → most < 2 ^ 64 → IsAtMost most limit
    → IsValueIfGiven (record { name = name; kind = Number 0 most; default = default }) (option_map decimal limit)
limit_value name default most None small within = tt
limit_value name default most (Some n) small within = number_value name default most n within (limit_small most n small within)

pub limit_back : (most : ℕ) (limit : Option ℕ) → most < 2 ^ 64 → IsAtMost most limit → option_and_then (number_of (Number 0 most)) (option_map decimal limit) ≡ limit
limit_back most None small within = refl
limit_back most (Some n) small within = ap result_ok (number_back n (limit_small most n small within))

pub limits_table : IsTable limit_rows
limits_table = (refl, refl, refl, (refl, refl, refl, (refl, refl, refl, (refl, refl, refl, (refl, refl, refl, tt)))))

limits_are : (it : CapabilityPoint) → IsPoint it → AreParameters limit_rows (limit_parameters it)
limits_are it is = record {
  values = (
    limit_value (codes "tier-flag") None 1 it.tier_flag (omega arith) is.tier,
    (
      limit_value (codes "level-id") None 255 it.level_id (omega arith) is.level,
      (
        limit_value (codes "max-lsr") None 18446744073709551615 it.max_lsr (omega arith) is.rate,
        (
          limit_value (codes "max-lps") None 4294967295 it.max_lps (omega arith) is.size,
          (limit_value (codes "max-br") None 18446744073709551615 it.max_br (omega arith) is.bits, tt),
        ),
      ),
    ),
  );
  others = tt;
}

limits_back : (place : ℕ) (it : CapabilityPoint) → IsPoint it → with_limits place it.tool it.spatial_segmentation (read_of limit_rows (limits_text it)) ≡ Ok it
limits_back place it is =
    let tier = limit_back 1 it.tier_flag (omega arith) is.tier in
    let level = limit_back 255 it.level_id (omega arith) is.level in
    let rate = limit_back 18446744073709551615 it.max_lsr (omega arith) is.rate in
    let size = limit_back 4294967295 it.max_lps (omega arith) is.size in
    let bits = limit_back 18446744073709551615 it.max_br (omega arith) is.bits in
    ap (with_limits place it.tool it.spatial_segmentation) (read_again limit_rows (limit_parameters it) limits_table (limits_are it is))
    ∙ (λ i. limited place (record {
      tool = it.tool;
      spatial_segmentation = it.spatial_segmentation;
      tier_flag = tier i;
      level_id = level i;
      max_lsr = rate i;
      max_lps = size i;
      max_br = bits i;
    }))
    ∙ ap (λ t. cond t (Ok it) (Err (NoLimit place))) is.limit

-- a text without a mark, before the mark
first_mark : (mark : ℕ) (text more : List ℕ) → is_mark_of mark mark ≡ true → list_all (no_mark mark) text ≡ true → position_or_len (is_mark_of mark) (text ++ mark ∷ more) ≡ length text
first_mark mark [] more is plain = ap (λ t. cond (not t) (1 + position_or_len (is_mark_of mark) more) 0) is
first_mark mark (byte ∷ rest) more is plain =
    let both = and_parts (no_mark mark byte) (list_all (no_mark mark) rest) plain in
    ap (λ t. cond t (1 + position_or_len (is_mark_of mark) (rest ++ mark ∷ more)) 0) both.0
    ∙ omega (arith, first_mark mark rest more is both.1)

before_mark : (mark : ℕ) (text more : List ℕ) → is_mark_of mark mark ≡ true → list_all (no_mark mark) text ≡ true → before_first (is_mark_of mark) (text ++ mark ∷ more) ≡ text
before_mark mark text more is plain = ap (λ n. take n (text ++ mark ∷ more)) (first_mark mark text more is plain) ∙ take-append_seam text (mark ∷ more)

after_mark : (mark : ℕ) (text more : List ℕ) → is_mark_of mark mark ≡ true → list_all (no_mark mark) text ≡ true → after_first (is_mark_of mark) (text ++ mark ∷ more) ≡ more
after_mark mark text more is plain = ap (λ n. drop (n + 1) (text ++ mark ∷ more)) (first_mark mark text more is plain) ∙ drop-append-add text (mark ∷ more) 1

-- the head of a point, and what is read of it
abbrev head_text : CapabilityPoint → List ℕ
head_text it = tool_name it.tool ++ 58 ∷ decimal it.spatial_segmentation

tool_plain : (mark : ℕ) (tool : ParallelTool) (rest : List ℕ) → no_mark mark 119 ≡ true → no_mark mark 116 ≡ true → list_all (no_mark mark) rest ≡ true → list_all (no_mark mark) (tool_name tool ++ rest) ≡ true
tool_plain mark Wavefronts rest w t plain = and_from (no_mark mark 119) (list_all (no_mark mark) rest) w plain
tool_plain mark NoWavefronts rest w t plain = and_from (no_mark mark 116) (list_all (no_mark mark) rest) t plain

tool_alone : (tool : ParallelTool) → list_all (no_mark 58) (tool_name tool) ≡ true
tool_alone Wavefronts = refl
tool_alone NoWavefronts = refl

tool_back : (tool : ParallelTool) → tool_of (trim_ascii (tool_name tool)) ≡ Some tool
tool_back Wavefronts = refl
tool_back NoWavefronts = refl

segmentation_back : (n : ℕ) → 1 ≤ n → n ≤ 4095 → n < 2 ^ 64 → segmentation_in (trim_ascii (decimal n)) ≡ Ok n
segmentation_back n low high small =
    let a : nat_le 1 n ≡ true = grind (arith, nat_tests, low) in
    let b : nat_le n 4095 ≡ true = grind (arith, nat_tests, high) in
    ap segmentation_in (trimmed_same (decimal n) (number_trimmed n small)) ∙ ap segmentation_of (number_back n small)
    ∙ ap (λ t. cond t (Ok n) (Err OutOfRange)) (and_from (nat_le 1 n) (nat_le n 4095) a b)

head_plain : (it : CapabilityPoint) → it.spatial_segmentation < 2 ^ 64 → list_all (no_mark 59) (head_text it) ≡ true
head_plain it small = tool_plain 59 it.tool (58 ∷ decimal it.spatial_segmentation) refl refl (number_passes (no_mark 59) refl it.spatial_segmentation small)

point_back : (place : ℕ) (it : CapabilityPoint) → IsPoint it → point_in place (point_text it) ≡ Ok it
point_back place it is =
    let n : ℕ = it.spatial_segmentation in
    let small : it.spatial_segmentation < 2 ^ 64 = omega (arith, is.most) in
    let plain = head_plain it small in
    let limits : List ℕ = limits_text it in
    let head : before_limits (point_text it) ≡ head_text it = before_mark 59 (head_text it) limits refl plain in
    let behind : after_first (λ b. b == 59) (point_text it) ≡ limits_text it = after_mark 59 (head_text it) limits refl plain in
    let tool : tool_of (trim_ascii (before_first (λ b. b == 58) (before_limits (point_text it)))) ≡ Some it.tool =
    ap (λ h. tool_of (trim_ascii (before_first (λ b. b == 58) h))) head
    ∙ ap (λ t. tool_of (trim_ascii t)) (before_mark 58 (tool_name it.tool) (decimal n) refl (tool_alone it.tool)) ∙ tool_back it.tool in
    let number : segmentation_in (trim_ascii (after_first (λ b. b == 58) (before_limits (point_text it)))) ≡ Ok it.spatial_segmentation =
    ap (λ h. segmentation_in (trim_ascii (after_first (λ b. b == 58) h))) head
    ∙ ap (λ t. segmentation_in (trim_ascii t)) (after_mark 58 (tool_name it.tool) (decimal n) refl (tool_alone it.tool)) ∙ segmentation_back n is.positive is.most small in
    ap (with_tool place (trim_ascii (after_first (λ b. b == 58) (before_limits (point_text it)))) (after_first (λ b. b == 59) (point_text it))) tool
    ∙ ap (with_segmentation place it.tool (after_first (λ b. b == 59) (point_text it))) number
    ∙ ap (λ l. with_limits place it.tool it.spatial_segmentation (read_of limit_rows l)) behind
    ∙ limits_back place it is

-- no comma stands in the text of a point
abbrev IsPlainIfGiven : Option (List ℕ) → Type 0
IsPlainIfGiven None = Unit {0}
IsPlainIfGiven (Some value) = list_all (no_mark 44) value ≡ true

abbrev ArePlain : List ParameterRow → List (Option (List ℕ)) → Type 0
ArePlain [] values = Unit {0}
ArePlain (row ∷ table) [] = Unit {0}
ArePlain (row ∷ table) (value ∷ values) = (list_all (no_mark 44) row.name ≡ true) × IsPlainIfGiven value × ArePlain table values

abbrev is_plain_text : Pair → Type 0
is_plain_text pair = list_all (no_mark 44) (text_of pair) ≡ true

plain_pair : (name value : List ℕ) → list_all (no_mark 44) name ≡ true → list_all (no_mark 44) value ≡ true → list_all (no_mark 44) (name ++ 61 ∷ value) ≡ true
plain_pair name value of_name of_value = list_all-append (no_mark 44) name (61 ∷ value) ∙ and_from _ _ of_name of_value

plain_given : (table : List ParameterRow) (values : List (Option (List ℕ))) → ArePlain table values → AllByRecursion is_plain_text (given_pairs table values ++ [])
plain_given [] values are = tt
plain_given (row ∷ table) [] are = tt
plain_given (row ∷ table) (None ∷ values) are = plain_given table values are.2
plain_given (row ∷ table) (Some value ∷ values) are = (plain_pair row.name value are.0 are.1, plain_given table values are.2)

plain_joined : (mark : ℕ) (texts : List (List ℕ)) → no_mark 44 mark ≡ true → AllByRecursion (λ t. list_all (no_mark 44) t ≡ true) texts → list_all (no_mark 44) (join_with_byte mark texts) ≡ true
plain_joined mark [] is are = refl
plain_joined mark (text ∷ []) is are = are.0
plain_joined mark (text ∷ next ∷ rest) is are =
    list_all-append (no_mark 44) text (mark ∷ join_with_byte mark (next ∷ rest))
    ∙ and_from _ _ are.0 (and_from (no_mark 44 mark) (list_all (no_mark 44) (join_with_byte mark (next ∷ rest))) is (plain_joined mark (next ∷ rest) is are.1))

plain_texts : (all : List Pair) → AllByRecursion is_plain_text all → AllByRecursion (λ t. list_all (no_mark 44) t ≡ true) (map text_of all)
plain_texts [] are = tt
plain_texts (pair ∷ rest) are = (are.0, plain_texts rest are.1)

plain_limit : (most : ℕ) (limit : Option ℕ) → most < 2 ^ 64 → IsAtMost most limit → IsPlainIfGiven (option_map decimal limit)
plain_limit most None small within = tt
plain_limit most (Some n) small within = number_passes (no_mark 44) refl n (limit_small most n small within)

plain_limits : (it : CapabilityPoint) → IsPoint it → list_all (no_mark 44) (limits_text it) ≡ true
plain_limits it is =
    plain_joined 59 (map text_of (all_of limit_rows (limit_parameters it))) refl
    (plain_texts (all_of limit_rows (limit_parameters it))
    (plain_given limit_rows (limit_parameters it).values (
      refl,
      plain_limit 1 it.tier_flag (omega arith) is.tier,
      (
        refl,
        plain_limit 255 it.level_id (omega arith) is.level,
        (
          refl,
          plain_limit 18446744073709551615 it.max_lsr (omega arith) is.rate,
          (
            refl,
            plain_limit 4294967295 it.max_lps (omega arith) is.size,
            (refl, plain_limit 18446744073709551615 it.max_br (omega arith) is.bits, tt),
          ),
        ),
      ),
    )))

plain_point : (it : CapabilityPoint) → IsPoint it → list_all (no_mark 44) (point_text it) ≡ true
plain_point it is =
    let small : it.spatial_segmentation < 2 ^ 64 = omega (arith, is.most) in
    list_all-append (no_mark 44) (head_text it) (59 ∷ limits_text it)
    ∙ and_from _ _
    (tool_plain 44 it.tool (58 ∷ decimal it.spatial_segmentation) refl refl (number_passes (no_mark 44) refl it.spatial_segmentation small)) (plain_limits it is)

plain_points : (points : List CapabilityPoint) → AllByRecursion IsPoint points → AllByRecursion (λ t. list_all (no_mark 44) t ≡ true) (map point_text points)
plain_points [] are = tt
plain_points (point ∷ rest) are = (plain_point point are.0, plain_points rest are.1)

-- what stands in braces
braces_back : (inside : List ℕ) → in_braces (123 ∷ inside ++ 125 ∷ []) ≡ Some inside
braces_back inside =
    let text : List ℕ = 123 ∷ inside ++ 125 ∷ [] in
    let long : length (inside ++ 125 ∷ []) ≡ length inside + 1 = length-append inside (125 ∷ []) in
    let some : nat_lt 1 (length (123 ∷ inside ++ 125 ∷ [])) ≡ true = grind (arith, nat_tests, long) in
    let place : length (123 ∷ inside ++ 125 ∷ []) - 1 ≡ length (123 ∷ inside) = omega (arith, long) in
    let last : (get_or (123 ∷ inside ++ 125 ∷ []) (length (123 ∷ inside ++ 125 ∷ []) - 1) 0 == 125) ≡ true =
    ap (λ n. get_or (123 ∷ inside ++ 125 ∷ []) n 0 == 125) place ∙ ap (λ b. b == 125) (get_or-append_seam (123 ∷ inside) 125 [] 0) in
    let count : length (123 ∷ inside ++ 125 ∷ []) - 2 ≡ length inside = omega (arith, long) in
    ap (λ t. cond t (Some (take (length text - 2) (inside ++ 125 ∷ []))) None)
    (and_from (nat_lt 1 (length text) && true) (get_or text (length text - 1) 0 == 125) (and_from (nat_lt 1 (length text)) true some refl) last)
    ∙ ap (λ n. Some (take n (inside ++ 125 ∷ []))) count ∙ ap (λ (l : List ℕ). Some l) (take-append_seam inside (125 ∷ []))

points_back : (place : ℕ) (points : List CapabilityPoint) → AllByRecursion IsPoint points → points_from place (map point_text points) ≡ Ok points
points_back place [] are = refl
points_back place (point ∷ rest) are =
    ap (λ r. point_before r (points_from (place + 1) (map point_text rest))) (point_back place point are.0)
    ∙ ap (point_before (Ok point)) (points_back (place + 1) rest are.1)

joined_back : (points : List CapabilityPoint) → 0 < length points → AllByRecursion IsPoint points → points_from 0 (pieces (points_text points)) ≡ Ok points
joined_back [] some are = absurd (omega (arith, some))
joined_back (point ∷ rest) some are =
    ap (points_from 0) (joined_pieces 44 refl (point_text point) (map point_text rest) (plain_points (point ∷ rest) are)) ∙ points_back 0 (point ∷ rest) are

pub points_written : (points : List CapabilityPoint) → AreCapabilityPoints points → capability_points_in (capability_points_text points) ≡ Ok points
points_written points are = ap points_of (braces_back (points_text points)) ∙ joined_back points are.some are.whole

-- what is read are points
range_bound : (most : ℕ) (r : Result ℕ Fault) → range_fault 0 most r ≡ None → IsAtMost most (result_ok r)
range_bound most (Err fault) h = tt
range_bound most (Ok n) h = by_test (nat_le 0 n && nat_le n most)
    (λ passes. let high = (and_parts (nat_le 0 n) (nat_le n most) passes).1 in grind (arith, nat_tests, high))
    (λ fails. let e : Some OutOfRange ≡ None = sym (ap (λ t. cond t None (Some OutOfRange)) fails) ∙ h in cc e)

pub value_bound : (name : List ℕ) (default : Option (List ℕ)) (most : ℕ) (value : Option (List ℕ)) → IsValueIfGiven (record { name = name; kind = Number 0 most; default = default }) value
    → IsAtMost most (option_and_then (number_of (Number 0 most)) value)
value_bound name default most None is = tt
value_bound name default most (Some value) is = range_bound most (number_in value) is.fits

pub value_of_row : (table : List ParameterRow) (values : List (Option (List ℕ))) → AreValues table values → (k : ℕ) → k < length table → IsValueIfGiven (row_at table k) (value_at values k)
value_of_row [] values are k within = absurd (omega (arith, within))
value_of_row (row ∷ table) [] are k within = absurd are
value_of_row (row ∷ table) (value ∷ values) are zero within = are.0
value_of_row (row ∷ table) (value ∷ values) are (suc k) within = value_of_row table values are.1 k (omega (arith, within))

limited_parts : (place : ℕ) (point it : CapabilityPoint) → limited place point ≡ Ok it → (has_limit point ≡ true) × (point ≡ it)
limited_parts place point it h = by_test (has_limit point)
    (λ some. let e : ◌≡◌ {A = Result CapabilityPoint CapabilityPointsError} (Ok point) (Ok it) = sym (ap (λ t. cond t (Ok point) (Err (NoLimit place))) some) ∙ h in (some, cc e))
    (λ none. let e : ◌≡◌ {A = Result CapabilityPoint CapabilityPointsError} (Err (NoLimit place)) (Ok it) = sym (ap (λ t. cond t (Ok point) (Err (NoLimit place))) none) ∙ h in cc e)

limits_read : (place : ℕ) (tool : ParallelTool) (n : ℕ) (limits : List ℕ) (r : Result FormatParameters ParametersError) (it : CapabilityPoint) → 1 ≤ n → n ≤ 4095 → read_of limit_rows limits ≡ r
    → with_limits place tool n r ≡ Ok it → IsPoint it
limits_read place tool n limits (Err fault) it low high read h = cc h
limits_read place tool n limits (Ok said) it low high read h =
    let are = (read_are limit_rows limits said limits_table read).values in
    let point : CapabilityPoint = record {
      tool = tool;
      spatial_segmentation = n;
      tier_flag = number_at limit_rows said 0;
      level_id = number_at limit_rows said 1;
      max_lsr = number_at limit_rows said 2;
      max_lps = number_at limit_rows said 3;
      max_br = number_at limit_rows said 4;
    } in
    let parts = limited_parts place point it h in
    subst IsPoint parts.1 (record {
      positive = low;
      most = high;
      tier = value_bound (codes "tier-flag") None 1 (value_at said.values 0) (value_of_row limit_rows said.values are 0 (omega arith));
      level = value_bound (codes "level-id") None 255 (value_at said.values 1) (value_of_row limit_rows said.values are 1 (omega arith));
      rate = value_bound (codes "max-lsr") None 18446744073709551615 (value_at said.values 2) (value_of_row limit_rows said.values are 2 (omega arith));
      size = value_bound (codes "max-lps") None 4294967295 (value_at said.values 3) (value_of_row limit_rows said.values are 3 (omega arith));
      bits = value_bound (codes "max-br") None 18446744073709551615 (value_at said.values 4) (value_of_row limit_rows said.values are 4 (omega arith));
      limit = parts.0;
    })

segmentation_bound : (r : Result ℕ Fault) (n : ℕ) → segmentation_of r ≡ Ok n → (1 ≤ n) × (n ≤ 4095)
segmentation_bound (Err fault) n h = cc h
segmentation_bound (Ok m) n h = by_test (nat_le 1 m && nat_le m 4095)
    (λ passes.
    let e : ◌≡◌ {A = Result ℕ Fault} (Ok m) (Ok n) = sym (ap (λ t. cond t (Ok m) (Err OutOfRange)) passes) ∙ h in
    let same : m ≡ n = cc e in
    let both = and_parts (nat_le 1 m) (nat_le m 4095) passes in
    let low : 1 ≤ m = grind (arith, nat_tests, both.0) in
    let high : m ≤ 4095 = grind (arith, nat_tests, both.1) in
    (subst (λ k. 1 ≤ k) same low, subst (λ k. k ≤ 4095) same high))
    (λ fails. let e : ◌≡◌ {A = Result ℕ Fault} (Err OutOfRange) (Ok n) = sym (ap (λ t. cond t (Ok m) (Err OutOfRange)) fails) ∙ h in cc e)

segmentation_read : (place : ℕ) (tool : ParallelTool) (limits : List ℕ) (r : Result ℕ Fault) (s : Result ℕ Fault) (it : CapabilityPoint) → segmentation_of s ≡ r
    → with_segmentation place tool limits r ≡ Ok it → IsPoint it
segmentation_read place tool limits (Err fault) s it of h = cc h
segmentation_read place tool limits (Ok n) s it of h =
    let bound = segmentation_bound s n of in
    limits_read place tool n limits (read_of limit_rows limits) it bound.0 bound.1 refl h

tool_read : (place : ℕ) (number limits : List ℕ) (tool : Option ParallelTool) (it : CapabilityPoint) → with_tool place number limits tool ≡ Ok it → IsPoint it
tool_read place number limits None it h = cc h
tool_read place number limits (Some tool) it h = segmentation_read place tool limits (segmentation_in number) (number_in number) it refl h

point_read : (place : ℕ) (text : List ℕ) (it : CapabilityPoint) → point_in place text ≡ Ok it → IsPoint it
point_read place text it h =
    tool_read place (trim_ascii (after_first (λ b. b == 58) (before_limits text))) (after_first (λ b. b == 59) text) (tool_of (trim_ascii (before_first (λ b. b == 58) (before_limits text)))) it h

before_parts : (r : Result CapabilityPoint CapabilityPointsError) (rs : Result (List CapabilityPoint) CapabilityPointsError) (points : List CapabilityPoint) → point_before r rs ≡ Ok points
    → (point : CapabilityPoint) × (rest : List CapabilityPoint) × (r ≡ Ok point) × (rs ≡ Ok rest) × (points ≡ point ∷ rest)
before_parts (Err error) rs points h = cc h
before_parts (Ok point) (Err error) points h = cc h
before_parts (Ok point) (Ok rest) points h = (point, rest, refl, refl, cc h)

points_read : (place : ℕ) (texts : List (List ℕ)) (points : List CapabilityPoint) → points_from place texts ≡ Ok points → AllByRecursion IsPoint points
points_read place [] points h = let none : [] ≡ points = cc h in subst (AllByRecursion IsPoint) none tt
points_read place (text ∷ texts) points h =
    let (point, rest, first, others, same) = before_parts (point_in place text) (points_from (place + 1) texts) points h in
    subst (AllByRecursion IsPoint) (sym same) (point_read place text point first, points_read (place + 1) texts rest others)

points_some : (place : ℕ) (text : List ℕ) (texts : List (List ℕ)) (points : List CapabilityPoint) → points_from place (text ∷ texts) ≡ Ok points → 0 < length points
points_some place text texts points h =
    let (point, rest, first, others, same) = before_parts (point_in place text) (points_from (place + 1) texts) points h in
    let long : length points ≡ length (point ∷ rest) = ap length same in
    omega (arith, long)

inside_again : (inside : Option (List ℕ)) (points : List CapabilityPoint) → points_of inside ≡ Ok points → capability_points_in (capability_points_text points) ≡ Ok points
inside_again None points h = cc h
inside_again (Some text) points h =
    let (first, rest, e) = some_piece 44 text in
    let of : points_from 0 (first ∷ rest) ≡ Ok points = sym (ap (points_from 0) e) ∙ h in
    points_written points (record { some = points_some 0 first rest points of; whole = points_read 0 (pieces text) points h })

pub points_again : (text : List ℕ) (points : List CapabilityPoint) → capability_points_in text ≡ Ok points → capability_points_in (capability_points_text points) ≡ Ok points
points_again text points h = inside_again (in_braces text) points h
