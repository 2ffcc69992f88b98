-- Formats of one's own that break no rule.
use Rattle.std.proofs.Common.{◌≡◌, ℕ, ◌*◌, ◌<◌, ◌≤◌, ◌⊎◌, inl, inr, true, false, cond, not, List, Option, Some, None, refl, sym, ap, ◌∙◌, arith, Bool, ◌||◌}
use Rattle.std.specs.Prelude.{◌==◌, nat_lt, nat_le, is_some}
use Rattle.std.specs.Option.{option_or}
use Rattle.std.proofs.lemmas.Bool.{eqb-true}
use Rattle.std.proofs.lemmas.Bool.Decides.{nat_tests}
use Rattle.h26x_fmtp.proofs.PartLemmas.{by_test}
use Rattle.h26x_fmtp.specs.Tables.{ParameterRow}
use Rattle.h26x_fmtp.specs.Reading.{FormatParameters, value_at, number_at}
use Rattle.h26x_answers.specs.declared.answer.AnswerRules.{AnswerRules}
use Rattle.h26x_answers.specs.declared.answer.h264.ProfileLevelId.{ProfileLevelId}
use Rattle.h26x_answers.specs.declared.answer.own_h264.LevelLimits.{LevelLimits}
use Rattle.h26x_answers.specs.declared.answer.own_h265.TieredLimits.{TieredLimits}
use Rattle.h26x_answers.specs.declared.fault.FormatFault.{FormatFault}
use Rattle.h26x_answers.specs.declared.fault.FormatFault.TheVariants as faults
use Rattle.h26x_sdp.specs.declared.h264.H264Parameter.TheVariants as h264_parameter
use Rattle.h26x_sdp.specs.declared.h265.H265Parameter.TheVariants as h265_parameter
use Rattle.h26x_sdp.specs.declared.h266.H266Parameter.TheVariants as h266_parameter
use Rattle.h26x_sdp.specs.H264Rows as h264_rows
use Rattle.h26x_sdp.specs.H265Rows as h265_rows
use Rattle.h26x_sdp.specs.H266Rows as h266_rows
use Rattle.h26x_answers.specs.Answers.{same_number}
use Rattle.h26x_answers.specs.Faults.{below_at, fault_below, outside_at, fault_outside}
use Rattle.h26x_answers.specs.AnswersH264 as h264
use Rattle.h26x_answers.specs.OwnH265 as h265
use Rattle.h26x_answers.specs.OwnH266 as h266
use Rattle.h26x_answers.specs.OwnLaws.{IsNotBelow, IsInRange, KeepsH264Limits, KeepsH265Limits, MaySayH264, MaySayH265, MaySayH266}

-- of two faults neither is there
neither : (a b : Option FormatFault) → option_or a b ≡ None → (a ≡ None) × (b ≡ None)
neither None b h = (refl, h)
neither (Some f) b h = cc h

-- a test that would tell a fault fails
test_fails : (t : Bool) (f : FormatFault) (rest : Option FormatFault) → cond t (Some f) rest ≡ None → (t ≡ false) × (rest ≡ None)
test_fails true f rest h = cc h
test_fails false f rest h = (refl, h)

-- and one that would keep it off holds
test_holds : (t : Bool) (rest : Option FormatFault) (f : FormatFault) → cond t rest (Some f) ≡ None → (t ≡ true) × (rest ≡ None)
test_holds true rest f h = (refl, h)
test_holds false rest f h = cc h

least_of : (number least : ℕ) → nat_lt number least ≡ false → least ≤ number
least_of number least h = grind (arith, nat_tests, h)

not_below_at : (row number least : ℕ) → below_at row least (Some number) ≡ None → least ≤ number
not_below_at row number least h = least_of number least (test_fails (nat_lt number least) (faults.BelowLevel row) None h).0

not_below : (rows : List ParameterRow) (it : FormatParameters) (row least : ℕ) → fault_below rows it row least ≡ None → IsNotBelow rows it row least
not_below rows it row least h number given = not_below_at row number least (sym (ap (below_at row least) given) ∙ h)

in_range_at : (row number least : ℕ) → outside_at row least (Some number) ≡ None → (least ≤ number) × (number ≤ 16 * least)
in_range_at row number least h =
    let parts = test_fails (nat_lt (16 * least) number) (faults.AboveLevel row) (below_at row least (Some number)) h in
    (not_below_at row number least parts.1, least_of (16 * least) number parts.0)

in_range : (rows : List ParameterRow) (it : FormatParameters) (row least : ℕ) → fault_outside rows it row least ≡ None → IsInRange rows it row least
in_range rows it row least h number given = in_range_at row number least (sym (ap (outside_at row least) given) ∙ h)

-- ---- H.264

keeps_h264 : (it : FormatParameters) (level : LevelLimits) → h264.first_below it level ≡ None → KeepsH264Limits it level
keeps_h264 it level h =
    let br = neither _ _ h in
    let dpb = neither _ _ br.0 in
    let cpb = neither _ _ dpb.0 in
    let fs = neither _ _ cpb.0 in
    let mbps = neither _ _ fs.0 in
    record {
      mbps = not_below h264_rows.rows it (h264_rows.row_place h264_parameter.MaxMbps) level.mbps mbps.0;
      fs = not_below h264_rows.rows it (h264_rows.row_place h264_parameter.MaxFs) level.fs fs.1;
      cpb = not_below h264_rows.rows it (h264_rows.row_place h264_parameter.MaxCpb) level.cpb cpb.1;
      dpb = not_below h264_rows.rows it (h264_rows.row_place h264_parameter.MaxDpb) level.dpb dpb.1;
      br = not_below h264_rows.rows it (h264_rows.row_place h264_parameter.MaxBr) level.br br.1;
    }

not_false : (t : Bool) → not t ≡ false → t ≡ true
not_false true h = refl
not_false false h = cc h

no_both : (x y : Bool) → (not x || not y) ≡ true → x ≡ true → y ≡ true → ⊥
no_both true true h a b = cc h
no_both true false h a b = cc b
no_both false y h a b = cc a

at_most : (a b : ℕ) → nat_le a b ≡ true → a ≤ b
at_most a b h = grind (arith, nat_tests, h)

above : (a b : ℕ) → nat_le a b ≡ false → b < a
above a b h = grind (arith, nat_tests, h)

ratios_of : (understood supported : ℕ) → h264.ratios_fit (Some understood) (Some supported) ≡ true → (supported ≡ 255) ⊎ (supported ≤ understood)
ratios_of understood supported h = by_test (supported == 255)
    (λ all. inl (eqb-true supported 255 all))
    (λ other. inr (at_most supported understood (sym (ap (λ t. t || nat_le supported understood) other) ∙ h)))

some_one : (A : Type 0) (x y : A) → Some x ≡ Some y → x ≡ y
some_one A x y h = cc h

-- what a format says of itself as a receiver
ratios : (it : FormatParameters) → h264.receiver_fault it ≡ None → (understood supported : ℕ)
    → h264.number it h264_parameter.SarUnderstood ≡ Some understood
    → h264.number it h264_parameter.SarSupported ≡ Some supported
    → (supported ≡ 255) ⊎ (supported ≤ understood)
ratios it h understood supported of_understood of_supported =
    let fits = not_false _ (test_fails _ faults.AspectRatios _ h).0 in
    ratios_of understood supported
    (sym (ap (λ u. h264.ratios_fit u (Some supported)) of_understood)
    ∙ sym (ap (h264.ratios_fit (h264.number it h264_parameter.SarUnderstood)) of_supported)
    ∙ fits)

in_band : (it : FormatParameters) → h264.receiver_fault it ≡ None
    → h264.number it h264_parameter.InBandParameterSets ≡ Some 1
    → h264.number it h264_parameter.UseLevelSrcParameterSets ≡ Some 1 → ⊥
in_band it h first second =
    no_both (h264.is_on it h264_parameter.InBandParameterSets) (h264.is_on it h264_parameter.UseLevelSrcParameterSets)
    (test_holds _ None faults.InBandSets (test_fails _ faults.AspectRatios _ h).1).0
    (ap (λ n. same_number n (Some 1)) first) (ap (λ n. same_number n (Some 1)) second)

at_h264 : (it : FormatParameters) (found : Option LevelLimits) → h264.fault_at it found ≡ None
    → (level : LevelLimits) × (found ≡ Some level) × KeepsH264Limits it level × (h264.receiver_fault it ≡ None)
at_h264 it None h = cc h
at_h264 it (Some level) h =
    let parts = neither (option_or (h264.first_below it level) (h264.reordering_fault it)) (h264.receiver_fault it) h in
    let more = neither (h264.first_below it level) (h264.reordering_fault it) parts.0 in
    (level, refl, keeps_h264 it level more.0, parts.1)

may_h264 : (by : AnswerRules) (it : FormatParameters) (id : ProfileLevelId) → h264.id_of by it ≡ Some id
    → (value : Option (List ℕ)) → value_at it.values (h264_rows.row_place h264_parameter.MaxRecvLevel) ≡ value
    → h264.fault_with it (h264.level_rank id) value ≡ None → MaySayH264 by it
may_h264 by it id said None is h =
    let (level, found, keeps, receiver) = at_h264 it (h264.limits_of (h264.level_rank id)) h in
    record {
      id = id;
      said = said;
      rank = h264.level_rank id;
      level = level;
      highest = found;
      above = λ text given. let e : None ≡ Some text = sym is ∙ given in cc e;
      unsaid = λ none. refl;
      limits = keeps;
      ratios = ratios it receiver;
      in_band = in_band it receiver;
    }
may_h264 by it id said (Some text) is h =
    let passed = test_fails (nat_le (h264.recv_rank text) (h264.level_rank id)) faults.HighestLevel (h264.fault_at it (h264.limits_of (h264.recv_rank text))) h in
    let (level, found, keeps, receiver) = at_h264 it (h264.limits_of (h264.recv_rank text)) passed.1 in
    record {
      id = id;
      said = said;
      rank = h264.recv_rank text;
      level = level;
      highest = found;
      above = λ other given. (
        above (h264.recv_rank text) (h264.level_rank id) passed.0,
        ap h264.recv_rank (some_one (List ℕ) text other (sym is ∙ given)),
      );
      unsaid = λ none. let e : Some text ≡ None = sym is ∙ none in cc e;
      limits = keeps;
      ratios = ratios it receiver;
      in_band = in_band it receiver;
    }

of_id : (by : AnswerRules) (it : FormatParameters) (found : Option ProfileLevelId) → h264.id_of by it ≡ found
    → h264.fault_of_id it found ≡ None → MaySayH264 by it
of_id by it None is h = cc h
of_id by it (Some id) is h =
    let profile = test_fails (not (h264.is_profile id)) faults.Profile (cond (h264.is_level id) (h264.fault_received it (h264.level_rank id)) (Some faults.Level)) h in
    let level = test_holds (h264.is_level id) (h264.fault_received it (h264.level_rank id)) faults.Level profile.1 in
    may_h264 by it id is (value_at it.values (h264_rows.row_place h264_parameter.MaxRecvLevel)) refl level.1

pub h264_may : (by : AnswerRules) (it : FormatParameters) → h264.fault by it ≡ None → MaySayH264 by it
h264_may by it h = of_id by it (h264.id_of by it) refl h

-- ---- H.265

keeps_h265 : (it : FormatParameters) (level : TieredLimits) → h265.first_outside it level ≡ None → KeepsH265Limits it level
keeps_h265 it level h =
    let tc = neither _ _ h in
    let tr = neither _ _ tc.0 in
    let br = neither _ _ tr.0 in
    let dpb = neither _ _ br.0 in
    let cpb = neither _ _ dpb.0 in
    let lsr = neither _ _ cpb.0 in
    record {
      lsr = in_range h265_rows.rows it (h265_rows.row_place h265_parameter.MaxLsr) level.lsr lsr.0;
      lps = in_range h265_rows.rows it (h265_rows.row_place h265_parameter.MaxLps) level.lps lsr.1;
      cpb = in_range h265_rows.rows it (h265_rows.row_place h265_parameter.MaxCpb) (h265.of_tier it level).0 cpb.1;
      dpb = not_below h265_rows.rows it (h265_rows.row_place h265_parameter.MaxDpb) 6 dpb.1;
      br = in_range h265_rows.rows it (h265_rows.row_place h265_parameter.MaxBr) (h265.of_tier it level).1 br.1;
      tr = in_range h265_rows.rows it (h265_rows.row_place h265_parameter.MaxTr) level.tiles.0 tr.1;
      tc = in_range h265_rows.rows it (h265_rows.row_place h265_parameter.MaxTc) level.tiles.1 tc.1;
    }

at_h265 : (it : FormatParameters) (found : Option TieredLimits) → h265.fault_at it found ≡ None
    → (level : TieredLimits) × (found ≡ Some level) × KeepsH265Limits it level
at_h265 it None h = cc h
at_h265 it (Some level) h =
    let parts = neither (option_or (h265.first_outside it level) (h265.reordering_fault it)) (h265.hash_types_fault (value_at it.values (h265_rows.row_place h265_parameter.IncludeDph))) h in
    let more = neither (h265.first_outside it level) (h265.reordering_fault it) parts.0 in
    (level, refl, keeps_h265 it level more.0)

may_h265 : (it : FormatParameters) (least : ℕ) → h265.number it h265_parameter.LevelId ≡ Some least
    → (received : Option ℕ) → number_at h265_rows.rows it (h265_rows.row_place h265_parameter.MaxRecvLevelId) ≡ received
    → h265.fault_with it least received ≡ None → MaySayH265 it
may_h265 it least said None is h =
    let (level, found, keeps) = at_h265 it (h265.limits_of least) h in
    record {
      least = least;
      said = said;
      most = least;
      level = level;
      highest = found;
      above = λ number given. let e : None ≡ Some number = sym is ∙ given in cc e;
      unsaid = λ none. refl;
      limits = keeps;
    }
may_h265 it least said (Some received) is h =
    let passed = test_fails (nat_le received least) faults.HighestLevel (h265.fault_at it (h265.limits_of received)) h in
    let (level, found, keeps) = at_h265 it (h265.limits_of received) passed.1 in
    record {
      least = least;
      said = said;
      most = received;
      level = level;
      highest = found;
      above = λ number given. (above received least passed.0, some_one ℕ received number (sym is ∙ given));
      unsaid = λ none. let e : Some received ≡ None = sym is ∙ none in cc e;
      limits = keeps;
    }

of_level : (it : FormatParameters) (found : Option ℕ) → h265.number it h265_parameter.LevelId ≡ found
    → h265.fault_of_level it found ≡ None → MaySayH265 it
of_level it None is h = cc h
of_level it (Some least) is h =
    may_h265 it least is (number_at h265_rows.rows it (h265_rows.row_place h265_parameter.MaxRecvLevelId)) refl
    (test_holds (is_some (h265.limits_of least)) (h265.fault_received it least) faults.Level h).1

pub h265_may : (it : FormatParameters) → h265.fault it ≡ None → MaySayH265 it
h265_may it h =
    of_level it (h265.number it h265_parameter.LevelId) refl
    (test_holds (h265.has_profile it) (h265.fault_of_level it (h265.number it h265_parameter.LevelId)) faults.Profile h).1

-- ---- H.266

pub h266_may : (it : FormatParameters) → h266.fault it ≡ None → MaySayH266 it
h266_may it h level rate is known =
    let profile = test_fails _ faults.Profile _ h in
    let said = test_fails _ faults.Level _ profile.1 in
    let received = test_fails _ faults.HighestLevel _ said.1 in
    let none = neither (h266.rate_fault it (h266.highest_level it)) (h266.reordering_fault it) received.1 in
    let at : h266.rate_fault it (Some level) ≡ None = sym (ap (h266.rate_fault it) is) ∙ none.0 in
    let by_rate : h266.rate_fault_at it (Some rate) ≡ None = sym (ap (h266.rate_fault_at it) known) ∙ at in
    in_range h266_rows.rows it (h266_rows.row_place h266_parameter.MaxLsr) rate by_rate
