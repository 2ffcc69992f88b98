-- Declared formats that one of ours receives.
use Rattle.std.proofs.Common.{◌≡◌, ℕ, ◌≤◌, Bool, true, false, not, ◌&&◌, ◌||◌, nat_le, List, Option, Some, None, ◌⊎◌, inl, inr, refl, sym, ap, subst, ◌∙◌, arith}
use Rattle.std.specs.Prelude.{is_some}
use Rattle.std.proofs.lemmas.Bool.{and_parts}
use Rattle.std.proofs.lemmas.Bool.Decides.{nat_tests}
use Rattle.h26x_answers.specs.declared.answer.AnswerConfig.{AnswerConfig}
use Rattle.h26x_answers.specs.declared.answer.AnswerRules.{AnswerRules}
use Rattle.h26x_answers.specs.declared.answer.h264.ProfileLevelId.{ProfileLevelId}
use Rattle.h26x_sdp.specs.declared.h264.H264Parameter.TheVariants as p
use Rattle.h26x_fmtp.specs.Parameters.{AreParameters}
use Rattle.h26x_fmtp.specs.Reading.{FormatParameters, value_at}
use Rattle.h26x_sdp.specs.H264Rows.{rows}
use Rattle.h26x_answers.specs.Answers.{are_symmetric, takes_order, own_fault}
use Rattle.h26x_answers.specs.AnswersH264.{roles, rules, number, id_of, level_rank, recv_rank, highest_of, highest_rank, is_interleaved, can_deinterleave, takes_profile}
use Rattle.h26x_answers.specs.ConfigurationsH264.{Configuration, IsOfProfile, Says, Receives, IsWithinGiven, IsPutInOrder}
use Rattle.h26x_answers.specs.DeclaredFormats.{is_accepted, takes_ids, h264_takes, takes_levels, takes_level, h265_takes, h266_takes, OfEachAccepted, IsReceivedH264, IsReceivedH265, IsReceivedH266}
use Rattle.h26x_fmtp.specs.Tables.{ParameterRow}
use Rattle.h26x_answers.specs.declared.answer.by_level.Levels.{Levels}
use Rattle.h26x_answers.specs.Answers.{Rules, same_number}
use Rattle.h26x_answers.specs.AnswersByLevel.{LevelRows, levels_of, can_hold}
use Rattle.h26x_answers.specs.AnswersH265 as h265
use Rattle.h26x_answers.specs.AnswersH266 as h266
use Rattle.h26x_fmtp.proofs.PartLemmas.{by_test}
use Rattle.h26x_answers.proofs.ConfigurationsH264Lemmas.{mode_same, taken_profile, of_through, some_id, order_parts}
use Rattle.h26x_answers.proofs.LevelsSaidLemmas.{within_level, level_received, in_order}
use Rattle.h26x_answers.proofs.ConfigurationsTieredLemmas.{offer_265, end_265, offer_266, end_266}

-- a level up to the highest one is up to the default one, or up to max-recv-level
within_highest : (it : FormatParameters) (id : ProfileLevelId) (rank : ℕ) (text : Option (List ℕ)) → value_at it.values 1 ≡ text → rank ≤ highest_of id text
    → (rank ≤ level_rank id) ⊎ IsWithinGiven it rank
within_highest it id rank None given h = inl h
within_highest it id rank (Some text) given h = by_test (nat_le rank (level_rank id))
    (λ low. inl (grind (arith, nat_tests, low)))
    (λ high. inr (record { text = text; given = given; within = grind (arith, nat_tests, high, h) }))

received_by_ids : (by : AnswerRules) (declared own : FormatParameters) (x y : Option ProfileLevelId) (m : ℕ) → id_of by declared ≡ x → id_of by own ≡ y → number declared p.PacketizationMode ≡ Some m → number own p.PacketizationMode ≡ Some m
    → takes_ids by declared own x y ≡ true → (c : Configuration) → Says by declared c → Receives by own c
received_by_ids by declared own None y m of_x of_y theirs ours h c said = cc h
received_by_ids by declared own (Some a) None m of_x of_y theirs ours h c said = cc h
received_by_ids by declared own (Some a) (Some b) m of_x of_y theirs ours h c said =
    let (profile, rest) = and_parts (takes_profile by a b) (nat_le (level_rank a) (highest_rank own b) && (not (is_interleaved declared) || can_deinterleave declared own)) h in
    let (level, order) = and_parts (nat_le (level_rank a) (highest_rank own b)) (not (is_interleaved declared) || can_deinterleave declared own) rest in
    let same : said.id ≡ a = some_id said.id a (sym said.said ∙ of_x) in
    let low : level_rank c.id ≤ level_rank a = subst (λ i. level_rank c.id ≤ level_rank i) same said.level in
    let high : level_rank a ≤ highest_rank own b = grind (arith, nat_tests, level) in
    let one : level_rank c.id ≤ highest_rank own b = omega (arith, low, high) in
    record {
      id = b;
      said = of_y;
      profile = of_through by c.id a b (subst (λ i. IsOfProfile by c.id i) same said.profile) (taken_profile by a b profile);
      mode = ours ∙ sym theirs ∙ said.mode;
      level = within_highest own b (level_rank c.id) (value_at own.values 1) refl one;
    }

-- in interleaved mode what is declared is put in order
order_by_ids : (by : AnswerRules) (declared own : FormatParameters) (x y : Option ProfileLevelId) → takes_ids by declared own x y ≡ true → number declared p.PacketizationMode ≡ Some 2 → IsPutInOrder declared own
order_by_ids by declared own None y h two = cc h
order_by_ids by declared own (Some a) None h two = cc h
order_by_ids by declared own (Some a) (Some b) h two =
    let order = (and_parts (nat_le (level_rank a) (highest_rank own b)) (not (is_interleaved declared) || can_deinterleave declared own)
    (and_parts (takes_profile by a b) (nat_le (level_rank a) (highest_rank own b) && (not (is_interleaved declared) || can_deinterleave declared own)) h).1).1 in
    let inter : is_interleaved declared ≡ true = ap (λ n. same_number n (Some 2)) two in
    order_parts declared own (sym (ap (λ t. not t || can_deinterleave declared own) inter) ∙ order)

-- what an end that is accepted takes
taken : (r : Rules) (takes : FormatParameters → FormatParameters → Bool) (config : AnswerConfig) (declared own : FormatParameters) → is_accepted r takes config declared own ≡ true
    → (are_symmetric r.roles r.rows declared.values own.values ≡ true) × (takes declared own ≡ true)
taken r takes config declared own h =
    let back = (and_parts ((r.known declared && takes_order r config declared) && not (is_some (own_fault r config own))) (are_symmetric r.roles r.rows declared.values own.values && takes declared own) h).1 in
    and_parts (are_symmetric r.roles r.rows declared.values own.values) (takes declared own) back

pub h264_received : (by : AnswerRules) → OfEachAccepted (rules by) (h264_takes by) (IsReceivedH264 by)
h264_received by config declared own of_declared of_own h =
    let (same, takes) = taken (rules by) (h264_takes by) config declared own h in
    let (m, theirs, ours) = mode_same declared own of_declared of_own same in
    record {
      configuration = λ c said. received_by_ids by declared own (id_of by declared) (id_of by own) m refl refl theirs ours takes c said;
      order = λ two. order_by_ids by declared own (id_of by declared) (id_of by own) takes two;
    }

-- ---- levels that are numbers

record TakenLevels (rows : List ParameterRow) (by : LevelRows) (declared own : FormatParameters) : Type 0 where
  pub a : Levels
  pub b : Levels
  pub theirs : levels_of rows by declared ≡ Some a
  pub ours : levels_of rows by own ≡ Some b
  pub level : a.level ≤ b.highest
  pub order : can_hold rows by declared own ≡ true

levels_taken : (rows : List ParameterRow) (by : LevelRows) (declared own : FormatParameters) (x y : Option Levels) → levels_of rows by declared ≡ x → levels_of rows by own ≡ y → takes_levels rows by declared own x y ≡ true → TakenLevels rows by declared own
levels_taken rows by declared own None y theirs ours h = cc h
levels_taken rows by declared own (Some a) None theirs ours h = cc h
levels_taken rows by declared own (Some a) (Some b) theirs ours h =
    let (level, order) = and_parts (nat_le a.level b.highest) (can_hold rows by declared own) h in
    record { a = a; b = b; theirs = theirs; ours = ours; level = grind (arith, nat_tests, level); order = order }

pub h265_received : (by : AnswerRules) → OfEachAccepted (h265.rules by) (h265_takes by) (IsReceivedH265 by)
h265_received by config declared own of_declared of_own h =
    let rows = (h265.rules by).rows in
    let (same, takes) = taken (h265.rules by) (h265_takes by) config declared own h in
    let (agrees, level) = and_parts (h265.agree by declared own) (takes_level rows h265.by declared own) takes in
    let both = (offer_265 by declared own of_declared of_own same agrees).same in
    let it = levels_taken rows h265.by declared own (levels_of rows h265.by declared) (levels_of rows h265.by own) refl refl level in
    let most = it.level in
    record {
      configuration = λ c said. record {
        one = end_265 by declared own c both said.one;
        level = level_received rows h265.by own it.b c.level it.ours
            (let under = within_level rows h265.by declared it.a c.level it.theirs said.level in omega (arith, under, most));
      };
      order = in_order rows h265.by declared own it.order;
    }

pub h266_received : OfEachAccepted h266.rules h266_takes IsReceivedH266
h266_received config declared own of_declared of_own h =
    let rows = h266.rules.rows in
    let (same, takes) = taken h266.rules h266_takes config declared own h in
    let both = (offer_266 declared own of_declared of_own same).same in
    let it = levels_taken rows h266.by declared own (levels_of rows h266.by declared) (levels_of rows h266.by own) refl refl takes in
    let most = it.level in
    record {
      configuration = λ c said. record {
        one = end_266 declared own c both said.one;
        level = level_received rows h266.by own it.b c.level it.ours
            (let under = within_level rows h266.by declared it.a c.level it.theirs said.level in omega (arith, under, most));
      };
      order = λ positive. let all = in_order rows h266.by declared own it.order positive in (all.1, all.2);
    }
