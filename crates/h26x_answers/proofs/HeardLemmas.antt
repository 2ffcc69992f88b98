-- What is heard of parameters is parameters.
use Rattle.std.proofs.Common.{◌≡◌, ℕ, ◌<◌, Bool, true, false, cond, List, [], ◌∷◌, length, get_or, Option, Some, None, refl, sym, ap, ◌∙◌, arith}
use Rattle.std.specs.Prelude.{codes}
use Rattle.h26x_answers.specs.declared.answer.AnswerRules.{AnswerRules}
use Rattle.h26x_answers.specs.declared.answer.Role.{Role}
use Rattle.h26x_answers.specs.declared.answer.Role.TheVariants as role
use Rattle.h26x_answers.specs.declared.direction.Direction.{Direction}
use Rattle.h26x_answers.specs.declared.direction.Direction.TheVariants.{SendRecv, SendOnly, RecvOnly}
use Rattle.h26x_answers.specs.declared.direction.Usage.{Usage}
use Rattle.h26x_fmtp.specs.Kinds.{fault_in}
use Rattle.h26x_fmtp.specs.Tables.{ParameterRow}
use Rattle.h26x_fmtp.specs.Parameters.{IsValue, IsValueIfGiven, AreValues, AreParameters}
use Rattle.h26x_fmtp.specs.Reading.{FormatParameters, value_at}
use Rattle.h26x_answers.specs.Directions.{is_usable, unsent, usable_value, usable_values}
use Rattle.h26x_answers.specs.Answers.{Rules, usable_where, usable, heard}
use Rattle.h26x_sdp.specs.H264Rows as h264_rows
use Rattle.h26x_sdp.specs.H265Rows as h265_rows
use Rattle.h26x_sdp.specs.H266Rows as h266_rows
use Rattle.h26x_answers.specs.AnswersH264 as h264
use Rattle.h26x_answers.specs.AnswersH265 as h265
use Rattle.h26x_answers.specs.AnswersH266 as h266
use Rattle.h26x_answers.proofs.AnswersLemmas.{HearsParameters}

-- tables of one length
pub record AreOneTable (all : Rules) : Type 0 where
  pub roles : length all.roles ≡ length all.rows
  pub usages : length all.usages ≡ length all.rows

-- a row takes what stands in place of a value that isn't sent
abbrev pub TakesUnsent : List Role → List ParameterRow → Type 0
TakesUnsent [] rows = Unit {0}
TakesUnsent (r ∷ roles) [] = Unit {0}
TakesUnsent (r ∷ roles) (row ∷ rows) = IsValueIfGiven row (unsent true r) × TakesUnsent roles rows

unsent_kept : (reorders : Bool) (r : Role) (row : ParameterRow) → IsValueIfGiven row (unsent true r) → IsValueIfGiven row (unsent reorders r)
unsent_kept true r row is = is
unsent_kept false r row is = tt

either_kept : (is_used : Bool) (row : ParameterRow) (value other : Option (List ℕ)) → IsValueIfGiven row value → IsValueIfGiven row other → IsValueIfGiven row (cond is_used value other)
either_kept true row value other is of_other = is
either_kept false row value other is of_other = of_other

values_usable : (direction : Direction) (reorders : Bool) (roles : List Role) (usages : List Usage) (rows : List ParameterRow) (vs : List (Option (List ℕ))) → length roles ≡ length rows → length usages ≡ length rows → TakesUnsent roles rows → AreValues rows vs
    → AreValues rows (usable_values direction reorders roles usages vs)
values_usable direction reorders [] usages [] vs lr lu takes of_vs = tt
values_usable direction reorders [] usages (row ∷ rows) vs lr lu takes of_vs = absurd (omega (arith, lr))
values_usable direction reorders (r ∷ roles) usages [] vs lr lu takes of_vs = absurd (omega (arith, lr))
values_usable direction reorders (r ∷ roles) [] (row ∷ rows) vs lr lu takes of_vs = absurd (omega (arith, lu))
values_usable direction reorders (r ∷ roles) (u ∷ usages) (row ∷ rows) [] lr lu takes of_vs = absurd of_vs
values_usable direction reorders (r ∷ roles) (u ∷ usages) (row ∷ rows) (v ∷ vs) lr lu takes of_vs =
    (either_kept (is_usable direction u) row v (unsent reorders r) of_vs.0 (unsent_kept reorders r row takes.0), values_usable direction reorders roles usages rows vs (omega (arith, lr)) (omega (arith, lu)) takes.1 of_vs.1)

pub usable_parameters : (all : Rules) (direction : Direction) (reorders : Bool) (it : FormatParameters) → AreOneTable all → TakesUnsent all.roles all.rows → AreParameters all.rows it
    → AreParameters all.rows (usable_where all.roles all.usages direction reorders it)
usable_parameters all direction reorders it table takes of_it = record {
  values = values_usable direction reorders all.roles all.usages all.rows it.values table.roles table.usages takes of_it.values;
  others = of_it.others;
}

-- what is usable of parameters is parameters
pub usable_kept : (all : Rules) → AreOneTable all → TakesUnsent all.roles all.rows → (direction : Direction) (it : FormatParameters) → AreParameters all.rows it → AreParameters all.rows (usable all direction it)
usable_kept all table takes SendRecv it of_it = of_it
usable_kept all table takes SendOnly it of_it = usable_parameters all SendOnly false it table takes of_it
usable_kept all table takes RecvOnly it of_it = usable_parameters all RecvOnly false it table takes of_it

pub hears : (all : Rules) → AreOneTable all → TakesUnsent all.roles all.rows → HearsParameters all
hears all table takes SendRecv it of_it = of_it
hears all table takes SendOnly it of_it =
    usable_parameters all SendOnly (all.reorders (usable_where all.roles all.usages SendOnly false it)) it table takes of_it
hears all table takes RecvOnly it of_it =
    usable_parameters all RecvOnly (all.reorders (usable_where all.roles all.usages RecvOnly false it)) it table takes of_it

-- a number that may be 0 takes it
takes_zero : (row : ParameterRow) → fault_in row.kind (codes "0") ≡ None → IsValueIfGiven row (Some (codes "0"))
takes_zero row fits = record { fits = fits; trimmed = record { start = refl; end = refl }; one_part = refl }

pub h264_tables : (by : AnswerRules) → AreOneTable (h264.rules by)
h264_tables by = record { roles = refl; usages = refl }

pub h265_tables : (by : AnswerRules) → AreOneTable (h265.rules by)
h265_tables by = record { roles = refl; usages = refl }

pub h266_tables : AreOneTable h266.rules
h266_tables = record { roles = refl; usages = refl }

pub h264_unsent : TakesUnsent h264.roles h264_rows.rows
h264_unsent = (tt, (tt, (tt, (tt, (tt, (tt, (tt, (tt, (tt, (tt, (tt, (tt, (tt, (tt, (tt, (takes_zero _ refl, (takes_zero _ refl, (tt, (takes_zero _ refl, (takes_zero _ refl, (tt, (tt, (tt, tt)))))))))))))))))))))))

pub h264_hears : (by : AnswerRules) → HearsParameters (h264.rules by)
h264_hears by = hears (h264.rules by) (h264_tables by) h264_unsent

pub h265_unsent : TakesUnsent h265.roles h265_rows.rows
h265_unsent = (tt, (tt, (tt, (tt, (tt, (tt, (tt, (tt, (tt, (tt, (tt, (tt, (tt, (tt, (tt, (tt, (tt, (tt, (tt, (tt, (tt, (tt, (tt, (tt, (tt, (tt, (tt, (tt, (tt, (tt, tt))))))))))))))))))))))))))))))

pub h265_hears : (by : AnswerRules) → HearsParameters (h265.rules by)
h265_hears by = hears (h265.rules by) (h265_tables by) h265_unsent

pub h266_unsent : TakesUnsent h266.roles h266_rows.rows
h266_unsent = (tt, (tt, (tt, (tt, (tt, (tt, (tt, (tt, (tt, (tt, (tt, (tt, (tt, (tt, (tt, (tt, (tt, (tt, (tt, (tt, tt))))))))))))))))))))

pub h266_hears : HearsParameters h266.rules
h266_hears = hears h266.rules h266_tables h266_unsent
