-- Formats of retransmission and their text.
use Rattle.std.proofs.Common.{◌≡◌, ℕ, ◌<◌, ◌^◌, true, cond, List, Option, Some, None, Result, Ok, Err, refl, sym, ap, subst, ◌∙◌, arith}
use Rattle.std.specs.Prelude.{nat_lt, codes, decimal}
use Rattle.std.specs.Option.{option_and_then}
use Rattle.std.specs.Result.{result_ok}
use Rattle.std.proofs.lemmas.Bool.Decides.{nat_tests}
use Rattle.h26x_fmtp.specs.declared.error.Fault.{Fault}
use Rattle.h26x_fmtp.specs.declared.error.ParametersError.{ParametersError}
use Rattle.h26x_fmtp.specs.Kinds.{number_in}
use Rattle.h26x_fmtp.specs.Parameters.{IsTable, AreParameters}
use Rattle.h26x_fmtp.specs.Reading.{FormatParameters, value_at, number_at, read_of}
use Rattle.h26x_fmtp.specs.RtpMaps.{payload_type_in}
use Rattle.h26x_sdp.specs.declared.rtx.RtxFormat.{RtxFormat}
use Rattle.h26x_sdp.specs.Rtx.{rtx_rows, associated, with_associated, of_rtx_parameters, rtx_format_of, rtx_parameters, rtx_format_text, IsRtxFormat}
use Rattle.h26x_fmtp.proofs.PartLemmas.{by_test}
use Rattle.h26x_fmtp.proofs.AgainLemmas.{read_again}
use Rattle.h26x_fmtp.proofs.FixedLemmas.{read_are}
use Rattle.h26x_sdp.proofs.CapabilityPointsLemmas.{number_back, number_value, limit_value, limit_back, value_bound, value_of_row}

pub rtx_table : IsTable rtx_rows
rtx_table = (refl, refl, refl, (refl, refl, refl, tt))

rtx_are : (it : RtxFormat) → IsRtxFormat it → AreParameters rtx_rows (rtx_parameters it)
rtx_are it is =
    let bound = is.payload_type in
    record {
      values = (
        number_value (codes "apt") None 127 it.payload_type (omega (arith, bound)) (omega (arith, bound)),
        (limit_value (codes "rtx-time") None 18446744073709551615 it.rtx_time (omega arith) is.time, tt),
      );
      others = tt;
    }

-- a payload type as it is written is read as the same
payload_type_back : (n : ℕ) → n < 128 → payload_type_in (decimal n) ≡ Some n
payload_type_back n within =
    let small : n < 2 ^ 64 = omega (arith, within) in
    let low : nat_lt n 128 ≡ true = grind (arith, nat_tests, within) in
    ap (λ r. option_and_then (λ number. cond (nat_lt number 128) (Some number) None) (result_ok r)) (number_back n small)
    ∙ ap (λ t. cond t (Some n) None) low

pub rtx_back : (it : RtxFormat) → IsRtxFormat it → rtx_format_of (rtx_format_text it) ≡ Ok it
rtx_back it is =
    let time = limit_back 18446744073709551615 it.rtx_time (omega arith) is.time in
    ap of_rtx_parameters (read_again rtx_rows (rtx_parameters it) rtx_table (rtx_are it is))
    ∙ ap (with_associated (rtx_parameters it)) (payload_type_back it.payload_type is.payload_type)
    ∙ (λ i. Ok (record { payload_type = it.payload_type; rtx_time = time i }))

-- what is read is a format
number_bound : (r : Result ℕ Fault) (n : ℕ) → option_and_then (λ number. cond (nat_lt number 128) (Some number) None) (result_ok r) ≡ Some n → n < 128
number_bound (Err fault) n h = cc h
number_bound (Ok m) n h = by_test (nat_lt m 128)
    (λ passes.
    let e : Some m ≡ Some n = sym (ap (λ t. cond t (Some m) None) passes) ∙ h in
    let same : m ≡ n = cc e in
    let low : m < 128 = grind (arith, nat_tests, passes) in
    subst (λ k. k < 128) same low)
    (λ fails. let e : ◌≡◌ {A = Option ℕ} None (Some n) = sym (ap (λ t. cond t (Some m) None) fails) ∙ h in cc e)

payload_type_bound : (value : Option (List ℕ)) (n : ℕ) → option_and_then payload_type_in value ≡ Some n → n < 128
payload_type_bound None n h = cc h
payload_type_bound (Some text) n h = number_bound (number_in text) n h

associated_parts : (said : FormatParameters) (o : Option ℕ) (it : RtxFormat) → with_associated said o ≡ Ok it
    → (n : ℕ) × (o ≡ Some n) × (with_associated said (Some n) ≡ Ok it)
associated_parts said None it h = cc h
associated_parts said (Some n) it h = (n, refl, h)

parameters_read : (text : List ℕ) (r : Result FormatParameters ParametersError) (it : RtxFormat) → read_of rtx_rows text ≡ r → of_rtx_parameters r ≡ Ok it → IsRtxFormat it
parameters_read text (Err fault) it read h = cc h
parameters_read text (Ok said) it read h =
    let are = (read_are rtx_rows text said rtx_table read).values in
    let (n, some, whole) = associated_parts said (associated said) it h in
    let same : record { payload_type = n; rtx_time = number_at rtx_rows said 1 } ≡ it = cc whole in
    subst IsRtxFormat same (record {
      payload_type = payload_type_bound (value_at said.values 0) n some;
      time = value_bound (codes "rtx-time") None 18446744073709551615 (value_at said.values 1) (value_of_row rtx_rows said.values are 1 (omega arith));
    })

pub rtx_again : (text : List ℕ) (it : RtxFormat) → rtx_format_of text ≡ Ok it → rtx_format_of (rtx_format_text it) ≡ Ok it
rtx_again text it h = rtx_back it (parameters_read text (read_of rtx_rows text) it refl h)
