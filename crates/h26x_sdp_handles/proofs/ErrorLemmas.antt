-- Errors of the calls on parameters: each is that of the definition, or want of memory.
use Rattle.std.proofs.Common.{◌≡◌, ◌⊎◌, inl, inr, refl, sym, ap, ◌∙◌, ℕ, List, Some}
use Rattle.std.specs.Prelude.{Option, Result, Ok, Err}
use Rattle.std.specs.Result.{result_map_both}
use Rattle.h26x_codec.specs.declared.codec.Codec.{Codec}
use Rattle.h26x_fmtp.specs.declared.error.ParametersError.{ParametersError}
use Rattle.h26x_fmtp.specs.declared.error.ParametersError.TheVariants as p
use Rattle.h26x_fmtp.specs.declared.error.UnitsError.{UnitsError}
use Rattle.h26x_fmtp.specs.declared.error.UnitsError.TheVariants as u
use Rattle.h26x_stream_parameters.specs.declared.error.StreamError.{StreamError}
use Rattle.h26x_stream_parameters.specs.declared.error.StreamError.TheVariants as s
use Rattle.h26x_sdp.specs.declared.error.RtxError.{RtxError}
use Rattle.h26x_sdp.specs.declared.error.RtxError.TheVariants as x
use Rattle.h26x_sdp.specs.declared.rtx.RtxFormat.{RtxFormat}
use Rattle.h26x_sdp.specs.RtxViews.{SaysRtx}
use Rattle.h26x_fmtp.specs.Reading.{FormatParameters, read_of}
use Rattle.h26x_fmtp.specs.ParametersViews.{Fails}
use Rattle.h26x_fmtp.specs.UnitsViews.{SaysUnitsIfGiven}
use Rattle.h26x_stream_parameters.specs.FromStreamViews.{FailsStream}
use Rattle.h26x_sdp_handles.specs.declared.sdp_code.Refused.{Refused}
use Rattle.h26x_sdp_handles.specs.declared.sdp.SdpEndpoint.{SdpEndpoint}
use Rattle.h26x_codes.specs.Codes.{out_of_memory}
use Rattle.h26x_sdp_handles.specs.SdpCodes.{refused_with, parameters_refused}
use Rattle.h26x_sdp_handles.specs.Sdp.{sdp_of, sdp_rows, sdp_read}

pub says_units_or : (error : UnitsError) (read : Option (Result (List (List ℕ)) UnitsError)) → SaysUnitsIfGiven (Err error) read →
    (error ≡ u.OutOfMemory) ⊎ (read ≡ Some (Err error))
says_units_or u.OutOfMemory read is = inl refl
says_units_or (u.NotBase64 place) read is = inr is
says_units_or (u.Empty place) read is = inr is
says_units_or (u.OtherType place) read is = inr is
says_units_or (u.StartCode place) read is = inr is

pub says_rtx_or : (error : RtxError) (read : Result RtxFormat RtxError) → SaysRtx (Err error) read →
    (error ≡ x.OutOfMemory) ⊎ (read ≡ Err error)
says_rtx_or x.OutOfMemory read is = inl refl
says_rtx_or x.NoPayloadType read is = inr is
says_rtx_or (x.Parameters error) read is = inr is

pub fails_stream_or : (error : StreamError) (read : Result FormatParameters StreamError) → FailsStream error read →
    (error ≡ s.OutOfMemory) ⊎ (read ≡ Err error)
fails_stream_or s.OutOfMemory read is = inl refl
fails_stream_or s.NoParameterSet read is = inr is
fails_stream_or s.ShortParameterSet read is = inr is
fails_stream_or s.NoProfile read is = inr is

-- what is read of a text is that of its codec, or memory lacked
abbrev pub ReadOr : Result SdpEndpoint Refused → Codec → List ℕ → Type 0
ReadOr made codec text = (made ≡ Err (refused_with out_of_memory)) ⊎ (made ≡ sdp_read codec text)

by_codec : (codec own : Codec) (text : List ℕ) (made : Result FormatParameters ParametersError) → own ≡ codec → read_of (sdp_rows codec) text ≡ made →
    result_map_both (sdp_of codec) parameters_refused made ≡ sdp_read own text
by_codec codec own text made same is = sym (ap (result_map_both (sdp_of codec) parameters_refused) is) ∙ ap (λ c. sdp_read c text) (sym same)

pub is_read : (codec own : Codec) (text : List ℕ) (it : FormatParameters) → own ≡ codec → read_of (sdp_rows codec) text ≡ Ok it →
    ReadOr (Ok (sdp_of codec it)) own text
is_read codec own text it same is = inr (by_codec codec own text (Ok it) same is)

pub is_refused : (codec own : Codec) (text : List ℕ) (error : ParametersError) (it : Refused) → own ≡ codec → Fails error (read_of (sdp_rows codec) text) →
    it ≡ parameters_refused error → ReadOr (Err it) own text
is_refused codec own text p.OutOfMemory it same is code = inl (ap Err code)
is_refused codec own text p.OpenBrace it same is code = inr (ap Err code ∙ by_codec codec own text (Err p.OpenBrace) same is)
is_refused codec own text (p.Refused place fault) it same is code =
    inr (ap Err code ∙ by_codec codec own text (Err (p.Refused place fault)) same is)
