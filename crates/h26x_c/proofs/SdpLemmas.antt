-- What is made of a stream, or why nothing is.
use Rattle.std.proofs.Common.{◌≡◌, ◌⊎◌, inl, inr, ap, sym, ◌∙◌, subst, ℕ, List, Some, Ok, Err, Option, Result}
use Rattle.std.specs.Option.{unwrap_or}
use Rattle.h26x_cut.specs.Cutting.{AreUnits}
use Rattle.h26x_codec.specs.Codec.{zero_rule}
use Rattle.h26x_codec.specs.declared.codec.Codec.{Codec}
use Rattle.h26x_codes.specs.Codes.{out_of_memory}
use Rattle.h26x_sdp_handles.specs.Sdp.{sdp_of_units}
use Rattle.h26x_sdp_handles.specs.declared.sdp.SdpEndpoint.{SdpEndpoint}
use Rattle.h26x_endpoint.specs.declared.endpoint.Endpoint.{Endpoint}
use Rattle.h26x_endpoint.specs.declared.endpoint.Endpoint.TheVariants as e
use Rattle.h26x_c.specs.Sdp.{IsMade, at_sdp}

-- a code that is that of what should be answered, or want of memory
is_made : (wanted answer : Result SdpEndpoint ℕ) (code : ℕ) (made : Option Endpoint) → answer ≡ Err code →
    ((answer ≡ Err out_of_memory) ⊎ (answer ≡ wanted)) → IsMade wanted code made
is_made (Ok it) answer code made is (inl none) = inr cc
is_made (Ok it) answer code made is (inr same) = absurd cc
is_made (Err e) answer code made is (inl none) = inr cc
is_made (Err e) answer code made is (inr same) = inl cc

-- the same of parameters behind a handle that are changed
pub is_changed : (at : Endpoint) (it : SdpEndpoint) (change : SdpEndpoint → Result SdpEndpoint ℕ) (answer : Result SdpEndpoint ℕ) (code : ℕ) (made : Option Endpoint) →
    at ≡ e.Sdp it → answer ≡ Err code → ((answer ≡ Err out_of_memory) ⊎ (answer ≡ change it)) → IsMade (at_sdp at change) code made
is_changed at it change answer code made is so says =
    subst (λ v. IsMade (at_sdp v change) code made) (sym is) (is_made (change it) answer code made so says)

-- the same by the number of a codec
pub is_of_stream : (known : Option Codec) (codec : Codec) (payload : List ℕ) (answer : Result SdpEndpoint ℕ) (code : ℕ) (made : Option Endpoint) →
    Some codec ≡ known → answer ≡ Err code →
    ((list : List (List ℕ)) × AreUnits (zero_rule codec) payload list × ((answer ≡ Err out_of_memory) ⊎ (answer ≡ sdp_of_units codec list))) →
    (c : Codec) → known ≡ Some c → (list : List (List ℕ)) × AreUnits (zero_rule c) payload list × IsMade (sdp_of_units c list) code made
is_of_stream known codec payload answer code made same is (list, units, says) c asked =
    subst (λ k. (l : List (List ℕ)) × AreUnits (zero_rule k) payload l × IsMade (sdp_of_units k l) code made)
    (ap (λ o. unwrap_or o codec) (same ∙ asked))
    (list, units, is_made (sdp_of_units codec list) answer code made is says)
