-- What is known of a decoder with an access unit that begins with a slice of no keyframe.
use Rattle.std.proofs.Common.{◌≡◌, ◌∙◌, ap, refl, ℕ, Bool, true, false, cond, List, Option, Some}
use Rattle.std.specs.Prelude.{not, ◌&&◌, ◌||◌, ◌==◌}
use Rattle.h26x_core.specs.declared.extra.CodecExtra.{CodecExtra}
use Rattle.h26x_access_units.specs.declared.content.ParameterSets.{ParameterSets}
use Rattle.h26x_access_units.specs.declared.content.Slice.{Slice}
use Rattle.h26x_access_units.specs.declared.decoder.DecoderState.{DecoderState}
use Rattle.h26x_access_units.specs.declared.frame_number.Numbering.{Numbering}
use Rattle.h26x_access_units.specs.declared.frame_number.Numbering.TheVariants as numberings
use Rattle.h26x_access_units.specs.declared.numbers.AccessUnitNumbers.{AccessUnitNumbers}
use Rattle.h26x_access_units.specs.FrameNumber.{joined_numbering}
use Rattle.h26x_access_units.specs.Content.{no_sets, joined_sets, slice_content}
use Rattle.h26x_access_units.specs.Decoder.{are_enough, is_behind_no_loss, is_disposable, decoder_after, head_after_slice, can_begin, can_go_on, sets_after, layer_after, long_key_after}

or_none : (b : Bool) → (b || false) ≡ b
or_none true = refl
or_none false = refl

abbrev three : Bool → Bool → Bool → ParameterSets
three vps sps pps = record { vps = vps; sps = sps; pps = pps }

same_sets : (s : ParameterSets) → joined_sets s no_sets ≡ s
same_sets s =
    ap (λ (b : Bool). three b (s.sps || false) (s.pps || false)) (or_none s.vps)
    ∙ ap (λ (b : Bool). three s.vps b (s.pps || false)) (or_none s.sps)
    ∙ ap (λ (b : Bool). three s.vps s.sps b) (or_none s.pps)

same_numbering : (n : Numbering) → joined_numbering n numberings.NotTold ≡ n
same_numbering numberings.NotTold = refl
same_numbering (numberings.Told a) = refl
same_numbering numberings.Unusable = refl

-- a decoder begins with no slice of no keyframe, and goes on with what follows
clean_by : (n f x clean y z : Bool) → ((n && ((f && false) && x)) || (clean && ((true || y) && (true || z)))) ≡ clean
clean_by true true x true y z = refl
clean_by true true x false y z = refl
clean_by true false x true y z = refl
clean_by true false x false y z = refl
clean_by false f x true y z = refl
clean_by false f x false y z = refl

abbrev state : Bool → ParameterSets → ℕ → Numbering → Option (List ℕ) → Bool → DecoderState
state clean sets layer numbering head long = record { is_clean = clean; sets = sets; highest_layer = layer; numbering = numbering; last_head = head; has_long_key = long; has_begun = true }

layer_stays : (d : DecoderState) (numbers : AccessUnitNumbers) (it : Slice) (head : Option (List ℕ)) → numbers.follows ≡ true → layer_after d numbers (slice_content it head) ≡ d.highest_layer
layer_stays d numbers it head follows = ap (λ (b : Bool). cond b d.highest_layer 0) follows

-- what is known of a decoder with it: the bytes behind the header of its last reference picture may be others
pub decoder_on : (d : DecoderState) (has_sets : Bool) (extra : CodecExtra) (numbers : AccessUnitNumbers) (it : Slice) (head : Option (List ℕ)) → numbers.follows ≡ true → it.is_key ≡ false →
    decoder_after d has_sets true extra numbers (slice_content it head) ≡ record d { last_head = head_after_slice true numbers.is_counted head d.last_head (Some it); has_begun = true }
decoder_on d has_sets extra numbers it head follows plain =
    let c = slice_content it head in
    let clean : (can_begin d has_sets true extra numbers c || can_go_on d has_sets true numbers c) ≡ d.is_clean =
    ap (λ (k : Bool). (not numbers.continues && ((it.is_first && k) && (has_sets || are_enough extra (sets_after d true numbers c)))) || can_go_on d has_sets true numbers c) plain
    ∙ ap (λ (f : Bool). (not numbers.continues && ((it.is_first && false) && (has_sets || are_enough extra (sets_after d true numbers c)))) || (d.is_clean && ((f || is_behind_no_loss d has_sets numbers c) && (true || is_disposable (layer_after d numbers c) (Some it))))) follows
    ∙ clean_by (not numbers.continues) it.is_first (has_sets || are_enough extra (sets_after d true numbers c)) d.is_clean (is_behind_no_loss d has_sets numbers c) (is_disposable (layer_after d numbers c) (Some it)) in
    let sets : sets_after d true numbers c ≡ d.sets = ap (λ (f : Bool). joined_sets (cond f d.sets no_sets) no_sets) follows ∙ same_sets d.sets in
    let long : long_key_after d.has_long_key numbers (Some it) ≡ d.has_long_key = ap (λ (k : Bool). cond k (not (numbers.first == numbers.last)) d.has_long_key) plain in
    let h = head_after_slice true numbers.is_counted head d.last_head (Some it) in
    ap (λ (b : Bool). state b (sets_after d true numbers c) (layer_after d numbers c) (joined_numbering d.numbering numberings.NotTold) h (long_key_after d.has_long_key numbers (Some it))) clean
    ∙ ap (λ (s : ParameterSets). state d.is_clean s (layer_after d numbers c) (joined_numbering d.numbering numberings.NotTold) h (long_key_after d.has_long_key numbers (Some it))) sets
    ∙ ap (λ (n : ℕ). state d.is_clean d.sets n (joined_numbering d.numbering numberings.NotTold) h (long_key_after d.has_long_key numbers (Some it))) (layer_stays d numbers it head follows)
    ∙ ap (λ (n : Numbering). state d.is_clean d.sets d.highest_layer n h (long_key_after d.has_long_key numbers (Some it))) (same_numbering d.numbering)
    ∙ ap (λ (b : Bool). state d.is_clean d.sets d.highest_layer d.numbering h b) long
