-- What the units of a text tell, unit by unit.
use Rattle.std.proofs.Common.{◌≡◌, ◌∙◌, ap, cond, ℕ, suc, Bool, true, false, List, Some, None}
use Rattle.std.specs.Prelude.{is_some}
use Rattle.h26x_core.specs.declared.extra.CodecExtra.{CodecExtra}
use Rattle.h26x_access_units.specs.declared.content.Content.{Content}
use Rattle.h26x_access_units.specs.Content.{content_with_unit, first_unit, content_with, content_from}

-- where there is no unit more
pub no_unit_more : (is_avc : Bool) (extra : CodecExtra) (count : ℕ) (c : Content) (text : List ℕ) → first_unit is_avc text ≡ None → content_from is_avc extra (suc count) c text ≡ c
no_unit_more is_avc extra count c text absent = ap (content_with extra (content_from is_avc extra count) c) absent

-- where the next one is the first slice
pub slice_next : (is_avc : Bool) (extra : CodecExtra) (count : ℕ) (c : Content) (text unit rest : List ℕ) → first_unit is_avc text ≡ Some (unit, rest) →
    is_some (content_with_unit extra c unit).slice ≡ true → content_from is_avc extra (suc count) c text ≡ content_with_unit extra c unit
slice_next is_avc extra count c text unit rest there is =
    let next = content_with_unit extra c unit in
    ap (content_with extra (content_from is_avc extra count) c) there ∙ ap (λ (b : Bool). cond b next (content_from is_avc extra count next rest)) is

-- where it is another one
pub other_next : (is_avc : Bool) (extra : CodecExtra) (count : ℕ) (c : Content) (text unit rest : List ℕ) → first_unit is_avc text ≡ Some (unit, rest) →
    is_some (content_with_unit extra c unit).slice ≡ false → content_from is_avc extra (suc count) c text ≡ content_from is_avc extra count (content_with_unit extra c unit) rest
other_next is_avc extra count c text unit rest there is =
    let next = content_with_unit extra c unit in
    ap (content_with extra (content_from is_avc extra count) c) there ∙ ap (λ (b : Bool). cond b next (content_from is_avc extra count next rest)) is
