-- Units that are kept, by the places of their parameters.
use Rattle.std.proofs.Common.{◌≡◌, ℕ, ◌<◌, true, cond, List, map, length, get_or, Option, Some, None, Result, Err, Vec, sym, ap, ◌∙◌, subst, arith}
use Rattle.std.specs.List.{range_with_len}
use Rattle.std.specs.declared.alloc.Global.{Global}
use Rattle.std.proofs.lemmas.List.{length-map, get_or-map}
use Rattle.std.proofs.lemmas.List.FromFn.{length-range_with_len, get_or-range_with_len}
use Rattle.h26x_fmtp.specs.declared.kind.Kind.{Kind}
use Rattle.h26x_fmtp.specs.declared.error.UnitsError.{UnitsError}
use Rattle.h26x_fmtp.specs.Tables.{ParameterRow, row_of}
use Rattle.h26x_fmtp.specs.Reading.{FormatParameters}
use Rattle.h26x_fmtp.specs.Units.{sprop_units_at}
use Rattle.h26x_sdp_handles.specs.KeptUnits.{kept_view}
use Rattle.h26x_sdp_handles.specs.SdpCodes.{unknown_name, other_kind, refused_with}
use Rattle.h26x_sdp_handles.specs.Sdp.{is_units, units_or_refused, named_units}

-- as many as the rows
pub kept_many : (f : ℕ → Option (Result (List (List ℕ)) UnitsError)) (n : ℕ) (kept : List (Option (Result (Vec (Vec ℕ Global) Global) UnitsError))) →
    map kept_view kept ≡ map f (range_with_len 0 n) → length kept ≡ n
kept_many f n kept same = sym (length-map kept kept_view) ∙ ap length same ∙ length-map (range_with_len 0 n) f ∙ length-range_with_len 0 n

-- those at a place
pub kept_here : (f : ℕ → Option (Result (List (List ℕ)) UnitsError)) (n : ℕ) (kept : List (Option (Result (Vec (Vec ℕ Global) Global) UnitsError))) (i : ℕ)
    (other : Option (Result (Vec (Vec ℕ Global) Global) UnitsError)) → map kept_view kept ≡ map f (range_with_len 0 n) → i < n → kept_view (get_or kept i other) ≡ f i
kept_here f n kept i other same within =
    let place : get_or (range_with_len 0 n) i 0 ≡ i = get_or-range_with_len 0 n i 0 within ∙ omega arith in
    sym (get_or-map kept_view kept i other None (subst (λ k. i < k) (sym (kept_many f n kept same)) within)) ∙ ap (λ l. get_or l i None) same
    ∙ get_or-map f (range_with_len 0 n) i 0 None (subst (λ k. i < k) (sym (length-range_with_len 0 n)) within) ∙ ap f place

-- the units of a name
pub named_at : (rows : List ParameterRow) (it : FormatParameters) (name : List ℕ) (place : ℕ) (kind : Kind) (units : Option (Result (List (List ℕ)) UnitsError)) →
    row_of rows name ≡ Some (place, kind) → is_units kind ≡ true → sprop_units_at rows it place ≡ units → named_units rows it name ≡ units_or_refused units
named_at rows it name place kind units found is same =
    ap (λ (row : Option (ℕ × Kind)). elim row [
      | None ↦ Err (refused_with unknown_name)
      | Some r ↦ cond (is_units r.1) (units_or_refused (sprop_units_at rows it r.0)) (Err (refused_with other_kind))
    ]) found
    ∙ ap (λ t. cond t (units_or_refused (sprop_units_at rows it place)) (Err (refused_with other_kind))) is
    ∙ ap units_or_refused same
