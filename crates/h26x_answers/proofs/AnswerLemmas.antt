-- Rows of two formats, one after another.
use Rattle.std.proofs.Common.{◌≡◌, ℕ, ◌+◌, ◌<◌, List, ◌∷◌, length, drop, get_or, map, Option, refl}
use Rattle.std.specs.Prelude.{Vec, Bool, ◌&&◌}
use Rattle.std.specs.declared.alloc.Global.{Global}
use Rattle.std.proofs.lemmas.List.{drop_more}
use Rattle.h26x_answers.specs.declared.answer.Role.{Role}
use Rattle.h26x_fmtp.specs.declared.table.ParameterRow.{ParameterRow}
use Rattle.h26x_fmtp.specs.ParametersViews.{value_view}
use Rattle.h26x_fmtp.specs.TableViews.{row_view}
use Rattle.h26x_answers.specs.declared.direction.Direction.{Direction}
use Rattle.h26x_answers.specs.declared.direction.Usage.{Usage}
use Rattle.h26x_answers.specs.Directions.{usable_value, usable_values}
use Rattle.h26x_answers.specs.Answers.{Terms, is_symmetric_at, are_symmetric, answered_value, answered_values}

-- the rows from a place on are the row there and those behind it
pub symmetric_next : (roles : List Role) (rows : List ParameterRow) (os us : List (Option (Vec ℕ Global))) (i : ℕ) (role : Role) (row : ParameterRow) (o u : Option (Vec ℕ Global))
    → i < length roles → i < length rows → i < length os → i < length us
    → are_symmetric (drop i roles) (map row_view (drop i rows)) (map value_view (drop i os)) (map value_view (drop i us))
    ≡ (is_symmetric_at (get_or roles i role) (row_view (get_or rows i row)) (value_view (get_or os i o)) (value_view (get_or us i u))
    && are_symmetric (drop (i + 1) roles) (map row_view (drop (i + 1) rows)) (map value_view (drop (i + 1) os)) (map value_view (drop (i + 1) us)))
symmetric_next roles rows os us i role row o u in_roles in_rows in_os in_us =
    rw (drop_more roles i role in_roles, drop_more rows i row in_rows, drop_more os i o in_os, drop_more us i u in_us) refl

pub answered_next : (terms : Terms) (roles : List Role) (os us : List (Option (Vec ℕ Global))) (i : ℕ) (role : Role) (o u : Option (Vec ℕ Global))
    → i < length roles → i < length os → i < length us
    → answered_values terms (drop i roles) (map value_view (drop i os)) (map value_view (drop i us))
    ≡ answered_value (get_or roles i role) terms (value_view (get_or os i o)) (value_view (get_or us i u))
    ∷ answered_values terms (drop (i + 1) roles) (map value_view (drop (i + 1) os)) (map value_view (drop (i + 1) us))
answered_next terms roles os us i role o u in_roles in_os in_us =
    rw (drop_more roles i role in_roles, drop_more os i o in_os, drop_more us i u in_us) refl

pub usable_next : (direction : Direction) (reorders : Bool) (roles : List Role) (usages : List Usage) (vs : List (Option (Vec ℕ Global))) (i : ℕ) (role : Role) (usage : Usage) (v : Option (Vec ℕ Global))
    → i < length roles → i < length usages → i < length vs
    → usable_values direction reorders (drop i roles) (drop i usages) (map value_view (drop i vs))
    ≡ usable_value direction reorders (get_or roles i role) (get_or usages i usage) (value_view (get_or vs i v))
    ∷ usable_values direction reorders (drop (i + 1) roles) (drop (i + 1) usages) (map value_view (drop (i + 1) vs))
usable_next direction reorders roles usages vs i role usage v in_roles in_usages in_vs =
    rw (drop_more roles i role in_roles, drop_more usages i usage in_usages, drop_more vs i v in_vs) refl
