-- Names without regard to case, and their rows.
use Rattle.std.proofs.Common.{◌≡◌, ℕ, Bool, true, false, List, [], ◌∷◌, map, refl, sym}
use Rattle.std.specs.Prelude.{◌==◌}
use Rattle.std.specs.Char.{to_ascii_lowercase}
use Rattle.std.proofs.lemmas.Bool.{and_parts, and_from, eqb-true, eq-eqb, false_from_ne_true}
use Rattle.h26x_fmtp.specs.Tables.{same_name}

abbrev lower : List ℕ → List ℕ
lower = map to_ascii_lowercase

pub same_from : (xs ys : List ℕ) → lower xs ≡ lower ys → same_name xs ys ≡ true
same_from [] [] e = refl
same_from [] (y ∷ ys) e = cc
same_from (x ∷ xs) [] e = cc
same_from (x ∷ xs) (y ∷ ys) e =
    let first : to_ascii_lowercase x ≡ to_ascii_lowercase y = cc in
    let rest : lower xs ≡ lower ys = cc in
    and_from (to_ascii_lowercase x == to_ascii_lowercase y) (same_name xs ys) (eq-eqb _ _ first) (same_from xs ys rest)

pub same_to : (xs ys : List ℕ) → same_name xs ys ≡ true → lower xs ≡ lower ys
same_to [] [] h = refl
same_to [] (y ∷ ys) h = cc
same_to (x ∷ xs) [] h = cc
same_to (x ∷ xs) (y ∷ ys) h =
    let both = and_parts (to_ascii_lowercase x == to_ascii_lowercase y) (same_name xs ys) h in
    let first : to_ascii_lowercase x ≡ to_ascii_lowercase y = eqb-true _ _ both.0 in
    let rest = same_to xs ys both.1 in
    cc

-- a test that says whether two names are one
pub tested_names : (xs ys : List ℕ) (t : Bool) → ((t ≡ true) → lower xs ≡ lower ys) → (lower xs ≡ lower ys → t ≡ true) → t ≡ same_name xs ys
tested_names xs ys true to from = sym (same_from xs ys (to refl))
tested_names xs ys false to from = sym (false_from_ne_true (same_name xs ys) (λ e. let wrong : false ≡ true = from (same_to xs ys e) in cc))
