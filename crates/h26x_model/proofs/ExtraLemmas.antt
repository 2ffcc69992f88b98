-- The extra after units and then others.
use Rattle.std.proofs.Common.{◌≡◌, ℕ, Bool, true, false, cond, List, [], ◌∷◌, ◌++◌, refl, ap, ◌∙◌, ◌≤◌, length, arith}
use Rattle.std.specs.Prelude.{◌||◌, nat_le}
use Rattle.std.specs.Prelude.{IsTrue}
use Rattle.std.specs.List.{list_any}
use Rattle.std.proofs.Math.Bool.{or-false}
use Rattle.std.proofs.lemmas.List.Folds.{list_any-append}
use Rattle.std.proofs.lemmas.Bool.Decides.{nat_tests}
use Rattle.h26x_core.specs.declared.extra.CodecExtra.{CodecExtra}
use Rattle.h26x_core.specs.declared.extra.CodecExtra.TheVariants as extras
use Rattle.h26x_model.specs.Payload.Format.{Format}
use Rattle.h26x_model.specs.Payload.Extra.{extra_after, first_extra}
use Rattle.h26x_model.specs.Payload.Facts.{AreCarried, ExtraTells}

-- whether one of three tests holds, in two orders of them
told_more : (a b c : Bool) → (a || (b || c)) ≡ ((b || a) || c)
told_more true true c = refl
told_more true false c = refl
told_more false true c = refl
told_more false false c = refl

-- where one of two tests holds, and each gives another, one of these others holds
either_true : (a b c d : Bool) → (a ≡ true → c ≡ true) → (b ≡ true → d ≡ true) → (a || b) ≡ true → (c || d) ≡ true
either_true true b c d f g e = let h = f refl in rw h refl
either_true false true true d f g e = refl
either_true false true false d f g e = g refl
either_true false false c d f g e = absurd cc

-- where there is a key unit there is a unit with a whole header
keys_whole : (f : Format) → ExtraTells f → (us : List (List ℕ)) → list_any f.is_key us ≡ true →
    list_any (λ unit. nat_le f.header_len (length unit)) us ≡ true
keys_whole f tells [] e = absurd cc
keys_whole f tells (unit ∷ us) e =
    either_true (f.is_key unit) (list_any f.is_key us) (nat_le f.header_len (length unit)) (list_any (λ u. nat_le f.header_len (length u)) us)
    (tells.whole unit) (keys_whole f tells us) e

-- a test that would give one that fails, fails
not_true : (b c : Bool) → (b ≡ true → c ≡ true) → c ≡ false → b ≡ false
not_true true c h e = let t = h refl in absurd cc
not_true false c h e = refl

-- the extra after two lists of units is the one after both together: by whether either counts and has a key unit
extra_joined : (f : Format) (extra : CodecExtra) → ((key : Bool) → f.has_key (f.extra key) ≡ key) → (a b k l : Bool) → (k ≡ true → a ≡ true) →
    (l ≡ true → b ≡ true) →
    cond b (f.extra (l || f.has_key (cond a (f.extra (k || f.has_key extra)) extra))) (cond a (f.extra (k || f.has_key extra)) extra)
    ≡ cond (a || b) (f.extra ((k || l) || f.has_key extra)) extra
extra_joined f extra tells true true k l p q = ap (λ h. f.extra (l || h)) (tells (k || f.has_key extra)) ∙ ap f.extra (told_more l k (f.has_key extra))
extra_joined f extra tells true false k l p q = let none = not_true l false q refl in rw (none, or-false k) refl
extra_joined f extra tells false true k l p q = let none = not_true k false p refl in rw none refl
extra_joined f extra tells false false k l p q = refl

-- the extra after units and then others
pub extra_more : (f : Format) → ExtraTells f → (extra : CodecExtra) (us vs : List (List ℕ)) →
    extra_after f (extra_after f extra us) vs ≡ extra_after f extra (us ++ vs)
extra_more f tells extra us vs =
    let is_whole = λ (unit : List ℕ). nat_le f.header_len (length unit) in
    rw (list_any-append is_whole us vs, list_any-append f.is_key us vs)
    (extra_joined f extra tells.tells (list_any is_whole us) (list_any is_whole vs) (list_any f.is_key us) (list_any f.is_key vs)
    (keys_whole f tells us) (keys_whole f tells vs))

-- of units that have whole headers, where nothing was told before
pub first_is_told : (f : Format) → ExtraTells f → ((unit : List ℕ) → IsTrue (f.carries unit) → f.header_len ≤ length unit) →
    (units : List (List ℕ)) → AreCarried f units → extra_after f extras.None units ≡ first_extra f units
first_is_told f tells header [] carried = refl
first_is_told f tells header (unit ∷ units) (is, carried) =
    let long = header unit is in
    let whole : nat_le f.header_len (length unit) ≡ true = grind (arith, nat_tests, long) in
    rw (whole, tells.none, or-false (list_any f.is_key (unit ∷ units))) refl
