-- Tests of whole tables.
use Rattle.std.proofs.Common.{◌≡◌, Bool, true, false, List, refl}
use Rattle.std.specs.List.{list_all}
use Rattle.std.specs.declared.cmp.Ordering.{Ordering}
use Rattle.std.specs.declared.cmp.Ordering.TheVariants.{Less, Equal, Greater}

-- whether two orderings are the same
abbrev pub same : Ordering → Ordering → Bool
same Less Less = true
same Equal Equal = true
same Greater Greater = true
same x y = false

-- those that pass are the same
pub same_is : (x y : Ordering) → same x y ≡ true → x ≡ y
same_is Less Less h = refl
same_is Equal Equal h = refl
same_is Greater Greater h = refl
same_is Less Equal h = absurd cc
same_is Less Greater h = absurd cc
same_is Equal Less h = absurd cc
same_is Equal Greater h = absurd cc
same_is Greater Less h = absurd cc
same_is Greater Equal h = absurd cc

-- two ways to compare values are the same where they are at each two values of a list that has them all
pub same_order : {A : Type 0} (values : List A) → ((test : A → Bool) → list_all test values ≡ true → (it : A) → test it ≡ true) → (one other : A → A → Ordering) →
    list_all (λ a. list_all (λ b. same (one a b) (other a b)) values) values ≡ true → (a b : A) → one a b ≡ other a b
same_order values every one other all a b =
    same_is (one a b) (other a b) (every (λ y. same (one a y) (other a y)) (every (λ x. list_all (λ y. same (one x y) (other x y)) values) all a) b)
