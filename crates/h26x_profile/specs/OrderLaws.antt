-- The levels of H.264 are equal where their places are. The laws of `Ord` cite this.
use Rattle.std.proofs.Common.{◌≡◌, ℕ, ltb, Bool, true, false, List, length, get_or, refl}
use Rattle.std.proofs.lemmas.Bool.{ltb-true}
use Rattle.std.proofs.lemmas.List.Folds.{list_all_at}
use Rattle.std.specs.List.{list_all}
use Rattle.h26x_profile.specs.H264.{levels}
use Rattle.h26x_profile.specs.declared.h264.H264LevelIdc.{H264LevelIdc}
use Rattle.h26x_profile.specs.declared.h264.H264LevelIdc.TheVariants as level

-- what passes at each value of a list passes at the value at a place
pub passes_at : {A : Type 0} (test : A → Bool) (values : List A) (i : ℕ) (value : A) →
    ltb i (length values) ≡ true → get_or values i value ≡ value → list_all test values ≡ true →
    test value ≡ true
passes_at test values i value within here all =
    elim (test value) as (λ t. test value ≡ t → t ≡ true) [
      | true ↦ λ _. refl
      | false ↦ λ fails.
          let no = list_all_at test values i value (ltb-true i (length values) within)
          (rw here fails) in cc
    ] refl

-- what passes at each level of the list passes at every level
pub every_h264_level : (test : H264LevelIdc → Bool) → list_all test levels ≡ true →
    (it : H264LevelIdc) → test it ≡ true
every_h264_level test all level.Level1 = passes_at test levels 0 level.Level1 refl refl all
every_h264_level test all level.Level1B = passes_at test levels 1 level.Level1B refl refl all
every_h264_level test all level.Level1_1 = passes_at test levels 2 level.Level1_1 refl refl all
every_h264_level test all level.Level1_2 = passes_at test levels 3 level.Level1_2 refl refl all
every_h264_level test all level.Level1_3 = passes_at test levels 4 level.Level1_3 refl refl all
every_h264_level test all level.Level2 = passes_at test levels 5 level.Level2 refl refl all
every_h264_level test all level.Level2_1 = passes_at test levels 6 level.Level2_1 refl refl all
every_h264_level test all level.Level2_2 = passes_at test levels 7 level.Level2_2 refl refl all
every_h264_level test all level.Level3 = passes_at test levels 8 level.Level3 refl refl all
every_h264_level test all level.Level3_1 = passes_at test levels 9 level.Level3_1 refl refl all
every_h264_level test all level.Level3_2 = passes_at test levels 10 level.Level3_2 refl refl all
every_h264_level test all level.Level4 = passes_at test levels 11 level.Level4 refl refl all
every_h264_level test all level.Level4_1 = passes_at test levels 12 level.Level4_1 refl refl all
every_h264_level test all level.Level4_2 = passes_at test levels 13 level.Level4_2 refl refl all
every_h264_level test all level.Level5 = passes_at test levels 14 level.Level5 refl refl all
every_h264_level test all level.Level5_1 = passes_at test levels 15 level.Level5_1 refl refl all
every_h264_level test all level.Level5_2 = passes_at test levels 16 level.Level5_2 refl refl all

-- whether two truths are the same
abbrev agree : Bool → Bool → Bool
agree true y = y
agree false true = false
agree false false = true

-- those that agree are the same
agree_is : (x y : Bool) → agree x y ≡ true → x ≡ y
agree_is true true h = refl
agree_is false false h = refl
agree_is true false h = absurd cc
agree_is false true h = absurd cc

-- two tests of pairs of levels are the same where they are at each two levels of the list
pub same_test : (one other : H264LevelIdc → H264LevelIdc → Bool) →
    list_all (λ a. list_all (λ b. agree (one a b) (other a b)) levels) levels ≡ true →
    (a b : H264LevelIdc) → one a b ≡ other a b
same_test one other all a b =
    agree_is (one a b) (other a b) (every_h264_level (λ y. agree (one a y) (other a y))
    (every_h264_level (λ x. list_all (λ y. agree (one x y) (other x y)) levels) all a) b)
