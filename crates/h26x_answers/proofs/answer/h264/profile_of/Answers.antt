use Rattle.std.proofs.Common.{◌≡◌, Option, Some, None, refl, sym, ap, ◌∙◌}
use Rattle.std.specs.Option.{option_map}
use Rattle.h26x_profile.specs.H264 as table
use Rattle.h26x_profile.specs.ProfileLevel.{ProfileLevel}
use Rattle.h26x_profile.specs.declared.h264.H264Profile.{H264Profile}
use Rattle.h26x_profile.specs.declared.h264.H264LevelIdc.{H264LevelIdc}
use Rattle.h26x_answers.proofs.answer.h264.profile_of.Goals as goal

-- the profile of what is known at a level
back : (found : Option H264Profile) (level : H264LevelIdc)
    → option_map (λ (k : ProfileLevel H264Profile H264LevelIdc). k.profile) (option_map (λ p. record { profile = p; level = level }) found) ≡ found
back (Some p) level = refl
back None level = refl

abbrev profile_in : Option (ProfileLevel H264Profile H264LevelIdc) → Option H264Profile
profile_in known = option_map (λ (k : ProfileLevel H264Profile H264LevelIdc). k.profile) known

pub returns-in-Some : goal.returns-in-Some
returns-in-Some c =
    ap Some c.profile.ensures ∙ sym (ap profile_in c.in-Some.is) ∙ ap profile_in c.new.ensures ∙ back (table.profile_of c.args.idc c.args.flags) _

pub returns-in-None : goal.returns-in-None
returns-in-None c =
    sym (ap profile_in c.in-None.is) ∙ ap profile_in c.new.ensures ∙ back (table.profile_of c.args.idc c.args.flags) _
