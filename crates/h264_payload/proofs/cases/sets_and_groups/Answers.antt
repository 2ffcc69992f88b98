use Rattle.std.proofs.Common.{[], ◌∷◌, refl}
use Rattle.h26x_model.specs.Send.WaitingSets.{NoSet, OneSet, entries_with_limit}
use Rattle.h26x_model.proofs.GroupLemmas.{split_is}
use Rattle.h264_payload.specs.H264.{h264}
use Rattle.h264_payload.proofs.cases.sets_and_groups.Goals as goal

pub returns-clause-both : goal.returns-clause-both
returns-clause-both c = record { vps = NoSet; sps = OneSet _ refl; pps = OneSet _ refl }

pub returns-clause-none : goal.returns-clause-none
returns-clause-none c = record { vps = NoSet; sps = NoSet; pps = NoSet }

pub returns-clause-groups : goal.returns-clause-groups
returns-clause-groups c = split_is h264
    (entries_with_limit 9 ((0x65 ∷ []) ∷ (0x68 ∷ []) ∷ (0x67 ∷ []) ∷ (0x09 ∷ []) ∷ (0x65 ∷ []) ∷ (0x67 ∷ []) ∷ (0x61 ∷ []) ∷ []))
