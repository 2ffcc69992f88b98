use Rattle.std.proofs.Common.{◌≡◌, ℕ, List, [], ◌∷◌, ◌++◌, refl, sym, subst}
use Rattle.std.specs.List.{AllByRecursion}
use Rattle.h26x_core.specs.declared.error.PacketError.{PacketError}
use Rattle.h26x_core.specs.declared.error.PacketError.TheVariants.{NaluTypeIsNotHandled}
use Rattle.h26x_model.specs.Payload.Reading.{Refused, IsRead}
use Rattle.h264_payload.specs.H264.{h264}
use Rattle.h26x_transmission.proofs.cases.first_refused_packets.Goals as goal

pub returns-clause-third : goal.returns-clause-third
returns-clause-third c = record {
  before = (0x65 ∷ []) ∷ (0x61 ∷ []) ∷ [];
  packet = [];
  later = (0xff ∷ []) ∷ [];
  whole = refl;
  read = (tt, (tt, tt));
  refused = refl;
}

-- the empty packet stands before the other one
empty_first : (before : List (List ℕ)) (packet : List ℕ) (later : List (List ℕ)) →
    ([] ∷ (0xff ∷ []) ∷ []) ≡ before ++ packet ∷ later → AllByRecursion (λ packet. IsRead (h264.read packet)) before →
    h264.read packet ≡ Refused (NaluTypeIsNotHandled 31) → ⊥
empty_first [] packet later whole read refused =
    let same : [] ≡ packet = cc in
    let both = subst (λ x. h264.read x ≡ Refused (NaluTypeIsNotHandled 31)) (sym same) refused in absurd cc
empty_first (first ∷ before) packet later whole read refused =
    let same : [] ≡ first = cc in subst (λ x. IsRead (h264.read x)) (sym same) read.0

pub returns-clause-behind_another : goal.returns-clause-behind_another
returns-clause-behind_another c = λ it. empty_first it.before it.packet it.later it.whole it.read it.refused

-- the only packet is read
only_one : (before : List (List ℕ)) (packet : List ℕ) (later : List (List ℕ)) (error : PacketError) →
    ((0x65 ∷ []) ∷ []) ≡ before ++ packet ∷ later → h264.read packet ≡ Refused error → ⊥
only_one [] packet later error whole refused =
    let same : 0x65 ∷ [] ≡ packet = cc in
    let both = subst (λ x. h264.read x ≡ Refused error) (sym same) refused in absurd cc
only_one (first ∷ []) packet later error whole refused = absurd cc
only_one (first ∷ second ∷ before) packet later error whole refused = absurd cc

pub returns-clause-none : goal.returns-clause-none
returns-clause-none c = λ error it. only_one it.before it.packet it.later error it.whole it.refused
