use Rattle.std.proofs.Common.{ℕ, false, List, [], ◌∷◌, ◌++◌, arith}
use Rattle.std.proofs.lemmas.List.{length-append}
use Rattle.std.proofs.lemmas.List.Sorted.{length_permutation, IsPermutation-middle}
use Rattle.h26x_reorder.specs.Rtp.{RtpBody, rtp_body}
use Rattle.h26x_access_units.proofs.account_cases.strays_that_are_dropped.Goals as goal

pub returns-clause-joined : goal.returns-clause-joined
returns-clause-joined c =
    let b = rtp_body 0 false [] in
    record { joined = (3, b) ∷ []; each_once = IsPermutation-middle ((9, b) ∷ []) (3, b) [] }

pub returns-clause-left : goal.returns-clause-left
returns-clause-left c =
    let b = rtp_body 0 false [] in
    record { joined = []; each_once = IsPermutation-middle ((9, b) ∷ []) (3, b) [] }

pub returns-clause-untold : goal.returns-clause-untold
returns-clause-untold c = λ it.
    let stray : List (ℕ × RtpBody) = (3, rtp_body 0 false []) ∷ [] in
    let same = length_permutation [] (it.joined ++ stray) it.each_once in
    let parts = length-append it.joined stray in
    absurd (omega (arith, same, parts))
