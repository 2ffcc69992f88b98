use Rattle.std.proofs.Common.{[], ◌∷◌, refl, lit<, lit≤}
use Rattle.h26x_cases.proofs.receiver.a_delivery_of_any_sender.Goals as goal

pub returns-clause-is : goal.returns-clause-is
returns-clause-is c = record {
  each = refl;
  within = (lit< tt, (lit< tt, (lit< tt, (lit< tt, tt))));
  near = (tt, ((lit< tt, lit≤ tt), ((lit< tt, lit≤ tt), ((lit< tt, lit≤ tt), tt))));
}

pub returns-clause-written : goal.returns-clause-written
returns-clause-written c = λ out told those.
    let it = those
    ((0x7c ∷ 0x85 ∷ 0x01 ∷ []) ∷ (0x61 ∷ 0x05 ∷ []) ∷ (0x7c ∷ 0x05 ∷ 0x02 ∷ []) ∷ (0x7c ∷ 0x45 ∷ 0x03 ∷ []) ∷ (0x41 ∷ 0x06 ∷ []) ∷ [])
    65535 (0 ∷ 1 ∷ 3 ∷ 4 ∷ []) (returns-clause-is c) in
    it.0
