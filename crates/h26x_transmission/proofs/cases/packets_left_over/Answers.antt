use Rattle.std.proofs.Common.{◌≡◌, ℕ, List, [], ◌∷◌, ◌++◌, inr, refl, sym}
use Rattle.h26x_transmission.proofs.cases.packets_left_over.Goals as goal

pub returns-clause-refused : goal.returns-clause-refused
returns-clause-refused c = record {
  taken = (0x65 ∷ []) ∷ [];
  left = [] ∷ (0x61 ∷ []) ∷ [];
  front = refl;
  work = refl;
  read = (tt, tt);
  unfinished = λ none. absurd cc;
  cause = inr ([], (0x61 ∷ []) ∷ [], refl, refl);
}

-- nothing is left of nothing
none_left : (taken left : List (List ℕ)) → [] ≡ taken ++ left → left ≡ []
none_left [] left front = sym front
none_left (packet ∷ taken) left front = absurd cc

pub returns-clause-none_left : goal.returns-clause-none_left
returns-clause-none_left c = λ over. over.unfinished (none_left over.taken over.left over.front)
