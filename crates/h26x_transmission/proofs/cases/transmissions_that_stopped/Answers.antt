use Rattle.std.proofs.Common.{true, [], ◌∷◌, inr, refl}
use Rattle.h26x_model.specs.Send.Calls.{fresh_call}
use Rattle.h26x_transmission.proofs.cases.transmissions_that_stopped.Goals as goal

pub returns-clause-stopped : goal.returns-clause-stopped
returns-clause-stopped c = inr (
  record {
    made = true ∷ [];
    call = fresh_call 9 (0x60 ∷ []);
    marks = (λ none. refl, tt);
    place = refl;
    stands = refl;
    over = record {
      taken = [];
      left = (0x60 ∷ []) ∷ [];
      front = refl;
      work = refl;
      read = tt;
      unfinished = λ none. absurd cc;
      cause = inr (0x60 ∷ [], [], refl, refl);
    };
  },
  λ same carried short. let not = carried.1.0 in absurd cc,
)
