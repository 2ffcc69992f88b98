use Rattle.std.proofs.Common.{◌≡◌, refl, Some, None, [], ◌∷◌}
use Rattle.h26x_access_units.specs.Reception.{none}
use Rattle.h26x_handles.proofs.UnitCaseLemmas.{either_none}
use Rattle.h26x_handles.proofs.cases.units_of_datagrams_given.Goals as goal

pub returns-clause-fits : goal.returns-clause-fits
returns-clause-fits c = λ now codec r other. record {
  unit = Some (record other { bytes = 1 ∷ 2 ∷ [] });
  is_next = (refl, refl);
  stands = refl;
  put = refl;
  answered = refl;
}

pub returns-clause-no_room : goal.returns-clause-no_room
returns-clause-no_room c = λ now codec r other. record {
  unit = Some (record other { bytes = 1 ∷ 2 ∷ [] });
  is_next = (refl, refl);
  stands = refl;
  put = refl;
  answered = refl;
}

pub returns-clause-none : goal.returns-clause-none
returns-clause-none c = λ now codec has_donl is_avc types config. record {
  unit = None;
  is_next = record {
    given = record {
      drained = _;
      taken = none;
      until = λ ended. either_none _ _ _ refl refl;
      unit_is = refl;
      stands = refl;
    };
    stands = refl;
  };
  stands = refl;
  put = refl;
  answered = refl;
}

pub returns-clause-kept : goal.returns-clause-kept
returns-clause-kept c = λ now codec r new unit kept next. (let same : Some unit ≡ Some kept = next.0 in cc, next.1)

pub returns-clause-received : goal.returns-clause-received
returns-clause-received c = λ now codec r new unit next. next
