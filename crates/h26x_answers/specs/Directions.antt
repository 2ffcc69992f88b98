-- Directions of media, and the parameters that are usable in each, of the end that writes them (RFC
-- 3264, sections 5.1 and 6.1; RFC 6184, section 8.2.2, table 6; RFC 7798, section 7.2.2, table 1; RFC
-- 9328, section 7.3.2.3, figure 11).
use Rattle.std.specs.Prelude.{ℕ, Bool, true, false, if◌then◌else◌, List, [], ◌∷◌, codes, Option, Some, None}
use Rattle.h26x_answers.specs.declared.direction.Direction.{Direction}
use Rattle.h26x_answers.specs.declared.direction.Direction.TheVariants.{SendRecv, SendOnly, RecvOnly}
use Rattle.h26x_answers.specs.declared.direction.Usage.{Usage}
use Rattle.h26x_answers.specs.declared.direction.Usage.TheVariants.{Always, Receiving, Sending, Both}
use Rattle.h26x_answers.specs.declared.answer.Role.{Role}
use Rattle.h26x_answers.specs.declared.answer.Role.TheVariants as role

-- who sends alone answers who receives alone
abbrev pub opposite : Direction → Direction
opposite SendRecv = SendRecv
opposite SendOnly = RecvOnly
opposite RecvOnly = SendOnly

-- a column of the tables each: both ways, one that sends alone, and one that receives alone
abbrev pub is_usable : Direction → Usage → Bool
is_usable SendRecv usage = true
is_usable SendOnly Always = true
is_usable SendOnly Receiving = false
is_usable SendOnly Sending = true
is_usable SendOnly Both = false
is_usable RecvOnly Always = true
is_usable RecvOnly Receiving = true
is_usable RecvOnly Sending = false
is_usable RecvOnly Both = false

-- what stands in place of a value that isn't usable: nothing; and of an end in interleaved mode that
-- sends no units, that it sends none out of order (0)
abbrev pub unsent : Bool → Role → Option (List ℕ)
unsent false role = None
unsent true role.Configuration = None
unsent true role.Compared = None
unsent true role.Level = None
unsent true role.HighestLevel = None
unsent true role.Asymmetry = None
unsent true role.Reordering = Some (codes "0")
unsent true role.Sets = None
unsent true role.LevelSets = None
unsent true role.Own = None
unsent true role.OperationPoint = None

abbrev pub usable_value : Direction → Bool → Role → Usage → Option (List ℕ) → Option (List ℕ)
usable_value direction reorders role usage value =
    if is_usable direction usage then value else unsent reorders role

-- the values of a format that are usable in a direction, row by row
abbrev pub usable_values : Direction → Bool → List Role → List Usage → List (Option (List ℕ)) →
    List (Option (List ℕ))
usable_values direction reorders [] usages values = []
usable_values direction reorders (role ∷ roles) [] values = []
usable_values direction reorders (role ∷ roles) (usage ∷ usages) [] = []
usable_values direction reorders (role ∷ roles) (usage ∷ usages) (value ∷ values) =
    usable_value direction reorders role usage value
    ∷ usable_values direction reorders roles usages values
