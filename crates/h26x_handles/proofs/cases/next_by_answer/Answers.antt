use Rattle.std.proofs.Common.{◌≡◌, Some}
use Rattle.h26x_handles.proofs.UnitCaseLemmas.{written_of, left_of, none_of}
use Rattle.h26x_handles.proofs.cases.next_by_answer.Goals as goal

pub returns-clause-written : goal.returns-clause-written
returns-clause-written c = λ now it new to new_to told given. written_of now it new to new_to told given.unit given.is_next given.stands given.put given.answered

pub returns-clause-no_room : goal.returns-clause-no_room
returns-clause-no_room c = λ now it new to new_to told given. left_of now it new to new_to told given.unit given.is_next given.stands given.put given.answered

pub returns-clause-none : goal.returns-clause-none
returns-clause-none c = λ now it new to new_to given. none_of now it new to new_to given.unit given.is_next given.stands given.put given.answered

pub returns-clause-kept : goal.returns-clause-kept
returns-clause-kept c = λ now codec r new unit kept next. (let same : Some unit ≡ Some kept = next.0 in cc, next.1)

pub returns-clause-received : goal.returns-clause-received
returns-clause-received c = λ now codec r new unit next. next
