use Rattle.std.proofs.Common.{[], ◌∷◌, refl, arith}
use Rattle.h26x_core.proofs.PieceLemmas.{none_past}
use Rattle.h26x_core.proofs.cases.pieces.Goals as goal

pub returns-clause-past_the_end : goal.returns-clause-past_the_end
returns-clause-past_the_end c = none_past 0 2 (0x67 ∷ []) (omega arith)

pub returns-clause-empty_piece : goal.returns-clause-empty_piece
returns-clause-empty_piece c = λ none. none 0 0 [] [] refl refl
