use Rattle.std.proofs.Common.{◌+◌, ◌<◌, length, arith}
use Rattle.std.proofs.lemmas.List.{take_rest}
use Rattle.h26x_fmtp.proofs.UnitsLemmas.{piece_at, piece_alone}
use Rattle.h26x_fmtp.proofs.units.split_piece.Goals as goal

pub returns-in-Some-clause-pieces : goal.returns-in-Some-clause-pieces
returns-in-Some-clause-pieces c =
    let within : c.in-Some.place < length c.args.text.now = omega (arith, c.in-Some.ensures.0.high) in
    rw (take_rest c.args.text.now (c.in-Some.place + 1)) (piece_at c.args.mark c.args.text.now c.in-Some.place within c.in-Some.ensures)

pub returns-in-None-clause-pieces : goal.returns-in-None-clause-pieces
returns-in-None-clause-pieces c = piece_alone c.args.mark c.args.text.now c.in-None.ensures
