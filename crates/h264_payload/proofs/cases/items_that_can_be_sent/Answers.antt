use Rattle.h264_payload.proofs.cases.items_that_can_be_sent.Goals as goal

pub returns-clause-not_read_back : goal.returns-clause-not_read_back
returns-clause-not_read_back c = λ read. let same = read 0 in absurd cc
