use Rattle.std.proofs.Common.{rules}
use Rattle.h26x_receiver.specs.Sequenced.{is_run_kept}
use Rattle.h26x_handles.proofs.SkipLemmas.{depacketizer_is}
use Rattle.h26x_handles.proofs.sequenced.SequencedEndpoint.skip.Goals as goal

-- the run stays, or is given up
pub returns-clause-after : goal.returns-clause-after
returns-clause-after c =
    let is = depacketizer_is (is_run_kept c.self.inside.receiver.expected c.args.sequence) _ c.self.inside.receiver.depacketizer c.skip.ensures.kept c.skip.ensures.given_up in
    search rules
