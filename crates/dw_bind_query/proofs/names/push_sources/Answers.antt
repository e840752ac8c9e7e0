-- At the end nothing is left.
use Rattle.dw_bind_query.proofs.Gathering.{names-end}
use Rattle.dw_bind_query.proofs.names.push_sources.Goals as goal

pub returns : goal.returns
returns c = names-end c.args.sources.now c.loop-source.source-index _ _ c.loop-source-test.false c.loop-source.invariant
