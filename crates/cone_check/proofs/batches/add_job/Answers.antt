use Rattle.cone_check.proofs.Batching.{put_is, workers_kept}
use Rattle.cone_check.proofs.batches.add_job.Goals as goal

pub returns-clause-jobs : goal.returns-clause-jobs
returns-clause-jobs c =
    put_is c.args.batches.now.items c.args.number c.args.job c.index_mut.result.now c.add.new.self c.requires c.index_mut.ensures.value c.in_ok-add.ensures.jobs

pub returns-clause-workers : goal.returns-clause-workers
returns-clause-workers c =
    workers_kept c.args.batches.now.items c.args.number c.index_mut.result.now c.add.new.self c.requires c.index_mut.ensures.value c.add.ensures.workers
