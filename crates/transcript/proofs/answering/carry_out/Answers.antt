use Rattle.transcript.proofs.Answered.{submitted_keeps}
use Rattle.transcript.proofs.answering.carry_out.Goals as goal
use Rattle.transcript.proofs.Running.{runs_by_request}

pub returns-in-Ok-clause-serializable_without_deadlock : goal.returns-in-Ok-clause-serializable_without_deadlock
returns-in-Ok-clause-serializable_without_deadlock g c =
    let step = c.submit.ensures in
    submitted_keeps _ c.args.line.now _ _ c.in-Ok.request c.submit.result step.event_and_book_after c.in-Ok.ensures.only_reading step.serializable_without_deadlock

pub returns-in-Ok-clause-run_goes_on : goal.returns-in-Ok-clause-run_goes_on
returns-in-Ok-clause-run_goes_on g c = runs_by_request _ c.submit.result _ _ c.submit.ensures.serializable_without_deadlock
