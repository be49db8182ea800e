use Rattle.std.proofs.Common.{sym, ◌∙◌}
use Rattle.ledger.proofs.ledger.Ledger.write.Goals as goal
use Rattle.soundness.proofs.Grants.{readers_earlier}

pub grant_write-requires-clause-readers_earlier : goal.grant_write-requires-clause-readers_earlier
grant_write-requires-clause-readers_earlier g c =
    let a = c.attempt.result in
    let lent = c.attempt.ensures in
    rw (← lent.rows_lent, ← lent.record_lent, ← lent.same_job)
    (readers_earlier (g.W.WaitingRule.may a.rule.now) a.rows.now a.cell.now a.seated.row a.seated.job tt (sym c.write_verdict.ensures.verdict ∙ c.in-Ok.is)
    (rw (lent.rows_lent, lent.record_lent) lent.cell_sound))
