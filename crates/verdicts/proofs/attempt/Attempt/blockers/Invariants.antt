use Rattle.std.proofs.Common.{◌≡◌, drop}
use Rattle.schedule.specs.Verdicts.{gathered, no_blockers}
use Rattle.verdicts.proofs.attempt.Attempt.blockers.Given as goal

-- what is known so far, and the rows from i on, give the blockers of the whole
abbrev pub invariant-loop-i : goal.invariant-loop-i
invariant-loop-i g l =
    gathered (g.W.WaitingRule.may l.self.rule.now) l.self.cell.now l.self.seated.row l.self.seated.job 0 l.self.rows.now no_blockers
    ≡ gathered (g.W.WaitingRule.may l.self.rule.now) l.self.cell.now l.self.seated.row l.self.seated.job l.i (drop l.i l.self.rows.now) l.known
