-- Each line of the table, by computing.
use Rattle.cases.proofs.boundary_cases.Goals as goal
use Rattle.cases.specs.Cases.{EveryLineHolds}

pub returns-clause-every_line_holds : goal.returns-clause-every_line_holds
unfolding EveryLineHolds
returns-clause-every_line_holds c = assumption
