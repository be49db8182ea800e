-- The state that a ledger's tables are in.
use Rattle.ledger.specs.declared.ledger.Tables.{Tables}
use Rattle.schedule.specs.States.{State}

-- what the two tables hold, and the counters
abbrev pub state_of : Tables → State
state_of tables = record { jobs = tables.jobs; cells = tables.cells; counters = tables.counters }
