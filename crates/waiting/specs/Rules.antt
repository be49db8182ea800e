-- What the three rules answer, over the party that would wait and the one that blocks it. Assumes nothing.
use Rattle.std.specs.Prelude.{Bool, true, false, nat_lt}
use Rattle.waiting.specs.Table.{entry_of}
use Rattle.waiting.specs.declared.party.Party.{Party}
use Rattle.waiting.specs.declared.table.Decision.{Decision}
use Rattle.waiting.specs.declared.table.Decision.TheVariants.{No, Yes, Elder}

-- no job may wait
abbrev pub never : Party → Party → Bool
never waiter blocker = false

-- the lower ticket may wait for the higher
abbrev pub elder : Party → Party → Bool
elder waiter blocker = nat_lt waiter.ticket blocker.ticket

-- what an entry of the table decides of two parties
abbrev pub decided : Decision → Party → Party → Bool
decided No waiter blocker = false
decided Yes waiter blocker = true
decided Elder waiter blocker = elder waiter blocker

-- the table decides by the two classes
abbrev pub classes : Party → Party → Bool
classes waiter blocker = decided (entry_of waiter.class blocker.class) waiter blocker
