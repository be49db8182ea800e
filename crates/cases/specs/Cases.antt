-- The boundary cases, each from a fresh book of eight cells of 0, under the rule by which the job with the lower ticket may
-- wait for the job with the higher. A line has the requests in order, each with the answer expected.
use Rattle.std.specs.Prelude.{List, [], ◌∷◌, ◌++◌}
use Rattle.cases.specs.Lines.{Holds, Line, begin_refused, begins, end_refused, ends, first_begins, gives, gives_up, granted, line, line_leaving, may_not_wait_for, no_such_cell, reads, size_refused, size_taken, too_late_for, waits_for, writes}
use Rattle.schedule.specs.declared.answer.Refusal.TheVariants.{BookFull, JobWaits, NoSuchClass}
use Rattle.std.specs.List.{AllByRecursion}

-- The table. Where a comment says that a request gets a number, it is that of the refusal or the rejection.
abbrev pub cases : List Line
cases =
    -- class 3 is the last one; 4 gets 1
    line (begins 3 (1, 1, 1) ∷ begin_refused 4 NoSuchClass ∷ [])
    -- with 32 jobs open a begin gets 3; after one gives up, it gets ticket 33, in the fifth group
    ∷ line (first_begins 32 ++ begin_refused 0 BookFull ∷ gives_up 7 ∷ begins 0 (33, 5, 1) ∷ [])
    -- cell 7 is the last one; 8 gets 5
    ∷ line (begins 0 (1, 1, 1) ∷ reads 1 7 (gives 0) ∷ reads 1 8 no_such_cell ∷ [])
    -- a job may not wait for one of its group with a lower ticket: it gets 8, with that ticket
    ∷ line (begins 0 (1, 1, 1) ∷ begins 0 (2, 1, 2) ∷ reads 1 0 (gives 0) ∷ writes 2 0 5 (may_not_wait_for 1) ∷ [])
    -- a job waits for one of its group with a higher ticket
    ∷ line (begins 0 (1, 1, 1) ∷ begins 0 (2, 1, 2) ∷ reads 2 0 (gives 0) ∷ writes 1 0 5 (waits_for 2) ∷ [])
    -- in groups of one job: an open write of a later group hinders no read, but a write gets 7, with that group
    ∷ line (size_taken 1 ∷ begins 0 (1, 1, 1) ∷ begins 0 (2, 2, 1) ∷ writes 2 0 9 granted ∷ reads 1 0 (gives 0) ∷ writes 1 0 4 (too_late_for 2) ∷ [])
    -- a read of a later group counts even after its job has given up: a write gets 7, with that group
    ∷ line (size_taken 1 ∷ begins 0 (1, 1, 1) ∷ begins 0 (2, 2, 1) ∷ reads 2 3 (gives 0) ∷ gives_up 2 ∷ writes 1 3 4 (too_late_for 2) ∷ [])
    -- a job reads what it wrote, and until its end the main store has what was there before
    ∷ line_leaving 5 0 (begins 0 (1, 1, 1) ∷ writes 1 5 5 granted ∷ reads 1 5 (gives 5) ∷ [])
    -- with its end the main store has what it wrote
    ∷ line_leaving 5 5 (begins 0 (1, 1, 1) ∷ writes 1 5 5 granted ∷ reads 1 5 (gives 5) ∷ ends 1 (1, 1) ∷ [])
    -- the group sizes are 1 to 1,000,000; 0 and 1,000,001 get 9
    ∷ line (size_refused 0 ∷ size_refused 1000001 ∷ size_taken 1 ∷ size_taken 1000000 ∷ [])
    -- a job does not hinder itself: it writes a cell that it has read
    ∷ line (begins 0 (1, 1, 1) ∷ reads 1 0 (gives 0) ∷ writes 1 0 5 granted ∷ [])
    -- the end of a job that waits gets 6; the wait is lifted when the job that it is for ends, and the waiter may end
    ∷ line (begins 0 (1, 1, 1) ∷ begins 0 (2, 1, 2) ∷ reads 2 0 (gives 0) ∷ writes 1 0 5 (waits_for 2) ∷ end_refused 1 JobWaits ∷ ends 2 (1, 1) ∷ ends 1 (1, 2) ∷ [])
    ∷ []

-- each line of the table holds
unfoldable pub EveryLineHolds : Type 0
EveryLineHolds = AllByRecursion Holds cases
