-- The counters: how a begin and a closing change them.
use Rattle.std.specs.Prelude.{ℕ, ◌+◌, cond, nat_lt}
use Rattle.schedule.specs.declared.counters.Closing.{Closing}
use Rattle.schedule.specs.declared.counters.Closing.TheVariants as closing
use Rattle.schedule.specs.declared.counters.Counters.{Counters}

abbrev pub fresh_counters : Counters
fresh_counters = record { group = 1; members = 0; group_size = 8; begun = 0; ended = 0; given_up = 0; rejected = 0 }

-- a job begins: it joins the current group if that has had fewer members than the group size, else it opens the next
abbrev pub joined : Counters → Counters
joined n =
    cond (nat_lt n.members n.group_size)
    (record {
      group = n.group;
      members = n.members + 1;
      group_size = n.group_size;
      begun = n.begun + 1;
      ended = n.ended;
      given_up = n.given_up;
      rejected = n.rejected;
    })
    (record {
      group = n.group + 1;
      members = 1;
      group_size = n.group_size;
      begun = n.begun + 1;
      ended = n.ended;
      given_up = n.given_up;
      rejected = n.rejected;
    })

-- a job closes
abbrev pub left : Counters → Closing → Counters
left n closing.Ended =
    record {
      group = n.group;
      members = n.members;
      group_size = n.group_size;
      begun = n.begun;
      ended = n.ended + 1;
      given_up = n.given_up;
      rejected = n.rejected;
    }
left n closing.GaveUp =
    record {
      group = n.group;
      members = n.members;
      group_size = n.group_size;
      begun = n.begun;
      ended = n.ended;
      given_up = n.given_up + 1;
      rejected = n.rejected;
    }
left n closing.Rejected =
    record {
      group = n.group;
      members = n.members;
      group_size = n.group_size;
      begun = n.begun;
      ended = n.ended;
      given_up = n.given_up;
      rejected = n.rejected + 1;
    }

-- the group size from the next begin on
abbrev pub resized : Counters → ℕ → Counters
resized n size =
    record {
      group = n.group;
      members = n.members;
      group_size = size;
      begun = n.begun;
      ended = n.ended;
      given_up = n.given_up;
      rejected = n.rejected;
    }
