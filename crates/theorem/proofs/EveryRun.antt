-- The theorem: what holds of a book after every run, and on one request.
--
-- How the proof goes. It looks at a state through functions of the row of a job and the number of a cell (Invariant.View).
-- The invariant ties such a view and the two rows to the effects of the history (Invariant). Its core: each open job's reads
-- are right on the row that the serial execution of the groups up to its own leaves, so they are right if it ends now. Each
-- effect keeps the invariant (Granting, Closing, Opening, with Soundness and Executions), each change of the state is such an
-- effect on its view (StateGranting, StateClosing, StateOpening, with Tables and Shapes), each request is such a change
-- (Reading, Writing, Requests, with Blockers), and a fresh book has it (FreshBook). Waits go down an order of the open jobs,
-- so they make no cycle and stop (Cycles).
use lib.ListN.{length-replicate}
use Rattle.std.proofs.Common.{◌≡◌, ℕ, true, false, List, ◌∷◌, ◌++◌, refl}
use Rattle.schedule.proofs.Sizes.{sized_after}
use Rattle.schedule.specs.Books.{Book, size_over}
use Rattle.schedule.specs.Cells.{fresh_record}
use Rattle.schedule.specs.declared.job.Job.{Job}
use Rattle.schedule.specs.declared.request.Event.{Event}
use Rattle.schedule.specs.declared.request.Request.{Request}
use Rattle.schedule.specs.declared.request.Request.TheVariants as request
use Rattle.schedule.specs.Reachable.{Sized, after}
use Rattle.schedule.specs.Verdicts.{May}
use Rattle.theorem.proofs.Cycles.{following_open, no_cycle, someone_goes_on}
use Rattle.theorem.proofs.Executions.{ReadsRight, executes, right_append, row_after}
use Rattle.theorem.proofs.FreshBook.{fresh_kept}
use Rattle.theorem.proofs.Invariant.{WaitsForOpen, view}
use Rattle.theorem.proofs.Kept.{Kept}
use Rattle.theorem.proofs.Reading.{read_request_kept}
use Rattle.theorem.proofs.Requests.{begin_request_kept, end_request_kept, give_up_request_kept, group_size_request_kept}
use Rattle.theorem.proofs.Writing.{write_request_kept}
use Rattle.theorem.specs.Histories.{Access, Effect, History, accesses_of, effect, effects, group_of, is_open, latest_group, serial_order, serial_up_to}
use Rattle.theorem.specs.Theorem.{EveryRun, Executes, KeepsSerializable, Run, SerializableWithoutDeadlock, asked, opened, step}
use Rattle.waiting.specs.declared.party.Party.{Party}

-- ---- runs of any waiting rule ----

module _ {C : Type 0} (may : May) (first : List C) where
  step_after : (b : Book C) (q : Request C) → after may b q ≡ (step may b q).1
  step_after b (request.Begin class) = refl
  step_after b (request.Read ticket cell) = refl
  step_after b (request.Write ticket cell c) = refl
  step_after b (request.End ticket) = refl
  step_after b (request.GiveUp ticket) = refl
  step_after b (request.GroupSize size) = refl

  run_sized : (h : History C) (b : Book C) → Run may first h b → Sized b
  run_sized h b (opened draft) = length-replicate (size_over first draft) fresh_record
  run_sized h b (asked {h = h'} {b = b'} r q) = rw (step_after b' q) at (sized_after may b' q (run_sized h' b' r))

  step_kept : (E : List (Effect C)) (b : Book C) → Kept may first E b → Sized b → (q : Request C)
      → Kept may first (effect (step may b q).0 ∷ E) (step may b q).1
  step_kept E b K z (request.Begin class) = begin_request_kept may first E b K class
  step_kept E b K z (request.Read ticket cell) = read_request_kept may first E b K z ticket cell
  step_kept E b K z (request.Write ticket cell c) = write_request_kept may first E b K z ticket cell c
  step_kept E b K z (request.End ticket) = end_request_kept may first E b K ticket
  step_kept E b K z (request.GiveUp ticket) = give_up_request_kept may first E b K ticket
  step_kept E b K z (request.GroupSize size) = group_size_request_kept may first E b K size

  pub run_kept : (h : History C) (b : Book C) → Run may first h b → Kept may first (effects h) b
  run_kept h b (opened draft) = fresh_kept may first draft
  run_kept h b (asked {h = h'} {b = b'} r q) = step_kept (effects h') b' (run_kept h' b' r) (run_sized h' b' r) q

  -- The open jobs too: once the ended jobs of the groups up to its own are executed in the serial order, each read granted
  -- to an open job gives the cell that it gave. So its reads would be right if it ended now.
  pub open_reads_right : (h : History C) (b : Book C) → Run may first h b → (t : ℕ) → is_open (effects h) t ≡ true
      → (row : List C) × Executes first (serial_up_to (effects h) (group_of (effects h) t) ++ accesses_of (effects h) t) row
  open_reads_right h b r t e =
      let E = effects h in
      let I = (run_kept h b r).1 in
      let f = I.has_row t e in
      let j : Job = f.1 in
      let A : List (Access C) = serial_up_to E j.group ++ accesses_of E j.ticket in
      let right : ReadsRight first A =
      right_append (serial_up_to E j.group) (accesses_of E j.ticket) first (I.serial_right j.group) (I.job_right f.0 j f.2) in
      rw (← f.3, I.told_group f.0 j f.2) (row_after first A, executes A first (row_after first A) right refl)

  -- Every wait was for a job that was open then. So if all open jobs ask and none is granted, rejected or refused, each waits
  -- for an open job; by the theorem this cannot be.
  pub waits_are_for_open : (h : History C) (b : Book C) → Run may first h b → WaitsForOpen (effects h)
  waits_are_for_open h b r = (run_kept h b r).1.waits_open

-- ---- the theorem ----

module _ (may : May) (irreflexive : (a : Party) → may a a ≡ false) (transitive : (a b c : Party) → may a b ≡ true → may b c ≡ true → may a c ≡ true) where
  -- after every run
  pub every_run : {C : Type 0} (first : List C) (h : History C) (b : Book C) → Run may first h b
      → SerializableWithoutDeadlock first (effects h) b.main
  every_run first h b r =
      let E = effects h in
      let I = (run_kept may first h b r).1 in
      record {
        serializable = executes (serial_order E) first b.main (I.serial_right (latest_group E)) I.main_is;
        no_cycle = no_cycle may irreflexive transitive first E (view b.state) b.main b.draft I;
        someone_goes_on = λ t e.
            (following_open E 31 t e, someone_goes_on may irreflexive transitive first E (view b.state) b.main b.draft I t e);
      }

  pub of_every_run : EveryRun may
  of_every_run C first h b r = every_run first h b r

  after_step : {C : Type 0} (b : Book C) (q : Request C) → KeepsSerializable may (step may b q).0 b (step may b q).1
  after_step b q first h r = let s = asked r q in (every_run first h b r, s, every_run first _ _ s)

  -- on one request
  pub keeps_serializable : {C : Type 0} (b : Book C) (q : Request C) (e : Event C) (b' : Book C) → step may b q ≡ (e, b')
      → KeepsSerializable may e b b'
  keeps_serializable {C = C} b q e b' p = rw p at (after_step b q)
