-- The book's report is what the answers told, over every run.
use Rattle.std.proofs.Common.{◌≡◌, ℕ, zero, suc, ◌+◌, leb, List, [], ◌∷◌, length, replicate, Some, None, Ok, Err, Option, Result, sym, refl, ap, ◌∙◌, arith}
use Rattle.schedule.proofs.Admitting.{admitted_ok}
use Rattle.schedule.specs.Books.{Book, book_begin, fetched, fresh_book, granted_cell}
use Rattle.schedule.specs.Cells.{record_of}
use Rattle.schedule.specs.Counting.{joined, left}
use Rattle.schedule.specs.declared.answer.Refusal.{Refusal}
use Rattle.schedule.specs.declared.counters.Closing.TheVariants as closing
use Rattle.schedule.specs.declared.counters.Counters.{Counters}
use Rattle.schedule.specs.declared.counters.Report.{Report}
use Rattle.schedule.specs.declared.job.Job.{Job}
use Rattle.schedule.specs.declared.job.Seated.{Seated}
use Rattle.schedule.specs.declared.job.Kind.TheVariants as kind
use Rattle.schedule.specs.declared.request.Event.TheVariants as event
use Rattle.schedule.specs.declared.request.Request.{Request}
use Rattle.schedule.specs.declared.request.Request.TheVariants as request
use Rattle.schedule.specs.declared.verdict.Source.{Source}
use Rattle.schedule.specs.declared.verdict.Source.TheVariants as source
use Rattle.schedule.specs.Verdicts.{May, Verdict, read_verdict, write_verdict}
use Rattle.schedule.specs.declared.verdict.Obstacle.TheVariants as obstacle
use Rattle.schedule.specs.Jobs.{closed_rows, find, holds, job_in, vacant}
use Rattle.schedule.specs.States.{State, report_of, waiting}
use Rattle.schedule.specs.Steps.{Begun, admitted, begin_in, begin_with, end_on, ending, give_up_in, group_size_step, read_by, read_on, write_by, write_on}
use Rattle.std.proofs.lemmas.Bool.{cond_both}
use Rattle.std.specs.List.{slice_get}
use Rattle.theorem.proofs.EveryRun.{run_kept}
use Rattle.theorem.proofs.Kept.{Kept}
use Rattle.theorem.proofs.Requests.{ending_ok}
use Rattle.theorem.proofs.Tables.{found_vacant}
use Rattle.theorem.proofs.Tallies.{Figures, Tallied, Tally, begins, closes, figures_of, told_figures, waited}
use Rattle.theorem.specs.Histories.{Effect, History, effect, effects, is_open, leaves, was_rejected}
use Rattle.theorem.specs.Reports.{ReportsWhatWasTold, tickets_given, told_report}
use Rattle.theorem.specs.Theorem.{Run, asked, opened, step}
use Rattle.waiting.specs.declared.class.Class.{Class}
use Rattle.waiting.specs.Numbers.{class_of}

-- a begin gives the next ticket, and changes no other figure
joined_figures : (n : Counters) → (n.begun + 1, n.ended, n.given_up, n.rejected) ≡ figures_of (joined n)
joined_figures n = grind arith

module _ {C : Type 0} (may : May) (first : List C) (E : List (Effect C)) (b : Book C) (K : Kept may first E b) (T : Tallied E b.state) where
  abbrev s : State
  s = b.state

  -- ---- begin ----

  module _ (number : ℕ) where
    -- by this answer and state the tally stays; shut, so that they are compared as they are written
    Begins : Begun × State → Type 0
    Begins p = Tallied (effect (event.Begin number p.0) ∷ E) p.1

    refused : (why : Refusal) → Begins (Err why, s)
    unfolding Begins
    refused why = T

    by_row : (class : Class) (o : Option ℕ) → find vacant s.jobs ≡ o → Begins (begin_in s class o)
    unfolding Begins
    by_row class None e = T
    by_row class (Some row) e =
        let f = found_vacant s.jobs row e in
        let n = joined s.counters in
        let j : Job = record { ticket = n.begun; class = class; group = n.group; place = n.members; wait = None } in
        let figures = joined_figures s.counters in
        rw (← figures) (begins T row f.0 f.1 j (ap (λ (x : Figures). x.0) (sym figures)))

    by_class : (o : Option Class) → Begins (begin_with s o)
    by_class None = refused _
    by_class (Some class) = cond_both (leb 1000000 s.counters.begun) _ _ Begins (λ h. refused _) (λ h. by_row class (find vacant s.jobs) refl)

    begin_tallied : Tallied (effect (event.Begin number (book_begin b number).0) ∷ E) (book_begin b number).1.state
    unfolding Begins
    begin_tallied = by_class (class_of number)

  -- ---- read and write ----

  module _ (ticket cell : ℕ) where
    rejects : (row : ℕ) → find (holds ticket) s.jobs ≡ Some row
        → Tally (figures_of (left s.counters closing.Rejected)) (closed_rows s.jobs row ticket) (told_figures (leaves ticket was_rejected ∷ E)) (tickets_given E) (is_open (leaves ticket was_rejected ∷ E))
    rejects row f = closes T K.1.sound.apart ticket row f (λ n. (n.0, n.1, n.2, n.3 + 1)) refl

    -- what the store gives, if anything, tells nothing of open jobs
    read_fetched : (row : ℕ) (o : Option C) → Tallied (effect (event.Read ticket cell (granted_cell o)) ∷ E) (waiting s row None)
    read_fetched row None = waited T row None
    read_fetched row (Some c) = waited T row None

    read_decided : (row group : ℕ) → find (holds ticket) s.jobs ≡ Some row → (v : Verdict Source)
        → Tallied (effect (event.Read ticket cell (fetched b.main b.draft cell (read_by s row ticket group cell v).0)) ∷ E) (read_by s row ticket group cell v).1
    read_decided row group f (Ok source.Main) = read_fetched row (slice_get b.main cell)
    read_decided row group f (Ok source.Draft) = read_fetched row (slice_get b.draft cell)
    read_decided row group f (Err (obstacle.Wait blocker)) = waited T row _
    read_decided row group f (Err (obstacle.Reject why)) = rejects row f

    read_answered : (a : Result Seated Refusal) → admitted (length s.cells) s.jobs ticket cell kind.Read ≡ a
        → Tallied (effect (event.Read ticket cell (fetched b.main b.draft cell (read_on may s ticket cell a).0)) ∷ E) (read_on may s ticket cell a).1
    read_answered (Err why) e = T
    read_answered (Ok p) e =
        read_decided p.row p.job.group (admitted_ok (length s.cells) s.jobs ticket cell kind.Read p e).found
        (read_verdict may s.jobs (record_of s.cells cell) p.row p.job)

    write_decided : (c : C) (row : ℕ) → find (holds ticket) s.jobs ≡ Some row → (v : Verdict (Unit {0}))
        → Tallied (effect (event.Write ticket cell c (write_by s row ticket cell v).0) ∷ E) (write_by s row ticket cell v).1
    write_decided c row f (Ok u) = waited T row None
    write_decided c row f (Err (obstacle.Wait blocker)) = waited T row _
    write_decided c row f (Err (obstacle.Reject why)) = rejects row f

    write_answered : (c : C) (a : Result Seated Refusal) → admitted (length s.cells) s.jobs ticket cell kind.Write ≡ a
        → Tallied (effect (event.Write ticket cell c (write_on may s ticket cell a).0) ∷ E) (write_on may s ticket cell a).1
    write_answered c (Err why) e = T
    write_answered c (Ok p) e =
        write_decided c p.row (admitted_ok (length s.cells) s.jobs ticket cell kind.Write p e).found
        (write_verdict may s.jobs (record_of s.cells cell) p.row p.job)

  -- ---- end, give up and group size ----

  end_answered : (ticket : ℕ) (a : Result Seated Refusal) → ending s.jobs ticket ≡ a
      → Tallied (effect (event.End ticket (end_on s ticket a).0) ∷ E) (end_on s ticket a).1
  end_answered ticket (Err why) e = T
  end_answered ticket (Ok p) e = closes T K.1.sound.apart ticket p.row (ending_ok s.jobs ticket p e).row_found (λ n. (n.0, n.1 + 1, n.2, n.3)) refl

  give_up_answered : (ticket : ℕ) (o : Option ℕ) → find (holds ticket) s.jobs ≡ o
      → Tallied (effect (event.GiveUp ticket (give_up_in s ticket o).0) ∷ E) (give_up_in s ticket o).1
  give_up_answered ticket None e = T
  give_up_answered ticket (Some row) e = closes T K.1.sound.apart ticket row e (λ n. (n.0, n.1, n.2 + 1, n.3)) refl

  group_size_answered : (size : ℕ) → Tallied E (group_size_step s size).1
  group_size_answered size =
      cond_both (leb size 0) _ _ (λ (p : Result ℕ Refusal × State). Tallied E p.1) (λ h. T)
      (λ h. cond_both (leb 1000001 size) _ _ (λ (p : Result ℕ Refusal × State). Tallied E p.1) (λ h. T) (λ h. T))

  -- ---- any request ----

  step_tallied : (q : Request C) → Tallied (effect (step may b q).0 ∷ E) (step may b q).1.state
  step_tallied (request.Begin class) = begin_tallied class
  step_tallied (request.Read ticket cell) = read_answered ticket cell _ refl
  step_tallied (request.Write ticket cell c) = write_answered ticket cell c _ refl
  step_tallied (request.End ticket) = end_answered ticket _ refl
  step_tallied (request.GiveUp ticket) = give_up_answered ticket _ refl
  step_tallied (request.GroupSize size) = group_size_answered size

-- ---- every run ----

module _ (may : May) {C : Type 0} where
  fresh_tallied : (first draft : List C) → Tallied {C = C} [] (fresh_book first draft).state
  fresh_tallied first draft = record { counted = refl; given = refl; known = λ i j at. let n = no_job 32 i in cc; as_many = refl }
    where
      no_job : (n i : ℕ) → job_in (replicate n None) i ≡ None
      no_job zero i = refl
      no_job (suc n) zero = refl
      no_job (suc n) (suc i) = no_job n i

  run_tallied : (first : List C) (h : History C) (b : Book C) → Run may first h b → Tallied (effects h) b.state
  run_tallied first h b (opened draft) = fresh_tallied first draft
  run_tallied first h b (asked {h = h'} {b = b'} r q) = step_tallied may first (effects h') b' (run_kept may first h' b' r) (run_tallied first h' b' r) q

  -- the book's report is what the answers of the run told
  pub report_told : (first : List C) (h : History C) (b : Book C) → Run may first h b → report_of b.state ≡ told_report (effects h)
  report_told first h b r =
      let T = run_tallied first h b r in
      λ x. record { begun = (T.counted x).0; ended = (T.counted x).1; given_up = (T.counted x).2; rejected = (T.counted x).3; «open» = T.as_many x }

  -- so is any report that is the book's
  pub reports : (b : Book C) (r : Report) → r ≡ report_of b.state → ReportsWhatWasTold may b r
  reports b r e first h run = e ∙ report_told first h b run
