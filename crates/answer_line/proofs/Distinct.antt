-- An answer is one line, and two answers never share a line.
use Rattle.std.proofs.Common.{◌≡◌, ℕ, ◌^◌, ◌<◌, cond, eqb, List, drop, get_or, ℤ, pos, nat_abs, sym, refl, ap, ◌∙◌, arith, rules}
use Rattle.answer_line.proofs.Words.{byte_goes_on, first_number, height_goes_on, last_height, last_number, number_goes_on, numbers, two_numbers, words_go_on}
use Rattle.answer_line.specs.declared.answer.Answer.{Answer}
use Rattle.answer_line.specs.declared.answer.Answer.TheVariants as answer
use Rattle.answer_line.specs.Lines.{InRange, NoSharedLine, OneLine}
use Rattle.answer_line.specs.Text.{text}
use Rattle.schedule.specs.Answers.{refusal_number}
use Rattle.schedule.specs.declared.answer.Refusal.{Refusal}
use Rattle.schedule.specs.declared.answer.Refusal.TheVariants as refusal
use Rattle.schedule.specs.declared.answer.Rejection.TheVariants as rejection

-- ---- back from a text to its answer ----

abbrev why_not : ℕ → ℕ → Answer
why_not number detail =
    cond (eqb number 1) (answer.Refused refusal.NoSuchClass)
    (cond (eqb number 2) (answer.Refused refusal.TicketsSpent)
    (cond (eqb number 3) (answer.Refused refusal.BookFull)
    (cond (eqb number 4) (answer.Refused refusal.NoOpenJob)
    (cond (eqb number 5) (answer.Refused refusal.NoSuchCell)
    (cond (eqb number 6) (answer.Refused refusal.JobWaits)
    (cond (eqb number 7) (answer.Rejected (rejection.TooLate detail))
    (cond (eqb number 8) (answer.Rejected (rejection.MayNotWait detail))
    (cond (eqb number 9) (answer.Refused refusal.NoSuchGroupSize)
    (answer.NoRequest detail)))))))))

abbrev number_at : List ℤ → ℕ → ℕ
number_at zs k = nat_abs (get_or zs k (pos 0))

abbrev told : ℕ → List ℤ → Answer
told letter zs =
    cond (eqb letter 84) (answer.Begun (number_at zs 0) (number_at zs 1) (number_at zs 2))
    (cond (eqb letter 86) (answer.Cell (get_or zs 0 (pos 0)))
    (cond (eqb letter 75) answer.Written
    (cond (eqb letter 69) (answer.Ended (number_at zs 0) (number_at zs 1))
    (cond (eqb letter 85) answer.GivenUp
    (cond (eqb letter 76) (answer.GroupSize (number_at zs 0))
    (cond (eqb letter 89) (answer.Wait (number_at zs 0))
    (why_not (number_at zs 0) (number_at zs 1))))))))

-- the answer that a text tells, by its letter and by the numbers after the first space
abbrev told_by : List ℕ → Answer
told_by bytes = told (get_or bytes 0 0) (numbers (drop 2 bytes))

refusal_told : (why : Refusal) → why_not (refusal_number why) 0 ≡ answer.Refused why
refusal_told refusal.NoSuchClass = refl
refusal_told why = refl

refusal_short : (why : Refusal) → refusal_number why < 2 ^ 64
refusal_short refusal.NoSuchClass = omega arith
refusal_short why = omega arith

told_back : (a : Answer) → InRange a → told_by (text a) ≡ a
told_back (answer.Begun ticket group place) h = rw (first_number ticket _ (omega arith), two_numbers group place (omega arith) (omega arith))
told_back (answer.Cell height) h = rw (last_height height h)
told_back answer.Written h = refl
told_back (answer.Ended group end) h = rw (two_numbers group end (omega arith) (omega arith))
told_back answer.GivenUp h = refl
told_back (answer.GroupSize size) h = rw (last_number size (omega arith))
told_back (answer.Wait ticket) h = rw (last_number ticket (omega arith))
told_back (answer.Rejected (rejection.TooLate group)) h = rw (two_numbers 7 group (omega arith) (omega arith))
told_back (answer.Rejected (rejection.MayNotWait ticket)) h = rw (two_numbers 8 ticket (omega arith) (omega arith))
told_back (answer.Refused why) h = rw (two_numbers (refusal_number why) 0 (refusal_short why) (omega arith)) (refusal_told why)
told_back (answer.NoRequest place) h = rw (two_numbers 10 place (omega arith) h)

pub no_shared_line : NoSharedLine
no_shared_line a b p q e = sym (told_back a p) ∙ ap told_by e ∙ told_back b q

pub one_line : (a : Answer) → InRange a → OneLine a
one_line (answer.Refused why) h = let short = refusal_short why in search (rules, byte_goes_on, words_go_on, number_goes_on)
one_line a h = search (rules, byte_goes_on, words_go_on, number_goes_on, height_goes_on)
