use Rattle.std.proofs.Common.{◌≡◌, true, false, Result, Ok, Err, OnOk, MatchResult, is_ok, refl, ap, ◌∙◌, arith, rules, append-nil, take_all}
use Rattle.schedule.specs.Verdicts.{May}
use Rattle.std.proofs.lemmas.Result.{err_from_is_err_and}
use Rattle.transcript.proofs.console.Console.feed.Goals as goal
use Rattle.transcript.proofs.Pieces.{goes_on, taken_both, taken_one_more}
use Rattle.transcript.proofs.Running.{runs_both, runs_still}
use Rattle.transcript.specs.Answering.{AnswersLine}

at_ok : {T E P : Type 0} (r : Result T E) → true ≡ is_ok r → OnOk r P → P
at_ok (Ok x) is h = h
at_ok (Err e) is h = absurd (cc is)

at_err : {T E : Type 0} (P : T → Type 0) (Q : E → Type 0) (r : Result T E) → false ≡ is_ok r → MatchResult r P Q → (e : E) × Q e
at_err P Q (Ok x) is h = absurd (cc is)
at_err P Q (Err e) is h = (e, h)

pub loop-i-init : goal.loop-i-init
loop-i-init g c =
    let rule = c.args.self.now.book.rule in
    record {
      taken = search rules;
      rule_kept = refl;
      sound = c.book_len.ensures.sound;
      run_goes_on = runs_still (g.W.WaitingRule.may rule) _ _ (g.met.W.WaitingRule.irreflexive rule) (g.met.W.WaitingRule.transitive rule) refl;
    }

pub loop-i-preserved : goal.loop-i-preserved
loop-i-preserved g c =
    let may = g.W.WaitingRule.may c.args.self.now.book.rule in
    let later = g.W.WaitingRule.may c.loop-i.self.book.rule in
    let inv = c.loop-i.invariant in
    let byte = c.take_byte.ensures in
    let same : later ≡ may = ap g.W.WaitingRule.may inv.rule_kept in
    record {
      taken =
          taken_one_more c.args.piece.now c.loop-i.i-counter (omega arith) (ap (λ (m : May). AnswersLine m) same) inv.taken
          (at_ok c.take_byte.result c.in_ok-map_err.ensures.variant byte.taken);
      rule_kept = byte.rule_kept ∙ inv.rule_kept;
      sound = byte.sound_kept inv.sound;
      run_goes_on = runs_both _ _ _ same inv.run_goes_on byte.serializable_without_deadlock;
    }

pub returns-in_err-map_err : goal.returns-in_err-map_err
returns-in_err-map_err g c =
    let may = g.W.WaitingRule.may c.args.self.now.book.rule in
    let later = g.W.WaitingRule.may c.loop-i.self.book.rule in
    let inv = c.loop-i.invariant in
    let byte = c.take_byte.ensures in
    let same : later ≡ may = ap g.W.WaitingRule.may inv.rule_kept in
    let failed = c.in_err-map_err.ensures.variant in
    let made = at_err _ _ c.take_byte.result failed c.in_err-map_err.ensures.cases in
    let is : c.in_err-map_err.field-0.0.taken ≡ c.loop-i.i-counter = search rules in
    let p = err_from_is_err_and c.from_residual.result c.from_residual.ensures.1 in
    let taken =
    rw append-nil at
    (taken_both (ap (λ (m : May). AnswersLine m) same) inv.taken (at_err _ _ c.take_byte.result failed byte.nothing_taken_on_error).1) in
    record {
      taken = rw (p.1, p.2, is) taken;
      transcript_so_far = rw (p.1, p.2, is) (goes_on taken);
      rule_kept = byte.rule_kept ∙ inv.rule_kept;
      sound_before = c.book_len.ensures.sound;
      sound = byte.sound_kept inv.sound;
      serializable_without_deadlock = runs_both _ _ _ same inv.run_goes_on byte.serializable_without_deadlock;
    }

pub returns-clause-transcript_so_far : goal.returns-clause-transcript_so_far
returns-clause-transcript_so_far g c =
    goes_on (rw (take_all c.loop-i.i-counter c.args.piece.now c.loop-i-test.false) at c.loop-i.invariant.taken)
