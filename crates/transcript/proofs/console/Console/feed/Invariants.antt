use Rattle.std.proofs.Common.{◌≡◌, take, vec_items}
use Rattle.transcript.proofs.console.Console.feed.Given as goal
use Rattle.transcript.specs.Consoles.{ConsoleRunsOn, ConsoleSound, TakesPiece}

abbrev pub invariant-loop-i : goal.invariant-loop-i
invariant-loop-i g l =
    record {
      taken : TakesPiece g.W.WaitingRule.may l.initial.self (take l.i-counter l.piece) (vec_items l.initial.out) l.self (vec_items l.out);
      rule_kept : l.self.book.rule ≡ l.initial.self.book.rule;
      sound : ConsoleSound g.M.Store.row g.D.Store.row l.self;
      run_goes_on : ConsoleRunsOn g.W.WaitingRule.may l.initial.self l.self;
    }
