use Rattle.std.proofs.Common.{◌≡◌, drop}
use Rattle.engine.proofs.engine.Engine.submit_all.Given as goal
use Rattle.engine.specs.Contents.{BookSound}
use Rattle.theorem.specs.Calls.{after_all}

abbrev pub invariant-loop-request : goal.invariant-loop-request
invariant-loop-request g l =
    let may = g.W.WaitingRule.may l.initial.self.rule in
    record {
      requests_left : after_all may l.initial.self.book l.requests ≡ after_all may l.self.book (drop l.request-index l.requests);
      rule_kept : l.self.rule ≡ l.initial.self.rule;
      sound : BookSound g.M.Store.row g.D.Store.row l.self;
    }
