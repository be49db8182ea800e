use Rattle.std.proofs.Common.{◌≡◌, drop}
use Rattle.waiting.specs.Chains.{chain_from}
use Rattle.waiting.proofs.chain.is_chain_of_waits.Given as goal

-- The waiter and the parties that are left are a chain just if the whole is.
abbrev pub invariant-loop-blocker : goal.invariant-loop-blocker
invariant-loop-blocker g l =
    let may = g.W.WaitingRule.may l.rule in
    chain_from may l.waiter (drop l.blocker-index l.rest) ≡ chain_from may l.first l.rest
