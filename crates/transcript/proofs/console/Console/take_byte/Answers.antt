use Rattle.std.proofs.Common.{ap}
use Rattle.std.proofs.lemmas.Result.{on_err_weaker}
use Rattle.transcript.proofs.console.Console.take_byte.Goals as goal
use Rattle.transcript.proofs.LongLines.{byte_kept}

pub returns-clause-taken : goal.returns-clause-taken
returns-clause-taken g c =
    let pushed = c.try_push.ensures in
    byte_kept _ _ c.args.self.now.front.items _ c.try_push.new.self.items c.args.byte c.try_push.result c.if-byte-eq10.false pushed.variant pushed.ok (on_err_weaker c.try_push.result (ap (λ v. v.items)) pushed.err) pushed.full
