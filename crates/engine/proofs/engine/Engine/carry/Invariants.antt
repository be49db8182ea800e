use Rattle.std.proofs.Common.{◌≡◌}
use Rattle.engine.proofs.engine.Engine.carry.Given as goal
use Rattle.schedule.specs.Books.{book, carried}
use Rattle.schedule.specs.Reachable.{Sized}

abbrev pub invariant-loop-cell : goal.invariant-loop-cell
invariant-loop-cell g l =
    let at = l.initial.self-inside in
    record {
      main_row : g.M.Store.row l.self-inside.main ≡ carried l.cell at.ledger.cells l.row (g.M.Store.row at.main) (g.D.Store.row at.draft);
      draft_kept : l.self-inside.draft ≡ at.draft;
      ledger_kept : l.self-inside.ledger ≡ at.ledger;
      rule_kept : l.self-inside.rule ≡ at.rule;
      sized : Sized (book (g.M.Store.row l.self-inside.main) (g.D.Store.row l.self-inside.draft) l.self-inside.ledger);
    }
