use Rattle.numerals.proofs.Scanning.{Written}
use Rattle.numerals.proofs.scan.digits.Given as goal

abbrev pub invariant-loop-count : goal.invariant-loop-count
invariant-loop-count l = Written l.range l.text l.count l.written
