use Rattle.std.proofs.Common.{◌≤◌, ◌++◌, length, decimal, ap, ◌∙◌, arith, length-append}
use Rattle.answer_line.proofs.Lengths.{at_most_10_digits, at_most_20_digits, bytes_of_end}
use Rattle.answer_line.proofs.line.LineEnd.put_digits.Goals as goal

pub write_digits-self-inside-requires : goal.write_digits-self-inside-requires
write_digits-self-inside-requires c =
    let inside : c.self.inside.at ≤ 64 = c.self.invariant in
    let left = bytes_of_end c.self.inside.bytes c.self.inside.at c.self.told c.self.view_is in
    let short = at_most_20_digits c.args.n (omega arith) in
    (omega (arith, inside, left, short, c.requires.room), omega (arith, inside, c.self.told))

pub returns-clause-at_most_20_digits : goal.returns-clause-at_most_20_digits
returns-clause-at_most_20_digits c =
    let short = at_most_20_digits c.args.n (omega arith) in
    let long = ap length (c.write_digits-self-inside.ensures.written ∙ ap (decimal c.args.n ++◌) c.self.view_is) in
    omega (arith, short, long, length-append (decimal c.args.n) c.args.self.now)

pub returns-clause-at_most_10_digits : goal.returns-clause-at_most_10_digits
returns-clause-at_most_10_digits c small =
    let short = at_most_10_digits c.args.n small in
    let long = ap length (c.write_digits-self-inside.ensures.written ∙ ap (decimal c.args.n ++◌) c.self.view_is) in
    omega (arith, short, long, length-append (decimal c.args.n) c.args.self.now)
