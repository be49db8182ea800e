use Rattle.std.proofs.Common.{◌≡◌, ℕ, length, sym, refl, subst, arith}
use Rattle.numerals.proofs.scan.digits.Goals as goal
use Rattle.numerals.proofs.Scanning.{Written, Wrote, one_more, scanned, stopped}

pub returns-in_default : goal.returns-in_default
returns-in_default c =
    let so_far = c.loop-count.written in
    let s = scanned c.args.range c.args.text.now c.loop-count.count so_far c.loop-count.invariant
    (λ more. stopped c.args.range c.args.text.now more refl so_far c.loop-count.invariant c.in_default.ensures.next_number) in
    rw c.unwrap_or.ensures record { longest_front = s }

pub loop-count-preserved : goal.loop-count-preserved
loop-count-preserved c =
    let next = c.in-Some.ensures.next_number in
    subst (Wrote _ _ _) (sym next.1) (one_more _ _ c.loop-count-test.true refl c.loop-count.written c.loop-count.invariant next.0)

pub returns : goal.returns
returns c =
    let all : c.loop-count.count ≡ length c.args.text.now = omega arith in
    let s = scanned c.args.range c.args.text.now _ c.loop-count.written (subst (λ (n : ℕ). Written c.args.range c.args.text.now n c.loop-count.written) all c.loop-count.invariant) (λ more. absurd (omega arith)) in
    rw c.unwrap_or-2.ensures record { longest_front = s }
