use Rattle.std.proofs.Common.{◌≡◌, ◌∷◌, Some, get_or, refl, arith, rules}
use Rattle.numerals.specs.declared.range.Range.TheVariants as range
use Rattle.request_line.proofs.Figures.{a_height, a_minus}
use Rattle.request_line.proofs.from_word.height.Goals as goal
use Rattle.request_line.specs.Words.{Begun}
use Rattle.std.proofs.lemmas.Grind.{common_steps}
use Rattle.std.proofs.lemmas.Int.{ints}

pub returns-in_ok-count-in-Some-eq45-default : goal.returns-in_ok-count-in-Some-eq45-default
returns-in_ok-count-in-Some-eq45-default c =
    let depth = c.in-Some-eq45-default.depth.now in
    let found = c.in_ok-count-in-Some-eq45-default in
    let s : Begun range.Depth depth (Some (found.count, found.size)) = search rules in
    let a = s.1.above s.0 in
    let b = s.1.below s.0 in
    let minus : c.args.text.now ≡ 45 ∷ depth = search rules in
    record { height_or_count = a_minus c.args.text.now depth _ found.count found.size _ minus refl s.0 s.1 (omega (arith, ints)) }

pub returns-in_ok-count-in_default : goal.returns-in_ok-count-in_default
returns-in_ok-count-in_default c =
    let found = c.in_ok-count-in_default in
    let s : Begun range.Height c.args.text.now (Some (found.count, found.size)) = search rules in
    let b = s.1.below s.0 in
    let no_minus : get_or c.args.text.now 0 0 ≡ 45 → ⊥ = grind (arith, common_steps) in
    record { height_or_count = a_height _ _ found.size _ no_minus s.0 s.1 (omega (arith, ints)) }
