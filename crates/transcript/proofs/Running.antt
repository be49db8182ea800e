-- The run goes on by the requests that lines say.
use Rattle.std.proofs.Common.{◌≡◌, true, false, ℤ, sym, subst}
use Rattle.schedule.specs.Books.{Book}
use Rattle.schedule.specs.declared.request.Event.{Event}
use Rattle.schedule.specs.Verdicts.{May}
use Rattle.theorem.proofs.EveryRun.{every_run}
use Rattle.theorem.specs.Theorem.{KeepsSerializable}
use Rattle.transcript.specs.Answering.{RunsOn}
use Rattle.waiting.specs.declared.party.Party.{Party}

-- nothing happens
pub runs_still : (may : May) (b b' : Book ℤ) → ((a : Party) → may a a ≡ false) → ((a b c : Party) → may a b ≡ true → may b c ≡ true → may a c ≡ true) → b' ≡ b → RunsOn may b b'
unfolding RunsOn
runs_still may b b' irreflexive transitive e =
    subst (λ (x : Book ℤ). RunsOn may b x) (sym e) (λ first h r. (h, r, every_run may irreflexive transitive first h b r))

-- a request is answered
pub runs_by_request : (may : May) (event : Event ℤ) (b b' : Book ℤ) → KeepsSerializable may event b b' → RunsOn may b b'
unfolding RunsOn
runs_by_request may event b b' k first h r = let p = k first h r in (_, p.1, p.2)

-- one after the other
pub runs_both : {may later : May} (b b₁ b₂ : Book ℤ) → later ≡ may → RunsOn may b b₁ → RunsOn later b₁ b₂ → RunsOn may b b₂
unfolding RunsOn
runs_both b b₁ b₂ same s t first h r =
    let p = s first h r in
    subst (λ (m : May). RunsOn m b₁ b₂) same t first p.0 p.1
