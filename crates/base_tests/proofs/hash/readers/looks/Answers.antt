use Rattle.std.proofs.Common.{◌≡◌, ◌≢◌, Some, refl, sym, ap, subst, ◌∙◌}
use Rattle.prcu_marks.specs.declared.mark.Why.{Why}
use Rattle.hash_core.specs.declared.view.View.{View}
use Rattle.hash_core.specs.Steps.{NeedsUnlock}
use Rattle.class_hash.specs.declared.bucket.Poll.{Poll}
use Rattle.class_hash.specs.declared.bucket.Poll.TheVariants.{Over, NotYet}
use Rattle.class_hash.specs.Calls.{HasFinished, MayPoll, Polls, polled}
use Rattle.class_hash.specs.Updates.{HasStepped}
use Rattle.class_hash.proofs.Updating.{not_stepped}
use Rattle.class_hash.proofs.Putting.{may_poll_still, waited_on}
use Rattle.base_tests.proofs.hash.readers.looks.Goals as goal

waited : (v w : View) (why : Why) → Polls v (NotYet why) w → HasStepped v w
waited v w why p = waited_on v v w why (not_stepped v) p

same_section : (v w : View) (poll : Poll) → Polls v poll w → w.section ≡ v.section
same_section v w Over p = ap (λ (z : View). z.section) p.rest
same_section v w (NotYet why) p = ap (λ (z : View). z.section) (waited v w why p).view

finished : (v w : View) (poll : Poll) → MayPoll v → Polls v poll w → HasFinished w
finished v w Over may p =
    let same : may.hold ≡ p.hold = (let z : Some may.hold ≡ Some p.hold = sym may.finished.hold_is ∙ p.is in cc) in
    let done : NeedsUnlock v p.hold = subst (NeedsUnlock v) same may.finished in (
      polled p.hold p.first,
      record {
        hold_is = ap (λ (z : View). z.hold) p.rest;
        taken = done.taken;
        unlinked = done.unlinked;
        moved = refl;
        even = ap (λ (z : View). z.commit) p.rest ∙ done.even;
      },
    )
finished v w (NotYet why) may p = let still = may_poll_still v w may (waited v w why p) in (still.hold, still.finished)

again : (v w : View) (poll : Poll) → MayPoll v → Polls v poll w → poll ≢ Over → MayPoll w
again v w Over may p ne = absurd (ne refl)
again v w (NotYet why) may p ne = may_poll_still v w may (waited v w why p)

pub returns-clause-section : goal.returns-clause-section
returns-clause-section c = same_section c.args.seat.now.view c.poll_class.new.seat.view c.poll_class.result c.poll_class.ensures.view

pub returns-clause-finished : goal.returns-clause-finished
returns-clause-finished c =
    finished c.args.seat.now.view c.poll_class.new.seat.view c.poll_class.result c.requires.lists c.poll_class.ensures.view

pub returns-clause-again : goal.returns-clause-again
returns-clause-again c =
    again c.args.seat.now.view c.poll_class.new.seat.view c.poll_class.result c.requires.lists c.poll_class.ensures.view
