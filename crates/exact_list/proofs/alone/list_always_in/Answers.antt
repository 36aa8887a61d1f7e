use Rattle.std.proofs.Common.{inl, inr, subst, ◌∙◌}
use Rattle.std.proofs.lemmas.Result.{IfErr-weaker, IfOk-weaker}
use Rattle.exact_list.specs.Tries.{EndAs, HoldsTo, IsRecent}
use Rattle.exact_list.specs.declared.listing.Listed.TheVariants.{Whole}
use Rattle.exact_list.proofs.Trying.{recent_later}
use Rattle.exact_list.proofs.alone.list_always_in.Goals as goal

pub returns-in-Whole-clause-came : goal.returns-in-Whole-clause-came
returns-in-Whole-clause-came g c = let t = c.in_ok-listed.ensures.tried in
    inl (record { tries = t.0; tried = t.1; stood = subst (λ r. EndAs r c.args.tries t.0) c.in-Whole.is t.2 })

pub returns-in-Part-clause-came : goal.returns-in-Part-clause-came
returns-in-Part-clause-came g c = let t = c.in_ok-listed.ensures.tried in
    inl (record { tries = t.0; tried = t.1; stood = subst (λ r. EndAs r c.args.tries t.0) c.in-Part.is t.2 })

pub returns-in-Moved-clause-came : goal.returns-in-Moved-clause-came
returns-in-Moved-clause-came g c =
    let t = c.in_ok-listed.ensures.tried in
    let ends = subst (λ r. EndAs r c.args.tries t.0) c.in-Moved.is t.2 in
    IfOk-weaker c.list_alone.result _ _ (λ answer. IfOk-weaker answer _ _ (λ exact alone. inr (record {
      tries = t.0;
      failed = c.list_in.new.seat.view;
      tried = t.1;
      all = ends.0;
      moved = ends.1;
      alone = alone;
    }))) c.list_alone.ensures.alone

pub returns-in-Moved-clause-busy : goal.returns-in-Moved-clause-busy
returns-in-Moved-clause-busy g c =
    let t = c.in_ok-listed.ensures.tried in
    let ends = subst (λ r. EndAs r c.args.tries t.0) c.in-Moved.is t.2 in
    IfOk-weaker c.list_alone.result _ _ (λ answer. IfErr-weaker answer _ _ (λ _ lost. record {
      tries = t.0;
      failed = c.list_in.new.seat.view;
      tried = t.1;
      all = ends.0;
      moved = ends.1;
      lost = lost;
    })) c.list_alone.ensures.busy

pub returns-in-Whole-clause-holds : goal.returns-in-Whole-clause-holds
returns-in-Whole-clause-holds g c = subst (λ r. HoldsTo g.D.Direction.SIDE r c.args.keys c.list_in.new.seat.view.seen c.list_in.new.page) c.in-Whole.is
    c.in_ok-listed.ensures.holds

pub returns-in-Part-clause-holds : goal.returns-in-Part-clause-holds
returns-in-Part-clause-holds g c = subst (λ r. HoldsTo g.D.Direction.SIDE r c.args.keys c.list_in.new.seat.view.seen c.list_in.new.page) c.in-Part.is
    c.in_ok-listed.ensures.holds

pub returns-in-Whole-clause-recent : goal.returns-in-Whole-clause-recent
returns-in-Whole-clause-recent g c = subst (λ r. IsRecent r c.args.seat.now.view.seen c.list_in.new.seat.view.seen) c.in-Whole.is
    c.in_ok-listed.ensures.recent

pub returns-in-Part-clause-recent : goal.returns-in-Part-clause-recent
returns-in-Part-clause-recent g c = subst (λ r. IsRecent r c.args.seat.now.view.seen c.list_in.new.seat.view.seen) c.in-Part.is
    c.in_ok-listed.ensures.recent

pub returns-in-Moved-clause-recent : goal.returns-in-Moved-clause-recent
returns-in-Moved-clause-recent g c = IfOk-weaker c.list_alone.result _ _ (λ answer. IfOk-weaker answer _ _ (λ exact recent. recent_later
    (Whole exact.front) c.args.seat.now.view.seen c.list_in.new.seat.view.seen c.list_alone.new.seat.view.seen c.in_ok-listed.ensures.tried.1.seen recent))
    c.list_alone.ensures.recent

pub returns-in-Moved-clause-tickets : goal.returns-in-Moved-clause-tickets
returns-in-Moved-clause-tickets g c = c.list_alone.ensures.tickets ∙ c.list_in.ensures.tickets
