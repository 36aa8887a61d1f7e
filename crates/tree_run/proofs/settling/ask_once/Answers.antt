use Rattle.std.proofs.Common.{subst, ◌∙◌}
use Rattle.seat_table.specs.Seats.{shape_of}
use Rattle.grace_cookie.proofs.Keeping.{same_keys, quiet_unraised}
use Rattle.tree_run.specs.Clients.{IsGood}
use Rattle.tree_run.proofs.Calls.{found_informed, informed_sound}
use Rattle.tree_run.proofs.settling.ask_once.Goals as goal

pub give_back-requires-clause-unraised : goal.give_back-requires-clause-unraised
give_back-requires-clause-unraised g c = quiet_unraised c.ask.new.seat.view (c.ask.ensures.quiet c.requires.quiet).view _

pub give_back-requires-clause-everybody : goal.give_back-requires-clause-everybody
give_back-requires-clause-everybody g c =
    let good = subst (IsGood (shape_of g.W.WaitWords.WAY c.args.table.now) c.args.seat.now) c.in_ok-held.was c.requires.good in
    same_keys c.in_ok-held.held c.ask.new.cookie c.ask.ensures.cookie ∙ good.3

pub returns-in-Over-clause-sound : goal.returns-in-Over-clause-sound
returns-in-Over-clause-sound g c = λ sound.
    let good = subst (IsGood (shape_of g.W.WaitWords.WAY c.args.table.now) c.args.seat.now) c.in_ok-held.was c.requires.good in
    informed_sound c.give_back.new.seat.view (c.give_back.ensures.informed
    (found_informed _ c.in_ok-held.held c.args.seat.now.view _ _ good.0 c.in-Over.ensures.asked))
