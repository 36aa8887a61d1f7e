use Rattle.std.proofs.Common.{rules, ◌≡◌, ◌∙◌, ap, sym, subst, arith}
use lib.ListN.{get_or}
use Rattle.std.proofs.lemmas.Fn.{filter_same}
use Rattle.seat_table.specs.Seats.{AreApart, ListedAt, unlisted}
use Rattle.seat_table.proofs.Seats.{still_apart, next_leaves, apart_unlisted}
use Rattle.seat_table.proofs.listed.Listed.take_off.Goals as goal

pub invariant_of-self : goal.invariant_of-self
invariant_of-self c =
    let a = c.if-self-count.true in
    let b = c.len-count.ensures in
    (omega (arith, a, b), still_apart c.self.inside.gone c.self.inside.slots.items (c.self.invariant.1) (omega (arith, a, b)), c.self.invariant.2)

pub returns-then-as_slice-self-clause-slots : goal.returns-then-as_slice-self-clause-slots
returns-then-as_slice-self-clause-slots c =
    let a = c.if-self-count.true in
    let b = c.len-count.ensures in
    next_leaves c.self.inside.gone c.self.inside.slots.items (c.self.invariant.1) (omega (arith, a, b)) c.args.slot
    (ap (λ l. get_or l c.self.inside.gone 0) (sym c.as_slice.ensures.value) ∙ c.if-as_slice-self.true)
    ∙ ap (λ (l : ListedAt). unlisted c.args.slot l.slots) c.self.view_is

kept : (c : goal.After-retain) → c.retain.new.self.items ≡ unlisted c.args.slot c.args.self.now.slots
kept c = filter_same _ _ _ (λ x b f' called. search rules) _ _ c.retain.ensures.filtered
    ∙ ap (unlisted c.args.slot) c.move_up.ensures.items ∙ ap (λ (l : ListedAt). unlisted c.args.slot l.slots) c.self.view_is

pub invariant_of-self-2 : goal.invariant_of-self-2
invariant_of-self-2 c = (
  omega arith,
  subst AreApart (sym (kept c)) (apart_unlisted c.args.slot c.args.self.now.slots
      (subst (λ (l : ListedAt). AreApart l.slots) c.self.view_is (c.self.invariant.1))),
  (let a = c.retain.ensures.capacity in let b = c.move_up.ensures.capacity in let d = c.self.invariant.2 in omega (arith, a, b, d)),
)

pub returns-clause-slots : goal.returns-clause-slots
returns-clause-slots c = kept c
