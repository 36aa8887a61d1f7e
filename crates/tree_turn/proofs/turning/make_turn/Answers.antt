use Rattle.std.proofs.Common.{ℕ, length, arith, [], ◌∷◌, ◌++◌, sym, ap, subst, ◌∙◌, append_assoc}
use Rattle.std.proofs.lemmas.Bool.{false≢true}
use Rattle.std.proofs.lemmas.List.{length-append}
use Rattle.core_state.specs.declared.view.Retired.{Retired}
use Rattle.core_state.specs.declared.view.View.{View}
use Rattle.core_state.specs.Links.{IsRetiredAt}
use Rattle.list_laws.specs.Counts.{times, IsIn}
use Rattle.seat_table.specs.Gains.{TellsApart, IsInformed}
use Rattle.seat_table.specs.Seats.{TableAt}
use Rattle.tree_turn.specs.Turns.{HasTurned}
use Rattle.tree_turn.proofs.Ended.{turned_once, turned_none, turned_advanced, refused_advanced, turned_quiet, refused_quiet, refused_listed, node_retired, child_retired, node_unlisted, child_unlisted, both_listed, few_listed, turned_free, no_lock}
use Rattle.tree_turn.proofs.turning.make_turn.Goals as goal

pub list_retired-requires-clause-retired : goal.list_retired-requires-clause-retired
list_retired-requires-clause-retired g c =
    let t = c.attempt.ensures.turned c.if-not-attempt.false in
    node_retired c.args.seat.now.listed t c.requires.recorded.three.child_apart c.requires.listed.each

pub list_retired-requires-clause-unlocked : goal.list_retired-requires-clause-unlocked
list_retired-requires-clause-unlocked g c =
    let t = c.attempt.ensures.turned c.if-not-attempt.false in
    no_lock c.attempt.new.seat.view c.args.turn.node (turned_free t c.requires.ready.unlocked)

pub list_retired-requires-clause-unlisted : goal.list_retired-requires-clause-unlisted
list_retired-requires-clause-unlisted g c =
    let t = c.attempt.ensures.turned c.if-not-attempt.false in
    λ told there. node_unlisted c.args.seat.now.listed t c.requires.recorded.three.child_apart c.requires.listed.each told.apart
    (subst (λ xs. IsIn xs c.args.turn.node) c.attempt.ensures.seat.1 there)

pub list_retired-requires-clause-few : goal.list_retired-requires-clause-few
list_retired-requires-clause-few g c =
    let few = few_listed c.args.seat.now c.args.table.now.room c.requires.listed c.requires.ready.room in
    let same = ap length c.attempt.ensures.seat.1 in
    let room = ap (λ (z : TableAt). z.room) (c.attempt.ensures.seat.0 ∙ c.requires.table) in
    omega (arith, few, same, room)

pub list_retired-requires-2-clause-retired : goal.list_retired-requires-2-clause-retired
list_retired-requires-2-clause-retired g c =
    let t = c.attempt.ensures.turned c.if-not-attempt.false in
    subst (λ (z : View). (i : ℕ) × (r : Retired) × IsRetiredAt z i r c.args.turn.child) (sym c.list_retired.ensures.seat.1)
    (child_retired c.args.seat.now.listed t c.requires.recorded.three.child_apart c.requires.listed.each)

pub list_retired-requires-2-clause-unlocked : goal.list_retired-requires-2-clause-unlocked
list_retired-requires-2-clause-unlocked g c =
    let t = c.attempt.ensures.turned c.if-not-attempt.false in
    no_lock c.list_retired.new.self.view c.args.turn.child
    (ap (λ (z : View). z.locks) c.list_retired.ensures.seat.1 ∙ turned_free t c.requires.ready.unlocked)

pub list_retired-requires-2-clause-unlisted : goal.list_retired-requires-2-clause-unlisted
list_retired-requires-2-clause-unlisted g c =
    let t = c.attempt.ensures.turned c.if-not-attempt.false in
    λ told there. child_unlisted c.args.seat.now.listed t c.requires.recorded.three.child_apart c.requires.listed.each
    (subst TellsApart c.list_retired.ensures.seat.1 told.apart) (subst (λ xs. IsIn xs c.args.turn.child)
    (c.list_retired.ensures.listed ∙ ap (λ xs. xs ++ c.args.turn.node ∷ []) c.attempt.ensures.seat.1) there)

pub list_retired-requires-2-clause-few : goal.list_retired-requires-2-clause-few
list_retired-requires-2-clause-few g c =
    let few = few_listed c.args.seat.now c.args.table.now.room c.requires.listed c.requires.ready.room in
    let same = ap length (c.list_retired.ensures.listed ∙ ap (λ xs. xs ++ c.args.turn.node ∷ []) c.attempt.ensures.seat.1) in
    let long = length-append c.args.seat.now.listed (c.args.turn.node ∷ []) in
    let room = ap (λ (z : TableAt). z.room) (c.list_retired.ensures.seat.0 ∙ c.attempt.ensures.seat.0 ∙ c.requires.table) in
    omega (arith, few, same, long, room)

pub returns-then-not-attempt-clause-refused : goal.returns-then-not-attempt-clause-refused
returns-then-not-attempt-clause-refused g c = λ _. c.attempt.ensures.refused c.if-not-attempt.true

pub returns-then-not-attempt-clause-none : goal.returns-then-not-attempt-clause-none
returns-then-not-attempt-clause-none g c =
    let n = c.attempt.ensures.refused c.if-not-attempt.true in
    λ _. turned_none n

pub returns-then-not-attempt-clause-gone : goal.returns-then-not-attempt-clause-gone
returns-then-not-attempt-clause-gone g c =
    let n = c.attempt.ensures.refused c.if-not-attempt.true in
    refused_advanced n

pub returns-then-not-attempt-clause-same_list : goal.returns-then-not-attempt-clause-same_list
returns-then-not-attempt-clause-same_list g c = λ _. c.attempt.ensures.seat.1

pub returns-then-not-attempt-clause-still : goal.returns-then-not-attempt-clause-still
returns-then-not-attempt-clause-still g c =
    let n = c.attempt.ensures.refused c.if-not-attempt.true in
    λ _ quiet. refused_quiet c.args.seat.now c.attempt.new.seat c.args.turn n c.attempt.ensures.seat.1 quiet

pub returns-then-not-attempt-clause-listed : goal.returns-then-not-attempt-clause-listed
returns-then-not-attempt-clause-listed g c =
    let n = c.attempt.ensures.refused c.if-not-attempt.true in
    refused_listed c.args.seat.now c.attempt.new.seat c.args.turn n c.attempt.ensures.seat.1 c.requires.listed

pub returns-then-not-attempt-clause-turned : goal.returns-then-not-attempt-clause-turned
returns-then-not-attempt-clause-turned g c = λ e. absurd (false≢true e)

pub returns-then-not-attempt-clause-once : goal.returns-then-not-attempt-clause-once
returns-then-not-attempt-clause-once g c = λ e. absurd (false≢true e)

pub returns-then-not-attempt-clause-retires : goal.returns-then-not-attempt-clause-retires
returns-then-not-attempt-clause-retires g c = λ e. absurd (false≢true e)

pub returns-then-not-attempt-clause-quiet : goal.returns-then-not-attempt-clause-quiet
returns-then-not-attempt-clause-quiet g c = λ e. absurd (false≢true e)

pub returns-then-not-attempt-clause-informed : goal.returns-then-not-attempt-clause-informed
returns-then-not-attempt-clause-informed g c = λ e. absurd (false≢true e)

pub returns-clause-turned : goal.returns-clause-turned
returns-clause-turned g c =
    let t = c.attempt.ensures.turned c.if-not-attempt.false in
    let u = subst (HasTurned c.args.seat.now.view c.args.turn) (sym (c.list_retired-2.ensures.seat.1 ∙ c.list_retired.ensures.seat.1)) t in
    λ _. u

pub returns-clause-once : goal.returns-clause-once
returns-clause-once g c =
    let t = c.attempt.ensures.turned c.if-not-attempt.false in
    let u = subst (HasTurned c.args.seat.now.view c.args.turn) (sym (c.list_retired-2.ensures.seat.1 ∙ c.list_retired.ensures.seat.1)) t in
    λ _. turned_once u

pub returns-clause-gone : goal.returns-clause-gone
returns-clause-gone g c =
    let t = c.attempt.ensures.turned c.if-not-attempt.false in
    let u = subst (HasTurned c.args.seat.now.view c.args.turn) (sym (c.list_retired-2.ensures.seat.1 ∙ c.list_retired.ensures.seat.1)) t in
    turned_advanced u

pub returns-clause-retires : goal.returns-clause-retires
returns-clause-retires g c =
    λ _. (c.list_retired-2.ensures.listed ∙ ap (λ xs. xs ++ c.args.turn.child ∷ [])
    (c.list_retired.ensures.listed ∙ ap (λ xs. xs ++ c.args.turn.node ∷ []) c.attempt.ensures.seat.1)
    ∙ append_assoc c.args.seat.now.listed (c.args.turn.node ∷ []) (c.args.turn.child ∷ []))

pub returns-clause-listed : goal.returns-clause-listed
returns-clause-listed g c =
    let t = c.attempt.ensures.turned c.if-not-attempt.false in
    let u = subst (HasTurned c.args.seat.now.view c.args.turn) (sym (c.list_retired-2.ensures.seat.1 ∙ c.list_retired.ensures.seat.1)) t in
    record {
      each = λ slot. ap (times slot) (c.list_retired-2.ensures.listed ∙ ap (λ xs. xs ++ c.args.turn.child ∷ [])
          (c.list_retired.ensures.listed ∙ ap (λ xs. xs ++ c.args.turn.node ∷ []) c.attempt.ensures.seat.1)
          ∙ append_assoc c.args.seat.now.listed (c.args.turn.node ∷ []) (c.args.turn.child ∷ []))
          ∙ both_listed c.args.seat.now.listed u c.requires.recorded.three.child_apart c.requires.listed.each slot;
    }

pub returns-clause-quiet : goal.returns-clause-quiet
returns-clause-quiet g c =
    let t = c.attempt.ensures.turned c.if-not-attempt.false in
    let u = subst (HasTurned c.args.seat.now.view c.args.turn) (sym (c.list_retired-2.ensures.seat.1 ∙ c.list_retired.ensures.seat.1)) t in
    λ _ quiet. turned_quiet c.args.seat.now c.list_retired-2.new.self c.args.turn u quiet (returns-clause-listed g c)

pub returns-clause-informed : goal.returns-clause-informed
returns-clause-informed g c =
    λ _. subst IsInformed (sym (c.list_retired-2.ensures.seat.1 ∙ c.list_retired.ensures.seat.1))
    (c.attempt.ensures.informed c.if-not-attempt.false)

pub returns-clause-refused : goal.returns-clause-refused
returns-clause-refused g c = λ e. absurd (false≢true (sym e))

pub returns-clause-none : goal.returns-clause-none
returns-clause-none g c = λ e. absurd (false≢true (sym e))

pub returns-clause-same_list : goal.returns-clause-same_list
returns-clause-same_list g c = λ e. absurd (false≢true (sym e))

pub returns-clause-still : goal.returns-clause-still
returns-clause-still g c = λ e. absurd (false≢true (sym e))
