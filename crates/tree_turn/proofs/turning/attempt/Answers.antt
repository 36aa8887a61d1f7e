use Rattle.std.proofs.Common.{sym, ◌∙◌}
use Rattle.std.proofs.lemmas.Bool.{false≢true}
use Rattle.tree_turn.proofs.Ended.{recorded_by, not_recorded, aside_by, not_aside, same_slot, own_found, lock_found, locks_got, settled_then, three_aside, three_loaded, settled_loaded, other_found, still_recorded, may_replace, three_replaced, settled_replaced, turned}
use Rattle.tree_turn.proofs.turning.attempt.Goals as goal

pub lock_three-requires-clause-three : goal.lock_three-requires-clause-three
lock_three-requires-clause-three g c = c.requires.recorded.three

pub lock_three-requires-clause-outside : goal.lock_three-requires-clause-outside
lock_three-requires-clause-outside g c = c.requires.ready.outside

pub lock_three-requires-clause-unlocked : goal.lock_three-requires-clause-unlocked
lock_three-requires-clause-unlocked g c = c.requires.ready.unlocked

pub lock_three-requires-clause-settled : goal.lock_three-requires-clause-settled
lock_three-requires-clause-settled g c = c.requires.ready.settled

pub load_words-words-requires-clause-three : goal.load_words-words-requires-clause-three
load_words-words-requires-clause-three g c = c.requires.recorded.three

pub load_words-words-requires-clause-locked : goal.load_words-words-requires-clause-locked
load_words-words-requires-clause-locked g c =
    let r = c.requires.ready in
    let h = same_slot _ r.hand _ r.hand_is c.requires.hand in
    let s = same_slot _ r.spare _ r.spare_is c.requires.spare in
    let a = aside_by (sym c.are_aside.ensures ∙ c.if-not-are_aside.false) in
    let l = c.lock_three.ensures.got c.if-not-lock_three.false in
    locks_got c.requires.recorded r h s a l

pub load_words-words-requires-clause-aside : goal.load_words-words-requires-clause-aside
load_words-words-requires-clause-aside g c =
    let r = c.requires.ready in
    let h = same_slot _ r.hand _ r.hand_is c.requires.hand in
    let s = same_slot _ r.spare _ r.spare_is c.requires.spare in
    let a = aside_by (sym c.are_aside.ensures ∙ c.if-not-are_aside.false) in
    let l = c.lock_three.ensures.got c.if-not-lock_three.false in
    three_aside c.requires.recorded r h s a l

pub load_words-words-requires-clause-settled : goal.load_words-words-requires-clause-settled
load_words-words-requires-clause-settled g c =
    let r = c.requires.ready in
    let h = same_slot _ r.hand _ r.hand_is c.requires.hand in
    let s = same_slot _ r.spare _ r.spare_is c.requires.spare in
    let a = aside_by (sym c.are_aside.ensures ∙ c.if-not-are_aside.false) in
    let l = c.lock_three.ensures.got c.if-not-lock_three.false in
    settled_then c.requires.recorded r h s a l

pub unlock_three-requires-clause-three : goal.unlock_three-requires-clause-three
unlock_three-requires-clause-three g c = c.requires.recorded.three

pub unlock_three-requires-clause-locked : goal.unlock_three-requires-clause-locked
unlock_three-requires-clause-locked g c =
    let r = c.requires.ready in
    let h = same_slot _ r.hand _ r.hand_is c.requires.hand in
    let s = same_slot _ r.spare _ r.spare_is c.requires.spare in
    let a = aside_by (sym c.are_aside.ensures ∙ c.if-not-are_aside.false) in
    let l = c.lock_three.ensures.got c.if-not-lock_three.false in
    three_loaded c.requires.recorded r h s a l c.load_words-words.result c.load_words-words.ensures.view

pub unlock_three-requires-clause-settled : goal.unlock_three-requires-clause-settled
unlock_three-requires-clause-settled g c =
    let r = c.requires.ready in
    let h = same_slot _ r.hand _ r.hand_is c.requires.hand in
    let s = same_slot _ r.spare _ r.spare_is c.requires.spare in
    let a = aside_by (sym c.are_aside.ensures ∙ c.if-not-are_aside.false) in
    let l = c.lock_three.ensures.got c.if-not-lock_three.false in
    settled_loaded c.requires.recorded r h s a l c.load_words-words.result c.load_words-words.ensures.view

pub replace-requires-clause-recorded : goal.replace-requires-clause-recorded
replace-requires-clause-recorded g c =
    let r = c.requires.ready in
    let h = same_slot _ r.hand _ r.hand_is c.requires.hand in
    let s = same_slot _ r.spare _ r.spare_is c.requires.spare in
    let a = aside_by (sym c.are_aside.ensures ∙ c.if-not-are_aside.false) in
    let l = c.lock_three.ensures.got c.if-not-lock_three.false in
    still_recorded c.requires.recorded r h s a l c.load_words-words.result c.load_words-words.ensures.view

pub replace-requires-clause-ready : goal.replace-requires-clause-ready
replace-requires-clause-ready g c =
    let r = c.requires.ready in
    let h = same_slot _ r.hand _ r.hand_is c.requires.hand in
    let s = same_slot _ r.spare _ r.spare_is c.requires.spare in
    let a = aside_by (sym c.are_aside.ensures ∙ c.if-not-are_aside.false) in
    let l = c.lock_three.ensures.got c.if-not-lock_three.false in
    let q = recorded_by (sym c.is_as_recorded.ensures ∙ c.if-not-is_as_recorded.false) in
    may_replace c.requires.recorded r h s a l c.load_words-words.result c.load_words-words.ensures.view q

pub unlock_three-requires-2-clause-three : goal.unlock_three-requires-2-clause-three
unlock_three-requires-2-clause-three g c = c.requires.recorded.three

pub unlock_three-requires-2-clause-locked : goal.unlock_three-requires-2-clause-locked
unlock_three-requires-2-clause-locked g c =
    let r = c.requires.ready in
    let h = same_slot _ r.hand _ r.hand_is c.requires.hand in
    let s = same_slot _ r.spare _ r.spare_is c.requires.spare in
    let a = aside_by (sym c.are_aside.ensures ∙ c.if-not-are_aside.false) in
    let l = c.lock_three.ensures.got c.if-not-lock_three.false in
    let q = recorded_by (sym c.is_as_recorded.ensures ∙ c.if-not-is_as_recorded.false) in
    three_replaced c.requires.recorded r h s a l c.load_words-words.result c.load_words-words.ensures.view q c.replace.ensures.view

pub unlock_three-requires-2-clause-settled : goal.unlock_three-requires-2-clause-settled
unlock_three-requires-2-clause-settled g c =
    let r = c.requires.ready in
    let h = same_slot _ r.hand _ r.hand_is c.requires.hand in
    let s = same_slot _ r.spare _ r.spare_is c.requires.spare in
    let a = aside_by (sym c.are_aside.ensures ∙ c.if-not-are_aside.false) in
    let l = c.lock_three.ensures.got c.if-not-lock_three.false in
    let q = recorded_by (sym c.is_as_recorded.ensures ∙ c.if-not-is_as_recorded.false) in
    settled_replaced c.requires.recorded r h s a l c.load_words-words.result c.load_words-words.ensures.view q c.replace.ensures.view

pub returns-then-not-are_aside-clause-refused : goal.returns-then-not-are_aside-clause-refused
returns-then-not-are_aside-clause-refused g c =
    let r = c.requires.ready in
    let h = same_slot _ r.hand _ r.hand_is c.requires.hand in
    let s = same_slot _ r.spare _ r.spare_is c.requires.spare in
    λ _. own_found c.requires.recorded r h s (not_aside (sym c.are_aside.ensures ∙ c.if-not-are_aside.true))

pub returns-then-not-lock_three-clause-refused : goal.returns-then-not-lock_three-clause-refused
returns-then-not-lock_three-clause-refused g c =
    let r = c.requires.ready in
    let h = same_slot _ r.hand _ r.hand_is c.requires.hand in
    let s = same_slot _ r.spare _ r.spare_is c.requires.spare in
    λ _. lock_found c.requires.recorded r h s (c.lock_three.ensures.busy c.if-not-lock_three.true)

pub returns-then-not-is_as_recorded-clause-refused : goal.returns-then-not-is_as_recorded-clause-refused
returns-then-not-is_as_recorded-clause-refused g c =
    let r = c.requires.ready in
    let h = same_slot _ r.hand _ r.hand_is c.requires.hand in
    let s = same_slot _ r.spare _ r.spare_is c.requires.spare in
    let a = aside_by (sym c.are_aside.ensures ∙ c.if-not-are_aside.false) in
    let l = c.lock_three.ensures.got c.if-not-lock_three.false in
    λ _. other_found c.requires.recorded r h s a l c.load_words-words.result c.load_words-words.ensures.view
    (not_recorded (sym c.is_as_recorded.ensures ∙ c.if-not-is_as_recorded.true)) c.unlock_three.ensures.view

pub returns-then-not-are_aside-clause-turned : goal.returns-then-not-are_aside-clause-turned
returns-then-not-are_aside-clause-turned g c = λ e. absurd (false≢true e)

pub returns-then-not-are_aside-clause-informed : goal.returns-then-not-are_aside-clause-informed
returns-then-not-are_aside-clause-informed g c = λ e. absurd (false≢true e)

pub returns-then-not-lock_three-clause-turned : goal.returns-then-not-lock_three-clause-turned
returns-then-not-lock_three-clause-turned g c = λ e. absurd (false≢true e)

pub returns-then-not-lock_three-clause-informed : goal.returns-then-not-lock_three-clause-informed
returns-then-not-lock_three-clause-informed g c = λ e. absurd (false≢true e)

pub returns-then-not-is_as_recorded-clause-turned : goal.returns-then-not-is_as_recorded-clause-turned
returns-then-not-is_as_recorded-clause-turned g c = λ e. absurd (false≢true e)

pub returns-then-not-is_as_recorded-clause-informed : goal.returns-then-not-is_as_recorded-clause-informed
returns-then-not-is_as_recorded-clause-informed g c = λ e. absurd (false≢true e)

pub returns-clause-turned : goal.returns-clause-turned
returns-clause-turned g c =
    let r = c.requires.ready in
    let h = same_slot _ r.hand _ r.hand_is c.requires.hand in
    let s = same_slot _ r.spare _ r.spare_is c.requires.spare in
    let a = aside_by (sym c.are_aside.ensures ∙ c.if-not-are_aside.false) in
    let l = c.lock_three.ensures.got c.if-not-lock_three.false in
    let q = recorded_by (sym c.is_as_recorded.ensures ∙ c.if-not-is_as_recorded.false) in
    λ _. turned c.requires.recorded r h s a l c.load_words-words.result c.load_words-words.ensures.view q
    c.replace.ensures.view c.unlock_three-2.ensures.view

pub returns-clause-refused : goal.returns-clause-refused
returns-clause-refused g c = λ e. absurd (false≢true (sym e))

pub returns-clause-informed : goal.returns-clause-informed
returns-clause-informed g c = λ _. c.unlock_three-2.ensures.informed
