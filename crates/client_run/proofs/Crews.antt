-- Workers: their calls, how they are made ready and hired, and what they leave together.
use Rattle.std.proofs.Common.{◌≡◌, ℕ, ◌+◌, ◌<◌, ◌≤◌, List, [], ◌∷◌, ◌++◌, length, get_or, take, refl, sym, ap, subst, ◌∙◌, arith, Some, inl, inr, length-append, zero, suc, drop, map, Option, None, append_assoc, append-nil}
use Rattle.std.proofs.lemmas.List.{take_more, take_all, get_or_append_left, get_or_push, get_or-map, length-map}
use Rattle.prcu_model.specs.declared.operation.Op.{Op}
use Rattle.prcu_model.specs.declared.operation.Told.{Told}
use Rattle.prcu_model.specs.Scripts.{Roomy, entries_of, op_count}
use Rattle.prcu_marks.specs.Callers.{IsChain, Caller}
use Rattle.prcu_marks.proofs.Callers.{chain_push, chain_keeps, HasTold, HaveTold, newcomer}
use Rattle.client_run.specs.Crews.{IsReadyFor, Work, AreReadyFor, HaveMade, IsHired, AreHired, IsCrew, AreDone, HasDismissed, IsGathered, HaveMet}
use Rattle.std.proofs.lemmas.Bool.{cases_lt}
use Rattle.std.proofs.lemmas.Option.{slice_get-get_or, slice_get_within, get_or_from_slice_get}
use Rattle.std.specs.List.{slice_get}
use Rattle.std.proofs.lemmas.List.Sums.{sum_by-cons}
use mathlib.Core.List.{IsPrefix}
use Rattle.prcu_model.specs.declared.operation.Reply.{Reply}
use Rattle.prcu_model.specs.Dictionary.{Dictionary, IsLegal}
use Rattle.prcu_model.proofs.ListFacts.{drop-there}
use Rattle.prcu_marks.specs.declared.mark.Mark.{Mark}
use Rattle.prcu_marks.specs.Marks.{updates_of, own_of}

-- What a worker's loop has done after some of the script's operations.

-- so many of the script's operations were made, from this client to that of the worker
pub record HasMade {C : Type 0} (left : C → ℕ) (made : C → Op → Told → C → Type 0) (before : C) (script : List Op) (count : ℕ) (client : C)
    (told : Roomy Told) : Type 0 where
  pub chain : IsChain made before (take count script) told.entries client
  pub room : length script ≤ told.spare + count
  pub means : length script ≤ left client + count
  pub fall : left before ≤ left client + count

module _ {C : Type 0} (left : C → ℕ) (made : C → Op → Told → C → Type 0) where
  pub made_none : (worker : Work C) (script : List Op) → IsReadyFor left worker script
      → HasMade left made worker.client script 0 worker.client worker.told
  made_none worker script ready = record {
    chain = subst (λ (tolds : List Told). IsChain made worker.client [] tolds worker.client) (sym ready.empty) refl;
    room = let room = ready.room in omega arith;
    means = let means = ready.means in omega arith;
    fall = omega arith;
  }

  pub made_more : (before : C) (script : List Op) (count : ℕ) (client : C) (told : Roomy Told) (op : Op) (answer : Told) (next : C)
      (more : Roomy Told)
      → HasMade left made before script count client told → count < length script → op ≡ get_or script count op
      → made client op answer next → left client ≤ left next + 1
      → more.entries ≡ told.entries ++ answer ∷ [] → told.spare ≤ more.spare + 1
      → HasMade left made before script (count + 1) next more
  made_more before script count client told op answer next more has in_range read call lowers appended spare = record {
    chain =
        let longer = chain_push made (take count script) told.entries op answer before client next has.chain call in
        let ops : take (count + 1) script ≡ take count script ++ op ∷ [] =
        take_more script count op in_range ∙ ap (λ o. take count script ++ o ∷ []) (sym read) in
        subst (λ (ops : List Op). IsChain made before ops more.entries next) (sym ops)
        (subst (λ (tolds : List Told). IsChain made before (take count script ++ op ∷ []) tolds next) (sym appended) longer);
    room = let room = has.room in omega arith;
    means = let means = has.means in omega arith;
    fall = let fall = has.fall in omega arith;
  }

  pub made_all : (before : C) (script : List Op) (count : ℕ) (client : C) (told : Roomy Told)
      → HasMade left made before script count client told → length script ≤ count
      → IsChain made before script told.entries client
  made_all before script count client told has all =
      subst (λ (ops : List Op). IsChain made before ops told.entries client) (take_all count script all) has.chain

-- Workers that are made ready one after another.

module _ {C : Type 0} (left : C → ℕ) (scripts : List (List Op)) where
  pub AreReadyFor-nil : AreReadyFor left [] scripts
  AreReadyFor-nil i worker there = absurd (cc)

  pub AreReadyFor-push : (workers : List (Work C)) (worker : Work C) → AreReadyFor left workers scripts
      → IsReadyFor left worker (get_or scripts (length workers) []) → AreReadyFor left (workers ++ worker ∷ []) scripts
  AreReadyFor-push workers worker ready next i other there =
      let read = get_or_from_slice_get (workers ++ worker ∷ []) i other other there in
      let below = slice_get_within (workers ++ worker ∷ []) i other there in
      let long = length-append workers (worker ∷ []) in
      elim (cases_lt i (length workers)) [
        | inl earlier ↦ ready i other (slice_get-get_or workers i other earlier
            ∙ ap Some (sym (get_or_append_left workers (worker ∷ []) other i earlier) ∙ read))
        | inr late ↦
            let last : length workers ≡ i = omega arith in
            let same : worker ≡ other = sym (get_or_push workers worker other i last) ∙ read in
            subst (λ (w : Work C). IsReadyFor left w (get_or scripts i [])) same
            (subst (λ (n : ℕ). IsReadyFor left worker (get_or scripts n [])) last next)
      ]

-- Workers hired one after another, their runs, and their seats joined one after another.

map-push : {A B : Type 0} (f : A → B) (xs : List A) (x : A) → map f (xs ++ x ∷ []) ≡ map f xs ++ f x ∷ []
map-push f [] x = refl
map-push f (y ∷ xs) x = ap (λ ys. f y ∷ ys) (map-push f xs x)

pub some_there : {A : Type 0} (xs : List A) (i : ℕ) → i < length xs → slice_get xs i ≡ None → ⊥
some_there [] i low e = absurd (omega arith)
some_there (x ∷ xs) zero low e = absurd (cc)
some_there (x ∷ xs) (suc i) low e = some_there xs i (omega arith) e

-- what stands at a place of a list, and of what was made of it
pub mapped_at : {A B : Type 0} (f : A → B) (xs : List A) (i : ℕ) (a : A) → slice_get xs i ≡ Some a → slice_get (map f xs) i ≡ Some (f a)
mapped_at f [] i a e = absurd (cc)
mapped_at f (x ∷ xs) zero a e = let same : x ≡ a = cc in ap (λ z. Some (f z)) same
mapped_at f (x ∷ xs) (suc i) a e = mapped_at f xs i a e

-- the worker in front of those that are left
at_front : {A : Type 0} (gone rest : List A) (a : A) → slice_get (gone ++ a ∷ rest) (length gone) ≡ Some a
at_front [] rest a = refl
at_front (g ∷ gone) rest a = at_front gone rest a

-- the tickets of the scripts that are left are those of the next and of the others
pub tickets_turn : (scripts : List (List Op)) (i : ℕ) (script : List Op) → slice_get scripts i ≡ Some script
    → op_count (drop i scripts) ≡ length script + op_count (drop (i + 1) scripts)
tickets_turn scripts i script there = ap op_count (drop-there scripts i script there)
    ∙ sum_by-cons {X = List Op} length script (drop (i + 1) scripts)

-- what workers were told, as lists
pub entries_are : {C : Type 0} (workers : List (Work C))
    → entries_of (map (λ (w : Work C). w.told) workers) ≡ map (λ (w : Work C). w.told.entries) workers
entries_are [] = refl
entries_are (w ∷ ws) = ap (λ xs. w.told.entries ∷ xs) (entries_are ws)

module _ {C : Type 0} (client_for : ℕ → ℕ → C) (scripts : List (List Op)) where
  pub hired_none : AreHired client_for scripts 0 []
  hired_none = record { count = refl; each = λ i worker there. absurd (cc) }

  pub hired_more : (n : ℕ) (workers : List (Work C)) (worker : Work C) → AreHired client_for scripts n workers
      → IsHired (client_for n (length (get_or scripts n []))) (get_or scripts n []) worker
      → AreHired client_for scripts (n + 1) (workers ++ worker ∷ [])
  hired_more n workers worker hired next = record {
    count = (let long = hired.count in omega (arith, length-append workers (worker ∷ [])));
    each = λ i other there.
        let read = get_or_from_slice_get (workers ++ worker ∷ []) i other other there in
        let below = slice_get_within (workers ++ worker ∷ []) i other there in
        let long = length-append workers (worker ∷ []) in
        elim (cases_lt i (length workers)) [
          | inl earlier ↦ hired.each i other (slice_get-get_or workers i other earlier
              ∙ ap Some (sym (get_or_append_left workers (worker ∷ []) other i earlier) ∙ read))
          | inr late ↦
              let last : length workers ≡ i = omega arith in
              let same : worker ≡ other = sym (get_or_push workers worker other i last) ∙ read in
              let at : n ≡ i = sym hired.count ∙ last in
              subst (λ (w : Work C). IsHired (client_for i (length (get_or scripts i []))) (get_or scripts i []) w) same
              (subst (λ k. IsHired (client_for k (length (get_or scripts k []))) (get_or scripts k []) worker) at next)
        ];
  }

  -- workers of whom each client has the means for its script
  pub crew_ready : (left : C → ℕ) → ((i n : ℕ) → n ≤ left (client_for i n)) → (workers : List (Work C)) → IsCrew client_for scripts workers
      → AreReadyFor left workers scripts
  crew_ready left means workers crew i worker there =
      let hired = crew.each i worker there in
      record {
        empty = hired.empty;
        room = hired.room;
        means = subst (λ c. length (get_or scripts i []) ≤ left c) (sym hired.client_is) (means i (length (get_or scripts i [])));
      }

  module _ (made : C → Op → Told → C → Type 0) (befores afters : List (Work C)) (crew : IsCrew client_for scripts befores)
      (count : length afters ≡ length befores) (runs : HaveMade made befores scripts afters) where
    -- the chain of a worker's calls
    pub chain_of : (i : ℕ) (after : Work C) → slice_get afters i ≡ Some after
        → IsChain made (client_for i (length (get_or scripts i []))) (get_or scripts i []) after.told.entries after.client
    chain_of i after there =
        let below = slice_get_within afters i after there in
        let same = slice_get-get_or befores i after (omega arith) in
        subst (λ c. IsChain made c (get_or scripts i []) after.told.entries after.client)
        (crew.each i (get_or befores i after) same).client_is (runs i (get_or befores i after) after same there)

    -- what holds of each client at first, and is kept by each call, holds in the end
    pub crew_keeps : (P : ℕ → C → Type 0) → ((i : ℕ) → P i (client_for i (length (get_or scripts i []))))
        → ((i : ℕ) (before : C) (op : Op) (told : Told) (after : C) → P i before → made before op told after → P i after) → AreDone P afters
    crew_keeps P start keeps i after there = chain_keeps made (P i) (keeps i) (get_or scripts i []) after.told.entries
        (client_for i (length (get_or scripts i []))) after.client (start i) (chain_of i after there)

    -- what all scripts were told, beside marks that have met all callers
    pub crew_has_told : (explains : Dictionary → Op → Reply → Type 0) (caller_of : C → Caller)
        → ((i : ℕ) (ops : List Op) (tolds : List Told) (after : C) → IsChain made (client_for i (length ops)) ops tolds after
        → HasTold explains (newcomer i) ops tolds (caller_of after))
        → (marks : List Mark) → HaveMet (map (λ (w : Work C). caller_of w.client) afters) marks
        → ((p : ℕ) → length scripts ≤ p → updates_of (own_of p marks) ≡ []) → IsLegal (updates_of marks)
        → HaveTold explains scripts (map (λ (w : Work C). w.told.entries) afters) marks
    crew_has_told explains caller_of told marks met others legal = record {
      count = length-map afters (λ (w : Work C). w.told.entries) ∙ count ∙ crew.count;
      each = λ i below. (let n = crew.count in found i (slice_get afters i) refl (omega arith));
      others = others;
      legal = legal;
    }
      where
        found : (i : ℕ) (w : Option (Work C)) → slice_get afters i ≡ w → i < length afters
            → (c : Caller) × HasTold explains (newcomer i) (get_or scripts i [])
            (get_or (map (λ (w : Work C). w.told.entries) afters) i []) c × IsPrefix c.seen marks × (own_of i marks ≡ own_of i c.own)
        found i None none below = absurd (some_there afters i below none)
        found i (Some after) is below =
            let here : get_or (map (λ (w : Work C). w.told.entries) afters) i [] ≡ after.told.entries =
            get_or-map (λ (w : Work C). w.told.entries) afters i after [] below
            ∙ ap (λ (w : Work C). w.told.entries) (get_or_from_slice_get afters i after after is) in
            let all = met i (caller_of after.client) (mapped_at (λ (w : Work C). caller_of w.client) afters i after is) in (
              caller_of after.client,
              subst (λ ts. HasTold explains (newcomer i) (get_or scripts i []) ts (caller_of after.client)) (sym here)
                  (told i (get_or scripts i []) after.told.entries after.client (chain_of i after is)),
              all.0,
              all.1,
            )

module _ {C S : Type 0} (seat_of : C → S) (done : ℕ → C → Type 0) (stands_for : List C → S → Type 0) (workers : List (Work C))
    (told : List (Roomy Told)) (all : AreDone done workers) where
  pub gathered_first : (rest : List (Work C)) (now : List (Roomy Told)) (seat : S) → HasDismissed seat_of workers rest told now seat
      → ((c : C) → done 0 c → seat ≡ seat_of c → stands_for (c ∷ []) seat) → IsGathered stands_for workers rest told now seat
  gathered_first rest now seat d start = record {
    gone = d.worker ∷ [];
    whole = d.first;
    told_is = d.told_is;
    joined = start d.worker.client (all 0 d.worker (ap (λ ws. slice_get ws 0) d.first)) d.seat_is;
  }

  -- the worker that goes next
  pub gathered_next : (rest left : List (Work C)) (now more : List (Roomy Told)) (seat other : S)
      → (g : IsGathered stands_for workers rest told now seat) → (d : HasDismissed seat_of rest left now more other)
      → done (length g.gone) d.worker.client
  gathered_next rest left now more seat other g d =
      let whole : workers ≡ g.gone ++ d.worker ∷ left = g.whole ∙ ap (λ ws. g.gone ++ ws) d.first in
      all (length g.gone) d.worker (ap (λ ws. slice_get ws (length g.gone)) whole ∙ at_front g.gone left d.worker)

  pub gathered_more : (rest left : List (Work C)) (now more : List (Roomy Told)) (seat other both : S)
      → IsGathered stands_for workers rest told now seat → HasDismissed seat_of rest left now more other
      → ((cs : List C) (c : C) → done (length cs) c → other ≡ seat_of c → stands_for cs seat → stands_for (cs ++ c ∷ []) both)
      → IsGathered stands_for workers left told more both
  gathered_more rest left now more seat other both g d next = record {
    gone = g.gone ++ d.worker ∷ [];
    whole = g.whole ∙ ap (λ ws. g.gone ++ ws) d.first ∙ sym (append_assoc g.gone (d.worker ∷ []) left);
    told_is = d.told_is ∙ ap (λ ts. ts ++ d.worker.told ∷ []) g.told_is
        ∙ append_assoc told (map (λ (w : Work C). w.told) g.gone) (d.worker.told ∷ [])
        ∙ ap (λ ts. told ++ ts) (sym (map-push (λ (w : Work C). w.told) g.gone d.worker));
    joined = subst (λ cs. stands_for cs both) (sym (map-push (λ (w : Work C). w.client) g.gone d.worker))
        (next (map (λ (w : Work C). w.client) g.gone) d.worker.client
        (subst (λ n. done n d.worker.client) (sym (length-map g.gone (λ (w : Work C). w.client)))
        (gathered_next rest left now more seat other g d)) d.seat_is g.joined);
  }

  pub gathered_all : (now : List (Roomy Told)) (seat : S) → IsGathered stands_for workers [] told now seat
      → stands_for (map (λ (w : Work C). w.client) workers) seat × (now ≡ told ++ map (λ (w : Work C). w.told) workers)
  gathered_all now seat g =
      let gone : g.gone ≡ workers = sym (g.whole ∙ append-nil g.gone) in (
        subst (λ ws. stands_for (map (λ (w : Work C). w.client) ws) seat) gone g.joined,
        g.told_is ∙ ap (λ ws. told ++ map (λ (w : Work C). w.told) ws) gone,
      )
