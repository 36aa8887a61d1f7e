-- What the events of the example ask is met.
use Rattle.std.proofs.Common.{◌≡◌, ◌≢◌, inl, inr, ⊎_elim, ℕ, Bool, true, false, nat_eq, List, [], ◌∷◌, Some, None, refl, sym, ap, ◌∙◌, arith}
use Rattle.std.specs.Str.{bytes_eq}
use Rattle.std.proofs.lemmas.Slice.Eq.{bytes_eq-Decides}
use Rattle.string_layers.specs.Things.{Text, outermost, Thing, to_leaf, to_layer, to_mark, spot_in}
use Rattle.string_layers.specs.Events.{Aim, one, all, Event, gives_out, gives_back, prepares, clears, outwaits, finds_empty, takes_layer, front, Section, section}
use Rattle.string_layers.specs.Histories.{from_top, by_found, unmarked_top, IsHistory}
use Rattle.string_layers.specs.Example.{first, second, other, leaf_of, layer, next_layer, made, visited, marked, NeedsCanBeMet}
use Rattle.string_layers.proofs.Texts.{text_or_not, spot_or_not}
use Rattle.string_layers.proofs.Trie.{spot}
use Rattle.string_layers.proofs.Sections.{test_false, changed_by}
use Rattle.string_layers.proofs.Keeping.{holds}

abbrev inside : ℕ → Aim → List Thing → Section
inside since aim found = record { since = since; aim = aim; found = found }

unlike : (s t : Text) → s ≢ t → bytes_eq s t ≡ false
unlike s t ne = test_false (bytes_eq s t) (bytes_eq-Decides s t) ne

made_is : IsHistory made
made_is = (
  (
    (
      (
        (
          (
            (
              (
                (
                  (
                    (
                      tt,
                      refl,
                    ),
                    record { its = inside 0 (one first) []; inside = refl; reaches = from_top; looks = refl; told = refl },
                  ),
                  record { caller = record { its = inside 0 (one first) []; inside = refl; reaches = unmarked_top }; belongs = refl; none = refl },
                ),
                tt,
              ),
              refl,
            ),
            record { its = inside 4 (one second) []; inside = refl; reaches = from_top; looks = refl; told = refl },
          ),
          refl,
        ),
        (tt, tt),
      ),
      (tt, tt),
    ),
    record {
      caller = record { its = inside 4 (one second) (to_leaf (leaf_of 10 first) ∷ []); inside = refl; reaches = from_top };
      unknown = refl;
      belongs = record { begins = refl; whole = omega arith };
      was = refl;
      has = record {
        old_belongs = record { begins = refl; whole = tt };
        leaf_belongs = refl;
        apart = λ e. (cc);
        has_old = refl;
        has_leaf = refl;
        no_other = λ bytes a b. rw (unlike (9 ∷ []) bytes (λ e. b (sym e)), unlike (8 ∷ []) bytes (λ e. a (sym e))) refl;
      };
    },
  ),
  tt,
)

visited_is : IsHistory visited
visited_is = (
  (
    (
      (
        (
          (
            (
              (
                (
                  (
                    made_is,
                    refl,
                  ),
                  record { its = inside 11 all []; inside = refl; reaches = from_top; looks = tt; told = refl },
                ),
                record {
                  its = inside 11 all (to_layer layer ∷ []);
                  inside = refl;
                  reaches = by_found (to_layer layer) layer (inl refl) refl tt;
                  looks = tt;
                  told = refl;
                },
              ),
              record {
                its = inside 11 all (to_leaf (leaf_of 10 first) ∷ to_layer layer ∷ []);
                inside = refl;
                reaches = by_found (to_layer layer) layer (inr (inl refl)) refl tt;
                looks = tt;
                told = refl;
              },
            ),
            tt,
          ),
          refl,
        ),
        record { its = inside 16 (one first) []; inside = refl; reaches = from_top; looks = refl; told = refl },
      ),
      record {
        caller = record { its = inside 16 (one first) (to_layer layer ∷ []); inside = refl; reaches = by_found (to_layer layer) layer (inl refl) refl refl };
        same = refl;
        was = refl;
      },
    ),
    record {
      caller = record { its = inside 16 (one first) (to_layer layer ∷ []); inside = refl; reaches = by_found (to_layer layer) layer (inl refl) refl refl };
      was = refl;
    },
  ),
  tt,
)

marked_is : IsHistory marked
marked_is = (
  (
    (
      (
        (
          (
            (
              (
                (
                  (
                    visited_is,
                    refl,
                  ),
                  record { its = inside 21 (one second) []; inside = refl; reaches = from_top; looks = refl; told = refl },
                ),
                record {
                  caller = record { its = inside 21 (one second) (to_layer layer ∷ []); inside = refl; reaches = by_found (to_layer layer) layer (inl refl) refl refl };
                  was = refl;
                },
              ),
              record { caller = record { its = inside 21 (one second) (to_layer layer ∷ []); inside = refl; reaches = from_top }; was = refl },
            ),
            tt,
          ),
          refl,
        ),
        record { its = inside 26 (one first) []; inside = refl; reaches = from_top; looks = refl; told = refl },
      ),
      refl,
    ),
    record { caller = record { its = inside 26 (one first) (to_mark 24 layer ∷ []); inside = refl; reaches = from_top }; was = refl },
  ),
  tt,
)

-- the one caller has left each section that it entered
outside : (c : ℕ) (b : Bool) → nat_eq 1 c ≡ b → section marked c ≡ None
outside c true e = rw e refl
outside c false e = rw e refl

nobody : (c : ℕ) (s : Section) → section marked c ≡ Some s → ⊥
nobody c s is = let none = outside c (nat_eq 1 c) refl in cc

layer_empty : (bytes : Text) → front marked (spot 1 bytes) ≡ None
layer_empty bytes = ⊎_elim
    (λ (e : bytes ≡ 8 ∷ []). ap (λ b. front marked (spot 1 b)) e)
    (λ not_first. ⊎_elim
    (λ (e : bytes ≡ 9 ∷ []). ap (λ b. front marked (spot 1 b)) e)
    (λ not_second. rw (unlike (9 ∷ []) bytes (λ e. not_second (sym e)), unlike (8 ∷ []) bytes (λ e. not_first (sym e))) refl)
    (text_or_not bytes (9 ∷ [])))
    (text_or_not bytes (8 ∷ []))

abbrev without : List Event
without = gives_back 1 ∷ outwaits 35 all ∷ outwaits 35 (one first) ∷ takes_layer outermost 29 layer ∷ finds_empty 29 layer ∷ outwaits 30 all
    ∷ outwaits 30 (one second) ∷ marked

without_is : IsHistory without
without_is = (
  (
    (
      (
        (
          (
            (
              marked_is,
              (omega arith, λ c s is goes. absurd (nobody c s is)),
            ),
            (omega arith, λ c s is goes. absurd (nobody c s is)),
          ),
          record { outwaited = record { its = inr (inl (omega arith, refl)); alls = inl (omega arith, tt) }; none = layer_empty },
        ),
        record { was = refl; empty = inl (refl, refl) },
      ),
      (omega arith, λ c s is goes. absurd (nobody c s is)),
    ),
    (omega arith, λ c s is goes. absurd (nobody c s is)),
  ),
  record { its = inr (inl (omega arith, refl)); alls = inl (omega arith, tt) },
)

-- its number has no pair, and so it is again when what was put in the next layer is taken out
abbrev prepared : List Event
prepared = prepares next_layer (to_leaf (leaf_of 30 other)) ∷ gives_out next_layer ∷ without

cleared : (bytes : Text) → front (clears (spot_in next_layer other) ∷ prepared) (spot 1 bytes) ≡ None
cleared bytes = ⊎_elim
    (λ (same : spot_in next_layer other ≡ spot 1 bytes).
    ap (front (clears (spot_in next_layer other) ∷ prepared)) (sym same)
    ∙ (changed_by prepared (clears (spot_in next_layer other)) (record { at = spot_in next_layer other; now = None }) refl).here)
    (λ ne. (changed_by prepared (clears (spot_in next_layer other)) (record { at = spot_in next_layer other; now = None }) refl).other (spot 1 bytes) ne.1
    ∙ (changed_by (gives_out next_layer ∷ without) (prepares next_layer (to_leaf (leaf_of 30 other)))
    (record { at = spot_in next_layer other; now = Some (to_leaf (leaf_of 30 other)) }) refl).other (spot 1 bytes) ne.1
    ∙ (holds without without_is).trie.none 1 bytes refl)
    (spot_or_not (spot_in next_layer other) (spot 1 bytes))

pub needs_can_be_met : NeedsCanBeMet
needs_can_be_met = ((((without_is, refl), (tt, tt)), tt), cleared)
