-- What a handle may keep back, by what an opener says.
use Rattle.std.proofs.Common.{◌≤◌, ◌≡◌, ◌+◌, ◌-◌, ◌*◌, ◌/◌, ℕ, arith, div-mul-le_self, le-div_iff_mul-le, max, min, mul-le-mul_right, refl, subst, sym, zero, suc}
use Rattle.std.specs.Prelude.{Option}
use Rattle.core_state.specs.Memory.{most_slots}
use Rattle.tree_handles.specs.Callers.{CallerAt}
use Rattle.tree_handles.specs.Opening.{CanKeep, CanOpen, Opens, OpensKeeping, keep_for, most_pairs, options_size, usual_keep}
use Rattle.tree_handles.specs.declared.opening.Options.{Options}
use Rattle.tree_handles.specs.declared.status.Status.{Status}
use Rattle.tree_handles.specs.declared.status.Status.TheVariants.{Done, Unchanged, BadArgument, NoMemory}

-- what the number of an opener stands for
pub keep_usual : (pairs handles keep : ℕ) → keep ≡ 0 → keep_for pairs handles keep ≡ usual_keep pairs handles
keep_usual pairs handles keep none = subst (λ n. keep_for pairs handles n ≡ usual_keep pairs handles) (sym none) refl

pub keep_own : (pairs handles keep : ℕ) → 1 ≤ keep → keep_for pairs handles keep ≡ keep
keep_own pairs handles zero some = absurd (omega (arith, some))
keep_own pairs handles (suc n) some = refl

-- With the usual number there are slots enough for as many pairs as fit with every number of handles.

-- so many parts of a number fit into it
parts_fit : (n parts : ℕ) → 1 ≤ parts → n / parts * parts ≤ n
parts_fit n parts some = div-mul-le_self n parts

-- a number that has so many parts of at least this size has parts of that size
part_is_large : (n parts least : ℕ) → 1 ≤ parts → least * parts ≤ n → least ≤ n / parts
part_is_large n parts least some large = (le-div_iff_mul-le some).1 large

-- those that are free for what handles keep back are 68 for each at least
many_left : (o : Options) → CanOpen o → 68 ≤ (most_slots - o.pairs) / o.handles
many_left o can = part_is_large (most_slots - o.pairs) o.handles 68 can.handles_are.0
    (let pairs = can.pairs_are.1 in let handles = can.handles_are.1 in omega (arith, pairs, handles))

usual_is : (x left : ℕ) → 68 ≤ left → 64 ≤ min (min (max x 64) 65536) (left - 4)
usual_is x left many = omega (arith, many)

usual_fits : (x left handles free pairs : ℕ) → 68 ≤ left → left * handles ≤ free → free + pairs ≤ most_slots
    → pairs + (min (min (max x 64) 65536) (left - 4) + 4) * handles ≤ most_slots
usual_fits x left handles free pairs many fit all =
    let few : min (min (max x 64) 65536) (left - 4) + 4 ≤ left = omega (arith, many) in
    let product = mul-le-mul_right handles few in
    omega (arith, product, fit, all)

can_keep : (o : Options) → CanOpen o → CanKeep o (usual_keep o.pairs o.handles)
can_keep o can =
    let left = (most_slots - o.pairs) / o.handles in
    let many = many_left o can in record {
      size_is = can.size_is;
      flags_are = can.flags_are;
      some_pairs = can.pairs_are.0;
      handles_are = can.handles_are;
      way_is = can.way_is;
      some_keep = let usual = usual_is (o.pairs / (8 * o.handles)) left many in omega (arith, usual);
      fits = usual_fits (o.pairs / (8 * o.handles)) left o.handles (most_slots - o.pairs) o.pairs many
          (parts_fit (most_slots - o.pairs) o.handles can.handles_are.0)
          (let pairs = can.pairs_are.1 in omega (arith, pairs));
    }

can_open : (o : Options) → CanKeep o (usual_keep o.pairs o.handles) → o.pairs ≤ most_pairs → CanOpen o
can_open o can few = record {
  size_is = can.size_is;
  flags_are = can.flags_are;
  pairs_are = (can.some_pairs, few);
  handles_are = can.handles_are;
  way_is = can.way_is;
}

-- So an open by the options alone is one that keeps the usual number back.
pub opens_so : (o : Options) (before after : Option CallerAt) → (o.size ≡ options_size → o.pairs ≤ most_pairs) → (status : Status)
    → OpensKeeping o 0 before status after → Opens o before status after
opens_so o before after few Done opened = opened
opens_so o before after few BadArgument refused = ((λ can. refused.0 (can_keep o can)), refused.1)
opens_so o before after few NoMemory short = (can_open o short.0 (few short.0.size_is), short.1)
opens_so o before after few _ never = absurd never
