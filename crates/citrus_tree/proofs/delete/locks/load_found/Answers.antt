use Rattle.std.proofs.Common.{◌≡◌, ◌^◌, ◌<◌, ◌==◌, ◌&&◌, ◌+◌, ℕ, Option, None, Some, if◌then◌else◌, sym, subst}
use Rattle.core_points.specs.declared.stage.Found.{Found}
use Rattle.core_points.specs.declared.stage.Stage.{Stage}
use Rattle.core_points.specs.declared.stage.Stage.TheVariants as at
use Rattle.core_points.specs.declared.stage.Successor.{Successor}
use Rattle.core_points.specs.declared.stage.Target.{Target}
use Rattle.core_state.specs.declared.shape.Shape.{Shape}
use Rattle.core_state.specs.declared.view.View.{View}
use Rattle.prcu_model.specs.declared.operation.Op.{Op}
use Rattle.core_points.specs.Programs.{past_target_load, verdict}
use Rattle.seat_table.specs.Seats.{shape_of}
use Rattle.tree_points.specs.Points.{IsAt}
use Rattle.citrus_tree.proofs.DeleteUpdates.{keeps_on}
use Rattle.citrus_tree.proofs.DeleteSearches.{as_two}
use Rattle.citrus_tree.proofs.delete.locks.load_found.Goals as goal

-- with no successor all is loaded
all_loaded : {k : Shape} {op : Op} {kept : ℕ} {v : View} (t : Target) (f : Found) → t.successor ≡ None
    → IsAt k op kept (past_target_load t 4 f) v → IsAt k op kept (verdict t f) v
all_loaded {k} {op} {kept} {v} t f none a = subst (λ (o : Option Successor). IsAt k op kept (elim o as (λ _. Stage) [
  | None ↦ if 4 == 4 then verdict t f else at.TargetLoad t (4 + 1) f
  | Some u ↦ if 4 == 8 then verdict t f else if (4 == 4)
      && (u.parent == t.node.node) then at.TargetLoad t 6 f else at.TargetLoad t (4 + 1) f
]) v) none a

pub load_successor-requires-clause-at : goal.load_successor-requires-clause-at
load_successor-requires-clause-at g c =
    let k = (shape_of g.W.WaitWords.WAY c.args.table.now) in
    let a = c.requires.at in (
      a.0,
      a.1,
      subst (λ t. IsAt k a.0 a.1 (past_target_load t 4 c.load_node-found.result) c.load_node-found.new.seat.view)
          (as_two c.args.target.now c.in-Some.successor c.in-Some.is) (c.load_node-found.ensures.at a.0 a.1 a.2),
    )

pub returns-in-None-clause-at : goal.returns-in-None-clause-at
returns-in-None-clause-at g c op kept a =
    all_loaded c.args.target.now c.load_node-found.result c.in-None.is (c.load_node-found.ensures.at op kept a)

pub returns-in-Some-clause-fits : goal.returns-in-Some-clause-fits
returns-in-Some-clause-fits g c = (
  subst (λ life. life < 2 ^ 64) (sym c.load_successor.ensures.fits.0) c.load_node-found.ensures.fits.0,
  c.load_successor.ensures.fits.1,
)

pub returns-in-Some-clause-same : goal.returns-in-Some-clause-same
returns-in-Some-clause-same g c = keeps_on _ _ _ c.load_node-found.ensures.same c.load_successor.ensures.same

pub returns-in-Some-clause-at : goal.returns-in-Some-clause-at
returns-in-Some-clause-at g c = λ op kept a.
    (let k = (shape_of g.W.WaitWords.WAY c.args.table.now) in
    let same = as_two c.args.target.now c.in-Some.successor c.in-Some.is in
    subst (λ t. IsAt k op kept (verdict t c.load_successor.result) c.load_successor.new.seat.view) (sym same)
    (c.load_successor.ensures.at op kept (subst (λ t. IsAt k op kept
    (past_target_load t 4 c.load_node-found.result) c.load_node-found.new.seat.view) same (c.load_node-found.ensures.at op kept a))))
