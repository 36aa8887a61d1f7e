-- The machine values of a pointer to a box and of its parts, and what it owns by whether it leads anywhere. Assumes
-- `Logic`.
use Rattle.std.proofs.Common.{◌≡◌, ℕ, List, [], ◌∷◌, ◌++◌, refl, subst, lit<}
use mathlib.Core.Bool.{◌&&◌, true}
use lib.Dec.{T}
use seplogic.Ra.Ura.{Ura}
use mir.Syntax.{impl, tnil, dnil, ty_ptr}
use mir.Raw.{raw as bare}
use mir.Val.{Val, vstruct, vcons, vnil, of_list, has_ty, WT}
use base.Fraction.{full_share}
use base.Fml.{Fml, fsep, fex}
use base.Logic.{ent, never, guard_i, via, id⊢, fst∗, snd∗}
use base.Logic as 𝔏
use types.Logic.{Logic, sem}
use types.Kit.{Item, Goal, Seq, Step, step, ‵, given, ◌$◌, move, drop, fsplit, fjoin, fpick, fpack, feq_i, feq_l, use1, learn}
use contract.Monad.{fact_use}
use denote.RattleType.{RattleType, Valss}
use denote.Builtin.{RawPtr}
use denote.Memory.{lone}
use denote.RawPtr.{Ptr, block_ptr, null_ptr, ptr_val, in_a_block, lies_at, Testable}
use denote.Steps.{nothing}
use denote.Param.{layout}
use denote.Struct.Struct.{within}
use denote.Struct.Owning.{shape}
use Rattle.std.specs.declared.option.Option.{Option}
use Rattle.std.specs.declared.option.Option.TheVariants.{None, Some}
use Rattle.std.specs.declared.alloc.Global.{Global}
use Rattle.std.specs.contracts.alloc.Global as Heap
use Rattle.std.specs.contracts.impls.GlobalAllocator.TheImpl.{ghosts, dict}
use Rattle.std.proofs.alloc.Global.TheLaws as heap
use Rattle.std.proofs.alloc.Calls.{Al, handle_tells}
use Rattle.std.proofs.cell.Inside.{Good}
use Rattle.std.proofs.ResultValues.{and_tt}
use Rattle.std.proofs.GlobalToken.{dealloc_token-Testable}
use Rattle.std.specs.Box.Ownership.{box_owns}
use Rattle.tree_handles.specs.Ownership.{owns}
use Rattle.tree_handles.specs.contracts.parts.Parts as Parts

abbrev pub both : Val → Val → Val
both v w = vstruct (vcons v (vcons w vnil))

abbrev pub Z : RattleType
Z = Heap.the_row

abbrev al : Al
al = record { row = Z; laws = heap.the_row_laws; g = ghosts; d = dict; drops = impl [] tnil dnil }

pub ptr_good : (p : Ptr) → Good ty_ptr (ptr_val p)
ptr_good (block_ptr b o) = (tt, tt)
ptr_good null_ptr = (tt, record { fits = lit< tt })

pub both_good : (p : Ptr) (h : Val) → Good (layout Z) h → T (has_ty (layout Z) h && true) × WT (both (ptr_val p) h)
both_good (block_ptr b o) h fits = (and_tt (has_ty (layout Z) h) fits.0, (tt, (fits.1, tt)))
both_good null_ptr h fits = (and_tt (has_ty (layout Z) h) fits.0, (record { fits = lit< tt }, (fits.1, tt)))

module _ (R : RattleType) where
  abbrev pub P : RattleType
  P = Parts.the_row R Z ghosts

  abbrev pub boxed : Global → Ptr → R.Denot → Fml
  boxed a p x = box_owns (ghosts.dealloc_token a) R p x

  -- a pointer beside an allocator, with what it owns
  abbrev pub pointed : Ptr → Global → Option R.Denot → List Val → Fml
  pointed p a x vs = fsep (fex (Valss (RawPtr ∷ Z ∷ [])) (within (shape (Parts.the_type R Z ghosts)) (p, (a, tt)) vs)) (owns R a p x)

  module _ {M : Type 1} {𝓤 : Ura M} (𝓛 : Logic 𝓤) where
    pub tested : (a : Global) (p : Ptr) (x : R.Denot) → ent 𝓤 (sem 𝓛 (boxed a p x)) (𝔏.guard 𝓤 (Testable p) (sem 𝓛 (boxed a p x)))
    tested a p x = fact_use 𝓤 (Testable p) (via 𝓤 _ (snd∗ 𝓤 (sem 𝓛 (lies_at R full_share p x)) (sem 𝓛 (ghosts.dealloc_token a (bare (lone
        R.mir)) p))) (dealloc_token-Testable 𝓛 a (bare (lone R.mir)) p)) (guard_i 𝓤 (Testable p) (sem 𝓛 (boxed a p x)))

  module _ {M : Type 1} {𝓤 : Ura M} {𝓛 : Logic 𝓤} {K : Type 0} {Γ : List (Item 𝓤)} {G : Goal 𝓤 𝓛.H} where
    -- it is [what it owns; the allocator]
    pub pointer_out : K → (p : Ptr) (a : Global) (x : Option R.Denot) (vs : List Val)
        → ((h : Val) → vs ≡ both (ptr_val p) h ∷ [] → Good (layout Z) h → Seq K 𝓛 (‵ (owns R a p x) ∷ ‵ (Z.own_val a (h ∷ [])) ∷ Γ) G)
        → Seq K 𝓛 (‵ (pointed p a x vs) ∷ Γ) G
    pointer_out t p a x vs k =
        fsplit t $ fpick t (λ vss. fsplit t $ feq_l t (λ ev. fsplit t $ feq_l t (λ ep. fsplit t $
        handle_tells al t a vss.1.0 (λ h ea fits. move t (1 ∷ []) $ drop t $ move t (1 ∷ []) $
        k h (subst (λ (ws : List Val). vs ≡ vstruct (of_list (ptr_val p ∷ (ws ++ []))) ∷ []) ea (subst (λ (ps : List Val). vs ≡ vstruct
        (of_list (ps ++ (vss.1.0 ++ []))) ∷ []) ep ev)) fits))))

    pub pointer_in : K → (p : Ptr) (h : Val) (a : Global) (x : Option R.Denot)
        → Step K 𝓛 (‵ (pointed p a x (both (ptr_val p) h ∷ [])) ∷ Γ) G (‵ (owns R a p x) ∷ ‵ (Z.own_val a (h ∷ [])) ∷ Γ) G
    pointer_in t p h a x = step (λ s. let v : Val = both (ptr_val p) h in
        nothing t $ move t (2 ∷ 0 ∷ []) $ fjoin t $ feq_i t (List Val) (ptr_val p ∷ []) (ptr_val p ∷ []) refl $ fjoin t $
        feq_i t (List Val) (v ∷ []) (v ∷ []) refl $ fjoin t $
        fpack t (Valss (RawPtr ∷ Z ∷ [])) (within (shape (Parts.the_type R Z ghosts)) (p, (a, tt)) (v ∷ [])) (ptr_val p ∷ [], (h ∷ [], tt)) $
        fjoin t $ use1 𝓛 (‵ (pointed p a x (v ∷ []))) (id⊢ 𝓤 _) $ s)

    -- so are the parts, whose pointer leads to a block
    pub parts_out : K → (d : P.Denot) (vs : List Val)
        → ((b o : ℕ) (h : Val) → vs ≡ both (ptr_val (block_ptr b o)) h ∷ [] → Good (layout Z) h
        → Seq K 𝓛 (‵ (boxed d.alloc (block_ptr b o) d.value) ∷ ‵ (Z.own_val d.alloc (h ∷ [])) ∷ Γ) G)
        → Seq K 𝓛 (‵ (P.own_val d vs) ∷ Γ) G
    parts_out t d vs k =
        fsplit t $ fpick t (λ vss. fsplit t $ feq_l t (λ ev. fsplit t $ feq_l t (λ ep. fsplit t $
        handle_tells al t d.alloc vss.1.0 (λ h ea fits. move t (1 ∷ []) $ drop t $ move t (1 ∷ []) $
        in_a_block t d.ptr (λ p. boxed d.alloc p d.value) (fst∗ 𝓤 (never 𝓤) (sem 𝓛 (ghosts.dealloc_token d.alloc (bare (lone R.mir))
        null_ptr))) (λ b o e. k b o h
        (subst (λ (p : Ptr). vs ≡ both (ptr_val p) h ∷ []) e
        (subst (λ (ws : List Val). vs ≡ vstruct (of_list (ptr_val d.ptr ∷ (ws ++ []))) ∷ []) ea (subst (λ (ps : List Val). vs ≡ vstruct
        (of_list (ps ++ (vss.1.0 ++ []))) ∷ []) ep ev))) fits)))))

    pub parts_in : K → (b o : ℕ) (h : Val) (a : Global) (x : R.Denot)
        → Step K 𝓛 (‵ (P.own_val (record { ptr = block_ptr b o; alloc = a; value = x }) (both (ptr_val (block_ptr b o)) h ∷ [])) ∷ Γ) G (‵
        (boxed a (block_ptr b o) x) ∷ ‵ (Z.own_val a (h ∷ [])) ∷ Γ) G
    parts_in t b o h a x = step (λ s. let p : Ptr = block_ptr b o in let v : Val = both (ptr_val p) h in
        nothing t $ move t (2 ∷ 0 ∷ []) $ fjoin t $ feq_i t (List Val) (ptr_val p ∷ []) (ptr_val p ∷ []) refl $ fjoin t $
        feq_i t (List Val) (v ∷ []) (v ∷ []) refl $ fjoin t $
        fpack t (Valss (RawPtr ∷ Z ∷ [])) (within (shape (Parts.the_type R Z ghosts)) (p, (a, tt)) (v ∷ [])) (ptr_val p ∷ [], (h ∷ [], tt)) $
        fjoin t $ s)

    -- null, or a box at a block
    pub either_held : K → (a : Global) (p : Ptr) (k : Option R.Denot)
        → (p ≡ null_ptr → k ≡ None → Seq K 𝓛 Γ G)
        → ((b o : ℕ) (x : R.Denot) → p ≡ block_ptr b o → k ≡ Some x → Testable (block_ptr b o)
        → Seq K 𝓛 (‵ (boxed a (block_ptr b o) x) ∷ Γ) G)
        → Seq K 𝓛 (‵ (owns R a p k) ∷ Γ) G
    either_held t a p None none one = feq_l t (λ e. none e refl)
    either_held t a p (Some x) none one =
        in_a_block t p (λ q. boxed a q x) (fst∗ 𝓤 (never 𝓤) (sem 𝓛 (ghosts.dealloc_token a (bare (lone R.mir)) null_ptr))) (λ b o e.
        use1 𝓛 (given (Testable (block_ptr b o)) (‵ (boxed a (block_ptr b o) x))) (tested 𝓛 a (block_ptr b o) x) $
        learn t (λ s. one b o x e refl s))
