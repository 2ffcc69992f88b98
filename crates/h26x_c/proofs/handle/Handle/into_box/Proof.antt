-- A handle made a box again: what it owns is what the box does.
use mathlib.Core.Path.{◌≡◌, refl, sym, ap, subst}
use mathlib.Core.List.{List, [], ◌∷◌}
use lib.Dec.{T}
use base.Fml.{ftrue, fsep, flft}
use base.Fraction.{full_share}
use base.Logic.{emp, id⊢}
use contract.BorrowLft.{◌⊑◌}
use contract.Monad.{fact, fact_i}
use contract.Running.{tables}
use denote.Exit.{yes}
use denote.Param.NoDrop.{glues}
use denote.RattleType.{RattleType}
use denote.RawPtr.{block_ptr}
use denote.Signature.{plain}
use denote.Steps.{heard, nothing, only}
use denote.Triple.Call.{calls_at_last}
use denote.Triple.Spec.{triple_of}
use denote.Triple.Table.{framed}
use denote.Triple.Walked.{Goes-dropped, Stays, ends_at, says, stay_dropped, walk_of}
use mir.Val.{Val, WT, has_ty, vptr}
use prog.Wp.{WpFn}
use types.ByLocal.{alloc_all, env, free_all, get, get_in, lands_last, look_at, pass_all, sets}
use types.Kit.{‵, ◌⊛◌, ◌$◌, ◌∵◌, !, at_ret, await, done, drop, feq_i, fjoin, group, join, keep, later, move, pick, prop, qed, raw, regoal, rewrite, some, split, suffices, use0, use1}
use types.Part.{sub, whole}
use types.Run.{and_then, blocks, enter, exec, first, fld, no_more, of_opd, returns, stop}
use types.Tokens.{lft_end, lft_new}
use Rattle.std.proofs.raw_atomic.Walks.{proved}
use Rattle.std_alloc.proofs.BoxSteps.Form as boxes
use Rattle.std_alloc.proofs.BoxSteps.Steps.{box_in, box_out}
use Rattle.std_alloc.specs.contracts.boxed.Box.from_raw as g
use Rattle.std_alloc.proofs.boxed.Box.from_raw.Met.{met}
use Rattle.std_heap.proofs.Global.TheLaws as heap_laws
use Rattle.std_heap.specs.contracts.GlobalAllocator.TheImpl.{dict, ghosts}
use Rattle.std_heap.proofs.GlobalAllocator.TheImpl.Met.{passed}
use Rattle.h26x_c.proofs.Passed.{E, X, X_laws, Z, Z_laws, drops}
use Rattle.h26x_endpoint.proofs.endpoint.Endpoint.TheLaws as held_laws
use Rattle.h26x_c.specs.contracts.handle.Handle as handle
use Rattle.h26x_c.proofs.handle.Handle.TheLaws.{lowers}
use Rattle.h26x_c.proofs.Destruct++none.drop.Symbol.{symbol as #none}
use Rattle.h26x_c.specs.contracts.handle.Handle.into_box as f
use Rattle.h26x_c.proofs.handle.Handle.into_box.Statement.{statement}
use Rattle.h26x_c.proofs.handle.Handle.into_box.Code as code

abbrev B : RattleType
B = handle.the_row

abbrev stayed : Stays f.ended.signature.params f.ended.kept
stayed = (stay_dropped (plain (λ _. B)) yes, tt)

pub into_box_spec : {M : Type 1} → statement M
unfolding Rattle.h26x_c.proofs.Destruct++none.drop.Code.code
into_box_spec {M} 𝓤 𝓛 𝓜 𝓡 wired =
    let c = f.clauses 𝓛 𝓜.mem 𝓡.returns in let W = walk_of 𝓛 f.ended stayed c in let 𝓣 = tables 𝓤 𝓛.H 𝓜 𝓡 𝓡.env in
    let G = triple_of 𝓛 (g.signature X Z ghosts dict drops) (g.spec X Z ghosts dict drops 𝓛 𝓜.mem 𝓡.returns) in
    let makes = met 𝓤 𝓛 𝓜 𝓡 (code.calls-std_alloc::boxed::Box::from_raw 𝓡.env wired) X Z X_laws Z_laws ghosts dict drops
    (passed 𝓡.env (code.calls-std_heap::GlobalAllocator::allocate 𝓡.env wired) (code.calls-std_heap::GlobalAllocator::deallocate 𝓡.env wired) (code.calls-std_heap::GlobalAllocator::grow 𝓡.env wired) (code.calls-std_heap::GlobalAllocator::shrink 𝓡.env wired) M 𝓤 𝓛 𝓜 𝓡)
    (glues #none 𝓡.env (code.calls-h26x_c::Destruct++none::drop 𝓡.env wired) Z Z_laws M 𝓤 𝓛 𝓜 𝓡) in
    proved 𝓛 f.ended stayed c 𝓜 𝓡 (Goes-dropped 𝓛 0 (plain (λ _. B)) yes (λ κs x w. refl), tt)
    f.Key.name code.function (code.unfolded 𝓤 𝓛.H 𝓜 𝓡 wired)
    (λ κs. ((λ h. lowers.lowered h ∷ []), tt)) (λ κs. (lowers.val_is, tt)) (λ κs qs bounds a _ are.
    let h = a.0 in let us : List Val = lowers.lowered h ∷ [] in
    let y : W.Ghost = ((κs, qs, bounds, a, (us, tt)), tt) in
    let it : boxes.D E = record { ptr = h.ptr; alloc = h.alloc; value = h.value } in
    qed 𝓛 ((‵ ftrue ⊛ ‵ (B.own_val h us) ⊛ ‵ ftrue) ∷ ‵ ftrue ∷ []) ∵ split ! $ drop ! $ split ! $
    box_out E ! it us (λ b o hv at_b stored good.
    regoal ! (λ (ws : List Val). prop (WpFn 𝓤 𝓛.H 𝓣.C 𝓣.Λ code.function ws (W.post y))) stored refl $
    fjoin ! $ keep ! (0 ∷ 1 ∷ []) $
    -- [what the box is to own; the allocator]
    enter ! _ _ _ _ _ $ alloc_all ! (λ l. pass_all ! refl (boxes.box_typed E hv b o good, tt) $
    sets ! (of_opd ! (get_in ! (fld ! refl (stop !)) (sub ! 0 refl (whole !)))) refl (tt, tt) $
    sets ! (of_opd ! (get_in ! (fld ! refl (stop !)) (sub ! 1 refl (whole !)))) refl good $
    first ! $ blocks ! $ sets ! (of_opd ! (get ! refl)) refl (tt, tt) $
    lft_new ! tt (λ α. lft_new ! tt (λ β.
    -- [the tokens of β and α; what the box is to own; the allocator]
    let z : G.Ghost = (((α ∷ [], (β ∷ [], tt)), (full_share, (full_share, tt)), tt, (h.alloc, (block_ptr b o, tt)), (hv ∷ [], (vptr b o ∷ [], tt))), h.value) in
    move ! (2 ∷ []) $ use0 𝓛 (raw (fact 𝓤 ((β ∷ []) ⊑ Z.lives))) (fact_i 𝓤 ((β ∷ []) ⊑ Z.lives) (emp 𝓤) (heap_laws.the_within (β ∷ []))) $ join ! $
    use0 𝓛 (raw (fact 𝓤 ((α ∷ []) ⊑ X.lives))) (fact_i 𝓤 ((α ∷ []) ⊑ X.lives) (emp 𝓤) (held_laws.the_within (α ∷ []))) $ join ! $
    move ! (3 ∷ []) $ nothing ! $ feq_i ! (List Val) (vptr b o ∷ []) (vptr b o ∷ []) refl $ fjoin ! $ move ! (1 ∷ 0 ∷ []) $ fjoin ! $
    nothing ! $ move ! (3 ∷ 0 ∷ []) $ join ! $ move ! (3 ∷ []) $ join ! $ join ! $ join ! $ use1 𝓛 (raw (G.pre z)) (id⊢ 𝓤 _) $
    calls_at_last ! (framed 𝓤 𝓛.H 𝓜 𝓣) G makes z (and_then ! (get ! refl) (and_then ! (get ! refl) (no_more !))) (λ v.
    use1 𝓛 (later (some (λ (r : boxes.D E). ((‵ (flft (α ∷ []) full_share) ⊛ ‵ (flft (β ∷ []) full_share) ⊛ ‵ ftrue) ⊛ ‵ ((boxes.B E).own_val r (v ∷ [])))
    ⊛ some (λ (_ : Unit {0} × (Unit {0} × Unit {0})). ‵ (fsep ftrue (fsep ftrue ftrue)) ⊛ (raw (fact 𝓤 (r.value ≡ h.value)) ⊛ raw (fact 𝓤 (r.alloc ≡ h.alloc))))))) (id⊢ 𝓤 _) $
    await ! tt $ pick ! (λ r. split ! $ split ! $ split ! $ lft_end ! tt $ drop ! $ split ! $ lft_end ! tt $ drop ! $ drop ! $
    move ! (1 ∷ []) $ pick ! (λ _. split ! $ drop ! $ split ! $ heard ! (r.value ≡ h.value) (λ same. drop ! $
    -- [the box]
    box_out E ! r (v ∷ []) (λ b' o' hv' at_b' stored' good'. box_in E ! r b' o' r.value at_b' refl $ rewrite ! 0 (λ (ws : List Val). ‵ ((boxes.B E).own_val r ws)) (sym stored') refl $
    let typed : T (has_ty (boxes.box_ty E) v) × WT v = subst (λ (w : Val). T (has_ty (boxes.box_ty E) w) × WT w) (sym (ap only stored')) (boxes.box_typed E hv' b' o' good') in
    lands_last ! refl typed $ exec ! 𝓣.C 𝓣.Λ (env code.Mir.locals l) code.Mir.t-4 (at_ret _ (W.post y)) $
    sets ! (of_opd ! (get ! refl)) refl typed $ returns ! (look_at ! 0 refl) $ free_all ! refl $ keep ! (0 ∷ []) $
    suffices ! _ (ends_at 𝓛 f.ended stayed c y v r (tt, tt) (tt, tt)) $ says ! same $
    nothing ! $ nothing ! $ join ! $ nothing ! $ group ! 3 $ done !))))))))))
