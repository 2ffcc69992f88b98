-- A place written from a box: what the box owned is what the place owns.
use mathlib.Core.Path.{◌≡◌, refl, ap, ◌∙◌}
use mathlib.Core.List.{List, [], ◌∷◌, ◌++◌}
use seplogic.Ra.Ura.{Ura}
use base.Fml.{ftrue, fsep, flft}
use base.Fraction.{full_share}
use base.Logic.{emp, sep, fst∗, id⊢, never}
use contract.BorrowLft.{◌⊑◌}
use contract.Monad.{fact, fact_i}
use contract.Running.{Running, tables}
use prog.Model.{Model}
use prog.Wired.{Wired}
use denote.Exit.{yes}
use denote.Param.Glue as glue
use denote.Param.NoDrop.{glues}
use denote.RattleType.{RattleType}
use denote.RawPtr.{Ptr, RawPtr, block_ptr, in_a_block, null_ptr, ptr_val}
use denote.Signature.{plain}
use denote.Steps.{heard, nothing, only}
use denote.Struct.Tuple.{Tuple}
use denote.Triple.Call.{calls_at}
use denote.Triple.Carry.{beside, spared}
use denote.Triple.Spec.{Spec, triple_of}
use denote.Triple.Table.{framed, run_framed, widened}
use denote.Triple.Walked.{Goes-dropped, Stays, ends_at, says, stay_dropped, walk_of}
use mir.Raw.{raw as bare}
use mir.Syntax.{Dict, dnil, impl, method, no_args, tnil}
use mir.Val.{Val, of_list, vstruct}
use prog.Wp.{WpFn}
use types.ByLocal.{alloc_all, free_all, get, get_in, lands_as, look_at, pass_all, sets}
use types.Kit.{‵, ◌⊛◌, ◌$◌, ◌∵◌, !, await, done, drop, feq_l, fjoin, fpick, fsplit, group, join, keep, later, move, pick, prop, qed, raw, show, regoal, rewrite, some, split, suffices, use0, use1}
use types.Logic.{Logic, sem}
use types.Part.{agg, sub, whole}
use types.Run.{and_then, enter, fld, no_more, of_opd, returns, stop}
use types.Tokens.{lft_end, lft_new}
use Rattle.std.proofs.alloc.Calls.{handle_tells, token}
use Rattle.std.proofs.raw_atomic.Walks.{proved_at}
use Rattle.std_alloc.proofs.BoxSteps.Form as boxes
use Rattle.std_alloc.proofs.BoxSteps.Steps.{box_in, box_out}
use Rattle.std_alloc.specs.Box.Ownership.{box_owns}
use Rattle.std.specs.Prelude.{Some}
use Rattle.std_alloc.specs.contracts.boxed.Box as box
use Rattle.std_alloc.specs.contracts.boxed.Box.into_raw_with_allocator as g
use Rattle.std_alloc.proofs.boxed.Box.into_raw_with_allocator.Met.{met}
use Rattle.std_heap.specs.contracts.Global as heap
use Rattle.std_heap.proofs.Global.TheLaws as heap_laws
use Rattle.std_heap.specs.contracts.GlobalAllocator.TheImpl.{dict, ghosts}
use Rattle.std_heap.proofs.GlobalAllocator.TheImpl.Met.{passed}
use Rattle.h26x_c.proofs.Passed.{E, X, X_laws, Z, Z_laws, drops}
use Rattle.h26x_endpoint.specs.contracts.endpoint.Endpoint as held
use Rattle.h26x_endpoint.proofs.endpoint.Endpoint.TheLaws as held_laws
use Rattle.h26x_c.specs.contracts.place.Place as place
use Rattle.h26x_c.proofs.Destruct++none.drop.Symbol.{symbol as #none}
use Rattle.h26x_c.proofs.h26x_endpoint++endpoint++Endpoint+Destruct.drop.Symbol.{symbol as #end, as_method}
use Rattle.h26x_c.proofs.h26x_endpoint++endpoint++Endpoint+Destruct.drop.Symbol as dropping
use Rattle.h26x_c.proofs.h26x_endpoint++endpoint++Endpoint+Destruct.drop.Met.{met as drop_met}
use Rattle.h26x_c.specs.contracts.h26x_endpoint++endpoint++Endpoint+Destruct.drop as drop_of
use Rattle.h26x_c.specs.contracts.place.Place.of as f
use Rattle.h26x_c.proofs.place.Place.of.Statement.{statement}
use Rattle.h26x_c.proofs.place.Place.of.Code as code

abbrev B : RattleType
B = box.the_row held.the_row heap.the_row ghosts

-- an end has one
abbrev drops_endpoint : Dict
drops_endpoint = impl (#end ∷ []) tnil dnil

abbrev stayed : Stays f.ended.signature.params f.ended.kept
stayed = (stay_dropped (plain (λ _. B)) yes, tt)

-- an end's drop, as a generic function takes it
drops_it : {M : Type 1} (𝓤 : Ura M) (𝓛 : Logic 𝓤) (𝓜 : Model 𝓤 𝓛.H) (𝓡 : Running 𝓤 𝓛.H 𝓜) → Wired 𝓡.env dropping.code → glue.Met 𝓛 𝓜 𝓡 𝓡.env X drops_endpoint
drops_it 𝓤 𝓛 𝓜 𝓡 wired =
    let k = method drops_endpoint 0 no_args in let run = 𝓡.run (𝓡.env k) in let fm = run_framed 𝓤 𝓛.H 𝓜 𝓡 (𝓡.env k) in
    let c = drop_of.spec 𝓛 𝓜.mem 𝓡.returns in
    let said : Spec 𝓤 (glue.signature X) = λ κs a. record { ghost = Unit {0}; requires = λ _. sep 𝓤 (fact 𝓤 (κs.0 ⊑ X.lives)) (emp 𝓤); ensures = λ x r. (c tt a).ensures x r } in
    beside 𝓛 (glue.signature X) run fm said (glue.spent 𝓛 X) (λ κs a x. x) (λ κs a x. emp 𝓤)
    (λ κs a x. qed 𝓛 (raw ((said κs a).requires x) ∷ []) ∵ nothing ! $ move ! (1 ∷ 0 ∷ []) $ done !)
    (λ κs a x r. qed 𝓛 (raw ((said κs a).ensures x r) ∷ raw (emp 𝓤) ∷ []) ∵ keep ! [] $ show ! (λ (ws : Unit {0} × Unit {0}). sep 𝓤 (sem 𝓛 (fsep ftrue ftrue)) (emp 𝓤)) (tt, tt) $
    nothing ! $ nothing ! $ nothing ! $ join ! $ done !)
    (spared 𝓛 drop_of.signature run fm 1 (X.lives, tt) c (widened 𝓤 𝓛.H (triple_of 𝓛 drop_of.signature c) 𝓜 𝓡 𝓡.env (𝓡.env dropping.name) (𝓡.env k) (as_method 𝓡.env wired k refl) (drop_met 𝓤 𝓛 𝓜 𝓡 wired)))

pub of_spec : {M : Type 1} → statement M
unfolding Rattle.h26x_c.proofs.Destruct++none.drop.Code.code
of_spec {M} 𝓤 𝓛 𝓜 𝓡 wired =
    let c = f.clauses 𝓛 𝓜.mem 𝓡.returns in let W = walk_of 𝓛 f.ended stayed c in let 𝓣 = tables 𝓤 𝓛.H 𝓜 𝓡 𝓡.env in
    let G = triple_of 𝓛 (g.signature X Z ghosts dict drops drops_endpoint) (g.spec X Z ghosts dict drops drops_endpoint 𝓛 𝓜.mem 𝓡.returns) in
    let opens = met 𝓤 𝓛 𝓜 𝓡 (code.calls-std_alloc::boxed::Box::into_raw_with_allocator 𝓡.env wired) X Z X_laws Z_laws ghosts dict drops drops_endpoint
    (passed 𝓡.env (code.calls-std_heap::GlobalAllocator::allocate 𝓡.env wired) (code.calls-std_heap::GlobalAllocator::deallocate 𝓡.env wired) (code.calls-std_heap::GlobalAllocator::grow 𝓡.env wired) (code.calls-std_heap::GlobalAllocator::shrink 𝓡.env wired) M 𝓤 𝓛 𝓜 𝓡)
    (glues #none 𝓡.env (code.calls-h26x_c::Destruct++none::drop 𝓡.env wired) Z Z_laws M 𝓤 𝓛 𝓜 𝓡)
    (drops_it 𝓤 𝓛 𝓜 𝓡 (code.calls-h26x_c::h26x_endpoint++endpoint++Endpoint+Destruct::drop 𝓡.env wired)) in
    proved_at 𝓛 f.ended stayed c 𝓜 𝓡 (Goes-dropped 𝓛 0 (plain (λ _. B)) yes (λ κs x w. refl), tt)
    f.Key.name code.function (code.unfolded 𝓤 𝓛.H 𝓜 𝓡 wired) (λ y are.
    let boxed = y.0.3.0 in let us = y.0.4.0 in
    let it : boxes.D E = record { ptr = boxed.ptr; alloc = boxed.alloc; value = boxed.value } in
    qed 𝓛 ((‵ ftrue ⊛ ‵ (B.own_val boxed us) ⊛ ‵ ftrue) ∷ ‵ ftrue ∷ []) ∵ split ! $ drop ! $ split ! $ keep ! (0 ∷ []) $
    box_out E ! it us (λ b o hv at_b stored good. box_in E ! it b o it.value at_b refl $
    regoal ! (λ (ws : List Val). prop (WpFn 𝓤 𝓛.H 𝓣.C 𝓣.Λ code.function (ws ++ []) (W.post y))) stored refl $
    -- [the box]
    enter ! _ _ _ _ _ $ alloc_all ! (λ l. pass_all ! refl (boxes.box_typed E hv b o good, tt) $
    sets ! (of_opd ! (get ! refl)) refl (boxes.box_typed E hv b o good) $
    lft_new ! tt (λ α. lft_new ! tt (λ β.
    -- [the tokens of β and α; the box]
    let z : G.Ghost = (((α ∷ [], (β ∷ [], tt)), (full_share, (full_share, tt)), tt, (it, tt), (boxes.word E hv b o ∷ [], tt)), tt) in
    nothing ! $ use0 𝓛 (raw (fact 𝓤 ((β ∷ []) ⊑ Z.lives))) (fact_i 𝓤 ((β ∷ []) ⊑ Z.lives) (emp 𝓤) (heap_laws.the_within (β ∷ []))) $ join ! $
    use0 𝓛 (raw (fact 𝓤 ((α ∷ []) ⊑ X.lives))) (fact_i 𝓤 ((α ∷ []) ⊑ X.lives) (emp 𝓤) (held_laws.the_within (α ∷ []))) $ join ! $
    nothing ! $ move ! (4 ∷ 0 ∷ []) $ fjoin ! $
    nothing ! $ move ! (3 ∷ 0 ∷ []) $ join ! $ move ! (3 ∷ []) $ join ! $ join ! $ join ! $ use1 𝓛 (raw (G.pre z)) (id⊢ 𝓤 _) $
    calls_at ! (framed 𝓤 𝓛.H 𝓜 𝓣) G opens z (and_then ! (get ! refl) (no_more !)) (λ v.
    use1 𝓛 (later (some (λ (r : Ptr × heap.the_row.Denot). ((‵ (flft (α ∷ []) full_share) ⊛ ‵ (flft (β ∷ []) full_share) ⊛ ‵ ftrue) ⊛ ‵ ((Tuple (RawPtr ∷ boxes.P E ∷ [])).own_val r (v ∷ [])))
    ⊛ some (λ (_ : (Unit {0} × (Unit {0} × Unit {0})) × Unit {0}). ‵ (fsep (fsep ftrue (fsep ftrue ftrue)) ftrue) ⊛ (raw (fact 𝓤 (r.1 ≡ it.alloc)) ⊛ ‵ (box_owns (token E.al it.alloc) (boxes.R E) r.0 it.value)))))) (id⊢ 𝓤 _) $
    await ! tt $ pick ! (λ r. split ! $ split ! $ split ! $ lft_end ! tt $ drop ! $ split ! $ lft_end ! tt $ drop ! $ drop ! $
    move ! (1 ∷ []) $ pick ! (λ _. split ! $ drop ! $ split ! $ heard ! (r.1 ≡ it.alloc) (λ same.
    -- [what the block holds, with its token; the two that came back]
    in_a_block ! r.0 (λ p. box_owns (token E.al it.alloc) (boxes.R E) p it.value) (fst∗ 𝓤 (never 𝓤) (sem 𝓛 (token E.al it.alloc (bare (boxes.τ E)) null_ptr))) (λ b' o' at_b'.
    move ! (1 ∷ []) $ fpick ! (λ vss. fsplit ! $ feq_l ! (λ pair. fsplit ! $ feq_l ! (λ first. fsplit ! $
    rewrite ! 0 (λ (s : heap.the_row.Denot). ‵ ((boxes.P E).own_val s vss.1.0)) same refl $ handle_tells E.al ! it.alloc vss.1.0 (λ hv' second good'.
    let d : boxes.D E = record { ptr = block_ptr b' o'; alloc = it.alloc; value = it.value } in
    let made : place.the_row.Denot = record { ptr = block_ptr b' o'; alloc = it.alloc; value = Some it.value } in
    let v' = boxes.word E hv' b' o' in let typed = boxes.box_typed E hv' b' o' good' in
    lands_as ! (ap only (pair ∙ (λ i. vstruct (of_list ((first ∙ ap (λ (p : Ptr). ptr_val p ∷ []) at_b') i ++ (second i ++ []))) ∷ []))) refl typed $
    sets ! (of_opd ! (get_in ! (fld ! refl (stop !)) (sub ! 0 refl (whole !)))) refl (tt, tt) $
    sets ! (of_opd ! (get_in ! (fld ! refl (stop !)) (sub ! 1 refl (whole !)))) refl good' $
    sets ! (of_opd ! (get ! refl)) refl (tt, tt) $
    sets ! (agg ! (and_then ! (get ! refl) (and_then ! (get ! refl) (no_more !)))) refl typed $
    returns ! (look_at ! 0 refl) $ free_all ! refl $
    -- [the allocator; nothing; what the block holds, with its token]
    keep ! (2 ∷ 0 ∷ []) $ fsplit ! $ box_in E ! d b' o' it.value refl refl $ use1 𝓛 (‵ (place.the_row.own_val made (v' ∷ []))) (id⊢ 𝓤 _) $
    suffices ! _ (ends_at 𝓛 f.ended stayed c y v' made (tt, tt) (tt, tt)) $ says ! refl $
    nothing ! $ nothing ! $ join ! $ nothing ! $ group ! 3 $ done !))))))))))))))
