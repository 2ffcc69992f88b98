-- A handle that is looked at: it lends what it holds for as long as it is lent itself, by a share of the token of its loan.
use mathlib.Core.Path.{◌≡◌, refl, sym, ap, ◌∙◌}
use mathlib.Core.List.{List, [], ◌∷◌, ◌++◌}
use base.Fml.{Lft, Share as Fraction, Fml, ftrue, fsep, flft}
use contract.BorrowLft.{meet_⊑_left}
use contract.Monad.{fact}
use contract.Running.{tables}
use denote.Builtin.{RefOf}
use denote.Exit.{yes}
use denote.Laws.{Is, shows}
use denote.Memory.{cell_at, part_at, part_of}
use denote.Moves.{moves_from}
use denote.Opens.{Cuts-Halves, Opened-one, hide, shr_Shut, shr_open}
use denote.RattleType.{RattleType}
use denote.RawPtr.{Ptr, InBlock, block_of, count_of, at_block, ptr_val}
use denote.Ref.{ShrRef, shr_vals, shr_Tells}
use denote.Sharing.{one}
use denote.Signature.{plain}
use denote.Steps.{heard, nothing, peeks}
use denote.Struct.Lending.{in_block_says, lent_at, lent_at_shr_laws}
use denote.Struct.Owning.{to}
use denote.Struct.OwningLaws.{part_in, part_out}
use denote.Triple.Walked.{Stays, Goes-dropped, ends_at, says, stay_dropped, walk_of}
use mir.Syntax.{named}
use mir.Val.{Val, of_list, vptr, vstruct}
use types.ByLocal.{alloc_all, env, free_all, get, look_at, pass_all, sets, sets_last, through}
use types.Kit.{‵, ◌⊛◌, ◌$◌, ◌∵◌, !, at_ret, done, drop, feq_i, fjoin, fpack, fpick, frame, fsplit, join, keep, move, qed, raw, rewrite, split, suffices, use1, use2}
use types.Part.{look_in, sub, whole}
use types.Run.{addr, blocks, enter, exec, first, fld, load, of_opd, returns, stop}
use types.Tokens.{bor_fracture, bor_new}
use Rattle.std.proofs.raw_atomic.Walks.{proved}
use Rattle.h26x_c.proofs.LoanLemmas.{B, Words, handle_cuts, lends_again}
use Rattle.h26x_c.specs.Owned.{endpoint_lent}
use Rattle.h26x_endpoint.specs.contracts.endpoint.Endpoint as held
use Rattle.h26x_endpoint.proofs.endpoint.Endpoint.TheLaws as held_laws
use Rattle.h26x_c.specs.contracts.const_handle.ConstHandle as handle
use Rattle.h26x_c.specs.contracts.const_handle.ConstHandle.get as f
use Rattle.h26x_c.proofs.const_handle.ConstHandle.get.Statement.{statement}
use Rattle.h26x_c.proofs.const_handle.ConstHandle.get.Code as code

abbrev R : RattleType
R = held.the_row

abbrev stayed : Stays f.ended.signature.params f.ended.kept
stayed = (stay_dropped (RefOf (0 ∷ []) tt (plain (λ _. B)) (λ _. tt)) yes, tt)

abbrev word : Ptr → List Val
word p = vstruct (of_list (ptr_val p ∷ [])) ∷ []

told : (p : Ptr) (vs : List Val) → Is Words (p, tt) vs → vs ≡ word p
told p vs is = is.1.0 ∙ ap (λ (ws : List Val). vstruct (of_list (ws ++ [])) ∷ []) is.1.1.0

pub get_spec : {M : Type 1} → statement M
unfolding part_of
get_spec 𝓤 𝓛 𝓜 𝓡 wired =
    let c = f.clauses 𝓛 𝓜.mem 𝓡.returns in let W = walk_of 𝓛 f.ended stayed c in let 𝓣 = tables 𝓤 𝓛.H 𝓜 𝓡 𝓡.env in
    proved 𝓛 f.ended stayed c 𝓜 𝓡 (Goes-dropped 𝓛 1 (RefOf (0 ∷ []) tt (plain (λ _. B)) (λ _. tt)) yes (λ κs x w. refl), tt)
    f.Key.name code.function (code.unfolded 𝓤 𝓛.H 𝓜 𝓡 wired)
    (λ κs. (shr_vals, tt)) (λ κs. (shr_Tells (named 0) κs.0 B, tt)) (λ κs qs bounds a _ are.
    let κ = κs.0 in let q = qs.0 in let h = a.0.now in let b = a.0.ref_ptr.0 in let o = a.0.ref_ptr.1 in let vs = shr_vals a.0 in
    let y : W.Ghost = ((κs, qs, bounds, a, (vs, tt)), tt) in
    let p = h.ptr in let x = h.value in let b' = block_of p in let o' = count_of p in let life : Lft = h.life ∷ [] in
    let Loan = lent_at R p x in let laws = lent_at_shr_laws R held_laws.the_row_laws.shr_laws p x in let fields = to handle.the_type h in
    let Φ : Fraction → Fml = λ share. part_at B share h b o in
    qed 𝓛 (((‵ (flft κ q) ⊛ ‵ ftrue) ⊛ ‵ ((ShrRef (named 0) κ B).own_val a.0 vs) ⊛ ‵ ftrue) ∷ ‵ ftrue ∷ []) ∵
    split ! $ split ! $ move ! (2 ∷ []) $ split ! $ keep ! (0 ∷ 2 ∷ []) $
    enter ! _ _ _ _ _ $ alloc_all ! (λ l. pass_all ! refl ((tt, tt), tt) $
    fsplit ! $ drop ! $ shr_open ! tt Φ (one Φ) (Opened-one 𝓛 Φ (Cuts-Halves 𝓛 Φ (handle_cuts 𝓛 h b o))) (λ share. move ! (1 ∷ []) $
    use1 𝓛 (‵ (part_at Words share fields b o) ⊛ ‵ (endpoint_lent h.life p x)) (part_out 𝓛 handle.the_type share h b o) $ split ! $ move ! (1 ∷ []) $
    use1 𝓛 (‵ (endpoint_lent h.life p x) ⊛ ‵ (endpoint_lent h.life p x)) (lends_again 𝓛 h.life p x) $ split ! $
    -- what it holds, lent for the lifetime of the `&`
    fsplit ! $ fpick ! (λ part. bor_new ! tt κ $ bor_fracture ! tt (λ r. flft life r) part $ move ! (0 ∷ 2 ∷ []) $
    use2 𝓛 (‵ (Loan κ)) (moves_from 𝓛 Loan laws κ life life (meet_⊑_left life κ)) $
    fsplit ! $ use1 𝓛 (raw (fact 𝓤 (InBlock p))) (in_block_says 𝓛 p) $ heard ! (InBlock p) (λ inb. hide ! $
    -- [what it holds, shared; the rest of the loan's token; the loan; the words; the way back]
    move ! (3 ∷ []) $ fpick ! (λ us. fsplit ! $ move ! (1 ∷ []) $ peeks ! Words (Is Words) (shows 𝓛 Words) fields us (λ is.
    let stored : us ≡ vstruct (of_list (vptr b' o' ∷ [])) ∷ [] = told p us is ∙ ap (λ (r : Ptr). word r) (at_block p inb) in
    let Cell = λ (ws : List Val). ‵ (cell_at share Words.mir ws b o) in
    move ! (1 ∷ []) $ rewrite ! 0 Cell stored refl $
    first ! $ blocks ! $
    sets ! (of_opd ! (load ! (through ! refl (fld ! refl (stop !))) (look_in ! 0 (sub ! 0 refl (whole !))))) refl (tt, tt) $
    sets ! (of_opd ! (get ! refl)) refl (tt, tt) $
    sets_last ! (addr ! (through ! refl (stop !))) refl (tt, tt) $
    exec ! 𝓣.C 𝓣.Λ (env code.Mir.locals l) code.Mir.t-2 (at_ret _ (W.post y)) $
    sets ! (of_opd ! (get ! refl)) refl (tt, tt) $
    rewrite ! 0 Cell (sym stored) refl $ fjoin ! $ fpack ! (List Val) (λ ws. fsep (cell_at share Words.mir ws b o) (Words.own_val fields ws)) us $
    -- [the words; what it holds, shared; the rest of the loan's token; the loan; the way back]
    move ! (0 ∷ 3 ∷ []) $ use2 𝓛 (‵ (Φ share)) (part_in 𝓛 handle.the_type share h b o) $ move ! (3 ∷ 0 ∷ []) $ shr_Shut ! tt $
    returns ! (look_at ! 0 refl) $ free_all ! refl $ keep ! (1 ∷ 0 ∷ []) $ feq_i ! (List Val) (vptr b' o' ∷ []) (vptr b' o' ∷ []) refl $ fjoin ! $ move ! (1 ∷ 0 ∷ []) $
    suffices ! _ (ends_at 𝓛 f.ended stayed c y (vptr b' o') (record { ref_ptr = (b', o'); now = x }) (tt, tt) (tt, tt)) $ says ! refl $
    nothing ! $ move ! (1 ∷ 0 ∷ []) $ join ! $ frame ! $ nothing ! $ nothing ! $ fjoin ! $ done !)))))))
