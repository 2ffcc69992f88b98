-- A handle that lends what it holds: it ends as itself with the last value that the loan left.
use Prim.Native.Nat.{ℕ}
use mathlib.Core.Path.{◌≡◌, refl, sym, ap, ◌∙◌}
use mathlib.Core.List.{List, [], ◌∷◌}
use seplogic.Ra.Ura.{Ura}
use base.Fraction.{full_share}
use base.Fml.{Fml, ftrue, fsep, flft, GName}
use base.Logic.{ent, sep, fst∗, never}
use contract.Running.{tables}
use denote.Exit.{no}
use denote.Follow.{follows, lends_Part}
use denote.Laws.{shows}
use denote.Memory.{cell_at, part_at, part_of, mem, lone}
use denote.RattleType.{RattleType}
use denote.RawPtr.{Ptr, null_ptr, block_ptr, in_a_block}
use denote.Ref.{MutRef, mut_vals, mut_Tells}
use denote.Signature.{plain, mut_ref_to}
use denote.Steps.{nothing, opens, peeks}
use denote.Struct.Owning.{shape, to}
use denote.Struct.Struct.{Struct}
use denote.Triple.Walked.{Stays, Goes-spent_ref, ends_at, says, stay_dropped, walk_of}
use mir.Raw.{raw as bare}
use mir.Syntax.{named}
use mir.Val.{Val, vptr}
use types.ByLocal.{alloc_all, env, free_all, get, look_at, pass_all, sets, sets_last, through}
use types.Kit.{‵, ◌⊛◌, ◌$◌, ◌∵◌, !, at_ret, await, done, drop, fjoin, fpack, frame, fsplit, fsplit3, group, join, keep, later, move, pick, qed, rewrite, some, split, suffices, use1}
use types.Logic.{Logic, sem}
use types.Part.{look_in, sub, whole}
use types.Run.{addr, blocks, enter, exec, first, fld, load, of_opd, returns, stop}
use Rattle.std.specs.Borrow.{MutBor}
use Rattle.std.proofs.raw_atomic.Walks.{proved}
use Rattle.std_heap.specs.contracts.GlobalAllocator.TheImpl.{ghosts}
use Rattle.h26x_c.specs.Lent.{handle_with}
use Rattle.h26x_c.specs.Owned.{endpoint_owned}
use Rattle.h26x_endpoint.specs.contracts.endpoint.Endpoint as held
use Rattle.h26x_c.specs.contracts.handle.Handle as handle
use Rattle.h26x_c.specs.contracts.handle.Handle.get_mut as f
use Rattle.h26x_c.proofs.handle.Handle.TheLaws.{lowers}
use Rattle.h26x_c.proofs.handle.Handle.get_mut.Statement.{statement}
use Rattle.h26x_c.proofs.handle.Handle.get_mut.Code as code

abbrev B : RattleType
B = handle.the_row

abbrev R : RattleType
R = held.the_row

abbrev stayed : Stays f.ended.signature.params f.ended.kept
stayed = (stay_dropped (mut_ref_to (0 ∷ []) tt (plain (λ _. B))) no, tt)

-- the right to free the block
abbrev token : B.Denot → Ptr → Fml
token h = ghosts.dealloc_token h.alloc (bare (lone R.mir))

-- all of a handle at a place but what it holds
abbrev rest : B.Denot → List Val → ℕ → ℕ → ℕ → ℕ → Fml
rest h us rb ro b o = fsep (token h (block_ptr b o)) (fsep ((Struct (shape handle.the_type)).own_val (to handle.the_type h) us) (cell_at full_share B.mir us rb ro))

module _ {M : Type 1} {𝓤 : Ura M} (𝓛 : Logic 𝓤) (h : B.Denot) (us : List Val) (rb ro b o : ℕ) where
  -- with anything in its block it is whole again
  whole_again : h.ptr ≡ block_ptr b o → (x : R.Denot) → ent 𝓤 (sep 𝓤 (sem 𝓛 ((mem R).own_at x b o)) (sem 𝓛 (rest h us rb ro b o))) (sem 𝓛 ((mem B).own_at (handle_with h x) rb ro))
  unfolding part_of
  whole_again at_b x =
      qed 𝓛 (‵ (part_at R full_share x b o) ∷ ‵ (rest h us rb ro b o) ∷ []) ∵ move ! (1 ∷ []) $ fsplit ! $ move ! (1 ∷ []) $ fsplit ! $
      -- [the fields; the cell; the token; what the block holds]
      move ! (3 ∷ 2 ∷ []) $ fjoin ! $ rewrite ! 0 (λ (p : Ptr). ‵ (endpoint_owned h.alloc p x)) (sym at_b) refl $
      move ! (1 ∷ 0 ∷ []) $ fjoin ! $ move ! (1 ∷ 0 ∷ []) $ fjoin ! $
      fpack ! (List Val) (λ ws. fsep (cell_at full_share B.mir ws rb ro) (B.own_val (handle_with h x) ws)) us $ done !

pub get_mut_spec : {M : Type 1} → statement M
get_mut_spec 𝓤 𝓛 𝓜 𝓡 wired =
    let c = f.clauses 𝓛 𝓜.mem 𝓡.returns in let W = walk_of 𝓛 f.ended stayed c in let 𝓣 = tables 𝓤 𝓛.H 𝓜 𝓡 𝓡.env in
    proved 𝓛 f.ended stayed c 𝓜 𝓡 (Goes-spent_ref 𝓛 1 (0 ∷ []) tt (plain (λ _. B)), tt)
    f.Key.name code.function (code.unfolded 𝓤 𝓛.H 𝓜 𝓡 wired)
    (λ κs. (mut_vals, tt)) (λ κs. (mut_Tells (named 0) κs.0 B, tt)) (λ κs qs bounds a _ are.
    let κ = κs.0 in let q = qs.0 in let h = a.0.now in let rb = a.0.ref_ptr.0 in let ro = a.0.ref_ptr.1 in let γ = a.0.ghost_name in let vs = mut_vals a.0 in
    let y : W.Ghost = ((κs, qs, bounds, a, (vs, tt)), tt) in
    qed 𝓛 (((‵ (flft κ q) ⊛ ‵ ftrue) ⊛ ‵ ((MutRef (named 0) κ B).own_val a.0 vs) ⊛ ‵ ftrue) ∷ ‵ ftrue ∷ []) ∵
    split ! $ split ! $ move ! (2 ∷ []) $ split ! $ keep ! (0 ∷ 2 ∷ []) $
    enter ! _ _ _ _ _ $ alloc_all ! (λ l. pass_all ! refl ((tt, tt), tt) $
    fsplit3 ! $ drop ! $ opens ! tt B rb ro (λ us. move ! (1 ∷ []) $ peeks ! B _ (shows 𝓛 B) h us (λ is. fsplit ! $ move ! (1 ∷ []) $
    in_a_block ! h.ptr (λ p. endpoint_owned h.alloc p h.value) (fst∗ 𝓤 (never 𝓤) (sem 𝓛 (token h null_ptr))) (λ b o at_b. fsplit ! $
    -- [what the block holds; the token; the fields; the cell; the open borrow, in three entries]
    let Cell = λ (ws : List Val). ‵ (cell_at full_share B.mir ws rb ro) in
    let stored = lowers.val_is h us is ∙ ap (λ (p : Ptr). lowers.lowered (record h { ptr = p }) ∷ []) at_b in
    rewrite ! 3 Cell stored refl $
    first ! $ blocks ! $
    sets ! (of_opd ! (load ! (through ! refl (fld ! refl (stop !))) (look_in ! 3 (sub ! 0 refl (whole !))))) refl (tt, tt) $
    sets ! (of_opd ! (get ! refl)) refl (tt, tt) $
    sets_last ! (addr ! (through ! refl (stop !))) refl (tt, tt) $
    exec ! 𝓣.C 𝓣.Λ (env code.Mir.locals l) code.Mir.t-2 (at_ret _ (W.post y)) $
    sets ! (of_opd ! (get ! refl)) refl (tt, tt) $
    rewrite ! 3 Cell (sym stored) refl $
    move ! (2 ∷ 3 ∷ []) $ fjoin ! $ move ! (2 ∷ 0 ∷ []) $ fjoin ! $ move ! (2 ∷ 3 ∷ 4 ∷ 1 ∷ 0 ∷ []) $ group ! 5 $
    let loan : GName → MutBor R.Denot = λ δ. record { ref_ptr = (b, o); ghost_name = δ; now = h.value } in
    use1 𝓛 (later (some (λ (δ : GName). ‵ ((MutRef (named 0) κ R).own_val (loan δ) (vptr b o ∷ [])) ⊛ ‵ (flft κ q) ⊛ ‵ (follows B R γ δ (handle_with h)))))
    (lends_Part 𝓛 B R (handle_with h) (named 0) κ q rb ro b o γ (sem 𝓛 (rest h us rb ro b o)) (whole_again 𝓛 h us rb ro b o at_b) (B.coded.code h) (B.coded.code h) h.value) $ await ! tt $ pick ! (λ δ.
    returns ! (look_at ! 0 refl) $ free_all ! refl $ keep ! (0 ∷ []) $ split ! $ move ! (1 ∷ []) $ split ! $
    -- [the token of the lifetime; what the handle ends as; the loan]
    suffices ! _ (ends_at 𝓛 f.ended stayed c y (vptr b o) (loan δ) (tt, tt) (tt, tt)) $
    move ! (2 ∷ []) $ nothing ! $ nothing ! $ fjoin ! $ join ! $ nothing ! $ move ! (2 ∷ 0 ∷ []) $ join ! $ join ! $ frame ! $ says ! refl $ done !))))))
