-- The loan of an endpoint that is looked at.
use mathlib.Core.Path.{refl}
use mathlib.Core.List.{[], ◌∷◌}
use Prim.Native.Nat.{ℕ}
use seplogic.Ra.Ura.{Ura}
use base.Fraction.{full_share}
use base.Share
use base.Share.{halves}
use base.Logic.{ent, sep}
use base.Fml.{Share as Fraction, Fml, fsep, fex, flft}
use contract.BorrowLft.{⊑_static}
use types.Logic.{Logic, sem}
use types.Kit.{‵, ◌⊛◌, later, ◌$◌, ◌∵◌, !, qed, keep, move, drop, use1, use2, split, fsplit, fjoin, fpick, fpack, await, updating, now, done}
use types.Tokens.{bor_new, lft_new}
use denote.RattleType.{RattleType}
use denote.RawPtr.{Ptr, lies_at}
use denote.Memory.{part_at}
use denote.Opens.{Cuts, Cuts-map, Cuts-both}
use denote.Copied.{Struct-Copied}
use denote.Shares.{Shares-less}
use denote.SharingLaws.{contraction}
use denote.Struct.Laws.{RawPtr-copy}
use denote.Struct.Lending.{Lends-lies, lent_at, lent_at_shr_laws}
use denote.Struct.Owning.{shape, to}
use denote.Struct.OwningLaws.{part_in, part_out}
use denote.Struct.Struct.{Struct}
use Rattle.h26x_c.specs.Owned.{endpoint_lent}
use Rattle.h26x_endpoint.specs.contracts.endpoint.Endpoint as held
use Rattle.h26x_endpoint.proofs.endpoint.Endpoint.TheLaws as held_laws
use Rattle.h26x_c.specs.contracts.const_handle.ConstHandle as handle

abbrev pub B : RattleType
B = handle.the_row

abbrev pub Words : RattleType
Words = Struct (shape handle.the_type)

module _ {M : Type 1} {𝓤 : Ura M} (𝓛 : Logic 𝓤) where
  open 𝓛 use {H}

  -- who owns an endpoint can lend it to whoever may look
  lends_out : (p : Ptr) (end : held.the_row.Denot) → ent 𝓤 (sem 𝓛 (lies_at held.the_row full_share p end)) (H.⇛ (sem 𝓛 (fex ℕ (λ life. endpoint_lent life p end))))
  lends_out p end = qed 𝓛 (‵ (lies_at held.the_row full_share p end) ∷ []) ∵ updating ! $ lft_new ! tt (λ life. move ! (1 ∷ []) $ bor_new ! tt (life ∷ []) $ move ! (0 ∷ 2 ∷ []) $
      -- [the endpoint, borrowed; the token; what comes back at the end]
      use2 𝓛 (later (‵ (lent_at held.the_row p end (life ∷ [])) ⊛ ‵ (flft (life ∷ []) full_share)))
      (Lends-lies 𝓛 held.the_row (life ∷ []) p end (Shares-less 𝓛 held.the_row held.the_row.lives (life ∷ []) (⊑_static (life ∷ [])) (held_laws.the_row_laws.shares 𝓛) end)
      (life ∷ []) ((life ∷ [], full_share) ∷ []) (λ x m. m) (λ x m. m)) $ await ! tt $ split ! $ move ! (1 ∷ 0 ∷ []) $
      fpack ! Fraction (λ share. flft (life ∷ []) share) full_share $ fjoin ! $ fpack ! ℕ (λ it. endpoint_lent it p end) life $ now ! $ keep ! (0 ∷ []) $ done !)

  -- who may look may let another look too
  pub lends_again : (life : ℕ) (p : Ptr) (end : held.the_row.Denot) → ent 𝓤 (sem 𝓛 (endpoint_lent life p end)) (sep 𝓤 (sem 𝓛 (endpoint_lent life p end)) (sem 𝓛 (endpoint_lent life p end)))
  lends_again life p end =
      let token : Fraction → Fml = λ share. flft (life ∷ []) share in
      let loan = lent_at held.the_row p end (life ∷ []) in
      qed 𝓛 (‵ (endpoint_lent life p end) ∷ []) ∵ fsplit ! $ fpick ! (λ share.
      use1 𝓛 (‵ (token (Share.left share)) ⊛ ‵ (token (Share.right share))) (𝓛.lfts.lft_cut (life ∷ []) share (Share.left share) (Share.right share) (halves share)) $ split ! $
      fpack ! Fraction token (Share.left share) $ move ! (1 ∷ []) $ fpack ! Fraction token (Share.right share) $ move ! (2 ∷ []) $
      use1 𝓛 (‵ loan ⊛ ‵ loan) (contraction 𝓛 (lent_at held.the_row p end) (lent_at_shr_laws held.the_row held_laws.the_row_laws.shr_laws p end) (life ∷ [])) $ split ! $
      -- [the loan, twice; one token; the other]
      move ! (2 ∷ 0 ∷ []) $ fjoin ! $ move ! (2 ∷ 1 ∷ []) $ fjoin ! $ done !)

  -- so a handle that is looked at may be shared out
  pub handle_cuts : (h : B.Denot) (b o : ℕ) → Cuts 𝓛 (λ share. part_at B share h b o)
  handle_cuts h b o =
      let words : Fraction → Fml = λ share. part_at Words share (to handle.the_type h) b o in
      let loan = endpoint_lent h.life h.ptr h.value in
      Cuts-map 𝓛 (λ share. fsep (words share) loan) (λ share. part_at B share h b o)
      (λ share. part_in 𝓛 handle.the_type share h b o) (λ share. part_out 𝓛 handle.the_type share h b o)
      (Cuts-both 𝓛 words (λ share. loan) ((Struct-Copied 𝓛 (shape handle.the_type) (refl, tt) (RawPtr-copy.copied M 𝓤 𝓛, tt)).cuts (to handle.the_type h) b o) (record {
        cut = λ share one other parts. lends_again h.life h.ptr h.value;
        join = λ share one other parts. qed 𝓛 (‵ loan ∷ ‵ loan ∷ []) ∵ drop ! $ done !;
      }))
