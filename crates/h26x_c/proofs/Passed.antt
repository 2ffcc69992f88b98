-- What the calls of a box's functions pass for their type parameters, an end and `Global`.
use mathlib.Core.Path.{refl}
use mathlib.Core.List.{[], ◌∷◌}
use denote.Exit.{no}
use denote.Param.{arg, layout}
use denote.Param.Laws.{Laws, arg_laws}
use denote.RattleType.{RattleType}
use mir.Raw.{raw}
use mir.Syntax.{Dict, dnil, impl, tcons, tnil}
use Rattle.std_alloc.proofs.BoxSteps.Form.{Bx}
use Rattle.std_heap.specs.contracts.Global as heap
use Rattle.std_heap.proofs.Global.TheLaws as heap_laws
use Rattle.std_heap.specs.contracts.GlobalAllocator.TheImpl.{dict, ghosts}
use Rattle.h26x_endpoint.specs.contracts.endpoint.Endpoint as held
use Rattle.h26x_endpoint.proofs.endpoint.Endpoint.TheLaws as held_laws
use Rattle.h26x_c.proofs.Destruct++none.drop.Symbol.{symbol as #none}

abbrev pub X : RattleType
X = arg (raw (layout held.the_row)) no held.the_row

abbrev pub Z : RattleType
Z = arg (raw (layout heap.the_row)) no heap.the_row

abbrev pub X_laws : Laws X
X_laws = arg_laws (raw (layout held.the_row)) no held.the_row held_laws.the_row_laws refl

abbrev pub Z_laws : Laws Z
Z_laws = arg_laws (raw (layout heap.the_row)) no heap.the_row heap_laws.the_row_laws refl

-- `Global` has no drop
abbrev pub drops : Dict
drops = impl (#none ∷ []) (tcons (layout Z) tnil) dnil

abbrev pub E : Bx
E = record { row = X; laws = X_laws; al = record { row = Z; laws = Z_laws; g = ghosts; d = dict; drops = drops } }
