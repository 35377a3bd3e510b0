-- What the walks of the block share. The memory of a row of places is circular_buffer's.
--     Cr, Bs, Mark      the types of the block, as they are stored
--     mark_had, mark_made   a value of no bytes
--     size_fits, offset_fits   the size of a value, and where a place of the block begins, are words
--     emptied           the values in the places are forgotten
use mathlib.Core.Path.{◌≡◌, refl, subst}
use Prim.Native.Nat.{ℕ, ◌+◌, ◌*◌, ◌<◌, ◌^◌}
use native.Mathlib.Omega.{arith}
use mathlib.Core.List.{List, [], ◌∷◌, ◌++◌}
use lib.ListN.{length, replicate}
use seplogic.Ra.Ura.{Ura}
use base.Fraction.{full_share}
use mir.Val.{Val, vstruct, vnil, of_list}
use base.Logic.{ent, emp, id⊢, mono_r}
use base.Fml.{fat, froom}
use types.Logic.{Logic, sem}
use types.Kit.{Item, Goal, Seq, ‵, some, given, learn, ◌⊛◌, ◌$◌, ◌∵◌, !, qed, move, keep, drop as skip, use1, pick, split, fsplit, fjoin, fpick, feq_l, done}
use denote.RattleType.{RattleType}
use denote.Shadow.{makes_shadow}
use denote.Struct.Struct.{Struct}
use denote.Struct.Owning.{shape}
use Rattle.std.specs.Prelude.{Some, None}
use Rattle.core.proofs.mem.Param.{El, R, elτ}
use Rattle.core.proofs.ptr.Rows.{times_below, one_below}
use Rattle.std_alloc.proofs.RawLayout.{as_raw}
use Rattle.std_alloc.proofs.RcSteps.{Good}
use Rattle.circular_buffer.specs.Ownership.{slot, slots}
pub use Rattle.circular_buffer.proofs.Memory.{
  sz,
  Place,
  word_had,
  word_made,
  mark,
  filled_within,
  slot_seen,
  value_in,
  value_out,
  tells,
  Besides,
  slot_out,
  slot_in,
  Around,
  run_out,
  run_in,
  to_cells,
  of_cells,
  to_room,
  of_room,
  three_val,
  three_of,
}
use Rattle.cone_arena.specs.contracts.cells.Cells as C-type
use Rattle.cone_arena.specs.contracts.cells.Base as B-type

module _ (E : El) where
  abbrev pub Cr : RattleType
  Cr = C-type.the_row (R E)

  abbrev pub Bs : RattleType
  Bs = B-type.the_row (R E)

  -- the one field of `Cells`, which takes no bytes
  abbrev pub Mark : RattleType
  Mark = Struct (shape (C-type.the_type (R E)))

pub size_fits : (E : El) (count index : ℕ) → index < count → count * sz E < 2 ^ 63 → sz E < 2 ^ 64
size_fits E count index within small = let s = sz E in omega (arith, one_below count s (2 ^ 63) (omega arith) small)

pub offset_fits : (E : El) (count index : ℕ) → index < count → count * sz E < 2 ^ 63 → index * sz E < 2 ^ 64
offset_fits E count index within small = let s = sz E in omega (arith, times_below index count s (2 ^ 63) (omega arith) small)

pub mark_made : (E : El) {M : Type 1} {𝓤 : Ura M} (𝓛 : Logic 𝓤) → ent 𝓤 (emp 𝓤) (sem 𝓛 ((Mark E).own_val (tt, tt) (mark ∷ [])))
mark_made E 𝓛 =
    makes_shadow 𝓛 ((Mark E).own_val (tt, tt) (mark ∷ [])) (λ vss. (tt, ((λ uss. (tt, tt)), tt))) ((vstruct vnil ∷ [], tt), (refl, ((tt, (refl, tt)), tt)))

module _ {M : Type 1} {𝓤 : Ura M} {𝓛 : Logic 𝓤} {K : Type 0} {Γ : List (Item 𝓤)} {G : Goal 𝓤 𝓛.H} where
  pub mark_had : K → (E : El) (vs : List Val) → (vs ≡ mark ∷ [] → Seq K 𝓛 Γ G) → Seq K 𝓛 (‵ ((Mark E).own_val (tt, tt) vs) ∷ Γ) G
  mark_had t E vs k = fpick t (λ vss. fsplit t $ feq_l t (λ ev. fsplit t $ fpick t (λ uss. fsplit t $ feq_l t (λ e. skip t $ skip t $
      k (subst (λ (ws : List Val). vs ≡ vstruct (of_list (ws ++ [])) ∷ []) e ev)))))

module _ (E : El) {M : Type 1} {𝓤 : Ura M} (𝓛 : Logic 𝓤) (b : ℕ) where
  pub emptied : (cs : List (Place E)) (o : ℕ) → ent 𝓤 (sem 𝓛 (slots (R E) b o cs)) (sem 𝓛 (slots (R E) b o (replicate (length cs) None)))
  emptied [] o = id⊢ 𝓤 (emp 𝓤)
  emptied (None ∷ cs) o = mono_r 𝓤 (sem 𝓛 (slot (R E) b o None)) (emptied cs (o + sz E))
  emptied (Some x ∷ cs) o =
      qed 𝓛 (‵ (slots (R E) b o (Some x ∷ cs)) ∷ []) ∵ fsplit ! $
      use1 𝓛 (some (λ (v : Val). given (Good (elτ E) v) (‵ (fat full_share (elτ E) b o v) ⊛ ‵ (E.row.own_val x (v ∷ []))))) (value_out 0 E.row E.laws 𝓛 x b o) $
      pick ! (λ v. learn ! (λ good. split ! $ use1 𝓛 (‵ (froom (elτ E) b o)) (𝓛.laws.at_room (elτ E) b o v) $ as_raw ! (elτ E) b o $ move ! (2 ∷ []) $
      use1 𝓛 (‵ (slots (R E) b (o + sz E) (replicate (length cs) None))) (emptied cs (o + sz E)) $ keep ! (1 ∷ 0 ∷ []) $ fjoin ! $ done !))
