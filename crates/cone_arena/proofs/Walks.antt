-- What the walks of the block's methods share: how a method meets its contract, and what it is handed. Assumes `Logic`.
--     method          a method on the block, with the base, an index and one thing more
--     stays, all_go   at its return nothing is had of what it was passed, but of the block as it says
--     proved_beside   it needs no token of the lifetime of the values' type
--     handed          what it is handed, taken apart
use mathlib.Core.Path.{◌≡◌, refl}
use Prim.Native.Nat.{ℕ, ◌<◌, ◌^◌}
use mathlib.Core.List.{List, [], ◌∷◌}
use seplogic.Ra.Ura.{Ura}
use mir.Syntax.{Fn, Callee, named, w64}
use mir.Val.{Val, vptr, vint}
use base.Logic.{ent}
use base.Fml.{Lft, Share, ftrue, flft, fobs, fbor}
use prog.Wp.{WpFn, Closed}
use prog.Model.{Model}
use types.Logic.{Logic}
use contract.Running.{Running, MachineTables, tables}
use types.Kit.{Goal, Seq, ‵, ◌⊛◌, ◌$◌, move, split, fsplit, fsplit3, feq_l, flt_l}
use types.SemTy.{Body as Borrowed}
use denote.Exit.{Kept, no}
use denote.RattleType.{RattleType, owns}
use denote.Memory.{mem}
use denote.Ref.{MutBor, MutRef}
use denote.Builtin.{RefMutOf, usize}
use denote.Signature.{Slot, plain, mut_ref_to}
use denote.Triple.Carry.{grown, spared}
use denote.Triple.Clauses.{Ended, Clauses, closing}
use denote.Triple.Statement.{Triple}
use denote.Triple.Table.{run_framed}
use denote.Triple.Walked.{Stay, Stays, stay_dropped, Goes, Goes-dropped, AllGo, walk_of}
use Rattle.std.proofs.raw_atomic.Walks.{proved_at}
use Rattle.std_alloc.proofs.RcSteps.{word}
use Rattle.core.proofs.mem.Param.{El}
use Rattle.cone_arena.proofs.Memory.{Cr, Bs, word_had}

abbrev pub method : El → RattleType → Kept → Slot 1 → Ended
method E P kept result = record {
  signature = record {
    lifetimes = 1;
    outlives = [];
    params = RefMutOf (0 ∷ []) tt (plain (λ _. Cr E)) (λ _. tt) ∷ plain (λ _. Bs E) ∷ plain (λ _. usize) ∷ plain (λ _. P) ∷ [];
    result = result;
  };
  kept = (kept, (no, (no, (no, tt))));
}

abbrev lent : El → Slot 1
lent E = mut_ref_to (0 ∷ []) tt (plain (λ _. Cr E))

module _ (E : El) (P : RattleType) (kept : Kept) (result : Slot 1) (stay : Stay (lent E) kept) where
  abbrev pub stays : Stays (method E P kept result).signature.params (method E P kept result).kept
  stays = (stay, (stay_dropped (plain (λ _. Bs E)) no, (stay_dropped (plain (λ _. usize)) no, (stay_dropped (plain (λ _. P)) no, tt))))

  pub all_go : {M : Type 1} {𝓤 : Ura M} (𝓛 : Logic 𝓤) → Goes 𝓛 1 (lent E) kept stay → Goes 𝓛 1 (plain (λ _. P)) no (stay_dropped (plain (λ _. P)) no)
      → AllGo 𝓛 1 (method E P kept result).signature.params (method E P kept result).kept stays
  all_go 𝓛 goes last = (
    goes,
    (
      Goes-dropped 𝓛 1 (plain (λ _. Bs E)) no (λ κs x f. refl),
      (Goes-dropped 𝓛 1 (plain (λ _. usize)) no (λ κs x f. refl), (last, tt)),
    ),
  )

module _ {M : Type 1} {𝓤 : Ura M} (𝓛 : Logic 𝓤) (T : Ended) (hs : Stays T.signature.params T.kept) (c : Clauses 𝓤 T) where
  open 𝓛 use {H}

  module _ (𝓜 : Model 𝓤 H) (𝓡 : Running 𝓤 H 𝓜) where
    abbrev 𝓣 : MachineTables 𝓤 H 𝓜
    𝓣 = tables 𝓤 H 𝓜 𝓡 𝓡.env

    pub proved_beside : (ℓ : Lft) → AllGo 𝓛 T.signature.lifetimes T.signature.params T.kept hs → (k : Callee) (e : Fn) → Closed 𝓤 H 𝓣.C 𝓣.Λ k e
        → ((y : (walk_of 𝓛 T hs c).Ghost) → ent 𝓤 ((walk_of 𝓛 T hs c).pre y) (WpFn 𝓤 H 𝓣.C 𝓣.Λ e ((walk_of 𝓛 T hs c).args y) ((walk_of 𝓛 T hs c).post y)))
        → Triple 𝓤 (𝓡.run (𝓡.env k)) (grown 𝓛 T.signature 1 (ℓ, tt) (closing 𝓛 T c))
    proved_beside ℓ go k e closed walk = spared 𝓛 T.signature (𝓡.run (𝓡.env k)) (run_framed 𝓤 H 𝓜 𝓡 (𝓡.env k)) 1 (ℓ, tt) (closing 𝓛 T c)
        (proved_at 𝓛 T hs c 𝓜 𝓡 go k e closed (λ y are. walk y))

module _ {M : Type 1} {𝓤 : Ura M} {𝓛 : Logic 𝓤} {K : Type 0} {G : Goal 𝓤 𝓛.H} where
  pub handed : K → (E : El) (P : RattleType) (κ : Lft) (q : Share) (self : MutBor (Cr E).Denot) (base : (Bs E).Denot) (index : ℕ) (p : P.Denot)
      (us0 us1 us2 us3 : List Val)
      → (us0 ≡ vptr self.ref_ptr.0 self.ref_ptr.1 ∷ [] → us1 ≡ word base.ptr ∷ [] → us2 ≡ vint w64 index ∷ [] → index < 2 ^ 64
      → Seq K 𝓛 (‵ (P.own_val p us3) ∷ ‵ ftrue ∷ ‵ (fobs self.ghost_name ((Cr E).coded.code self.now))
      ∷ ‵ (fbor κ (Borrowed (mem (Cr E)) self.ref_ptr.0 self.ref_ptr.1 self.ghost_name)) ∷ ‵ (flft κ q) ∷ ‵ ftrue ∷ []) G)
      → Seq K 𝓛 ((‵ (flft κ q) ⊛ ‵ ftrue)
      ∷ ‵ (owns (MutRef (named 0) κ (Cr E) ∷ Bs E ∷ usize ∷ P ∷ []) (self, (base, (index, (p, tt)))) (us0, (us1, (us2, (us3, tt))))) ∷ []) G
  handed t E P κ q self base index p us0 us1 us2 us3 k = split t $ move t (2 ∷ []) $ fsplit t $ fsplit3 t $ feq_l t (λ e0. move t (2 ∷ []) $ fsplit t $
      word_had t base.ptr us1 (λ e1. fsplit t $ fsplit t $ feq_l t (λ e2. flt_l t (λ fits. fsplit t $ k e0 e1 e2 fits))))
