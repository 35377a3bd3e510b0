-- `with` makes the empty struct, with the items that its clause names. Assumes `Logic`.
use Rattle.std.proofs.Common.{[], ◌∷◌, ◌++◌, refl}
use mir.Syntax.{named}
use mir.Val.{vstruct, vnil}
use base.Logic.{emp, via, fst∗}
use types.Kit.{‵, raw, ◌$◌, ◌∵◌, !, qed, move, suffices, done}
use types.Run.{no_more, returns, enter}
use types.Part.{agg}
use types.ByLocal.{alloc_all, pass_all, free_all, look_at, sets}
use denote.Exit.{yes}
use denote.RattleType.{owns}
use denote.Ref.{shr_vals, shr_Tells}
use denote.Shadow.{pure_i}
use denote.Signature.{plain, types_at}
use denote.Triple.Entry.{alive}
use denote.Triple.Walked.{says, stay_none_ref, Stays, walk_of, ends_at, Goes-none_ref}
use Rattle.std.proofs.raw_atomic.Walks.{proved}
use Rattle.cone_pool.specs.contracts.history.History.with.Key.{name as key}
use Rattle.cone_pool.specs.contracts.history.History.with as f
use Rattle.cone_pool.proofs.history.History.with.Statement as stated
use Rattle.cone_pool.proofs.history.History.with.Code as code
use Rattle.cone_pool.specs.contracts.history.History as history
use Rattle.search_core.specs.contracts.fate.Judged as judged

abbrev stayed : Stays (f.ended).signature.params (f.ended).kept
stayed = (stay_none_ref (0 ∷ []) tt (plain (λ _. history.the_row)) yes, (stay_none_ref (1 ∷ []) tt (plain (λ _. judged.the_row)) yes, tt))

pub with_spec : {M : Type 1} → stated.statement M
with_spec 𝓤 𝓛 𝓜 𝓡 wired =
    let c = f.clauses 𝓛 𝓜.mem 𝓡.returns in
    proved 𝓛 f.ended stayed c 𝓜 𝓡 (
      Goes-none_ref 𝓛 2 (0 ∷ []) tt (plain (λ _. history.the_row)) yes,
      (Goes-none_ref 𝓛 2 (1 ∷ []) tt (plain (λ _. judged.the_row)) yes, tt),
    ) key code.function (code.unfolded 𝓤 𝓛.H 𝓜 𝓡 wired) (λ κs. (shr_vals, (shr_vals, tt)))
    (λ κs. (shr_Tells (named 0) κs.0 history.the_row, (shr_Tells (named 1) κs.1.0 judged.the_row, tt))) (λ κs qs bounds a g are.
    let y : (walk_of 𝓛 f.ended stayed c).Ghost = ((κs, qs, bounds, a, (shr_vals a.0, (shr_vals a.1.0, tt))), tt) in
    let made : (history.the_row).Denot = record { items = a.0.now.items ++ a.1.0.now ∷ [] } in
    via 𝓤 _ (fst∗ 𝓤 _ (emp 𝓤)) (qed 𝓛 (raw (alive 𝓛 f.signature κs qs) ∷ ‵ (owns (types_at f.signature.params κs) a y.0.4) ∷ []) ∵ enter ! _ _ _ _ _ $
    alloc_all ! (λ l. pass_all ! refl ((tt, tt), ((tt, tt), tt)) $ sets ! (agg ! (no_more !)) refl (tt, tt) $ returns ! (look_at ! 0 refl) $ free_all ! refl $
    suffices ! _ (ends_at 𝓛 f.ended stayed c y (vstruct vnil) made (tt, (tt, tt)) (tt, (tt, tt))) $ says ! refl $
    pure_i ! (history.the_row.own_val made (vstruct vnil ∷ [])) ((λ vss. (tt, tt)), tt) ((tt, (refl, tt)), tt) $ move ! (1 ∷ 2 ∷ 0 ∷ []) $ done !)))
