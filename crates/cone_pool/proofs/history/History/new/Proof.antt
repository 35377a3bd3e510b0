-- `new` makes the empty struct, with no items. Assumes `Logic`.
use Rattle.std.proofs.Common.{[], ◌∷◌, refl}
use mir.Val.{vstruct, vnil}
use base.Logic.{emp, via, fst∗}
use types.Kit.{‵, raw, ◌$◌, ◌∵◌, !, qed, move, suffices, done}
use types.Run.{no_more, returns, enter}
use types.Part.{agg}
use types.ByLocal.{alloc_all, pass_all, free_all, look_at, sets}
use denote.RattleType.{owns}
use denote.Shadow.{pure_i}
use denote.Triple.Entry.{alive}
use denote.Triple.Walked.{says, Stays, walk_of, ends_at}
use Rattle.std.proofs.raw_atomic.Walks.{proved}
use Rattle.cone_pool.specs.contracts.history.History.new.Key.{name as key}
use Rattle.cone_pool.specs.contracts.history.History.new as f
use Rattle.cone_pool.proofs.history.History.new.Statement as stated
use Rattle.cone_pool.proofs.history.History.new.Code as code
use Rattle.cone_pool.specs.contracts.history.History as history

abbrev stayed : Stays (f.ended).signature.params (f.ended).kept
stayed = tt

pub new_spec : {M : Type 1} → stated.statement M
new_spec 𝓤 𝓛 𝓜 𝓡 wired =
    let c = f.clauses 𝓛 𝓜.mem 𝓡.returns in
    proved 𝓛 f.ended stayed c 𝓜 𝓡 tt key code.function (code.unfolded 𝓤 𝓛.H 𝓜 𝓡 wired) (λ κs. tt) (λ κs. tt) (λ κs qs bounds a g are.
    let y : (walk_of 𝓛 f.ended stayed c).Ghost = ((tt, tt, tt, tt, tt), tt) in
    let made : (history.the_row).Denot = record { items = [] } in
    via 𝓤 _ (fst∗ 𝓤 _ (emp 𝓤)) (qed 𝓛 (raw (alive 𝓛 f.signature tt tt) ∷ ‵ (owns [] tt tt) ∷ []) ∵ enter ! _ _ _ _ _ $
    alloc_all ! (λ l. pass_all ! refl tt $ sets ! (agg ! (no_more !)) refl (tt, tt) $ returns ! (look_at ! 0 refl) $ free_all ! refl $
    suffices ! _ (ends_at 𝓛 f.ended stayed c y (vstruct vnil) made tt tt) $ says ! refl $
    pure_i ! (history.the_row.own_val made (vstruct vnil ∷ [])) ((λ vss. (tt, tt)), tt) ((tt, (refl, tt)), tt) $ move ! (1 ∷ 2 ∷ 0 ∷ []) $ done !)))
