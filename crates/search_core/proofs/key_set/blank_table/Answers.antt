use Rattle.std.specs.Prelude.{[], replicate}
use Rattle.std.proofs.Common.{arith, refl, sym, subst}
use Rattle.std.proofs.lemmas.List.{get_or-replicate}
use Rattle.search_core.specs.KeySets.{IsBlank}
use Rattle.search_core.proofs.key_set.blank_table.Goals as goal

pub returns : goal.returns
returns c = record {
  count = refl;
  blank = λ k l. subst IsBlank (sym (get_or-replicate 64 k (replicate 8 18446744073709551615) [] l)) (omega arith);
}
