use Rattle.std.specs.Prelude.{◌≡◌, ℕ, List, [], ◌∷◌, ◌++◌, length, slice_index_or}
use Rattle.std.proofs.Common.{arith, ap, sym, ◌∙◌, subst, length-append}
use Rattle.std.proofs.Math.Seq.{get_or-append_seam}
use Rattle.unimodular_cone.specs.Shown.{ShownCone, FitsOnBothSides}
use Rattle.cone_rows.proofs.narrow_arena_tests.split_root.Goals as goal

-- the top of a list of one cone
alone : (c root : ShownCone) (rest cones : List ShownCone) → cones ≡ root ∷ [] → cones ≡ rest ++ c ∷ [] → c ≡ root
alone c root rest cones one is =
    let none : length rest ≡ 0 = omega (arith, ap length one, ap length is, length-append rest (c ∷ [])) in
    sym (get_or-append_seam rest c [] c) ∙ ap (λ (s : List ShownCone). slice_index_or s (length rest) c) (sym is ∙ one)
    ∙ ap (λ (k : ℕ). slice_index_or (root ∷ []) k c) none

pub split_open-opened-requires-clause-can : goal.split_open-opened-requires-clause-can
split_open-opened-requires-clause-can g c =
    let root = c.in_ok-root.root in
    let size : c.put_alone.new.self.size ≡ 2 = c.put_alone.ensures.size ∙ c.in_ok-arena.ensures.size in
    let depth : c.put_alone.new.self.depth ≡ 2 = c.put_alone.ensures.depth ∙ c.in_ok-arena.ensures.depth in
    let count : length c.put_alone.new.self.cones ≡ 1 = ap length c.put_alone.ensures.alone in
    let short : length root.path ≡ 0 = omega (arith, ap length c.path.ensures, c.len.ensures.count) in
    record {
      first = omega arith;
      order = omega arith;
      last = omega (arith, size);
      some = omega (arith, count);
      room = omega (arith, count, depth);
      short = λ d top. omega (arith, depth, short, ap (λ (x : ShownCone). length x.path) (alone d root top.0 _ c.put_alone.ensures.alone top.1));
    }

pub split_open-opened-requires-clause-fits : goal.split_open-opened-requires-clause-fits
split_open-opened-requires-clause-fits g c =
    λ d top. subst (λ (x : ShownCone). FitsOnBothSides x 0 1) (sym (alone d c.in_ok-root.root top.0 _ c.put_alone.ensures.alone top.1)) c.in-None.ensures
