use Rattle.std.specs.Prelude.{◌≡◌, ◌<◌, ◌^◌, ◌+◌, ℕ, suc, pos, nat_abs, slice_index_or}
use Rattle.std.proofs.Common.{arith, sym, ap₂, subst}
use Rattle.unimodular_cone.specs.Cones.{WideEntry, Coordinate}
use Rattle.unimodular_cone.specs.Mediant.{HoldsFirstAt, IsFirstOverWith}
use Rattle.unimodular_cone.proofs.Limits.{AreMediantNumbers, first_at_coordinate, first_at_product, fits_with}
use Rattle.unimodular_cone.proofs.mediant.first_wide.Given.{Over}
use Rattle.unimodular_cone.proofs.mediant.first_wide.Goals.{After-n-n}
use Rattle.unimodular_cone.proofs.mediant.first_wide.Goals as goal

numbers : (g : Over) (c : After-n-n g) → AreMediantNumbers (g.C.ConeRead.cone c.args.c.now) c.args.r c.args.s c.args.coordinates.now c.args.row.now
numbers g c = record {
  within = c.n-n.ensures.fits;
  first = c.requires.first;
  second = c.requires.second;
  coordinates = c.requires.coordinates;
  row_is = c.requires.row;
}

pub returns-in-Some : goal.returns-in-Some
returns-in-Some g c =
    let h : HoldsFirstAt (g.C.ConeRead.cone c.args.c.now).size (λ p. 2 ^ 62 < slice_index_or c.args.coordinates.now p 0) c.in-Some.p =
    subst (λ (m : ℕ). HoldsFirstAt m (λ p. 2 ^ 62 < slice_index_or c.args.coordinates.now p 0) c.in-Some.p) c.n-n.ensures.size c.in-Some.ensures in
    let a : c.args.r + 1 ≡ suc c.args.r = omega arith in
    let b : c.in-Some.p + 1 ≡ suc c.in-Some.p = omega arith in
    subst (λ (e : WideEntry). IsFirstOverWith (g.C.ConeRead.cone c.args.c.now) c.args.r c.args.s e) (ap₂ Coordinate (sym a) (sym b))
    (first_at_coordinate _ _ _ _ _ (numbers g (goal.at.returns-in-Some g c).After-n-n) c.in-Some.p h)

pub returns-in-Some-first_wide_product : goal.returns-in-Some-first_wide_product
returns-in-Some-first_wide_product g c =
    let k = c.in-Some-first_wide_product.k in
    let h : HoldsFirstAt (g.C.ConeRead.cone c.args.c.now).size (λ k. 2 ^ 100 < nat_abs (slice_index_or c.args.row.now k (pos 0))) k =
    subst (λ (m : ℕ). HoldsFirstAt m (λ k. 2 ^ 100 < nat_abs (slice_index_or c.args.row.now k (pos 0))) k) c.n-n.ensures.size
    c.in-Some-first_wide_product.ensures in
    rw c.gram_entry.ensures
    (first_at_product _ _ _ _ _ (numbers g (goal.at.returns-in-Some-first_wide_product g c).After-n-n)
    (λ p l. c.in_default.ensures p (rw c.n-n.ensures.size l)) k h)

pub returns-in-None : goal.returns-in-None
returns-in-None g c =
    fits_with _ _ _ _ _ (numbers g (goal.at.returns-in-None g c).After-n-n) (λ p l. c.in_default.ensures p (rw c.n-n.ensures.size l))
    (λ k l. c.in-None.ensures k (rw c.n-n.ensures.size l))
