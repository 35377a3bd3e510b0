use Rattle.std.specs.Prelude.{◌≡◌, ◌≢◌, ◌⊎◌, ℕ, ◌<◌, ◌≤◌, ◌^◌, ℤ, pos, ◌+ℤ◌, ◌-ℤ◌, nat_abs, slice_index_or, slice_set}
use Rattle.std.specs.Int.{w64}
use Rattle.std.proofs.Common.{arith, to_z, of_z, refl, sym, ◌∙◌, ap, inl, inr, subst, length-set, get_or-set_other, get_or-set_same}
use Rattle.exact_forms.specs.Slacks.{shortfall, slack}
use Rattle.exact_forms.proofs.Lists.{more_set}
use Rattle.exact_forms.proofs.Slacks.{same_or_not}
use Rattle.unimodular_cone.specs.Cones.{Matrix, child_gram}
use Rattle.unimodular_cone.specs.Shown.{shown_gram}
use Rattle.unimodular_cone.proofs.Additions.{child_gram_square}
use Rattle.unimodular_cone.proofs.ChildSlacks.{short, shortfall_read, IsNarrowAt, slack_read, added_fits, less_fits, other_made, slack_of_other}
use Rattle.unimodular_cone.proofs.ChildSlacks.{IsMediantPart, mediant_start, mediant_fits, mediant_more, whole_fits, whole_made}
use Rattle.unimodular_cone.proofs.ShownLaws.{shown_gram_mirror}
use Rattle.unimodular_cone.proofs.slack_numbers.child_slacks.Goals as goal
use Rattle.unimodular_cone.proofs.slack_numbers.child_slacks.Goals.{After-shortfall_of, After-shortfall_of-2}

-- what was read of generator k
at_k : (c : After-shortfall_of) → IsNarrowAt c.args.n (shown_gram c.args.c.now) c.args.r c.args.s c.loop-k.k
at_k c = record {
  few = rw c.requires.size c.count-n.ensures.fits.few;
  range = c.loop-k-test.true;
  row = λ j l. narrow c.loop-k.k j c.loop-k-test.true l;
  first = narrow c.args.r c.loop-k.k c.requires.first c.loop-k-test.true;
  product = c.requires.narrow.products c.loop-k.k (rw (← c.requires.size) c.loop-k-test.true);
}
  where
    narrow : (k j : ℕ) → k < c.args.n → j < c.args.n → nat_abs (shown_gram c.args.c.now k j) ≤ 2 ^ 59
    narrow k j l m = c.count-n.ensures.narrow k j (rw (← c.requires.size) l) (rw (← c.requires.size) m)

old_read : (c : After-shortfall_of) → to_z w64 (of_z w64 (slice_index_or c.args.slacks.now c.from-in-loop-k.result (pos 0)))
    ≡ slack c.args.n (shown_gram c.args.c.now) c.loop-k.k
old_read c =
    slack_read _ _ _ _ _ (at_k c) _
    (ap (λ (k : ℕ). slice_index_or c.args.slacks.now k (pos 0)) c.from-in-loop-k.ensures ∙ c.requires.slacks c.loop-k.k c.loop-k-test.true)

entry_read : (c : After-shortfall_of) → to_z w64 (of_z w64 c.shortfall_of.result) ≡ shortfall (shown_gram c.args.c.now c.args.r c.loop-k.k)
entry_read c = shortfall_read _ _ _ c.entry.ensures.value (at_k c).first c.shortfall_of.ensures

short_read : (c : After-shortfall_of) → to_z w64 (of_z w64 c.shortfall_of-short.result) ≡ short (shown_gram c.args.c.now) c.args.r c.args.s c.loop-k.k
short_read c =
    let l : c.loop-k.k < c.args.c.now.size = rw (← c.requires.size) c.loop-k-test.true in
    shortfall_read _ _ _ (ap (λ (k : ℕ). slice_index_or c.args.products.now k (pos 0)) c.from.ensures ∙ c.requires.products c.loop-k.k l)
    (at_k c).product c.shortfall_of-short.ensures

pub loop-k-init : goal.loop-k-init
loop-k-init c = record {
  room = refl;
  made = λ k l. absurd (omega arith);
  part = mediant_start _ _ _ _ c.requires.value (rw (child_gram_square (shown_gram c.args.c.now) c.args.r c.args.s) c.requires.narrow.square);
}

pub overflow_add-made : goal.overflow_add-made
overflow_add-made c = rw (old_read c, entry_read c) (added_fits _ _ _ _ _ (at_k c))

pub overflow_sub-made : goal.overflow_sub-made
overflow_sub-made c = rw (old_read c, entry_read c, short_read c) (less_fits _ _ _ _ _ (at_k c))

pub overflow_sub-left : goal.overflow_sub-left
overflow_sub-left c =
    let d = (goal.at.overflow_sub-left c).After-shortfall_of in
    rw (short_read d) (mediant_fits _ _ _ _ _ c.loop-k.invariant.part (omega (arith, (at_k d).few, (at_k d).range)) (at_k d).product)

pub loop-k-preserved : goal.loop-k-preserved
loop-k-preserved c =
    let d = (goal.at.loop-k-preserved c).After-shortfall_of in
    let g : Matrix = shown_gram c.args.c.now in
    let below : c.loop-k.k < 8 = omega (arith, (at_k d).few, (at_k d).range) in
    record {
      room = length-set c.loop-k.made c.from-in-loop-k-2.result _ ∙ c.loop-k.invariant.room;
      made = more_set (pos 0) c.loop-k.made
          (λ (k : ℕ). (slack c.args.n g k +ℤ shortfall (g c.args.r k)) -ℤ short g c.args.r c.args.s k)
          c.loop-k.k c.from-in-loop-k-2.result _ c.loop-k.invariant.made (omega (arith, c.loop-k.invariant.room)) c.from-in-loop-k-2.ensures
          (rw (old_read d, entry_read d, short_read d) (other_made _ _ _ _ _ (at_k d)));
      part = rw (short_read d) (mediant_more _ _ _ _ _ c.loop-k.invariant.part below (at_k d).product);
    }

-- what was read after the loop
last_read : (c : After-shortfall_of-2) → to_z w64 (of_z w64 c.shortfall_of-2.result) ≡ short (shown_gram c.args.c.now) c.args.r c.args.s c.args.r
last_read c =
    let l : c.args.r < c.args.c.now.size = rw (← c.requires.size) c.requires.first in
    shortfall_read _ _ _ (ap (λ (k : ℕ). slice_index_or c.args.products.now k (pos 0)) c.from-2.ensures ∙ c.requires.products c.args.r l)
    (c.requires.narrow.products c.args.r l) c.shortfall_of-2.ensures

whole : (c : After-shortfall_of-2) → (c.args.n ≤ 8) × IsMediantPart (shown_gram c.args.c.now) c.args.r c.args.s c.args.n (to_z w64 c.loop-k.left-bits)
whole c =
    let end : c.loop-k.k ≡ c.args.n = omega (arith, c.loop-k-test.false, c.loop-k.auto.k-end) in (
      rw c.requires.size c.count-n.ensures.fits.few,
      subst (λ (k : ℕ). IsMediantPart (shown_gram c.args.c.now) c.args.r c.args.s k (to_z w64 c.loop-k.left-bits)) end c.loop-k.invariant.part,
    )

pub overflow_add-made-2 : goal.overflow_add-made-2
overflow_add-made-2 c =
    let w = whole c in
    rw (last_read c) (whole_fits _ _ _ _ _ w.1 w.0 c.requires.first (c.requires.narrow.products c.args.r (rw (← c.requires.size) c.requires.first)))

pub returns : goal.returns
returns c k l = rw c.from-3.ensures (by (same_or_not k c.args.r))
  where
    d : After-shortfall_of-2
    d = (goal.at.returns c).After-shortfall_of-2

    g : Matrix
    g = shown_gram c.args.c.now

    last : ℤ
    last = to_z w64 (of_z w64 (to_z w64 c.loop-k.left-bits +ℤ to_z w64 (of_z w64 c.shortfall_of-2.result)))

    last_is : last ≡ slack c.args.n (child_gram g c.args.r c.args.s) c.args.r
    last_is =
        let w = whole d in
        rw (last_read d) (whole_made _ _ _ _ _ w.1 w.0 c.requires.first (c.requires.narrow.products c.args.r (rw (← c.requires.size) c.requires.first)))

    by : ((k ≡ c.args.r) ⊎ (k ≢ c.args.r))
        → slice_index_or (slice_set c.loop-k.made c.args.r last) k (pos 0) ≡ slack c.args.n (child_gram g c.args.r c.args.s) k
    by (inl e) = rw e (get_or-set_same c.loop-k.made c.args.r last (pos 0)
        (omega (arith, c.loop-k.invariant.room, c.requires.first, (whole d).0)) ∙ last_is)
    by (inr ne) = get_or-set_other c.loop-k.made c.args.r k last (pos 0) ne
        ∙ c.loop-k.invariant.made k (omega (arith, c.loop-k-test.false))
        ∙ sym (slack_of_other c.args.n g c.args.r c.args.s c.requires.first (shown_gram_mirror c.args.c.now) k ne)
